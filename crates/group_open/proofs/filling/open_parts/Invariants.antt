use Rattle.std.proofs.Common.{◌-◌, ◌≤◌}
use Rattle.group_open.specs.Filling.{OpensParts}
use Rattle.group_open.proofs.PageLaws.{pages_below}
use Rattle.group_open.proofs.filling.open_parts.Given as goal

-- the pages so far
abbrev pub invariant-loop-page : goal.invariant-loop-page
invariant-loop-page l = record {
  opens : OpensParts l.fn.frames l.frames l.fn.table l.table l.opened.pid l.opened.tid l.image
      (pages_below l.image l.from);
  within : l.from ≤ 0xEFFF0;
}

abbrev pub decreases-loop-page : goal.decreases-loop-page
decreases-loop-page l = 0xEFFF0 - l.from
