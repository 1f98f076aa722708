use Rattle.std.proofs.Common.{◌≡◌, ◌+◌, ◌-◌, ◌≤◌, length}
use Rattle.group_open.proofs.PageLaws.{pages_below}
use Rattle.group_open.proofs.pages.page_count.Given as goal

-- the pages so far, and the stack's
abbrev pub invariant-loop-page : goal.invariant-loop-page
invariant-loop-page l = record {
  counted : l.count ≡ length (pages_below l.image l.from) + 16;
  few : l.count ≤ l.from + 16;
  within : l.from ≤ 0xEFFF0;
}

abbrev pub decreases-loop-page : goal.decreases-loop-page
decreases-loop-page l = 0xEFFF0 - l.from
