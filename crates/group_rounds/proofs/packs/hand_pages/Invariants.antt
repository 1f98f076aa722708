use Rattle.std.proofs.Common.{◌≡◌, ◌≤◌, ◌-◌, vec_capacity}
use Rattle.group_rounds.specs.Handing.{Handing}
use Rattle.group_rounds.proofs.packs.hand_pages.Given as goal

abbrev pub invariant-loop-frame : goal.invariant-loop-frame
invariant-loop-frame l = record {
  hands : Handing l.fn.starters l.fn.packs.items l.fn.frames l.frames l.packs.items l.frame;
  within : l.frame ≤ l.high;
  room : vec_capacity l.packs ≡ vec_capacity l.fn.packs;
}

abbrev pub decreases-loop-frame : goal.decreases-loop-frame
decreases-loop-frame l = l.high - l.frame
