use Rattle.std.proofs.Common.{◌≡◌, ◌*◌, ◌≤◌, All, take}
use Rattle.std.specs.Prelude.{sum_by}
use Rattle.flat_machine.specs.Opening.{page_count}
use Rattle.group_open.specs.Laws.{IsAccepted}
use Rattle.group_open.proofs.pages.needed.Given as goal

-- the frames of the images so far
abbrev pub invariant-loop-image : goal.invariant-loop-image
invariant-loop-image l = record {
  counted : l.total ≡ sum_by page_count (take l.image-index l.images);
  accepted : All IsAccepted (take l.image-index l.images);
  few : l.total ≤ 0x100000000 * l.image-index;
}
