use Rattle.std.proofs.Common.{take}
use Rattle.group_open.specs.Group.{IsOpened}
use Rattle.group_open.proofs.group.open_images.Given as goal

-- the images so far
abbrev pub invariant-loop-image : goal.invariant-loop-image
invariant-loop-image l = IsOpened l.fn.table.room l.frames l.table (take l.image-index l.images)
