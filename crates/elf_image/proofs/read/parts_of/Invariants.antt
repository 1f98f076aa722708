use Rattle.std.proofs.Common.{◌≡◌, take}
use Rattle.std.specs.Prelude.{map}
use Rattle.elf_image.specs.Image.{part_of}
use Rattle.elf_image.proofs.read.parts_of.Given as goal

-- the parts of the headers so far
abbrev pub invariant-loop-header : goal.invariant-loop-header
invariant-loop-header l = l.parts.items ≡ map (part_of l.bytes) (take l.header-index l.headers)
