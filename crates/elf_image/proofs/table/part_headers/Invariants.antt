use Rattle.std.proofs.Common.{◌≡◌, ◌≤◌, take}
use Rattle.std.specs.List.{filter}
use Rattle.arrayvec.specs.ArrayVec.{array_vec_len}
use Rattle.elf_image.specs.Image.{is_part}
use Rattle.elf_image.proofs.table.part_headers.Given as goal

-- the parts among the headers so far
abbrev pub invariant-loop-header : goal.invariant-loop-header
invariant-loop-header l = (l.parts.items ≡ filter is_part (take l.header-index l.headers))
    × (array_vec_len l.parts ≤ l.header-index)
