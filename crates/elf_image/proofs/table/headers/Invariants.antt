use Rattle.std.proofs.Common.{◌≡◌, ◌-◌, ◌++◌}
use Rattle.arrayvec.specs.ArrayVec.{array_vec_len}
use Rattle.elf_image.specs.Fields.{headers_from, headers}
use Rattle.elf_image.proofs.table.headers.Given as goal

-- what was read, with what is left, is the table
abbrev pub invariant-loop-index : goal.invariant-loop-index
invariant-loop-index l = (l.table.items ++ headers_from l.bytes l.index (l.count - l.index)
    ≡ headers l.bytes) × (array_vec_len l.table ≡ l.index)
