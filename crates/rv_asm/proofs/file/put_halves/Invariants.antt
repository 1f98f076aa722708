use Rattle.std.proofs.Common.{◌≡◌, ◌++◌, take, flat_map}
use Rattle.rv_asm.specs.Words.{bytes_of_half}
use Rattle.rv_asm.proofs.file.put_halves.Given as goal

-- the values so far are written
abbrev pub invariant-loop-value : goal.invariant-loop-value
invariant-loop-value l = l.file.items ≡ l.fn.file.items
    ++ flat_map bytes_of_half (take l.value-index l.values)
