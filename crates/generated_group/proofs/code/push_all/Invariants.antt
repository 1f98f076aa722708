use Rattle.std.proofs.Common.{◌≡◌, take}
use Rattle.generated_group.specs.Stretches.{with_code}
use Rattle.generated_group.proofs.code.push_all.Given as goal

abbrev pub invariant-loop-instr : goal.invariant-loop-instr
invariant-loop-instr l = l.builder ≡ with_code l.fn.builder (take l.instr-index l.code)
