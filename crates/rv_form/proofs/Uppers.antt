-- The immediate of lui and auipc as a signed number, and back; and what a word means by its opcode.
use Rattle.std.proofs.Common.{ℕ, ◌<◌, ◌^◌, ◌≡◌, arith}
use Rattle.std.specs.Int.{w32, cast_signed, cast_unsigned}
use Rattle.std.proofs.lemmas.Int.{of_z-to_z}
use Rattle.rv_isa.specs.Fields.{imm_u}
use Rattle.rv_isa.proofs.ByOpcode.{by_opcode_rules}

pub upper_back : (word : ℕ) → word < 2 ^ 32 → cast_unsigned w32 (cast_signed w32 (imm_u word))
    ≡ imm_u word
upper_back word small = of_z-to_z w32 (imm_u word) (omega (arith, small))

pub ruleset meanings = (by_opcode_rules, upper_back)
