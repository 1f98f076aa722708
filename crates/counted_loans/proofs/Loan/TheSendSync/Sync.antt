-- Threads may share a loan, where they may share the value.
use denote.Builtin.{RawPtr}
use denote.Param.Send.{IsSync, struct_sync, sendable}
use denote.RattleType.{RattleType}
use denote.Struct.Owning.{Owning, shape, to}
use Rattle.counted_loans.proofs.Owned.{seen_anywhere}
use Rattle.counted_loans.specs.contracts.Loan.{the_row, the_type}
use Rattle.std.proofs.Common.{[], ◌∷◌}

pub sync : (T : RattleType) → IsSync T → IsSync (the_row T)
sync T shared =
    let O : Owning = the_type T in let pointer : IsSync RawPtr = search sendable in
    record {
      shared = λ loan b o κ. (
        (struct_sync (shape O) (pointer, tt)).shared (to O loan) b o κ,
        ((λ q. tt), seen_anywhere T shared loan.at loan.value (loan.term ∷ [])),
      );
    }
