-- A loan may go to another thread, where the value may be shared.
use denote.Builtin.{RawPtr}
use denote.Param.Send.{IsSend, IsSync, owning_send, struct_send, sendable}
use denote.RattleType.{RattleType}
use denote.Struct.Owning.{Owning, shape, to}
use Rattle.counted_loans.proofs.Owned.{seen_anywhere}
use Rattle.counted_loans.specs.contracts.Loan.{the_row, the_type}
use Rattle.std.proofs.Common.{[], ◌∷◌}

pub send : (T : RattleType) → IsSync T → IsSend (the_row T)
send T shared =
    let O : Owning = the_type T in let pointer : IsSend RawPtr = search sendable in
    owning_send O (pointer, tt) (λ loan. (
      (λ e k. tt),
      seen_anywhere T shared loan.at loan.value
          (loan.term ∷ []),
    ))
    (λ κ loan. (struct_send (shape O) (pointer, tt)).leaving κ (to O loan))
