use Rattle.std.proofs.Common.{sym, subst}
use Rattle.std.specs.Prelude.{Result, Ok, Err, IfOk, OnOk}
use Rattle.dos_io.specs.Shims.{HasNoEnd}
use Rattle.kernel_calls.proofs.Playing.{plays_told}
use Rattle.round_tests.proofs.rounds.round_over.Goals as goal

-- what follows of each value
on_ok : {T E : Type 0} (r : Result T E) (P : T → Type 0) (Q : Type 0) → ((x : T) → P x → Q)
    → IfOk r P → OnOk r Q
on_ok (Ok x) P Q f h = f x h
on_ok (Err e) P Q f h = tt

pub returns-clause-told : goal.returns-clause-told
returns-clause-told g c =
    let result = c.run_round.result in
    let shim_is = c.shim-1.given.1 (sym c.run_round.ensures.follows.0) in
    subst (λ x. OnOk result (HasNoEnd (g.S.Shim.state x).told)) (sym shim_is)
    (on_ok result _ _ (λ end goes. plays_told _ _ _ _ _ _ _ goes c.requires.told)
    c.run_round.ensures.plays.plays.goes)
