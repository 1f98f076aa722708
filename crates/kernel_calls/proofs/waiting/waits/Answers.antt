use Rattle.std.proofs.Common.{◌≡◌, ◌≢◌, Bool, sym, ap, subst, ◌∙◌, arith}
use Rattle.std.proofs.lemmas.Bool.Decides.{nat_tests}
use Rattle.dos_world.specs.Calls.{Service}
use Rattle.dos_world.specs.Services.{service_of}
use Rattle.kernel_calls.specs.StateWorld.{sent, world_of}
use Rattle.kernel_calls.specs.CallResults.{call_in, paid_state}
use Rattle.kernel_calls.specs.Waits.{TellsWait}
use Rattle.kernel_calls.specs.declared.state.State.{State}
use Rattle.kernel_calls.specs.declared.state.Asked.{Asked}
use Rattle.kernel_calls.proofs.Patient.{patient, row_5, row_7, row_8, row_11}
use Rattle.kernel_calls.proofs.waiting.waits.Goals as goal

-- a row's answer is that of its service
tells_as : (row service : Service) (s : State) (a : Asked) (b : Bool) → row ≡ service
    → TellsWait service s a b → TellsWait row s a b
tells_as row service s a b is tells = subst (λ f. TellsWait f s a b) (sym is) tells

pub returns-then-number-eq-WAIT : goal.returns-then-number-eq-WAIT
returns-then-number-eq-WAIT c =
    let is : c.args.number ≡ 5 = grind (arith, nat_tests, c.if-number-eq-WAIT.true) in
    tells_as _ _ c.args.state.now c.args.asked.now c.awaits_child.result (ap service_of is ∙ row_5)
    c.awaits_child.ensures

pub returns-then-number-eq-READ : goal.returns-then-number-eq-READ
returns-then-number-eq-READ c =
    let is : c.args.number ≡ 7 = grind (arith, nat_tests, c.if-number-eq-READ.true) in
    tells_as _ _ c.args.state.now c.args.asked.now c.awaits_bytes.result (ap service_of is ∙ row_7)
    c.awaits_bytes.ensures

pub returns-then-number-eq-WRITE : goal.returns-then-number-eq-WRITE
returns-then-number-eq-WRITE c =
    let is : c.args.number ≡ 8 = grind (arith, nat_tests, c.if-number-eq-WRITE.true) in
    tells_as _ _ c.args.state.now c.args.asked.now c.awaits_room.result (ap service_of is ∙ row_8)
    c.awaits_room.ensures

pub returns-then-number-eq-FUTEX_WAIT : goal.returns-then-number-eq-FUTEX_WAIT
returns-then-number-eq-FUTEX_WAIT c =
    let is : c.args.number ≡ 11 = grind (arith, nat_tests, c.if-number-eq-FUTEX_WAIT.true) in
    tells_as _ _ c.args.state.now c.args.asked.now c.awaits_waking.result
    (ap service_of is ∙ row_11) c.awaits_waking.ensures

pub returns : goal.returns
returns c = λ q o e.
    let not_5 : c.args.number ≢ 5 = grind (arith, nat_tests, c.if-number-eq-WAIT.false) in
    let not_7 : c.args.number ≢ 7 = grind (arith, nat_tests, c.if-number-eq-READ.false) in
    let not_8 : c.args.number ≢ 8 = grind (arith, nat_tests, c.if-number-eq-WRITE.false) in
    let not_11 : c.args.number ≢ 11 =
    grind (arith, nat_tests, c.if-number-eq-FUTEX_WAIT.false) in
    sym (patient c.args.number (not_5, not_7, not_8, not_11)
    (call_in (sent o e (world_of q (paid_state c.args.state.now c.args.asked.now.thread)))
    c.args.asked.now))
