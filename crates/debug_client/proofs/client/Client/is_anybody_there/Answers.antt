use Rattle.std.proofs.Common.{ℕ, Bool, length, sym, ap, ◌∙◌, arith}
use Rattle.std.specs.Prelude.{◌&&◌}
use Rattle.std.specs.List.{list_any}
use Rattle.kernel_calls.specs.StateWorld.{world_of, sent}
use Rattle.debug_session.specs.Sessions.{is_process_live, is_belonging}
use Rattle.debug_client.specs.Clients.{session_of}
use Rattle.debug_client.proofs.Walked.{run_any, run_on, run_end}
use Rattle.debug_client.proofs.client.Client.is_anybody_there.Goals as goal

pub returns-then-is_there : goal.returns-then-is_there
returns-then-is_there c r at q output error a =
    let w = sent output error (world_of q c.args.state.now) in
    let n = length c.args.state.now.table.processes in
    let test : ℕ → Bool = λ p. is_process_live w p
    && is_belonging (session_of c.args.self.now r at) c.args.resumptions.now w p in
    sym (run_any test c.loop-place.place n
    (omega (arith, c.loop-place-test.true, c.processes-place-end.ensures))
    (sym (c.is_there.ensures r at q output error a) ∙ c.if-is_there.true))
    ∙ c.loop-place.invariant r at q output error a

pub loop-place-preserved : goal.loop-place-preserved
loop-place-preserved c r at q output error a =
    let w = sent output error (world_of q c.args.state.now) in
    let n = length c.args.state.now.table.processes in
    let test : ℕ → Bool = λ p. is_process_live w p
    && is_belonging (session_of c.args.self.now r at) c.args.resumptions.now w p in
    sym (run_on test c.loop-place.place n
    (omega (arith, c.loop-place-test.true, c.processes-place-end.ensures))
    (sym (c.is_there.ensures r at q output error a) ∙ c.if-is_there.false))
    ∙ c.loop-place.invariant r at q output error a

pub returns : goal.returns
returns c r at q output error a =
    let w = sent output error (world_of q c.args.state.now) in
    let n = length c.args.state.now.table.processes in
    let test : ℕ → Bool = λ p. is_process_live w p
    && is_belonging (session_of c.args.self.now r at) c.args.resumptions.now w p in
    sym (ap (list_any test) (run_end c.loop-place.place n
    (omega (arith, c.loop-place-test.false, c.processes-place-end.ensures))))
    ∙ c.loop-place.invariant r at q output error a
