use Rattle.kernel_calls.specs.StateWorld.{world_of, sent}
use Rattle.debug_session.specs.Sessions.{is_process_live, is_shown}
use Rattle.debug_client.specs.Clients.{session_of}
use Rattle.debug_client.proofs.Tests.{second_of, first_fails}
use Rattle.debug_client.proofs.client.Client.is_shown_there.Goals as goal

pub returns-then-is_live : goal.returns-then-is_live
returns-then-is_live c r at q output error =
    let p = c.args.process in
    let w = sent output error (world_of q c.args.state.now) in
    second_of c.is_live.result (is_process_live w p)
    (is_shown (session_of c.args.self.now r at) w p)
    c.is_shown.result c.is_live.ensures c.if-is_live.true (c.is_shown.ensures r at q output error)

pub returns : goal.returns
returns c r at q output error =
    let p = c.args.process in
    let w = sent output error (world_of q c.args.state.now) in
    first_fails c.is_live.result (is_process_live w p)
    (is_shown (session_of c.args.self.now r at) w p)
    c.is_live.ensures c.if-is_live.false
