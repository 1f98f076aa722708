use Rattle.kernel_calls.specs.StateWorld.{world_of, sent}
use Rattle.debug_session.specs.Positions.{all_moments}
use Rattle.debug_session.specs.Sessions.{is_shown}
use Rattle.debug_session.specs.Actions.{are_for}
use Rattle.debug_client.specs.Clients.{session_of}
use Rattle.debug_client.proofs.Tests.{second_of, first_fails}
use Rattle.debug_client.proofs.client.Client.is_belonging.Goals as goal

pub returns-then-is_shown : goal.returns-then-is_shown
returns-then-is_shown c r at q output error a =
    let p = c.args.process in
    second_of c.is_shown.result
    (is_shown (session_of c.args.self.now r at) (sent output error (world_of q c.args.state.now)) p)
    (are_for (all_moments at) c.args.resumptions.now p) c.are_for.result
    (c.is_shown.ensures r at q output error) c.if-is_shown.true
    (c.are_for.ensures (all_moments at) a)

pub returns : goal.returns
returns c r at q output error a =
    let p = c.args.process in
    first_fails c.is_shown.result
    (is_shown (session_of c.args.self.now r at) (sent output error (world_of q c.args.state.now)) p)
    (are_for (all_moments at) c.args.resumptions.now p)
    (c.is_shown.ensures r at q output error) c.if-is_shown.false
