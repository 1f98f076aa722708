use Rattle.std.specs.Prelude.{is_some}
use Rattle.dos_world.specs.World.{process_at}
use Rattle.kernel_calls.specs.StateWorld.{world_of, sent}
use Rattle.debug_session.specs.Sessions.{is_shown}
use Rattle.debug_client.specs.Clients.{session_of}
use Rattle.debug_client.proofs.Tests.{first_holds, or_second_of}
use Rattle.debug_client.proofs.client.Client.is_standing.Goals as goal

pub returns-then-is_shown : goal.returns-then-is_shown
returns-then-is_shown c r at q output error =
    let w = sent output error (world_of q c.args.state.now) in
    let p = c.args.process in
    first_holds c.is_shown.result (is_shown (session_of c.args.self.now r at) w p)
    (is_some (process_at w p)) (c.is_shown.ensures r at q output error) c.if-is_shown.true

pub returns : goal.returns
returns c r at q output error =
    let w = sent output error (world_of q c.args.state.now) in
    let p = c.args.process in
    or_second_of c.is_shown.result (is_shown (session_of c.args.self.now r at) w p)
    (is_some (process_at w p)) c.is_given.result (c.is_shown.ensures r at q output error)
    c.if-is_shown.false (c.is_given.ensures q output error)
