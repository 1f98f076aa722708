use Rattle.kernel_calls.specs.StateWorld.{world_of, sent}
use Rattle.proc_table.specs.Tables.{thread_in}
use Rattle.debug_session.specs.Sessions.{is_shown}
use Rattle.debug_client.specs.Clients.{session_of}
use Rattle.debug_client.proofs.Tests.{by_process}
use Rattle.debug_client.proofs.client.Client.is_thread_shown.Goals as goal

pub returns-then-is_thread : goal.returns-then-is_thread
returns-then-is_thread c r at q output error =
    let w = sent output error (world_of q c.args.state.now) in
    by_process (thread_in c.args.state.now.table.threads c.args.thread)
    (is_shown (session_of c.args.self.now r at) w) c.process_of.result c.is_thread.result
    c.is_shown.result c.is_thread.ensures c.if-is_thread.true c.process_of.ensures
    (c.is_shown.ensures r at q output error)
