use Rattle.std.proofs.Common.{◌∙◌, ap, ℕ, Bool, false, Option}
use Rattle.std.specs.Prelude.{◌&&◌, is_some}
use Rattle.kernel_calls.specs.StateWorld.{world_of, sent}
use Rattle.proc_table.specs.Tables.{thread_in}
use Rattle.gdb_packets.specs.declared.resumptions.Action.{Action}
use Rattle.debug_session.specs.Sessions.{is_shown}
use Rattle.debug_session.specs.Actions.{action_of_thread}
use Rattle.debug_client.specs.Clients.{session_of}
use Rattle.debug_client.proofs.Tests.{by_process, second_of, first_fails}
use Rattle.debug_client.proofs.client.Client.is_told_of.Goals as goal

pub returns-then-is_shown : goal.returns-then-is_shown
returns-then-is_shown c r at q output error =
    let w = sent output error (world_of q c.args.state.now) in
    let p = c.process_of-process.result in
    let t = c.args.thread in
    let rs = c.args.resumptions.now in
    let shown : ℕ → Bool = is_shown (session_of c.args.self.now r at) w in
    let acts : ℕ → Bool = λ n. is_some (action_of_thread rs n t) in
    by_process (thread_in c.args.state.now.table.threads t) (λ n. shown n && acts n) p
    c.is_thread.result c.is_some.result c.is_thread.ensures
    c.if-not-is_thread.false c.process_of-process.ensures
    (second_of c.is_shown.result (shown p) (acts p) c.is_some.result
    (c.is_shown.ensures r at q output error) c.if-is_shown.true
    (c.is_some.ensures ∙ ap (λ (o : Option Action). is_some o) c.action_of_thread.ensures))

pub returns : goal.returns
returns c r at q output error =
    let w = sent output error (world_of q c.args.state.now) in
    let p = c.process_of-process.result in
    let t = c.args.thread in
    let rs = c.args.resumptions.now in
    let shown : ℕ → Bool = is_shown (session_of c.args.self.now r at) w in
    let acts : ℕ → Bool = λ n. is_some (action_of_thread rs n t) in
    by_process (thread_in c.args.state.now.table.threads t) (λ n. shown n && acts n) p
    c.is_thread.result false c.is_thread.ensures
    c.if-not-is_thread.false c.process_of-process.ensures
    (first_fails c.is_shown.result (shown p) (acts p)
    (c.is_shown.ensures r at q output error) c.if-is_shown.false)
