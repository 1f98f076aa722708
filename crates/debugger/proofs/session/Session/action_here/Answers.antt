use Rattle.std.proofs.Common.{◌≡◌, ℕ, Option, None, sym, ◌∙◌}
use Rattle.dos_world.specs.World.{World}
use Rattle.proc_table.specs.Tables.{thread_in}
use Rattle.gdb_packets.specs.declared.resumptions.Action.{Action}
use Rattle.debug_session.specs.Actions.{action_of_thread}
use Rattle.debugger.specs.Halting.{action_at}
use Rattle.debugger.proofs.Seen.{of_state}
use Rattle.debugger.proofs.Watching.{gone_action, live_action}
use Rattle.debugger.proofs.session.Session.action_here.Goals as goal

pub returns-then-not-is_thread : goal.returns-then-not-is_thread
returns-then-not-is_thread c start is_start =
    let rs = c.args.resumptions.now in
    let t = c.args.thread in
    let none : Option Action = None in
    of_state _ _ c.self.view_is c.self.invariant c.requires c.state.result.now
    c.state.ensures.state start is_start
    (λ (w : World). none ≡ action_at rs w t)
    (λ q o e. gone_action (λ (p : ℕ). action_of_thread rs p t)
    (thread_in c.state.result.now.table.threads t)
    (sym c.if-not-is_thread.true ∙ c.is_thread.ensures))

pub returns : goal.returns
returns c start is_start =
    let rs = c.args.resumptions.now in
    let t = c.args.thread in
    of_state _ _ c.self.view_is c.self.invariant c.requires c.state.result.now
    c.state.ensures.state start is_start
    (λ (w : World). c.action_of_thread.result ≡ action_at rs w t)
    (λ q o e. live_action (λ (p : ℕ). action_of_thread rs p t)
    (thread_in c.state.result.now.table.threads t) c.process_of.result c.action_of_thread.result
    (sym c.if-not-is_thread.false ∙ c.is_thread.ensures) c.process_of.ensures
    c.action_of_thread.ensures)
