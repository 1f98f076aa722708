use Rattle.std.proofs.Common.{◌≡◌, ℕ, false, true, ap, sym, ◌∙◌}
use Rattle.std.specs.Prelude.{◌==◌, is_some}
use Rattle.std.proofs.lemmas.Bool.{true≢false}
use Rattle.dos_world.specs.World.{World, thread_at}
use Rattle.flat_machine.specs.Rest.{process_of}
use Rattle.kernel_calls.specs.StateWorld.{sent, world_of}
use Rattle.debug_session.specs.Sessions.{is_told_of}
use Rattle.debugger.specs.Standing.{here}
use Rattle.debugger.proofs.Seen.{of_state}
use Rattle.debugger.proofs.Watching.{first_fails, process_is, second_of, told_lives}
use Rattle.debugger.proofs.session.Session.is_watcher.Goals as goal

pub returns-then-not-is_told_of-clause-watcher : goal.returns-then-not-is_told_of-clause-watcher
returns-then-not-is_told_of-clause-watcher c start s is_start asked =
    let w = (here c.args.self.now start).moment.world in
    first_fails (is_told_of s c.args.resumptions.now w c.args.thread)
    (process_of w c.args.thread == c.args.point.process)
    (sym c.if-not-is_told_of.true ∙ c.is_told_of.ensures.told start s is_start asked)

pub returns-then-is_thread-clause-watcher : goal.returns-then-is_thread-clause-watcher
returns-then-is_thread-clause-watcher c start s is_start asked =
    let w = (here c.args.self.now start).moment.world in
    let t = c.args.thread in
    second_of (is_told_of s c.args.resumptions.now w t)
    (process_of w t == c.args.point.process) (c.process_of.result == c.args.point.process)
    (sym c.if-not-is_told_of.false ∙ c.is_told_of.ensures.told start s is_start asked)
    (ap (λ (p : ℕ). p == c.args.point.process)
    (of_state _ _ c.self.view_is c.self.invariant c.requires c.state.result.now
    c.state.ensures.state start is_start (λ (v : World). c.process_of.result ≡ process_of v t)
    (λ q o e. process_is (sent o e (world_of q c.state.result.now)) t c.process_of.result
    (sym c.if-is_thread.true ∙ c.is_thread.ensures) c.process_of.ensures)))

pub returns-clause-watcher : goal.returns-clause-watcher
returns-clause-watcher c start s is_start asked =
    let w = (here c.args.self.now start).moment.world in
    let t = c.args.thread in
    let gone : false ≡ is_some (thread_at w t) =
    of_state _ _ c.self.view_is c.self.invariant c.requires c.state.result.now
    c.state.ensures.state start is_start (λ (v : World). false ≡ is_some (thread_at v t))
    (λ q o e. sym c.if-is_thread.false ∙ c.is_thread.ensures) in
    let lives : true ≡ is_some (thread_at w t) =
    told_lives s c.args.resumptions.now w t
    (sym c.if-not-is_told_of.false ∙ c.is_told_of.ensures.told start s is_start asked) in
    absurd (true≢false (lives ∙ sym gone))

pub returns-then-is_thread-clause-known : goal.returns-then-is_thread-clause-known
returns-then-is_thread-clause-known c is = c.is_told_of.ensures.known c.if-not-is_told_of.false
