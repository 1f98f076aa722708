use Rattle.std.proofs.Common.{◌≡◌, ◌∙◌, ap, sym, Some, None, Option, Bool}
use Rattle.std.specs.Prelude.{if◌then◌else◌, is_some}
use Rattle.dos_world.specs.World.{Thread}
use Rattle.debug_session.specs.Sessions.{chosen_at, home_pair}
use Rattle.debugger.specs.Standing.{here}
use Rattle.debugger.proofs.Shown.{thread_seen}
use Rattle.debugger.proofs.session.Session.stepped_pair.Goals as goal

pub returns-then-is_thread : goal.returns-then-is_thread
returns-then-is_thread c rs start s is_start asked =
    let at = here c.args.self.now start in
    c.home_pair.ensures start s is_start asked
    ∙ ap (λ (b : Bool). if b then home_pair s c.args.thread else chosen_at s rs at)
    (sym (ap (λ (o : Option Thread). is_some o) (thread_seen _ c.args.self.now c.self.view_is
    c.self.invariant c.requires.running c.state.result.now c.state.ensures.state c.args.thread
    start is_start) ∙ sym c.is_thread.ensures ∙ c.if-is_thread.true))

pub returns : goal.returns
returns c rs start s is_start asked =
    let at = here c.args.self.now start in
    ap (λ (b : Bool). if b then home_pair s c.args.thread else chosen_at s rs at)
    (sym (ap (λ (o : Option Thread). is_some o) (thread_seen _ c.args.self.now c.self.view_is
    c.self.invariant c.requires.running c.state.result.now c.state.ensures.state c.args.thread
    start is_start) ∙ sym c.is_thread.ensures ∙ c.if-is_thread.false))
