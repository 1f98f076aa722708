use Rattle.std.proofs.Common.{ap, sym, ◌∙◌, Option}
use Rattle.std.specs.Prelude.{is_some}
use Rattle.dos_world.specs.World.{Thread}
use Rattle.debugger.specs.Standing.{here}
use Rattle.debugger.proofs.Onward.{nobody_none, nobody_some}
use Rattle.debugger.proofs.Shown.{thread_seen}
use Rattle.debugger.proofs.session.Session.steps_nobody.Goals as goal

pub returns-in-None : goal.returns-in-None
returns-in-None c start is_start =
    nobody_none (here c.args.self.now start).moment.world c.args.resumption.now
    (sym c.thread_named.ensures ∙ c.in-None.is)

pub returns-in-Some : goal.returns-in-Some
returns-in-Some c start is_start =
    nobody_some (here c.args.self.now start).moment.world c.args.resumption.now c.in-Some.thread
    c.is_thread.result (sym c.thread_named.ensures ∙ c.in-Some.is)
    (c.is_thread.ensures
    ∙ ap (λ (x : Option Thread). is_some x) (sym (thread_seen _ c.args.self.now c.self.view_is
    c.self.invariant c.requires c.state.result.now c.state.ensures.state c.in-Some.thread start
    is_start)))
