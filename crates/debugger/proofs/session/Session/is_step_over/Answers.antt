use Rattle.std.proofs.Common.{ap, sym, ◌∙◌, Option, Bool}
use Rattle.std.specs.Prelude.{is_some, IfSome}
use Rattle.dos_world.specs.World.{Thread, thread_at}
use Rattle.debugger.specs.Standing.{here}
use Rattle.debugger.proofs.Onward.{over_by, over_gone, over_lives}
use Rattle.debugger.proofs.Shown.{thread_seen}
use Rattle.debugger.proofs.session.Session.is_step_over.Goals as goal

pub returns-then-not-is_thread : goal.returns-then-not-is_thread
returns-then-not-is_thread c start is_start =
    let o = thread_seen _ c.args.self.now c.self.view_is c.self.invariant c.requires
    c.state.result.now c.state.ensures.state c.args.thread start is_start in
    over_gone (thread_at (here c.args.self.now start).moment.world c.args.thread) c.args.action
    c.is_stepping.result
    (ap (λ (x : Option Thread). is_some x) o ∙ sym c.is_thread.ensures
    ∙ c.if-not-is_thread.true) c.is_stepping.ensures

pub returns : goal.returns
returns c start is_start =
    let o = thread_seen _ c.args.self.now c.self.view_is c.self.invariant c.requires
    c.state.result.now c.state.ensures.state c.args.thread start is_start in
    over_lives _ c.args.action c.pc.result c.regs.result.now c.is_stopping.result
    (sym c.is_thread.ensures ∙ c.if-not-is_thread.false) c.regs.ensures c.pc.ensures
    c.is_stopping.ensures
    ∙ ap (over_by c.args.action) (sym o)
