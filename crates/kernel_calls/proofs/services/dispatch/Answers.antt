use Rattle.std.proofs.Common.{Option, sym, ap, subst, ◌∙◌}
use Rattle.dos_world.specs.Errors.{enosys}
use Rattle.dos_world.specs.Kernel.{minus}
use Rattle.kernel_calls.specs.Built.{definition_by}
use Rattle.kernel_calls.specs.CallResults.{call_in}
use Rattle.kernel_calls.specs.Plays.{PlaysOnce}
use Rattle.kernel_calls.specs.StateWorld.{sent, world_of}
use Rattle.kernel_calls.specs.declared.naming.Service.{Service}
use Rattle.kernel_calls.specs.declared.state.Served.TheVariants.{Went}
use Rattle.kernel_calls.proofs.Rows.{goes_replied}
use Rattle.kernel_calls.proofs.ServicePlays.{plays_quietly}
use Rattle.kernel_calls.proofs.services.dispatch.Goals as goal

pub returns-in-None-clause-plays : goal.returns-in-None-clause-plays
returns-in-None-clause-plays g c =
    let a = c.args.asked.now in
    plays_quietly (λ w. definition_by c.args.service (call_in w a)) c.args.state.now Went
    c.refuse_call.new.state _
    (λ q o e. ap (λ named. definition_by named (call_in (sent o e (world_of q c.args.state.now)) a))
    c.in-None.is
    ∙ goes_replied c.args.state.now c.refuse_call.new.state a (minus enosys)
    c.refuse_call.ensures.answers q o e)

pub returns-in-Some-clause-plays : goal.returns-in-Some-clause-plays
returns-in-Some-clause-plays g c =
    subst (λ (named : Option Service).
    PlaysOnce (λ w. definition_by named (call_in w c.args.asked.now))
    c.perform.result c.args.state.now (g.B.Border.state c.args.border.now) c.perform.new.state
    (g.B.Border.state c.perform.new.border)) (sym c.in-Some.is) c.perform.ensures.plays
