use Rattle.std.proofs.Common.{sym, ap, subst, ◌∙◌}
use Rattle.kernel_calls.specs.Built.{definition_of}
use Rattle.kernel_calls.specs.CallResults.{call_in}
use Rattle.kernel_calls.specs.Plays.{PlaysOnce}
use Rattle.kernel_calls.specs.StateWorld.{sent, world_of}
use Rattle.kernel_calls.specs.declared.naming.Service.{Service}
use Rattle.kernel_calls.proofs.ServicePlays.{plays_quietly}
use Rattle.kernel_calls.proofs.services.perform.Goals as goal

pub returns-in-Quiet-clause-plays : goal.returns-in-Quiet-clause-plays
returns-in-Quiet-clause-plays g c =
    let a = c.args.asked.now in
    plays_quietly (λ w. definition_of c.args.service (call_in w a)) c.args.state.now
    c.perform_quietly.result c.perform_quietly.new.state _
    (λ q o e. ap (λ named. definition_of named (call_in (sent o e (world_of q c.args.state.now)) a))
    c.in-Quiet.is ∙ c.perform_quietly.ensures.goes_on q o e)

-- ---- those that ask or send

pub returns-in-Read-clause-plays : goal.returns-in-Read-clause-plays
returns-in-Read-clause-plays g c =
    subst (λ (named : Service). PlaysOnce (λ w. definition_of named (call_in w c.args.asked.now))
    c.read.result c.args.state.now (g.B.Border.state c.args.border.now) c.read.new.state
    (g.B.Border.state c.read.new.border)) (sym c.in-Read.is) c.read.ensures.plays

pub returns-in-Write-clause-plays : goal.returns-in-Write-clause-plays
returns-in-Write-clause-plays g c =
    subst (λ (named : Service). PlaysOnce (λ w. definition_of named (call_in w c.args.asked.now))
    c.write.result c.args.state.now (g.B.Border.state c.args.border.now) c.write.new.state
    (g.B.Border.state c.write.new.border)) (sym c.in-Write.is) c.write.ensures.plays

pub returns-in-Clock-clause-plays : goal.returns-in-Clock-clause-plays
returns-in-Clock-clause-plays g c =
    subst (λ (named : Service). PlaysOnce (λ w. definition_of named (call_in w c.args.asked.now))
    c.clock.result c.args.state.now (g.B.Border.state c.args.border.now) c.clock.new.state
    (g.B.Border.state c.clock.new.border)) (sym c.in-Clock.is) c.clock.ensures.plays
