use Rattle.std.proofs.Common.{sym, subst}
use Rattle.kernel_calls.specs.StateWorld.{IsSound}
use Rattle.kernel_calls.proofs.Keeping.{sound-charged}
use Rattle.kernel_calls.proofs.services.charge.Goals as goal

pub returns-clause-sound : goal.returns-clause-sound
returns-clause-sound c = subst (λ t. IsSound (record c.args.state.now { table = t }))
    (sym c.charge.ensures) (sound-charged c.args.state.now c.args.tid c.requires.sound)
