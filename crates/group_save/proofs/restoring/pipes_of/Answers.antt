use Rattle.std.proofs.Common.{sym, subst}
use Rattle.std.specs.Prelude.{All}
use Rattle.kernel_objects.specs.Pipework.{FitsPipe, vector_bytes}
use Rattle.group_parts.specs.PipeEnds.{AreShut, HasFewEnds, HaveFewEnds}
use Rattle.group_parts.proofs.Facts.{all_few_ends, have_few_ends, pipes_fit, shut}
use Rattle.group_save.proofs.Restored.{pipes_are}
use Rattle.group_save.proofs.restoring.pipes_of.Goals as goal

pub restore_pipes-requires-clause-fits : goal.restore_pipes-requires-clause-fits
restore_pipes-requires-clause-fits c = subst (λ ps. All FitsPipe ps) (sym c.deref.ensures.value)
    (pipes_fit c.args.group.now c.requires.fits c.requires.lawful)

pub restore_pipes-requires-clause-each : goal.restore_pipes-requires-clause-each
restore_pipes-requires-clause-each c = subst (λ rs. All HasFewEnds rs)
    (sym c.deref-2.ensures.value)
    (all_few_ends c.args.group.now c.requires.fits c.requires.lawful)

pub restore_pipes-requires-clause-few : goal.restore_pipes-requires-clause-few
restore_pipes-requires-clause-few c = subst HaveFewEnds (sym c.deref-2.ensures.value)
    (have_few_ends c.args.group.now c.requires.fits c.requires.lawful)

pub restore_pipes-requires-clause-closed : goal.restore_pipes-requires-clause-closed
restore_pipes-requires-clause-closed c =
    subst (λ ps. AreShut c.deref-2.result.now (vector_bytes ps)) (sym c.deref.ensures.value)
    (subst (λ rs. AreShut rs (vector_bytes c.args.group.now.pipes.items))
    (sym c.deref-2.ensures.value)
    (shut c.args.group.now c.requires.fits c.requires.lawful))

pub returns : goal.returns
returns c = pipes_are c.args.group.now c.requires.fits c.requires.lawful c.restore_pipes.result
    c.deref.ensures.value c.deref-2.ensures.value c.restore_pipes.ensures.bytes
    c.restore_pipes.ensures.ends
