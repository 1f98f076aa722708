use Rattle.std.proofs.Common.{◌∙◌}
use Rattle.group_rounds.proofs.RipenLaws.{ripe_then, ripe_sound}
use Rattle.group_rounds.proofs.ripening.ripen.Goals as goal

pub returns-clause-ripens : goal.returns-clause-ripens
returns-clause-ripens c = ripe_then c.args.state.now c.set_ready.new.state c.as_slice.result.now
    (λ q o e. c.as_slice.ensures.value ∙ c.gather_ripe.ensures.ripe q o e) c.set_ready.ensures.sets

pub returns-clause-sound : goal.returns-clause-sound
returns-clause-sound c =
    ripe_sound c.args.state.now c.set_ready.new.state
    (ripe_then c.args.state.now c.set_ready.new.state c.as_slice.result.now
    (λ q o e. c.as_slice.ensures.value ∙ c.gather_ripe.ensures.ripe q o e)
    c.set_ready.ensures.sets)
    c.requires.sound (c.set_ready.ensures.counted c.requires.sound.counted)
