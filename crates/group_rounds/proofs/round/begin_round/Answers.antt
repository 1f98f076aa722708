use Rattle.std.proofs.Common.{ap, ◌∙◌}
use Rattle.dos_world.specs.Signals.{ripen}
use Rattle.group_rounds.proofs.Sound.{few_live}
use Rattle.group_rounds.proofs.round.begin_round.Goals as goal

pub gather-requires-clause-few : goal.gather-requires-clause-few
gather-requires-clause-few c = few_live c.ripen.new.state c.ripen.ensures.sound

pub returns-clause-begins : goal.returns-clause-begins
returns-clause-begins c = λ q o e.
    ap ripen (c.signal_point.ensures.signals q o e) ∙ c.ripen.ensures.ripens q o e
