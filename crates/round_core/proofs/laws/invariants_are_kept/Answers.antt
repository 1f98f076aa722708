use Rattle.round_core.proofs.Keeps.{kept_throughout}
use Rattle.round_core.proofs.laws.invariants_are_kept.Goals as goal

pub returns : goal.returns
returns g c = kept_throughout _ _ c.requires
