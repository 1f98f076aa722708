use Rattle.log_text.specs.Places.{StandsAt}
use Rattle.log_text.proofs.log_walk.place_behind.Given as goal

abbrev pub invariant-loop-index : goal.invariant-loop-index
invariant-loop-index l = StandsAt l.fn.log l.index l.place l.within
