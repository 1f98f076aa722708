-- What a shim shows. This project's own rule.
use Rattle.std.specs.Prelude.{◌≡◌, ℕ, List, [], ◌∷◌, ◌++◌, Option, Some, None, ⊤}
use Rattle.dos_world.specs.declared.Question.{Question}
use Rattle.dos_io.specs.declared.exchange.Exchange.{Exchange}
use Rattle.dos_io.specs.declared.exchange.Exchange.TheVariants.{Signals, Input, Clock, End}
use Rattle.dos_io.specs.declared.shim.ShimStop.{ShimStop}
use Rattle.dos_io.specs.Outside.{counted_to_limit}

-- The exchanges so far, how often it has stopped, its last stop, and the question of its last call
-- where that call stopped.
pub record ShimState : Type 0 where
  pub told : List Exchange
  pub stops : ℕ
  pub last : Option ShimStop
  pub asked : Option Question

-- after an answer
abbrev pub shim_answered : ShimState → Exchange → ShimState
shim_answered s exchange = record s { told = s.told ++ exchange ∷ []; asked = None }

-- From old to new it stopped, so, at this question. A stop is counted once; the count stands still
-- at 2^64 - 1.
pub record Stopped (old : ShimState) (question : Question) (stop : ShimStop) (new : ShimState) :
    Type 0 where
  pub told : new.told ≡ old.told
  pub stops : new.stops ≡ counted_to_limit old.stops
  pub last : new.last ≡ Some stop
  pub asked : new.asked ≡ Some question

-- the run hasn't been told to be over
abbrev pub HasNoEnd : List Exchange → Type 0
HasNoEnd [] = ⊤
HasNoEnd (Signals round list ∷ es) = HasNoEnd es
HasNoEnd (Input round tid max bytes ∷ es) = HasNoEnd es
HasNoEnd (Clock round tid n ∷ es) = HasNoEnd es
HasNoEnd (End ending rounds ∷ es) = ⊥
