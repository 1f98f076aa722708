-- What a quiet shim answers and shows. This project's own rule.
use Rattle.std.specs.Prelude.{◌≡◌, ℕ, ◌==◌, if◌then◌else◌, List, [], ◌++◌, map, Option, Some, None}
use Rattle.std.specs.Prelude.{⊤}
use Rattle.std.specs.List.{AllByRecursion}
use Rattle.dos_world.specs.declared.Question.{Question}
use Rattle.dos_world.specs.declared.Question.TheVariants.{Signals as signals_question}
use Rattle.dos_world.specs.declared.Question.TheVariants.{Input as input_question}
use Rattle.dos_world.specs.declared.Question.TheVariants.{Clock as clock_question}
use Rattle.dos_world.specs.declared.Question.TheVariants.{End as end_question}
use Rattle.dos_io.specs.declared.exchange.Exchange.{Exchange}
use Rattle.dos_io.specs.declared.exchange.Exchange.TheVariants.{Signals, Input, Clock, End}
use Rattle.dos_io.specs.declared.shim.ShimStop.{ShimStop}
use Rattle.dos_io.specs.declared.shim.ShimStop.TheVariants.{Memory}
use Rattle.dos_io.specs.Shims.{ShimState}

-- ---- the answers: no posts, no bytes, a clock that stands at 0

-- a question with its answer
abbrev pub quiet_exchange : Question → Exchange
quiet_exchange (signals_question round) = Signals round []
quiet_exchange (input_question round tid max) = Input round tid max []
quiet_exchange (clock_question round tid) = Clock round tid 0
quiet_exchange (end_question ending rounds) = End ending rounds

-- an exchange has its question's quiet answer
abbrev pub IsQuiet : Exchange → Type 0
IsQuiet (Signals round list) = list ≡ []
IsQuiet (Input round tid max bytes) = bytes ≡ []
IsQuiet (Clock round tid n) = n ≡ 0
IsQuiet (End ending rounds) = ⊤

-- each of these has
abbrev pub AreQuiet : List Exchange → Type 0
AreQuiet = AllByRecursion IsQuiet

-- ---- what it shows

-- the questions that it answered, in order; how often it stopped; the question of its last call
-- where that call stopped
pub record Quietness : Type 0 where
  pub questions : List Question
  pub stops : ℕ
  pub asked : Option Question

-- It stops for want of memory alone.
abbrev pub last_stop : ℕ → Option ShimStop
last_stop stops = if stops == 0 then None else Some Memory

-- as of every shim
abbrev pub shown_by : Quietness → ShimState
shown_by q = record {
  told = map quiet_exchange q.questions;
  stops = q.stops;
  last = last_stop q.stops;
  asked = q.asked;
}

-- From old to new it told these exchanges more, each with its quiet answer.
pub record FollowsQuietly (old new : ShimState) : Type 0 where
  pub more : List Exchange
  pub told : new.told ≡ old.told ++ more
  pub quiet : AreQuiet more
