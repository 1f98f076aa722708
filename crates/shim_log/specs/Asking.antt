-- What a recorder asks its host, call by call. This project's own rules.
use Rattle.std.specs.Prelude.{◌≡◌, ◌++◌, ℕ, List, [], ◌∷◌, Some, ⊤}
use Rattle.dos_world.specs.declared.Question.{Question}
use Rattle.dos_world.specs.declared.Question.TheVariants.{Signals, Input, Clock}
use Rattle.dos_world.specs.declared.Question.TheVariants.{End as end_question}
use Rattle.dos_io.specs.Exchanges.{question_of}
use Rattle.dos_io.specs.Outside.{counted_to_limit}
use Rattle.dos_io.specs.Shims.{ShimState, shim_answered}
use Rattle.dos_io.specs.declared.exchange.Exchange.{Exchange}
use Rattle.dos_io.specs.declared.exchange.ClockRule.{ClockRule}
use Rattle.dos_io.specs.declared.exchange.ClockRule.TheVariants.{FromHost, Counted}
use Rattle.dos_io.specs.declared.host_question.HostQuestion.{HostQuestion}
use Rattle.dos_io.specs.declared.host_question.HostQuestion.TheVariants.{Bytes, Reading}
use Rattle.dos_io.specs.declared.shim.ShimStop.{ShimStop}
use Rattle.dos_io.specs.declared.shim.ShimStop.TheVariants.{LogFull, HostFault, Memory, Misfit}
use Rattle.shim_log.specs.Ledger.{LedgerState, recorder_state}

-- ---- questions

-- what the host is asked for the answer to a question: an input, and a reading that isn't counted
abbrev pub host_question : ClockRule → Question → List HostQuestion
host_question clock (Signals round) = []
host_question clock (Input round tid max) = Bytes max ∷ []
host_question FromHost (Clock round tid) = Reading ∷ []
host_question (Counted start step) (Clock round tid) = []
host_question clock (end_question ending rounds) = []

-- for these answers, once each, in their order
abbrev pub host_questions : ClockRule → List Exchange → List HostQuestion
host_questions clock [] = []
host_questions clock (e ∷ es) = host_question clock (question_of e) ++ host_questions clock es

-- where a recorder stopped so at a question: that question once, where the host failed, and else
-- nothing
abbrev pub stop_questions : ClockRule → Question → ShimStop → List HostQuestion
stop_questions clock question HostFault = host_question clock question
stop_questions clock question LogFull = []
stop_questions clock question Memory = []
stop_questions clock question (Misfit misfit) = []

-- ---- calls

-- a call of a shim, which answered, or stopped so at a question
pub data ShimCall : Type 0 where
  answered : Exchange → ShimCall
  stopped_at : Question → ShimStop → ShimCall

-- what the shim shows after these calls
abbrev pub shown_after : ShimState → List ShimCall → ShimState
shown_after s [] = s
shown_after s (answered e ∷ calls) = shown_after (shim_answered s e) calls
shown_after s (stopped_at question stop ∷ calls) = shown_after (record {
  told = s.told;
  stops = counted_to_limit s.stops;
  last = Some stop;
  asked = Some question;
}) calls

-- what the host is asked in them
abbrev pub asked_in : ClockRule → List ShimCall → List HostQuestion
asked_in clock [] = []
asked_in clock (answered e ∷ calls) = host_question clock (question_of e) ++ asked_in clock calls
asked_in clock (stopped_at question stop ∷ calls) =
    stop_questions clock question stop ++ asked_in clock calls

-- In none of them the host failed.
abbrev pub HostStands : List ShimCall → Type 0
HostStands [] = ⊤
HostStands (answered e ∷ calls) = HostStands calls
HostStands (stopped_at question HostFault ∷ calls) = ⊥
HostStands (stopped_at question LogFull ∷ calls) = HostStands calls
HostStands (stopped_at question Memory ∷ calls) = HostStands calls
HostStands (stopped_at question (Misfit misfit) ∷ calls) = HostStands calls

-- From s to t: these calls of a recorder, whose host was asked `before` and had the count m, and
-- then was asked `after` and has n. It was asked exactly what the calls ask of it, and its count
-- stands unless it failed in one of them.
pub record RecorderAsks (s t : LedgerState) (before after : List HostQuestion) (m n : ℕ) : Type 0
  where
    pub clock_same : t.clock ≡ s.clock
    pub calls : List ShimCall
    pub shows : recorder_state t ≡ shown_after (recorder_state s) calls
    pub asked : after ≡ before ++ asked_in s.clock calls
    pub steady : HostStands calls → n ≡ m
