-- What a replayer keeps, and what it makes of it. This project's own rule.
use Rattle.std.specs.Prelude.{◌≡◌, ◌≢◌, ◌≤◌, ◌+◌, ◌++◌, ◌∷◌, ℕ, List, take, length}
use Rattle.std.specs.Prelude.{Option, Some}
use Rattle.std.specs.Prelude.{None, option_map, IfSome}
use Rattle.std.specs.List.{slice_get}
use Rattle.dos_world.specs.declared.Question.{Question}
use Rattle.dos_io.specs.declared.exchange.Exchange.{Exchange}
use Rattle.dos_io.specs.declared.shim.ShimStop.{ShimStop}
use Rattle.dos_io.specs.declared.shim.ShimStop.TheVariants.{Misfit}
use Rattle.dos_io.specs.Exchanges.{question_of}
use Rattle.dos_io.specs.Outside.{counted_to_limit}
use Rattle.dos_io.specs.Shims.{ShimState}
use Rattle.log_text.specs.LogText.{Log, exchanges_from}

-- the log, how many of its exchanges are in front of those that it answers by, how many of these it
-- answered by, and the stops
pub record ReplayState : Type 0 where
  pub log : Log
  pub start : ℕ
  pub answered : ℕ
  pub stops : ℕ
  pub last : Option ShimStop
  pub asked : Option Question

-- how many of the log's exchanges are used up, which is the number of the next one in the log
abbrev pub entries_used : ReplayState → ℕ
entries_used p = p.answered + p.start

-- as of every shim: it tells the log's exchanges from its start on, as many as were answered
abbrev pub replayer_state : ReplayState → ShimState
replayer_state p = record {
  told = take p.answered (exchanges_from p.start p.log);
  stops = p.stops;
  last = p.last;
  asked = p.asked;
}

-- the question of the next entry
abbrev pub kept_question : ReplayState → Option Question
kept_question p =
    option_map question_of (slice_get (exchanges_from p.start p.log) p.answered)

-- A stop is the misfit of the next entry, by its number in the log, and the question that was
-- asked, which differ.
pub record IsMisfitOf (p : ReplayState) (asked : Question) (stop : ShimStop) : Type 0 where
  pub kept : Question
  pub next : kept_question p ≡ Some kept
  pub says : stop ≡ Misfit (record { entry = entries_used p; kept = kept; asked = asked })
  pub differ : kept ≢ asked

-- From its start on the log is what was told, then an exchange of this question, and what is behind
-- it.
pub record StandsNext (p : ReplayState) (kept : Question) : Type 0 where
  pub next : Exchange
  pub behind : List Exchange
  pub log_is : exchanges_from p.start p.log ≡ (replayer_state p).told ++ next ∷ behind
  pub question : question_of next ≡ kept
  pub count : length (replayer_state p).told ≡ p.answered

-- what a replayer keeps in its type
pub record IsReplay (p : ReplayState) : Type 0 where
  pub begins : p.start ≤ length p.log.entries
  pub few : entries_used p ≤ length p.log.entries + 1
  pub stop : IfSome p.asked (λ q. IfSome p.last (IsMisfitOf p q))

-- after a stop
abbrev pub replay_stopped : ReplayState → Question → ShimStop → ReplayState
replay_stopped p q stop =
    record p { stops = counted_to_limit p.stops; last = Some stop; asked = Some q }

-- after an answer
abbrev pub replay_advanced : ReplayState → ReplayState
replay_advanced p = record p { answered = p.answered + 1; asked = None }

-- From s to t: the same log from the same start on, and no fewer exchanges of it were answered.
pub record FollowsLog (s t : ReplayState) : Type 0 where
  pub log_same : t.log ≡ s.log
  pub start_same : t.start ≡ s.start
  pub answered_more : s.answered ≤ t.answered
