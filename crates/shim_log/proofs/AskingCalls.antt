-- What a recorder asks its host in one call; and in all calls of a run, where it stopped once at
-- most.
use Rattle.std.proofs.Common.{◌≡◌, ◌≤◌, ◌^◌, ◌-◌, ℕ, List, [], ◌∷◌, ◌++◌, Option, Some, None, refl}
use Rattle.std.proofs.Common.{sym, ap, subst, ◌∙◌, append_assoc, arith}
use Rattle.std.proofs.lemmas.List.{append-nil}
use Rattle.dos_world.specs.declared.Post.{Post}
use Rattle.dos_world.specs.declared.Question.{Question}
use Rattle.dos_world.specs.declared.Question.TheVariants.{Clock}
use Rattle.dos_io.specs.Exchanges.{question_of}
use Rattle.dos_io.specs.Outside.{counted_to_limit}
use Rattle.dos_io.specs.Shims.{ShimState, shim_answered}
use Rattle.dos_io.specs.declared.exchange.ClockRule.{ClockRule}
use Rattle.dos_io.specs.declared.exchange.ClockRule.TheVariants.{FromHost, Counted}
use Rattle.dos_io.specs.declared.exchange.Exchange.{Exchange}
use Rattle.dos_io.specs.declared.host_question.HostQuestion.{HostQuestion}
use Rattle.dos_io.specs.declared.host_question.HostQuestion.TheVariants.{Reading}
use Rattle.dos_io.specs.declared.shim.ShimStop.{ShimStop}
use Rattle.dos_io.specs.declared.shim.ShimStop.TheVariants.{LogFull, HostFault, Memory, Misfit}
use Rattle.log_text.specs.declared.header.LogHeader.{LogHeader}
use Rattle.shim_log.specs.Ledger.{LedgerState, added, empty_ledger, next_reading, recorder_state}
use Rattle.shim_log.specs.Ledger.{stopped}
use Rattle.shim_log.specs.Asking.{ShimCall, answered, stopped_at, shown_after, asked_in, HostStands}
use Rattle.shim_log.specs.Asking.{RecorderAsks, host_question, host_questions, stop_questions}
use Rattle.shim_log.proofs.RecorderLaws.{one_number}

-- ---- one call

-- It answered.
pub answer_asks : (b n : LedgerState) (e : Exchange) (before after : List HostQuestion) (l m : ℕ)
    → n.clock ≡ b.clock → recorder_state n ≡ shim_answered (recorder_state b) e
    → after ≡ before ++ host_question b.clock (question_of e) → m ≡ l
    → RecorderAsks b n before after l m
answer_asks b n e before after l m clock shows asked steady = record {
  clock_same = clock;
  calls = answered e ∷ [];
  shows = shows;
  asked = asked ∙ ap (λ (x : List HostQuestion). before ++ x)
      (sym (append-nil (host_question b.clock (question_of e))));
  steady = λ _. steady;
}

-- It stopped.
pub stop_asks : (b b' n : LedgerState) (r : ℕ) (q : Question) (stop : ShimStop)
    (before after : List HostQuestion) (l m : ℕ) → b' ≡ record b { room = r }
    → n ≡ stopped b' q stop → after ≡ before ++ stop_questions b.clock q stop
    → (HostStands (stopped_at q stop ∷ []) → m ≡ l)
    → RecorderAsks b n before after l m
stop_asks b b' n r q stop before after l m same is asked steady =
    let whole : n ≡ stopped (record b { room = r }) q stop =
    is ∙ ap (λ (x : LedgerState). stopped x q stop) same in record {
      clock_same = ap (λ (x : LedgerState). x.clock) whole;
      calls = stopped_at q stop ∷ [];
      shows = ap recorder_state whole;
      asked = asked ∙ ap (λ (x : List HostQuestion). before ++ x)
          (sym (append-nil (stop_questions b.clock q stop)));
      steady = steady;
    }

-- what it stops by before it asks the host
nothing_asked : (clock : ClockRule) (q : Question) (stop : ShimStop)
    (before : List HostQuestion) → (stop ≡ HostFault → ⊥)
    → before ≡ before ++ stop_questions clock q stop
nothing_asked clock q HostFault before other = absurd (other refl)
nothing_asked clock q LogFull before other = sym (append-nil before)
nothing_asked clock q Memory before other = sym (append-nil before)
nothing_asked clock q (Misfit misfit) before other = sym (append-nil before)

-- It stopped before it asked the host.
pub stop_asks_nothing : (b b' n : LedgerState) (r : ℕ) (q : Question) (stop : ShimStop)
    (before : List HostQuestion) (m : ℕ) → b' ≡ record b { room = r } → n ≡ stopped b' q stop
    → (stop ≡ HostFault → ⊥) → RecorderAsks b n before before m m
stop_asks_nothing b b' n r q stop before m same is other =
    stop_asks b b' n r q stop before before m m same is
    (nothing_asked b.clock q stop before other) (λ _. refl)

-- a clock that isn't counted is the host's
reading_asked : (clock : ClockRule) (k round tid : ℕ) → None ≡ next_reading clock k
    → Reading ∷ [] ≡ host_question clock (Clock round tid)
reading_asked FromHost k round tid none = refl
reading_asked (Counted start step) k round tid none = absurd cc

no_reading_asked : (clock : ClockRule) (k round tid n : ℕ) → one_number n ≡ next_reading clock k
    → [] ≡ host_question clock (Clock round tid)
no_reading_asked FromHost k round tid n some = absurd cc
no_reading_asked (Counted start step) k round tid n some = refl

-- b' has more room than b, and n has one more exchange
pub clock_kept : (b b' n : LedgerState) (r r' : ℕ) (e : Exchange) → b' ≡ record b { room = r' }
    → n ≡ record (added b' e) { room = r } → n.clock ≡ b.clock
clock_kept b b' n r r' e same is =
    ap (λ (x : LedgerState). x.clock) is ∙ ap (λ (x : LedgerState). x.clock) same

pub asked_reading : (b b' : LedgerState) (r k round tid : ℕ) (before after : List HostQuestion)
    → b' ≡ record b { room = r } → None ≡ next_reading b'.clock k
    → after ≡ before ++ Reading ∷ [] → after ≡ before ++ host_question b.clock (Clock round tid)
asked_reading b b' r k round tid before after same none asked =
    asked ∙ ap (λ (x : List HostQuestion). before ++ x)
    (reading_asked b'.clock k round tid none
    ∙ ap (λ (x : LedgerState). host_question x.clock (Clock round tid)) same)

pub asked_no_reading : (b b' : LedgerState) (r k round tid n : ℕ) (before : List HostQuestion)
    → b' ≡ record b { room = r } → one_number n ≡ next_reading b'.clock k
    → before ≡ before ++ host_question b.clock (Clock round tid)
asked_no_reading b b' r k round tid n before same some =
    sym (append-nil before) ∙ ap (λ (x : List HostQuestion). before ++ x)
    (no_reading_asked b'.clock k round tid n some
    ∙ ap (λ (x : LedgerState). host_question x.clock (Clock round tid)) same)

-- ---- all calls

-- the exchanges of the calls that answered
abbrev answers_of : List ShimCall → List Exchange
answers_of [] = []
answers_of (answered e ∷ calls) = e ∷ answers_of calls
answers_of (stopped_at q stop ∷ calls) = answers_of calls

told_after : (s : ShimState) (cs : List ShimCall)
    → (shown_after s cs).told ≡ s.told ++ answers_of cs
told_after s [] = sym (append-nil s.told)
told_after s (answered e ∷ cs) =
    told_after (shim_answered s e) cs ∙ append_assoc s.told (e ∷ []) (answers_of cs)
told_after s (stopped_at q stop ∷ cs) = told_after _ cs

-- a last stop stays
has_last : (s : ShimState) (cs : List ShimCall) (stop : ShimStop) → s.last ≡ Some stop
    → (shown_after s cs).last ≡ None → ⊥
has_last s [] stop some none = let e : ◌≡◌ {A = Option ShimStop} (Some stop) None = sym some ∙ none
    in absurd cc
has_last s (answered e ∷ cs) stop some none = has_last (shim_answered s e) cs stop some none
has_last s (stopped_at q other ∷ cs) stop some none = has_last _ cs other refl none

-- Where it never stopped, the host was asked for its answers.
never_stopped : (clock : ClockRule) (s : ShimState) (cs : List ShimCall)
    → (shown_after s cs).last ≡ None
    → (asked_in clock cs ≡ host_questions clock (answers_of cs)) × HostStands cs
never_stopped clock s [] none = (refl, tt)
never_stopped clock s (answered e ∷ cs) none =
    let rest = never_stopped clock (shim_answered s e) cs none in (
      ap (λ (x : List HostQuestion). host_question clock (question_of e) ++ x) rest.0,
      rest.1,
    )
never_stopped clock s (stopped_at q stop ∷ cs) none = absurd (has_last _ cs stop refl none)

-- stops are counted up
no_fewer : (s : ShimState) (cs : List ShimCall) (n : ℕ) → n ≤ 2 ^ 64 - 1 → n ≤ s.stops
    → n ≤ (shown_after s cs).stops
no_fewer s [] n small le = le
no_fewer s (answered e ∷ cs) n small le = no_fewer (shim_answered s e) cs n small le
no_fewer s (stopped_at q stop ∷ cs) n small le = no_fewer _ cs n small (omega arith)

-- Where it stopped once, and shows a question, nothing was answered behind the stop.
nothing_behind : (s : ShimState) (cs : List ShimCall) (q : Question) → s.stops ≡ 1
    → s.asked ≡ None → (shown_after s cs).stops ≡ 1 → (shown_after s cs).asked ≡ Some q → ⊥
nothing_behind s [] q one none stops asks =
    let e : ◌≡◌ {A = Option Question} None (Some q) = sym none ∙ asks in absurd cc
nothing_behind s (answered e ∷ cs) q one none stops asks =
    nothing_behind (shim_answered s e) cs q one refl stops asks
nothing_behind s (stopped_at r stop ∷ cs) q one none stops asks =
    absurd (omega (
      arith,
      no_fewer (record {
        told = s.told;
        stops = counted_to_limit s.stops;
        last = Some stop;
        asked = Some r;
      }) cs 2 (omega arith) (omega arith),
    ))

-- The stop was the last call.
is_last : (s : ShimState) (cs : List ShimCall) (q : Question) → s.stops ≡ 1
    → (shown_after s cs).stops ≡ 1 → (shown_after s cs).asked ≡ Some q → cs ≡ []
is_last s [] q one stops asks = refl
is_last s (answered e ∷ cs) q one stops asks =
    absurd (nothing_behind (shim_answered s e) cs q one refl stops asks)
is_last s (stopped_at r stop ∷ cs) q one stops asks =
    absurd (omega (
      arith,
      no_fewer (record {
        told = s.told;
        stops = counted_to_limit s.stops;
        last = Some stop;
        asked = Some r;
      }) cs 2 (omega arith) (omega arith),
    ))

stands_by : (q : Question) (stop : ShimStop) → (stop ≡ HostFault → ⊥)
    → HostStands (stopped_at q stop ∷ [])
stands_by q HostFault other = absurd (other refl)
stands_by q LogFull other = tt
stands_by q Memory other = tt
stands_by q (Misfit misfit) other = tt

-- Where it stopped once, and shows the question and the stop, the host was asked for its answers,
-- and then what that stop asks.
stopped_once : (clock : ClockRule) (s : ShimState) (cs : List ShimCall) (q : Question)
    (stop : ShimStop) → s.stops ≡ 0 → (shown_after s cs).stops ≡ 1
    → (shown_after s cs).asked ≡ Some q → (shown_after s cs).last ≡ Some stop
    → (asked_in clock cs ≡ host_questions clock (answers_of cs) ++ stop_questions clock q stop)
    × ((stop ≡ HostFault → ⊥) → HostStands cs)
stopped_once clock s [] q stop zero one asks last = absurd (omega arith)
stopped_once clock s (answered e ∷ cs) q stop zero one asks last =
    let rest = stopped_once clock (shim_answered s e) cs q stop zero one asks last in (
      ap (λ (x : List HostQuestion). host_question clock (question_of e) ++ x) rest.0
          ∙ sym (append_assoc (host_question clock (question_of e))
          (host_questions clock (answers_of cs)) (stop_questions clock q stop)),
      rest.1,
    )
stopped_once clock s (stopped_at r other ∷ cs) q stop zero one asks last =
    let s' : ShimState = record {
      told = s.told;
      stops = counted_to_limit s.stops;
      last = Some other;
      asked = Some r;
    } in
    let none : cs ≡ [] = is_last s' cs q (omega arith) one asks in
    let question : r ≡ q = same_question r q
    (subst (λ (x : List ShimCall). (shown_after s' x).asked ≡ Some q) none asks) in
    let reason : other ≡ stop = same_stop other stop
    (subst (λ (x : List ShimCall). (shown_after s' x).last ≡ Some stop) none last) in
    subst (λ (x : List ShimCall).
    (asked_in clock (stopped_at r other ∷ x)
    ≡ host_questions clock (answers_of (stopped_at r other ∷ x)) ++ stop_questions clock q stop)
    × ((stop ≡ HostFault → ⊥) → HostStands (stopped_at r other ∷ x))) (sym none)
    (subst (λ (x : Question). (stop_questions clock x other ++ [] ≡ stop_questions clock q stop)
    × ((stop ≡ HostFault → ⊥) → HostStands (stopped_at x other ∷ []))) (sym question)
    (subst (λ (x : ShimStop). (stop_questions clock q x ++ [] ≡ stop_questions clock q stop)
    × ((stop ≡ HostFault → ⊥) → HostStands (stopped_at q x ∷ []))) (sym reason)
    (append-nil (stop_questions clock q stop), stands_by q stop)))
  where
    same_question : (x y : Question) → ◌≡◌ {A = Option Question} (Some x) (Some y) → x ≡ y
    same_question x y e = cc

    same_stop : (x y : ShimStop) → ◌≡◌ {A = Option ShimStop} (Some x) (Some y) → x ≡ y
    same_stop x y e = cc

-- ---- all calls since it was asked nothing

module _ (posts : List (ℕ × Post)) (clock : ClockRule) (header : LogHeader) (room : ℕ)
    (after : LedgerState) (before asked : List HostQuestion) (m n : ℕ)
    (asks : RecorderAsks (empty_ledger posts clock header room) after before asked m n) where
  abbrev start : ShimState
  start = recorder_state (empty_ledger posts clock header room)

  all_answers : answers_of asks.calls ≡ (recorder_state after).told
  all_answers = sym (ap (λ (s : ShimState). s.told) asks.shows ∙ told_after start asks.calls)

  pub asked_whole : after.last ≡ None
      → (asked ≡ before ++ host_questions clock (recorder_state after).told) × (n ≡ m)
  asked_whole none =
      let all = never_stopped clock start asks.calls
      (sym (ap (λ (s : ShimState). s.last) asks.shows) ∙ none) in (
        asks.asked ∙ ap (λ (x : List HostQuestion). before ++ x)
            (all.0 ∙ ap (host_questions clock) all_answers),
        asks.steady all.1,
      )

  pub asked_until : (question : Question) (stop : ShimStop) → after.stops ≡ 1
      → after.asked ≡ Some question → after.last ≡ Some stop
      → (asked ≡ before ++ (host_questions clock (recorder_state after).told
      ++ stop_questions clock question stop)) × ((stop ≡ HostFault → ⊥) → n ≡ m)
  asked_until question stop once at so =
      let all = stopped_once clock start asks.calls question stop refl
      (sym (ap (λ (s : ShimState). s.stops) asks.shows) ∙ once)
      (sym (ap (λ (s : ShimState). s.asked) asks.shows) ∙ at)
      (sym (ap (λ (s : ShimState). s.last) asks.shows) ∙ so) in (
        asks.asked ∙ ap (λ (x : List HostQuestion). before ++ x)
            (all.0 ∙ ap (λ (es : List Exchange). host_questions clock es
            ++ stop_questions clock question stop) all_answers),
        λ other. asks.steady (all.1 other),
      )
