-- The next exchange of a replayer, what it tells, and what is left of its log.
use Rattle.std.proofs.Common.{◌≡◌, ◌≤◌, ◌∙◌, ◌+◌, ◌-◌, ℕ, zero, suc, List, [], ◌∷◌, ◌++◌}
use Rattle.std.proofs.Common.{length, take, drop, Option, Some, None, option_map}
use Rattle.std.proofs.Common.{refl, sym, ap, arith}
use Rattle.std.specs.List.{slice_get}
use Rattle.std.proofs.lemmas.List.{take-append-drop, drop-drop}
use Rattle.dos_world.specs.declared.Ending.{Ending}
use Rattle.dos_world.specs.declared.Post.{Post}
use Rattle.dos_world.specs.declared.Question.{Question}
use Rattle.dos_world.specs.declared.Question.TheVariants.{Signals as signals_question}
use Rattle.dos_world.specs.declared.Question.TheVariants.{Input as input_question}
use Rattle.dos_world.specs.declared.Question.TheVariants.{Clock as clock_question}
use Rattle.dos_world.specs.declared.Question.TheVariants.{End as end_question}
use Rattle.dos_io.specs.declared.exchange.Exchange.{Exchange}
use Rattle.dos_io.specs.declared.exchange.Exchange.TheVariants.{Signals, Input, Clock, End}
use Rattle.dos_io.specs.declared.shim.ShimStop.{ShimStop}
use Rattle.dos_io.specs.Exchanges.{question_of}
use Rattle.dos_io.specs.Shims.{shim_answered, HasNoEnd}
use Rattle.log_text.specs.LogText.{exchanges, exchanges_from}
use Rattle.log_text.specs.Ranges.{AreEntries, FitsLog}
use Rattle.shim_log.specs.Replay.{ReplayState, StandsNext, IsMisfitOf, replayer_state}
use Rattle.shim_log.specs.Replay.{replay_advanced, entries_used}
use Rattle.log_text.proofs.PlaceLaws.{drop_none, passed_more}

-- ---- where the end wasn't told, an entry is next

end_is_last : (es : List Exchange) (ending : Ending) (rounds n : ℕ)
    → HasNoEnd (take n (es ++ End ending rounds ∷ [])) → n ≤ length es
end_is_last es ending rounds zero h = omega arith
end_is_last [] ending rounds (suc n) h = absurd h
end_is_last (End e r ∷ es) ending rounds (suc n) h = absurd h
end_is_last (e ∷ es) ending rounds (suc n) h = omega (arith, end_is_last es ending rounds n h)

end_is_left : (es : List Exchange) (ending : Ending) (rounds start n : ℕ) → start ≤ length es
    → HasNoEnd (take n (drop start (es ++ End ending rounds ∷ []))) → n + start ≤ length es
end_is_left es ending rounds zero n le h = omega (arith, end_is_last es ending rounds n h)
end_is_left [] ending rounds (suc start) n le h = absurd (omega (arith, le))
end_is_left (e ∷ es) ending rounds (suc start) n le h =
    omega (arith, end_is_left es ending rounds start n (omega (arith, le)) h)

pub is_next : (p : ReplayState) → p.start ≤ length p.log.entries
    → HasNoEnd (replayer_state p).told → entries_used p ≤ length p.log.entries
is_next p begins h =
    end_is_left p.log.entries p.log.ending p.log.rounds p.start p.answered begins h

-- an exchange behind a start, by its number in the log
pub get_behind : (es : List Exchange) (start n : ℕ)
    → slice_get (drop start es) n ≡ slice_get es (n + start)
get_behind es zero n = let same : n ≡ n + 0 = omega arith in ap (slice_get es) same
get_behind [] (suc start) n = refl
get_behind (e ∷ es) (suc start) n =
    let more : suc (n + start) ≡ n + suc start = omega arith in
    get_behind es start n ∙ ap (slice_get (e ∷ es)) more

-- ---- what it tells after an answer

pub plays : (p n : ReplayState) (e : Exchange)
    → slice_get (exchanges_from p.start p.log) p.answered ≡ Some e
    → n ≡ replay_advanced p → replayer_state n ≡ shim_answered (replayer_state p) e
plays p n e at is =
    let more : take (p.answered + 1) (exchanges_from p.start p.log)
    ≡ take p.answered (exchanges_from p.start p.log) ++ e ∷ [] =
    passed_more (exchanges_from p.start p.log) p.answered e at in
    ap replayer_state is
    ∙ ap (λ (x : List Exchange). record {
      told = x;
      stops = p.stops;
      last = p.last;
      asked = None;
    }) more

pub signals_is : (r round : ℕ) (list : List Post) → signals_question r ≡ signals_question round
    → Signals r list ≡ Signals round list
signals_is r round list e = let h : r ≡ round = cc in ap (λ (x : ℕ). Signals x list) h

pub clock_is : (r t round tid n : ℕ) → clock_question r t ≡ clock_question round tid
    → Clock r t n ≡ Clock round tid n
clock_is r t round tid n e =
    let h : r ≡ round = cc in
    let g : t ≡ tid = cc in
    rw (h, g) refl

pub input_is : (r t m round tid max : ℕ) (bytes : List ℕ)
    → input_question r t m ≡ input_question round tid max
    → Input r t m bytes ≡ Input round tid max bytes
input_is r t m round tid max bytes e =
    let h : r ≡ round = cc in
    let g : t ≡ tid = cc in
    let k : m ≡ max = cc in
    rw (h, g, k) refl

-- an entry with no answer of its own
pub end_is : (e : Exchange) (ending : Ending) (rounds : ℕ)
    → question_of e ≡ end_question ending rounds → e ≡ End ending rounds
end_is (End e r) ending rounds is =
    let h : e ≡ ending = cc in
    let g : r ≡ rounds = cc in
    rw (h, g) refl
end_is e ending rounds is = absurd cc

-- ---- the whole log, and where it was left

nothing_left : (n : ℕ) (none : List Exchange) → none ≡ [] → take n none ≡ []
nothing_left zero none is = refl
nothing_left (suc n) none is = rw is refl

whole_ends : (es : List Exchange) (ending : Ending) (rounds n : ℕ) → AreEntries es
    → (HasNoEnd (take n (es ++ End ending rounds ∷ [])) → ⊥)
    → take n (es ++ End ending rounds ∷ []) ≡ es ++ End ending rounds ∷ []
whole_ends es ending rounds zero fits ended = absurd (ended tt)
whole_ends [] ending rounds (suc n) fits ended =
    ap (λ (xs : List Exchange). End ending rounds ∷ xs) (nothing_left n [] refl)
whole_ends (End e r ∷ es) ending rounds (suc n) fits ended = absurd fits.0.1
whole_ends (e ∷ es) ending rounds (suc n) fits ended =
    ap (λ (xs : List Exchange). e ∷ xs) (whole_ends es ending rounds n fits.1 ended)

left_ends : (es : List Exchange) (ending : Ending) (rounds start n : ℕ) → AreEntries es
    → (HasNoEnd (take n (drop start (es ++ End ending rounds ∷ []))) → ⊥)
    → take n (drop start (es ++ End ending rounds ∷ []))
    ≡ drop start (es ++ End ending rounds ∷ [])
left_ends es ending rounds zero n fits ended = whole_ends es ending rounds n fits ended
left_ends [] ending rounds (suc start) n fits ended =
    nothing_left n (drop start []) (drop_none start) ∙ sym (drop_none start)
left_ends (e ∷ es) ending rounds (suc start) n fits ended =
    left_ends es ending rounds start n fits.1 ended

pub ends_whole : (p : ReplayState) → FitsLog p.log → (HasNoEnd (replayer_state p).told → ⊥)
    → (replayer_state p).told ≡ exchanges_from p.start p.log
ends_whole p fits ended =
    left_ends p.log.entries p.log.ending p.log.rounds p.start p.answered fits.entries ended

-- what is before one that goes on behind it
pub goes_on : (p : ReplayState) → exchanges_from p.start p.log
    ≡ (replayer_state p).told ++ exchanges_from (entries_used p) p.log
goes_on p =
    let sum : p.start + p.answered ≡ p.answered + p.start = omega arith in
    sym (take-append-drop p.answered (exchanges_from p.start p.log))
    ∙ ap (λ (es : List Exchange). (replayer_state p).told ++ es)
    (drop-drop p.answered p.start (exchanges p.log)
    ∙ ap (λ (n : ℕ). drop n (exchanges p.log)) sum)

abbrev some_question : Question → Option Question
some_question q = Some q

question_is : (q r : Question) → some_question q ≡ some_question r → q ≡ r
question_is q r e = cc

record Parted (xs : List Exchange) (n : ℕ) (wanted : Question) : Type 0 where
  pub next : Exchange
  pub behind : List Exchange
  pub whole : xs ≡ take n xs ++ next ∷ behind
  pub question : question_of next ≡ wanted
  pub count : length (take n xs) ≡ n

part_at : (xs : List Exchange) (n : ℕ) (wanted : Question)
    → option_map question_of (slice_get xs n) ≡ Some wanted → Parted xs n wanted
part_at [] n wanted is = absurd cc
part_at (x ∷ xs) zero wanted is =
    record {
      next = x;
      behind = xs;
      whole = refl;
      question = question_is (question_of x) wanted is;
      count = refl;
    }
part_at (x ∷ xs) (suc n) wanted is =
    let p = part_at xs n wanted is in
    record {
      next = p.next;
      behind = p.behind;
      whole = ap (λ (ys : List Exchange). x ∷ ys) p.whole;
      question = p.question;
      count = ap suc p.count;
    }

pub stands_next : (p : ReplayState) (asked : Question) (stop : ShimStop)
    (misfit : IsMisfitOf p asked stop) → StandsNext p misfit.kept
stands_next p asked stop misfit =
    let parted = part_at (exchanges_from p.start p.log) p.answered misfit.kept misfit.next in
    record {
      next = parted.next;
      behind = parted.behind;
      log_is = parted.whole;
      question = parted.question;
      count = parted.count;
    }
