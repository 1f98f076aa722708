-- The births of all threads that are listed or told of are known.
use Rattle.std.proofs.Common.{◌≡◌, ℕ, zero, suc, ◌+◌, ◌≤◌, List, [], ◌∷◌, ◌++◌, length}
use Rattle.std.proofs.Common.{Bool, true, false, cond, Option, Some, None, refl, sym, ap, subst}
use Rattle.std.proofs.Common.{◌∙◌}
use Rattle.std.proofs.Common.{arith, filter}
use Rattle.std.specs.Prelude.{slice_get, find, filter_map, is_some, is_none, nat_le, ◌&&◌, ◌||◌}
use Rattle.std.specs.Prelude.{◌==◌}
use Rattle.std.specs.Prelude.{option_map, option_and_then, not}
use Rattle.std.specs.List.{list_all, cons_option}
use Rattle.std.proofs.lemmas.Bool.{true≢false, le-leb, eqb-true}
use Rattle.std.proofs.lemmas.List.Folds.{list_all-append}
use Rattle.dos_world.specs.Numbered.{numbered, places_from}
use Rattle.dos_world.specs.World.{World, Process, Thread, flat, belongs_to}
use Rattle.dos_world.specs.World.{holdings_of, live_process, first_thread, thread_at, live_threads}
use Rattle.proc_table.specs.Spread.{living_from}
use Rattle.group_moves.specs.Moments.{Moment}
use Rattle.gdb_packets.specs.declared.resumptions.Resumption.{Resumption}
use Rattle.debug_session.specs.Positions.{all_moments}
use Rattle.debug_session.specs.Homes.{birth_of, birth_thread}
use Rattle.debug_session.specs.Sessions.{Session, is_among, is_shown, is_process_live, is_told_of}
use Rattle.debug_session.specs.Sessions.{is_thread_shown, absent_threads, listed_at, is_acting}
use Rattle.debug_client.specs.Births.{BirthTables, AreBirthsKnown, has_home, has_process}
use Rattle.debug_client.specs.Births.{has_processes}
use Rattle.debug_client.specs.Births.{KnowsBirths, has_homes, process_of_thread}
use Rattle.debug_client.proofs.Tests.{and_both, or_either, or_second}
use Rattle.debug_client.proofs.Fronts.{some_within, is_there}
use Rattle.debug_client.proofs.Known.{first_known, threads_at}
use Rattle.debug_client.proofs.Placed.{rising_all}

-- ---- live threads, by their places

pub living_count : (n : ℕ) (threads : List (Option Thread))
    → length (living_from n threads) ≡ length (places_from n is_some threads)
living_count n [] = refl
living_count n (None ∷ threads) = living_count (suc n) threads
living_count n (Some thread ∷ threads) = ap suc (living_count (suc n) threads)

pub living_number : (n : ℕ) (threads : List (Option Thread)) (i t : ℕ) (thread : Thread)
    → slice_get (living_from n threads) i ≡ Some (t, thread)
    → slice_get (places_from n is_some threads) i ≡ Some t
living_number n [] i t thread is = cc
living_number n (None ∷ threads) i t thread is = living_number (suc n) threads i t thread is
living_number n (Some first ∷ threads) zero t thread is =
    let same : (n, first) ≡ (t, thread) = cc in ap (λ (e : ℕ × Thread). Some e.0) same
living_number n (Some first ∷ threads) (suc i) t thread is =
    living_number (suc n) threads i t thread is

-- ---- what holds of each

pub filter_all : (f g : ℕ → Bool) (xs : List ℕ) → list_all f xs ≡ true
    → list_all f (filter g xs) ≡ true
filter_all f g [] all = refl
filter_all f g (x ∷ xs) all =
    by (filter_all f g xs) (and_both (f x) (list_all f xs) all) (g x)
  where
    by : (list_all f xs ≡ true → list_all f (filter g xs) ≡ true)
        → (f x ≡ true) × (list_all f xs ≡ true) → (b : Bool)
        → list_all f (cond b (x ∷ filter g xs) (filter g xs)) ≡ true
    by rest both true = ap (λ b. b && list_all f (filter g xs)) both.0 ∙ rest both.1
    by rest both false = rest both.1

filter_map_all : (f : ℕ → Option ℕ) (P Q : ℕ → Bool)
    → ((p t : ℕ) → P p ≡ true → f p ≡ Some t → Q t ≡ true) → (xs : List ℕ)
    → list_all P xs ≡ true → list_all Q (filter_map f xs) ≡ true
filter_map_all f P Q each [] all = refl
filter_map_all f P Q each (x ∷ xs) all =
    by (filter_map_all f P Q each xs) (and_both (P x) (list_all P xs) all) (f x) refl
  where
    by : (list_all P xs ≡ true → list_all Q (filter_map f xs) ≡ true)
        → (P x ≡ true) × (list_all P xs ≡ true) → (o : Option ℕ) → f x ≡ o
        → list_all Q (filter_map f (x ∷ xs)) ≡ true
    by rest both None none =
        ap (λ o. list_all Q (cons_option o (filter_map f xs))) none ∙ rest both.1
    by rest both (Some t) some =
        ap (λ o. list_all Q (cons_option o (filter_map f xs))) some
        ∙ ap (λ k. k && list_all Q (filter_map f xs)) (each x t both.0 some) ∙ rest both.1

pub all_at : {X : Type 0} (f : X → Bool) (xs : List X) (i : ℕ) (x : X) → slice_get xs i ≡ Some x
    → list_all f xs ≡ true → f x ≡ true
all_at f [] i x is all = cc
all_at f (y ∷ ys) zero x is all =
    let same : y ≡ x = cc in
    ap f (sym same) ∙ (and_both (f y) (list_all f ys) all).0
all_at f (y ∷ ys) (suc i) x is all = all_at f ys i x is (and_both (f y) (list_all f ys) all).1

pub all_among : (f : ℕ → Bool) (xs : List ℕ) (n : ℕ) → is_among n xs ≡ true
    → list_all f xs ≡ true → f n ≡ true
all_among f [] n among all = absurd (true≢false (sym among))
all_among f (x ∷ xs) n among all =
    by (all_among f xs n) (and_both (f x) (list_all f xs) all) (x == n) refl
  where
    by : (is_among n xs ≡ true → list_all f xs ≡ true → f n ≡ true)
        → (f x ≡ true) × (list_all f xs ≡ true) → (b : Bool) → (x == n) ≡ b → f n ≡ true
    by rest both true same = ap f (sym (eqb-true x n same)) ∙ both.0
    by rest both false other = rest (or_either (x == n) (is_among n xs) among other) both.1

-- ---- threads

module _ (b : BirthTables) where
  thread_within : (t : ℕ) → t ≤ length b.homes → has_home b t ≡ true
  thread_within t within =
      or_second b.is_whole (nat_le t (length b.homes)) (le-leb t (length b.homes) within)

  pub process_within : (p : ℕ) → p ≤ length b.first_threads → has_process b p ≡ true
  process_within p within =
      or_second b.is_whole (nat_le p (length b.first_threads))
      (le-leb p (length b.first_threads) within)

  live_known : (n : ℕ) (threads : List (Option Thread))
      → n + length threads ≤ suc (length b.homes)
      → list_all (has_home b) (places_from n is_some threads) ≡ true
  live_known n [] within = refl
  live_known n (None ∷ threads) within = live_known (suc n) threads (omega (arith, within))
  live_known n (Some thread ∷ threads) within =
      ap (λ k. k && list_all (has_home b) (places_from (suc n) is_some threads))
      (thread_within n (omega (arith, within)))
      ∙ live_known (suc n) threads (omega (arith, within))

  -- ---- a birth

  place_there : {A : Type 0} (n : ℕ) (test : A → Bool) (xs : List A) (i t : ℕ)
      → slice_get (places_from n test xs) i ≡ Some t
      → (j : ℕ) × (x : A) × (t ≡ n + j) × (slice_get xs j ≡ Some x)
  place_there n test [] i t is = cc
  place_there {A} n test (x ∷ xs) i t is = by (place_there (suc n) test xs) (test x) i is
    where
      by : ((i t : ℕ) → slice_get (places_from (suc n) test xs) i ≡ Some t
          → (j : ℕ) × (x : A) × (t ≡ suc n + j) × (slice_get xs j ≡ Some x))
          → (b : Bool) → (i : ℕ)
          → slice_get (cond b (n ∷ places_from (suc n) test xs) (places_from (suc n) test xs)) i
          ≡ Some t
          → (j : ℕ) × (y : A) × (t ≡ n + j) × (slice_get (x ∷ xs) j ≡ Some y)
      by rest true zero is = let same : n ≡ t = cc in (0, x, omega (arith, same), refl)
      by rest true (suc i) is =
          let more = rest i t is in
          (suc more.0, more.1, omega (arith, more.2), more.3)
      by rest false i is =
          let more = rest i t is in
          (suc more.0, more.1, omega (arith, more.2), more.3)

  other_found : (f g : Moment → Bool) (ms : List Moment) (m : Moment) → find f ms ≡ Some m
      → g m ≡ true → (x : Moment) × (find g ms ≡ Some x)
  other_found f g [] m is holds = cc
  other_found f g (y ∷ ms) m is holds = by (other_found f g ms m) (g y) refl (f y) refl is
    where
      by : (find f ms ≡ Some m → g m ≡ true → (x : Moment) × (find g ms ≡ Some x)) → (b : Bool)
          → g y ≡ b → (k : Bool) → f y ≡ k → cond k (Some y) (find f ms) ≡ Some m
          → (x : Moment) × (cond (g y) (Some y) (find g ms) ≡ Some x)
      by rest true holds_y k its is = (y, ap (λ b. cond b (Some y) (find g ms)) holds_y)
      by rest false fails_y true its is =
          let same : y ≡ m = cc in
          absurd (true≢false (sym holds ∙ ap g (sym same) ∙ fails_y))
      by rest false fails_y false its is =
          let more = rest is holds in
          (more.0, ap (λ b. cond b (Some y) (find g ms)) fails_y ∙ more.1)

  thread_known : (noted : List Moment) → KnowsBirths b noted → (t : ℕ) (x : Moment)
      → find (is_there threads_at t) noted ≡ Some x → has_home b t ≡ true
  thread_known noted known t x is =
      let there : numbered b.homes t ≡ Some (process_of_thread (thread_at x.world t)) =
      known.homes t ∙ ap (option_map (λ m. process_of_thread (thread_at m.world t))) is in
      thread_within t (some_within b.homes t (process_of_thread (thread_at x.world t)) there)

  pub birth_known : (moments : List Moment) → AreBirthsKnown b moments → (p t : ℕ)
      → has_process b p ≡ true → birth_thread moments p ≡ Some t → has_home b t ≡ true
  birth_known moments a p t known is =
      by (birth_of a.noted p) refl
    where
      kept : flat (option_map (λ m. first_thread m.world p) (birth_of a.noted p)) ≡ Some t
      kept =
          sym (ap flat (a.known.first_threads p)) ∙ first_known b moments a p known ∙ is

      by : (o : Option Moment) → birth_of a.noted p ≡ o → has_home b t ≡ true
      by None none =
          let no : None ≡ Some t =
          sym (ap (λ o. flat (option_map (λ m. first_thread m.world p) o)) none) ∙ kept in
          cc
      by (Some m) some =
          let first : first_thread m.world p ≡ Some t =
          sym (ap (λ o. flat (option_map (λ m. first_thread m.world p) o)) some) ∙ kept in
          let place = place_there 1 (belongs_to p) m.world.threads 0 t first in
          let next : t ≡ suc place.0 = omega (arith, place.2) in
          let there : numbered m.world.threads t ≡ Some place.1 =
          ap (numbered m.world.threads) next ∙ place.3 in
          let found = other_found (λ m. is_some (numbered m.world.processes p))
          (is_there threads_at t) a.noted m some (ap (λ o. is_some o) there) in
          thread_known a.noted a.known t found.0 found.1

  -- ---- who is told of, shown or listed

  module _ (s : Session) (w : World) where
    pub told_known : (rs : List Resumption) (t : ℕ) → length w.threads ≤ length b.homes
        → is_told_of s rs w t ≡ true → has_home b t ≡ true
    told_known rs t few told = by (numbered w.threads t) refl
      where
        by : (o : Option (Option Thread)) → numbered w.threads t ≡ o → has_home b t ≡ true
        by None none =
            absurd (true≢false (sym told
            ∙ ap (λ (o : Option (Option Thread)). elim (flat o) [
              | None ↦ false
              | Some thread ↦ is_acting s rs w t thread
            ]) none))
        by (Some thread) some =
            let within = some_within w.threads t thread some in
            thread_within t (omega (arith, within, few))

    pub there_known : (p : ℕ) (process : Process) → length w.processes ≤ length b.first_threads
        → numbered w.processes p ≡ Some process → has_process b p ≡ true
    there_known p process few there =
        let within = some_within w.processes p process there in
        process_within p (omega (arith, within, few))

    given_known : (p : ℕ) → length w.processes ≤ length b.first_threads
        → is_some (numbered w.processes p) ≡ true → has_process b p ≡ true
    given_known p few there = by (numbered w.processes p) refl there
      where
        by : (o : Option Process) → numbered w.processes p ≡ o → is_some o ≡ true
            → has_process b p ≡ true
        by None none there = absurd (true≢false (sym there))
        by (Some process) some there = there_known p process few some

    live_is_given : (o : Option Process) → is_some (option_and_then holdings_of o) ≡ true
        → is_some o ≡ true
    live_is_given None live = live
    live_is_given (Some process) live = refl

    pub shown_known : (p : ℕ) → length w.processes ≤ length b.first_threads
        → has_processes b s.told ≡ true → is_shown s w p ≡ true → has_process b p ≡ true
    shown_known p few told shown = by (is_among p s.told) refl
      where
        others : Bool
        others = not s.is_told_forks && not (is_among p s.let_go) && is_process_live w p

        by : (k : Bool) → is_among p s.told ≡ k → has_process b p ≡ true
        by true among = all_among (has_process b) s.told p among told
        by false other =
            let rest = or_either (is_among p s.told) others shown other in
            let live = (and_both (not s.is_told_forks && not (is_among p s.let_go))
            (is_process_live w p) rest).1 in
            given_known p few (live_is_given (numbered w.processes p) live)

    pub standing_known : (p : ℕ) → length w.processes ≤ length b.first_threads
        → has_processes b s.told ≡ true
        → (is_shown s w p || is_some (numbered w.processes p)) ≡ true → has_process b p ≡ true
    standing_known p few told standing = by (is_shown s w p) refl
      where
        by : (k : Bool) → is_shown s w p ≡ k → has_process b p ≡ true
        by true shown = shown_known p few told shown
        by false hidden =
            given_known p few
            (or_either (is_shown s w p) (is_some (numbered w.processes p)) standing hidden)

    pub listed_known : (moments : List Moment) → AreBirthsKnown b moments
        → all_moments s.position ≡ moments → length w.threads ≤ length b.homes
        → has_processes b s.told ≡ true → has_homes b (listed_at s w) ≡ true
    listed_known moments a is few told =
        rising_all (has_home b) (shown ++ absent_threads s w)
        (list_all-append (has_home b) shown (absent_threads s w)
        ∙ ap (λ k. k && list_all (has_home b) (absent_threads s w))
        (filter_all (has_home b) (is_thread_shown s w) (live_threads w)
        (live_known 1 w.threads (omega (arith, few))))
        ∙ filter_map_all (birth_thread (all_moments s.position)) (has_process b) (has_home b)
        (birth_known (all_moments s.position) (subst (AreBirthsKnown b) (sym is) a))
        (filter (λ p. is_none (live_process w p)) s.told)
        (filter_all (has_process b) (λ p. is_none (live_process w p)) s.told told))
      where
        shown : List ℕ
        shown = filter (is_thread_shown s w) (live_threads w)
