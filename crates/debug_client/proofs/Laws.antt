-- What is known of births stays known, and of which processes and moments it is.
use Rattle.std.proofs.Common.{◌≡◌, ℕ, zero, suc, ◌+◌, ◌≤◌, List, [], ◌∷◌, ◌++◌, length}
use Rattle.std.proofs.Common.{Bool, true, false, cond, Option, Some, refl, sym, ap, ◌∙◌}
use Rattle.std.proofs.Common.{arith, filter, append-nil}
use Rattle.std.specs.Prelude.{slice_get, find, is_some, nat_le, not, ◌&&◌, ◌||◌, ◌==◌, option_map}
use Rattle.std.proofs.lemmas.Bool.{true≢false, le-leb, leb-true}
use Rattle.std.proofs.lemmas.List.Folds.{list_all-append}
use Rattle.dos_world.specs.Numbered.{numbered, run_of}
use Rattle.dos_world.specs.World.{World, first_thread, thread_at}
use Rattle.group_moves.specs.Moments.{Moment}
use Rattle.kernel_calls.specs.StateWorld.{world_of, sent}
use Rattle.kernel_calls.specs.declared.state.State.{State}
use Rattle.debug_client.specs.Births.{BirthTables, KnowsBirths, AreBirthsKnown, HasNoted, Grows}
use Rattle.debug_client.specs.Births.{has_process, has_home, has_processes, process_of_thread}
use Rattle.debug_client.specs.Births.{image_behind}
use Rattle.debug_client.proofs.Tests.{and_both, or_second}
use Rattle.debug_client.proofs.Walked.{at_place}
use Rattle.debug_client.proofs.Fronts.{is_there, some_within}
use Rattle.debug_client.proofs.Known.{threads_at, processes_at}
pub use Rattle.debug_client.proofs.Listed.{process_within}
use Rattle.debug_client.proofs.Listed.{filter_all}

-- ---- the moments that were noted are a front of all

pub front_known : (b : BirthTables) (noted later : List Moment) → KnowsBirths b noted
    → b.is_whole ≡ false → AreBirthsKnown b (noted ++ later)
front_known b noted later known not_whole = record {
  noted = noted;
  later = later;
  front = refl;
  known = known;
  whole = λ whole. absurd (true≢false (sym whole ∙ not_whole));
}

pub all_known : (b : BirthTables) (noted : List Moment) → KnowsBirths b noted
    → AreBirthsKnown b noted
all_known b noted known = record {
  noted = noted;
  later = [];
  front = sym (append-nil noted);
  known = known;
  whole = λ whole. refl;
}

-- ---- a moment that was noted

found_at : (f : Moment → Bool) (ms : List Moment) (i : ℕ) (m : Moment) → slice_get ms i ≡ Some m
    → f m ≡ true → (x : Moment) × (find f ms ≡ Some x)
found_at f [] i m is holds = cc
found_at f (y ∷ ms) zero m is holds =
    let same : y ≡ m = cc in
    (y, ap (λ b. cond b (Some y) (find f ms)) (ap f same ∙ holds))
found_at f (y ∷ ms) (suc i) m is holds = by (found_at f ms i m is holds) (f y) refl
  where
    by : (x : Moment) × (find f ms ≡ Some x) → (b : Bool) → f y ≡ b
        → (x : Moment) × (cond (f y) (Some y) (find f ms) ≡ Some x)
    by rest true passes = (y, ap (λ b. cond b (Some y) (find f ms)) passes)
    by rest false fails = (rest.0, ap (λ b. cond b (Some y) (find f ms)) fails ∙ rest.1)

-- what is kept of each number that is there at a moment
kept_all : {A B : Type 0} (kept : List B) (xs_of : Moment → List A) (g : ℕ → Moment → B)
    (noted : List Moment) (i : ℕ) (m : Moment)
    → ((n : ℕ) → numbered kept n ≡ option_map (g n) (find (is_there xs_of n) noted))
    → slice_get noted i ≡ Some m → length (xs_of m) ≤ length kept
kept_all {A} kept xs_of g noted i m known is = by (length (xs_of m)) refl
  where
    by : (n : ℕ) → length (xs_of m) ≡ n → n ≤ length kept
    by zero many = omega arith
    by (suc k) many =
        let here = at_place (xs_of m) k (omega (arith, many)) in
        let found = found_at (is_there xs_of (suc k)) noted i m is
        (ap (λ (o : Option A). is_some o) here.1) in
        some_within kept (suc k) (g (suc k) found.0)
        (known (suc k) ∙ ap (option_map (g (suc k))) found.1)

pub noted_there : (b : BirthTables) (noted : List Moment) (i : ℕ) (m : Moment) (s : State) (q : ℕ)
    (output error : List ℕ) → KnowsBirths b noted → slice_get noted i ≡ Some m
    → m.world ≡ sent output error (world_of q s) → HasNoted b s
noted_there b noted i m s q output error known is world =
    let processes : length m.world.processes ≡ length s.table.processes =
    ap (λ (w : World). length w.processes) world in
    let threads : length m.world.threads ≡ length s.table.threads =
    ap (λ (w : World). length w.threads) world in
    record {
      images = omega (
        arith,
        processes,
        kept_all b.image_numbers processes_at (λ p m. image_behind b.images noted p) noted i m
            known.images is,
      );
      first_threads = omega (
        arith,
        processes,
        kept_all b.first_threads processes_at (λ p m. first_thread m.world p) noted i m
            known.first_threads is,
      );
      homes = omega (
        arith,
        threads,
        kept_all b.homes threads_at (λ t m. process_of_thread (thread_at m.world t)) noted i m
            known.homes is,
      );
    }

-- ---- what is known stays known

known_longer : (old new : Bool) (n few many : ℕ) → (old ≡ true → new ≡ true) → few ≤ many
    → (old || nat_le n few) ≡ true → (new || nat_le n many) ≡ true
known_longer true new n few many whole more known = ap (λ b. b || nat_le n many) (whole refl)
known_longer false new n few many whole more known =
    let within = leb-true n few known in
    or_second new (nat_le n many) (le-leb n many (omega (arith, within, more)))

module _ (old new : BirthTables) (g : Grows old new) where
  pub process_stays : (p : ℕ) → has_process old p ≡ true → has_process new p ≡ true
  process_stays p known =
      known_longer old.is_whole new.is_whole p (length old.first_threads)
      (length new.first_threads) g.whole g.first_threads known

  pub home_stays : (t : ℕ) → has_home old t ≡ true → has_home new t ≡ true
  home_stays t known =
      known_longer old.is_whole new.is_whole t (length old.homes) (length new.homes) g.whole g.homes
      known

  pub processes_stay : (ps : List ℕ) → has_processes old ps ≡ true → has_processes new ps ≡ true
  processes_stay [] known = refl
  processes_stay (p ∷ ps) known =
      let both = and_both (has_process old p) (has_processes old ps) known in
      ap (λ b. b && has_processes new ps) (process_stays p both.0) ∙ processes_stay ps both.1

-- ---- the processes that were told of

module _ (b : BirthTables) where
  pub run_within : (n count : ℕ) → n + count ≤ suc (length b.first_threads)
      → has_processes b (run_of n count) ≡ true
  run_within n zero within = refl
  run_within n (suc count) within =
      ap (λ k. k && has_processes b (run_of (suc n) count))
      (process_within b n (omega (arith, within)))
      ∙ run_within (suc n) count (omega (arith, within))

  -- one more was told of
  pub born_within : (told : List ℕ) (p : ℕ) → has_processes b told ≡ true
      → has_process b p ≡ true → has_processes b (told ++ p ∷ []) ≡ true
  born_within told p known born =
      list_all-append (has_process b) told (p ∷ [])
      ∙ ap (λ k. k && (has_process b p && true)) known
      ∙ ap (λ k. k && true) born

  -- one was let go
  pub others_within : (told : List ℕ) (p : ℕ) → has_processes b told ≡ true
      → has_processes b (filter (λ k. not (k == p)) told) ≡ true
  others_within told p known = filter_all (has_process b) (λ k. not (k == p)) told known
