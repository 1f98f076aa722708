-- What the list of threads by number shows of those that live, and what a change among them does to
-- it.
use Rattle.std.proofs.Common.{◌≡◌, ℕ, ◌+◌, ◌<◌, ◌≤◌, Bool, false, List, [], ◌∷◌, ◌++◌, map, length}
use Rattle.std.proofs.Common.{get_or, set, slice_get, Option, Some, None, option_map, IsSome, refl}
use Rattle.std.proofs.Common.{sym, ap, ◌∙◌, subst, arith, length-set, length-append}
use Rattle.std.specs.Prelude.{◌==◌, nat_le, nat_lt, not, ◌||◌, find, filter, is_some}
use Rattle.std.specs.List.{remove}
use Rattle.std.proofs.lemmas.List.{get_or_read, length-map}
use Rattle.std.proofs.lemmas.List.Edits.{length-remove}
use Rattle.std.proofs.lemmas.List.Sums.{length-filter, count_by-le-length}
use Rattle.std.proofs.lemmas.Option.{slice_get-get_or}
use Rattle.std.proofs.lemmas.Bool.Decides.{nat_tests}
use Rattle.dos_world.specs.Numbered.{changed, numbers_of}
use Rattle.dos_world.specs.World.{Thread, belongs_to, first_of, none_of}
use Rattle.dos_world.specs.Kernel.{unless_of}
use Rattle.dos_world.specs.ThreadCalls.{are_threads_full}
use Rattle.proc_table.specs.Tables.{thread_in, next_in}
use Rattle.proc_table.specs.Spread.{live_in, spread, AreRising, IsSpreadKept, no_thread_entry}
use Rattle.proc_table.specs.Spread.{living_from}
use Rattle.proc_table.specs.Spread.{IsThreadAt, IsGapForThread, IsGapAbove}
use Rattle.proc_table.proofs.Spread.{living_spread}
use Rattle.proc_table.proofs.Spread.{from_low, rising_set, rising_push, rising_remove}
use Rattle.proc_table.proofs.Spread.{rising_filter, spread_at, spread_length, spread_changed}
use Rattle.proc_table.proofs.Spread.{spread_mapped, spread_pushed, numbers_spread, in_at, in_gap}
use Rattle.proc_table.proofs.Spread.{in_set_here, in_set_other, in_removed_here, in_removed_other}
use Rattle.proc_table.proofs.Spread.{in_filtered, first_found, next_found, kept_all}

-- a place among the entries as a function is lent them
pub at_in : {es live : List (ℕ × Thread)} {t place : ℕ} → es ≡ live → IsThreadAt es t place
    → IsThreadAt live t place
at_in {es} {live} {t} {place} e at = subst (λ xs. IsThreadAt xs t place) e at

pub gap_in : {es live : List (ℕ × Thread)} {t place : ℕ} → es ≡ live → IsGapForThread es t place
    → IsGapForThread live t place
gap_in {es} {live} {t} {place} e gap = subst (λ xs. IsGapForThread xs t place) e gap

pub above_in : {es live : List (ℕ × Thread)} {t place : ℕ} → es ≡ live → IsGapAbove es t place
    → IsGapAbove live t place
above_in {es} {live} {t} {place} e gap = subst (λ xs. IsGapAbove xs t place) e gap

module _ {live : List (ℕ × Thread)} {given capacity : ℕ} {now : List (Option Thread)}
    (shown : spread live given ≡ now) (kept : IsSpreadKept live given capacity) where
  shown_at : (t : ℕ) → thread_in now t ≡ live_in live t
  shown_at t = subst (λ ts. thread_in ts t ≡ live_in live t) shown
      (spread_at live given t kept.rising)

  -- those that live, by their places
  pub living_shown : living_from 1 now ≡ live
  living_shown = ap (living_from 1) (sym shown) ∙ living_spread live given kept.rising

  pub living_within : {place : ℕ} → place < length (living_from 1 now) → place < length live
  living_within h = omega (arith, ap (λ (es : List (ℕ × Thread)). length es) living_shown, h)

  pub living_at : {place : ℕ} {x : ℕ × Thread} → place < length (living_from 1 now)
      → x ≡ get_or live place x → slice_get (living_from 1 now) place ≡ Some x
  living_at {place} {x} h read = ap (λ (es : List (ℕ × Thread)). slice_get es place) living_shown
      ∙ slice_get-get_or live place x (living_within h) ∙ ap (λ y. Some y) (sym read)

  pub lives : (t : ℕ) → IsSome (thread_in now t) → IsSome (live_in live t)
  lives t h = subst (λ (o : Option Thread). IsSome o) (shown_at t) h

  -- the same of the entries as a function is lent them
  pub lives_in : {es : List (ℕ × Thread)} (t : ℕ) → es ≡ live → IsSome (thread_in now t)
      → IsSome (live_in es t)
  lives_in t e h = subst (λ xs. IsSome (live_in xs t)) (sym e) (lives t h)

  pub few_in : {es : List (ℕ × Thread)} → es ≡ live → length es ≤ 64
  few_in e = omega (arith, kept.few, ap (λ (xs : List (ℕ × Thread)). length xs) e)

  pub stands : {t place : ℕ} → IsThreadAt live t place
      → thread_in now t ≡ Some (get_or live place no_thread_entry).1
  stands {t} {place} at = shown_at t ∙ in_at 1 (given + 1) live t place kept.rising at

  -- what stands at the place of a live thread
  pub reads : {t place : ℕ} {x : ℕ × Thread} → IsThreadAt live t place → x ≡ get_or live place x
      → thread_in now t ≡ Some x.1
  reads {t} {place} {x} at read =
      stands at ∙ ap (λ (e : ℕ × Thread). Some e.1)
      (sym (get_or_read live place x at.within read no_thread_entry))

  -- a search that ends in a gap
  pub gone : {t place : ℕ} → IsGapForThread live t place → thread_in now t ≡ None
  gone {t} {place} gap = shown_at t ∙ in_gap live t place gap

  pub count_shown : (test : Option Thread → Bool) → test None ≡ false
      → numbers_of test now ≡ map (λ e. e.0) (filter (λ e. test (Some e.1)) live)
  count_shown test none =
      ap (numbers_of test) (sym shown) ∙ numbers_spread test live given none kept.rising

  pub length_shown : length now ≡ given
  length_shown = ap (λ ts. length ts) (sym shown) ∙ spread_length live given

  pub living : length (numbers_of is_some now) ≡ length live
  living = ap (λ ns. length ns) (count_shown is_some refl ∙ ap (map (λ e. e.0)) (kept_all live))
      ∙ length-map live (λ e. e.0)

  -- how many threads a process has
  pub belonging : (p : ℕ)
      → length (numbers_of (belongs_to p) now) ≡ length (filter (λ e. e.1.process == p) live)
  belonging p = ap (λ ns. length ns) (count_shown (belongs_to p) refl)
      ∙ length-map (filter (λ e. belongs_to p (Some e.1)) live) (λ e. e.0)

  pub first_shown : (p : ℕ)
      → first_of (numbers_of (belongs_to p) now)
      ≡ option_map (λ e. e.0) (find (λ e. e.1.process == p) live)
  first_shown p = ap first_of (count_shown (belongs_to p) refl)
      ∙ first_found (λ e. e.1.process == p) live

  pub next_shown : {after place : ℕ} → IsGapAbove live after place
      → next_in now after ≡ option_map (λ e. e.0) (slice_get live place)
  next_shown {after} {place} gap =
      ap (find (nat_lt after)) (count_shown is_some refl ∙ ap (map (λ e. e.0)) (kept_all live))
      ∙ next_found live after place gap

  pub full_shown : are_threads_full now ≡ (nat_le 64 (length live) || nat_le 65535 given)
  full_shown = ap (λ n. nat_le 64 n || nat_le 65535 (length now)) living
      ∙ ap (λ n. nat_le 64 (length live) || nat_le 65535 n) length_shown

  -- where another thread can be made, there is room for it
  pub room_left : are_threads_full now ≡ false → (length live < 64) × (given < 65535)
  room_left h = by (length live) given (sym full_shown ∙ h)
    where
      by : (a b : ℕ) → (nat_le 64 a || nat_le 65535 b) ≡ false → (a < 64) × (b < 65535)
      by a b h = grind (arith, nat_tests)

  -- ---- changes

  starts_above : {t place : ℕ} → IsThreadAt live t place → 1 ≤ t
  starts_above {t} {place} at =
      omega (arith, at.is, from_low 1 (given + 1) live place kept.rising at.within)

  number_read : {t place : ℕ} {x : ℕ × Thread} → IsThreadAt live t place → x ≡ get_or live place x
      → x.0 ≡ t
  number_read {t} {place} {x} at read =
      ap (λ (e : ℕ × Thread). e.0) (get_or_read live place x at.within read no_thread_entry) ∙ at.is

  -- a thread written at its place
  pub written : (f : Thread → Thread) {t place : ℕ} {x y : ℕ × Thread} → IsThreadAt live t place
      → x ≡ get_or live place x → y ≡ (x.0, f x.1)
      → spread (set live place y) given ≡ changed (option_map f) now t
  written f {t} {place} {x} {y} at read is =
      let number : y.0 ≡ t = ap (λ (e : ℕ × Thread). e.0) is ∙ number_read at read in
      let was : live_in live t ≡ Some x.1 = sym (shown_at t) ∙ reads at read in
      let here : live_in (set live place y) t ≡ option_map f (live_in live t) =
      in_set_here 1 (given + 1) live t place y kept.rising at number
      ∙ ap (λ (e : ℕ × Thread). Some e.1) is ∙ ap (option_map f) (sym was) in
      spread_changed (option_map f) live (set live place y) given t (starts_above at)
      (λ m apart. in_set_other live t place m y at number apart) here
      ∙ ap (λ ts. changed (option_map f) ts t) shown

  pub kept_set : (y : ℕ × Thread) {t place : ℕ} {x : ℕ × Thread} {same : ℕ}
      → IsThreadAt live t place
      → x ≡ get_or live place x → y.0 ≡ x.0 → same ≡ capacity
      → IsSpreadKept (set live place y) given same
  kept_set y {t} {place} {x} {same} at read is c = record {
    rising = rising_set 1 (given + 1) live place y kept.rising at.within
        (is ∙ number_read at read ∙ sym at.is);
    few = omega (arith, kept.few, length-set live place y);
    numbers = kept.numbers;
    taken = omega (arith, kept.taken);
  }

  pub pushed : (x : Thread) → spread (live ++ (given + 1, x) ∷ []) (given + 1) ≡ now ++ Some x ∷ []
  pushed x = spread_pushed live given x kept.rising ∙ ap (λ ts. ts ++ Some x ∷ []) shown

  pub kept_push : (x : Thread) {new : List (ℕ × Thread)} {grown : ℕ} → are_threads_full now ≡ false
      → new ≡ live ++ (given + 1, x) ∷ [] → capacity ≤ grown → IsSpreadKept new (given + 1) grown
  kept_push x {new} {grown} room is c =
      let left = room_left room in
      record {
        rising = subst (AreRising 1 (given + 1 + 1)) (sym is)
            (rising_push 1 (given + 1) live x (omega arith) kept.rising);
        few = omega (
          arith,
          left.0,
          ap (λ (es : List (ℕ × Thread)). length es) is,
          length-append live ((given + 1, x) ∷ []),
        );
        numbers = omega (arith, left.1);
        taken = omega (arith, kept.taken);
      }

  pub removed : {t place : ℕ} {new : List (ℕ × Thread)} → IsThreadAt live t place
      → new ≡ remove live place → spread new given ≡ changed none_of now t
  removed {t} {place} {new} at is =
      ap (λ es. spread es given) is
      ∙ spread_changed none_of live (remove live place) given t (starts_above at)
      (λ m apart. in_removed_other live t place m at apart)
      (in_removed_here 1 (given + 1) live t place kept.rising at)
      ∙ ap (λ ts. changed none_of ts t) shown

  pub kept_remove : {t place : ℕ} {new : List (ℕ × Thread)} {same : ℕ} → IsThreadAt live t place
      → new ≡ remove live place → same ≡ capacity → IsSpreadKept new given same
  kept_remove {t} {place} {new} {same} at is c = record {
    rising = subst (AreRising 1 (given + 1)) (sym is)
        (rising_remove 1 (given + 1) live place at.within kept.rising);
    few = omega (
      arith,
      kept.few,
      ap (λ (es : List (ℕ × Thread)). length es) is,
      length-remove live place at.within,
    );
    numbers = kept.numbers;
    taken = omega (arith, kept.taken);
  }

  pub filtered : (p : ℕ) {new : List (ℕ × Thread)} → new ≡ filter (λ e. not (e.1.process == p)) live
      → spread new given ≡ map (unless_of p) now
  filtered p {new} is =
      ap (λ es. spread es given) is
      ∙ spread_mapped (unless_of p) live (filter (λ e. not (e.1.process == p)) live) given
      (λ m. in_filtered p 1 (given + 1) live m kept.rising)
      ∙ ap (map (unless_of p)) shown

  pub kept_filter : (p : ℕ) {new : List (ℕ × Thread)} {same : ℕ}
      → new ≡ filter (λ e. not (e.1.process == p)) live → same ≡ capacity
      → IsSpreadKept new given same
  kept_filter p {new} {same} is c = record {
    rising = subst (AreRising 1 (given + 1)) (sym is)
        (rising_filter (λ e. not (e.1.process == p)) 1 (given + 1) live kept.rising);
    few = omega (
      arith,
      kept.few,
      ap (λ (es : List (ℕ × Thread)). length es) is,
      length-filter (λ e. not (e.1.process == p)) live,
      count_by-le-length (λ e. not (e.1.process == p)) live,
    );
    numbers = kept.numbers;
    taken = omega (arith, kept.taken);
  }
