-- Processes by record and place: what the lists show, and what a change at a place, a new record or
-- an ended one does to it.
use Rattle.std.proofs.Common.{◌≡◌, ◌≢◌, ℕ, zero, suc, ◌+◌, ◌-◌, ◌<◌, ◌≤◌, Bool, true, false, cond}
use Rattle.std.proofs.Common.{List, [], ◌∷◌, ◌++◌, map, length, get_or, set, slice_get, count_by}
use Rattle.std.proofs.Common.{Option, Some, None, option_map, option_and_then, refl, sym, ap, ◌∙◌}
use Rattle.std.proofs.Common.{subst, arith, get_or-set_other, get_or-set_same}
use Rattle.std.specs.Prelude.{is_some, is_none, filter, position, nat_lt, slice_index_or}
use Rattle.std.specs.List.{position_or_len}
use Rattle.std.proofs.lemmas.List.Quantifiers.{position-Some}
use borrow.Author.Tests.{ltb-false}
use Rattle.std.proofs.lemmas.List.{length-map, map-append}
use Rattle.std.proofs.lemmas.List.Sums.{length-filter, fails_before_first}
use Rattle.std.proofs.lemmas.Option.{slice_get-get_or}
use Rattle.dos_world.specs.Numbered.{numbered, changed, changed_at}
use Rattle.dos_world.specs.World.{Process, Holdings, Life, live, holdings_of, all_holdings}
use Rattle.dos_world.specs.World.{on_holdings, live_changed}
use Rattle.dos_world.specs.Kernel.{orphaned, ended_by}
use Rattle.dos_world.specs.ProcessCalls.{collected_by}
use Rattle.space_map.specs.Mapping.{Mapping, empty}
use Rattle.proc_table.specs.Tables.{ended_process, held_in, living_process}
use Rattle.proc_table.specs.Places.{holdings_by, holdings_in, no_belongings}
use Rattle.proc_table.specs.Places.{life_by, process_by, processes_shown, place_kept}
use Rattle.proc_table.specs.Places.{place_of_record, place_in}
use Rattle.proc_table.specs.Places.{is_placed, orphan_record, status_or_0, IsHeld, AreHeld}
use Rattle.proc_table.specs.declared.record.Record.{Record}
use Rattle.proc_table.specs.declared.record.Belongings.{Belongings}
use Rattle.proc_table.specs.declared.record.Kept.{Kept}
use Rattle.proc_table.specs.declared.record.Kept.TheVariants.{Live, Ended}

-- ---- lists

get-set_other : {A : Type 0} (xs : List A) (i j : ℕ) (y : A) → j ≢ i
    → slice_get (set xs i y) j ≡ slice_get xs j
get-set_other [] i j y apart = refl
get-set_other (x ∷ xs) zero zero y apart = absurd (apart refl)
get-set_other (x ∷ xs) zero (suc j) y apart = refl
get-set_other (x ∷ xs) (suc i) zero y apart = refl
get-set_other (x ∷ xs) (suc i) (suc j) y apart =
    get-set_other xs i j y (λ e. apart (ap (λ n. suc n) e))

pub get-set_same : {A : Type 0} (xs : List A) (i : ℕ) (y : A) → i < length xs
    → slice_get (set xs i y) i ≡ Some y
get-set_same [] i y h = absurd (omega arith)
get-set_same (x ∷ xs) zero y h = refl
get-set_same (x ∷ xs) (suc i) y h = get-set_same xs i y (omega arith)

get-map : {A B : Type 0} (f : A → B) (xs : List A) (i : ℕ)
    → slice_get (map f xs) i ≡ option_map f (slice_get xs i)
get-map f [] i = refl
get-map f (x ∷ xs) zero = refl
get-map f (x ∷ xs) (suc i) = get-map f xs i

numbered-map : {A B : Type 0} (f : A → B) (xs : List A) (t : ℕ)
    → numbered (map f xs) t ≡ option_map f (numbered xs t)
numbered-map f xs zero = refl
numbered-map f xs (suc i) = get-map f xs i

-- ---- what a live process has

pub shown_length : (S : List Mapping) (D : List Belongings) (R : List Record)
    → length (processes_shown S D R) ≡ length R
unfolding processes_shown
shown_length S D R = length-map R (process_by (holdings_in S D))

pub numbered_shown : (S : List Mapping) (D : List Belongings) (R : List Record) (p : ℕ)
    → numbered (processes_shown S D R) p ≡ option_map (process_by (holdings_in S D)) (numbered R p)
unfolding processes_shown
numbered_shown S D R p = numbered-map (process_by (holdings_in S D)) R p

-- what a live process has is what stands at its place
pub held_shown : (S : List Mapping) (D : List Belongings) (R : List Record) (p : ℕ)
    → held_in (processes_shown S D R) p ≡ option_map (holdings_in S D) (place_in R p)
unfolding processes_shown
held_shown S D R p = ap (option_and_then holdings_of)
    (numbered-map (process_by (holdings_in S D)) R p) ∙ one (numbered R p)
  where
    of_kept : (k : Kept) (parent : ℕ)
        → holdings_of (record { parent = parent; life = life_by (holdings_in S D) k })
        ≡ option_map (holdings_in S D) (place_kept k)
    of_kept (Live place) parent = refl
    of_kept (Ended status collected) parent = refl

    one : (o : Option Record)
        → option_and_then holdings_of (option_map (process_by (holdings_in S D)) o)
        ≡ option_map (holdings_in S D) (option_and_then place_of_record o)
    one None = refl
    one (Some r) = of_kept r.kept r.parent

pub get_within : (R : List Record) (i : ℕ) {place : ℕ}
    → option_and_then place_of_record (slice_get R i) ≡ Some place → i < length R
get_within [] i e = cc
get_within (r ∷ R) zero e = omega arith
get_within (r ∷ R) (suc i) e = omega (arith, get_within R i e)

pub get_placed : (R : List Record) (i : ℕ) (d : Record) (place : ℕ) → i < length R
    → option_and_then place_of_record (slice_get R i) ≡ Some place → place_of_record (get_or R i d)
    ≡ Some place
get_placed [] i d place h e = absurd (omega arith)
get_placed (r ∷ R) zero d place h e = e
get_placed (r ∷ R) (suc i) d place h e = get_placed R i d place (omega arith) e

-- ---- places that are held

module _ (holders : List (Option ℕ)) (place : ℕ) where
  pub held_at : (n : ℕ) (R : List Record) (i : ℕ) → AreHeld holders n R
      → option_and_then place_of_record (slice_get R i) ≡ Some place
      → slice_get holders place ≡ Some (Some (n + i))
  held_at n [] i h e = cc
  held_at n (r ∷ R) zero h e = subst (λ (o : Option ℕ). IsHeld holders o n) e h.0
      ∙ ap (λ m. Some (Some m)) (omega arith)
  held_at n (r ∷ R) (suc i) h e = held_at (suc n) R i h.1 e ∙ ap (λ m. Some (Some m)) (omega arith)

  -- a process that holds another place holds it still
  kept_elsewhere : (x : Option ℕ) (o : Option ℕ) (n : ℕ) → slice_get holders place ≢ Some (Some n)
      → IsHeld holders o n → IsHeld (set holders place x) o n
  kept_elsewhere x None n apart h = tt
  kept_elsewhere x (Some p) n apart h =
      get-set_other holders place p x (λ e. apart (ap (slice_get holders) (sym e) ∙ h)) ∙ h

  pub all_kept : (x : Option ℕ) (n : ℕ) (R : List Record)
      → ((m : ℕ) → n ≤ m → slice_get holders place ≢ Some (Some m)) → AreHeld holders n R
      → AreHeld (set holders place x) n R
  all_kept x n [] apart h = tt
  all_kept x n (r ∷ R) apart h = (
    kept_elsewhere x (place_of_record r) n (apart n (omega arith)) h.0,
    all_kept x (suc n) R (λ m le. apart m (omega arith)) h.1,
  )

  -- a place is freed with the end of its process
  pub ended_held : (t n i : ℕ) (R : List Record) (y : Record) → n + i ≡ t
      → slice_get holders place ≡ Some (Some t) → place_of_record y ≡ None → AreHeld holders n R
      → AreHeld (set holders place None) n (set R i y)
  ended_held t n i [] y e at gone h = tt
  ended_held t n zero (r ∷ R) y e at gone h = (
    subst (λ (o : Option ℕ). IsHeld (set holders place None) o n) (sym gone) tt,
    all_kept None (suc n) R (λ m le is. not_above m le (sym at ∙ is)) h.1,
  )
    where
      not_above : (m : ℕ) → suc n ≤ m → Some (Some t) ≡ Some (Some m) → ⊥
      not_above m le is = let same : t ≡ m = cc in omega arith
  ended_held t n (suc i) (r ∷ R) y e at gone h = (
    kept_elsewhere None (place_of_record r) n (λ is. not_here (sym at ∙ is)) h.0,
    ended_held t (suc n) i R y (omega arith) at gone h.1,
  )
    where
      not_here : Some (Some t) ≡ Some (Some n) → ⊥
      not_here is = let same : t ≡ n = cc in omega arith

pub orphans_held : (holders : List (Option ℕ)) (p n : ℕ) (R : List Record) → AreHeld holders n R
    → AreHeld holders n (map (orphan_record p) R)
orphans_held holders p n [] h = tt
orphans_held holders p n (r ∷ R) h = (h.0, orphans_held holders p (suc n) R h.1)

pub held_pushed : (holders : List (Option ℕ)) (n : ℕ) (R : List Record) (r : Record)
    → AreHeld holders n R → IsHeld holders (place_of_record r) (n + length R)
    → AreHeld holders n (R ++ r ∷ [])
held_pushed holders n [] r h is = (subst (IsHeld holders (place_of_record r)) (omega arith) is, tt)
held_pushed holders n (x ∷ R) r h is = (
  h.0,
  held_pushed holders (suc n) R r h.1
      (subst (IsHeld holders (place_of_record r)) (omega arith) is),
)

-- ---- what stands at a place changes

module _ (old new : ℕ → Holdings) (holders : List (Option ℕ)) (place : ℕ) (others : (p : ℕ)
    → p ≢ place → new p ≡ old p) where
  same_life : (k : Kept) (n : ℕ) → slice_get holders place ≢ Some (Some n)
      → IsHeld holders (place_kept k) n → life_by new k ≡ life_by old k
  same_life (Live p) n apart h =
      ap (λ x. live x) (others p (λ e. apart (ap (slice_get holders) (sym e) ∙ h)))
  same_life (Ended status collected) n apart h = refl

  same_process : (r : Record) (n : ℕ) → slice_get holders place ≢ Some (Some n)
      → IsHeld holders (place_of_record r) n → process_by new r ≡ process_by old r
  same_process r n apart h =
      ap (λ (l : Life). let p : Process = record { parent = r.parent; life = l } in p)
      (same_life r.kept n apart h)

  pub same_processes : (n : ℕ) (R : List Record)
      → ((m : ℕ) → n ≤ m → slice_get holders place ≢ Some (Some m)) → AreHeld holders n R
      → map (process_by new) R ≡ map (process_by old) R
  same_processes n [] apart h = refl
  same_processes n (r ∷ R) apart h =
      ap (λ p. p ∷ map (process_by new) R) (same_process r n (apart n (omega arith)) h.0)
      ∙ ap (λ ps. process_by old r ∷ ps)
      (same_processes (suc n) R (λ m le. apart m (omega arith)) h.1)

  pub changed_process : (f : Holdings → Holdings) (t n i : ℕ) (R : List Record) → n + i ≡ t
      → new place ≡ f (old place) → slice_get holders place ≡ Some (Some t) → AreHeld holders n R
      → option_and_then place_of_record (slice_get R i) ≡ Some place
      → map (process_by new) R ≡ changed_at (on_holdings f) (map (process_by old) R) i
  changed_process f t n i [] e is at h here = cc
  changed_process f t n zero (r ∷ R) e is at h here =
      ap (λ (l : Life). let p : Process = record { parent = r.parent; life = l } in
      p ∷ map (process_by new) R) (changed_life r.kept here)
      ∙ ap (λ ps. on_holdings f (process_by old r) ∷ ps)
      (same_processes (suc n) R (λ m le s. not_above m le (sym at ∙ s)) h.1)
    where
      not_above : (m : ℕ) → suc n ≤ m → Some (Some t) ≡ Some (Some m) → ⊥
      not_above m le s = let same : t ≡ m = cc in omega arith

      changed_life : (k : Kept) → place_kept k ≡ Some place
          → life_by new k ≡ live_changed f (life_by old k)
      changed_life (Live p) h = let same : p ≡ place = cc in
          ap (λ q. live (new q)) same ∙ ap (λ x. live x) is ∙ ap (λ q. live (f (old q))) (sym same)
      changed_life (Ended status collected) h = cc
  changed_process f t n (suc i) (r ∷ R) e is at h here =
      ap (λ p. p ∷ map (process_by new) R) (same_process r n (λ s. not_here (sym at ∙ s)) h.0)
      ∙ ap (λ ps. process_by old r ∷ ps)
      (changed_process f t (suc n) i R (omega arith) is at h.1 here)
    where
      not_here : Some (Some t) ≡ Some (Some n) → ⊥
      not_here s = let same : t ≡ n = cc in omega arith

-- ---- counts

-- the live processes are those with a place
pub holdings_count : (S : List Mapping) (D : List Belongings) (R : List Record)
    → length (all_holdings (processes_shown S D R)) ≡ count_by is_placed R
unfolding processes_shown
holdings_count S D R = by R ∙ length-filter is_placed R
  where
    step : (k : Kept) (parent : ℕ) (R : List Record) (r : Record)
        → length (all_holdings (map (process_by (holdings_in S D)) R)) ≡ length (filter is_placed R)
        → length (all_holdings
        ((let p : Process =
        record { parent = parent; life = life_by (holdings_in S D) k } in p)
        ∷ map (process_by (holdings_in S D)) R))
        ≡ length (cond (is_some (place_kept k)) (r ∷ filter is_placed R) (filter is_placed R))
    step (Live place) parent R r e = ap (λ n. suc n) e
    step (Ended status collected) parent R r e = e

    by : (R : List Record)
        → length (all_holdings (map (process_by (holdings_in S D)) R)) ≡ length (filter is_placed R)
    by [] = refl
    by (r ∷ R) = step r.kept r.parent R r (by R)

pub orphans_count : (p : ℕ) (R : List Record)
    → count_by is_placed (map (orphan_record p) R) ≡ count_by is_placed R
orphans_count p R = sym (length-filter is_placed (map (orphan_record p) R)) ∙ by R
    ∙ length-filter is_placed R
  where
    by : (R : List Record)
        → length (filter is_placed (map (orphan_record p) R)) ≡ length (filter is_placed R)
    by [] = refl
    by (r ∷ R) = elim (is_placed r) as (λ b.
        length (cond b (orphan_record p r ∷ filter is_placed (map (orphan_record p) R))
        (filter is_placed (map (orphan_record p) R)))
        ≡ length (cond b (r ∷ filter is_placed R) (filter is_placed R))) [
          | true ↦
              ap (λ n. suc n) (by R)
          | false ↦ by R
        ]

-- ---- the end of a process

pub orphans_shown : (held : ℕ → Holdings) (p : ℕ) (R : List Record)
    → map (process_by held) (map (orphan_record p) R) ≡ map (orphaned p) (map (process_by held) R)
orphans_shown held p [] = refl
orphans_shown held p (r ∷ R) =
    ap (λ x. x ∷ map (process_by held) (map (orphan_record p) R)) (one r.kept)
    ∙ ap (λ xs. orphaned p (process_by held r) ∷ xs) (orphans_shown held p R)
  where
    one : (k : Kept) → process_by held (orphan_record p (record { parent = r.parent; kept = k }))
        ≡ orphaned p (process_by held (record { parent = r.parent; kept = k }))
    one (Live place) = refl
    one (Ended status collected) = refl

pub ended_shown : (held : ℕ → Holdings) (status i : ℕ) (R : List Record) (x y : Record)
    → x ≡ get_or R i x → y ≡ record x { kept = Ended status false } → i < length R
    → map (process_by held) (set R i y) ≡ changed_at (ended_by status) (map (process_by held) R) i
ended_shown held status i [] x y e q h = absurd (omega arith)
ended_shown held status zero (r ∷ R) x y e q h =
    ap (λ v. process_by held v ∷ map (process_by held) R)
    (q ∙ ap (λ (v : Record). let w : Record = record v { kept = Ended status false } in w) e)
ended_shown held status (suc i) (r ∷ R) x y e q h =
    ap (λ ps. process_by held r ∷ ps) (ended_shown held status i R x y e q (omega arith))

-- ---- a child is collected

pub collected_shown : (held : ℕ → Holdings) (i : ℕ) (R : List Record) (x y : Record)
    → x ≡ get_or R i x → y ≡ record x { kept = Ended (status_or_0 x.kept) true } → i < length R
    → map (process_by held) (set R i y) ≡ changed_at collected_by (map (process_by held) R) i
collected_shown held i [] x y e q h = absurd (omega arith)
collected_shown held zero (r ∷ R) x y e q h =
    ap (λ v. process_by held v ∷ map (process_by held) R) q
    ∙ ap (λ p. p ∷ map (process_by held) R) (one x.kept)
    ∙ ap (λ v. collected_by (process_by held v) ∷ map (process_by held) R) e
  where
    one : (k : Kept) → process_by held (record x { kept = Ended (status_or_0 k) true })
        ≡ collected_by (process_by held (record x { kept = k }))
    one (Live place) = refl
    one (Ended status collected) = refl
collected_shown held (suc i) (r ∷ R) x y e q h =
    ap (λ ps. process_by held r ∷ ps) (collected_shown held i R x y e q (omega arith))

-- who holds no place may change
pub marked_held : (holders : List (Option ℕ)) (n i : ℕ) (R : List Record) (y : Record)
    → place_of_record y ≡ None → AreHeld holders n R → AreHeld holders n (set R i y)
marked_held holders n i [] y gone h = tt
marked_held holders n zero (r ∷ R) y gone h =
    (subst (λ (o : Option ℕ). IsHeld holders o n) (sym gone) tt, h.1)
marked_held holders n (suc i) (r ∷ R) y gone h = (h.0, marked_held holders (suc n) i R y gone h.1)

-- ---- a free place

pub none_passes : {A : Type 0} (test : A → Bool) (xs : List A) (d : A) → position test xs ≡ None
    → (k : ℕ) → k < length xs → test (get_or xs k d) ≡ false
none_passes test xs d e k h =
    fails_before_first test xs k d
    (omega (
      arith,
      ltb-false (position_or_len test xs) (length xs)
          (no (nat_lt (position_or_len test xs) (length xs)) e),
    ))
  where
    no : (b : Bool) → cond b (Some (position_or_len test xs)) None ≡ None → b ≡ false
    no true e = cc
    no false e = refl

all_held : (holders : List (Option ℕ))
    → ((k : ℕ) → k < length holders → is_none (get_or holders k None) ≡ false)
    → length (filter is_some holders) ≡ length holders
all_held [] none = refl
all_held (None ∷ holders) none = let never : true ≡ false = none 0 (omega arith) in cc
all_held (Some n ∷ holders) none =
    ap (λ n. suc n) (all_held holders (λ k h. none (suc k) (omega arith)))

-- where no place is free, all are held
pub none_free : (holders : List (Option ℕ)) → position is_none holders ≡ None
    → count_by is_some holders ≡ length holders
none_free holders e = sym (length-filter is_some holders)
    ∙ all_held holders (none_passes is_none holders None e)

pub free_place : (holders : List (Option ℕ)) (place : ℕ) → position is_none holders ≡ Some place
    → slice_get holders place ≡ Some None
free_place holders place e =
    let found = position-Some is_none holders place (Some 0) e in
    slice_get-get_or holders place (Some 0) found.0
    ∙ ap (λ o. Some o) (is_none_of (get_or holders place (Some 0)) found.1)
  where
    is_none_of : (o : Option ℕ) → is_none o ≡ true → o ≡ None
    is_none_of None e = refl
    is_none_of (Some n) e = cc

pub shown_ended : (S : List Mapping) (D : List Belongings) (p status : ℕ) (R : List Record)
    (x y : Record) → x ≡ get_or R (p - 1) x → y ≡ record x { kept = Ended status false }
    → p - 1 + 1 ≡ p → p - 1 < length R
    → processes_shown S D (map (orphan_record p) (set R (p - 1) y))
    ≡ map (orphaned p) (changed (ended_by status) (processes_shown S D R) p)
unfolding processes_shown
shown_ended S D zero status R x y read is n h = absurd (omega arith)
shown_ended S D (suc i) status R x y read is n h =
    let here : suc i - 1 ≡ i = omega arith in
    orphans_shown (holdings_in S D) (suc i) (set R (suc i - 1) y)
    ∙ ap (map (orphaned (suc i)))
    (ended_shown (holdings_in S D) status (suc i - 1) R x y read is h
    ∙ ap (λ n. changed_at (ended_by status) (map (process_by (holdings_in S D)) R) n) here)

pub shown_added : (R : List Record) (holders : List (Option ℕ)) (S : List Mapping)
    (D : List Belongings) (place parent : ℕ) (y : Mapping) (b : Belongings)
    → slice_get holders place ≡ Some None → place < length S → place < length D
    → AreHeld holders 1 R
    → processes_shown (set S place y) (set D place b)
    (R ++ record { parent = parent; kept = Live place } ∷ []) ≡ processes_shown S D R
    ++ living_process parent (holdings_by b y.entries) ∷ []
unfolding processes_shown
shown_added R holders S D place parent y b free s d held =
    let new : ℕ → Holdings = holdings_in (set S place y) (set D place b) in
    let r : Record = record { parent = parent; kept = Live place } in
    map-append (process_by new) R (r ∷ [])
    ∙ ap (λ ps. ps ++ process_by new r ∷ [])
    (same_processes (holdings_in S D) new holders place others 1 R (λ m le h. never m h) held)
    ∙ ap (λ h. map (process_by (holdings_in S D)) R ++ living_process parent h ∷ []) here
  where
    others : (q : ℕ) → q ≢ place
        → holdings_in (set S place y) (set D place b) q ≡ holdings_in S D q
    others q apart =
        ap (λ (k : Mapping). holdings_by
        (slice_index_or (set D place b) q no_belongings) k.entries)
        (get_or-set_other S place q y (empty 0) apart)
        ∙ ap (λ (c : Belongings). holdings_by c (slice_index_or S q (empty 0)).entries)
        (get_or-set_other D place q b no_belongings apart)

    here : holdings_in (set S place y) (set D place b) place ≡ holdings_by b y.entries
    here =
        ap (λ (k : Mapping). holdings_by
        (slice_index_or (set D place b) place no_belongings) k.entries)
        (get_or-set_same S place y (empty 0) s)
        ∙ ap (λ (c : Belongings). holdings_by c y.entries)
        (get_or-set_same D place b no_belongings d)

    never : (m : ℕ) → slice_get holders place ≡ Some (Some m) → ⊥
    never m h = let both : Some None ≡ Some (Some m) = sym free ∙ h in cc

pub shown_ended_more : (S : List Mapping) (D : List Belongings) (R : List Record)
    (parent status : ℕ) (collected : Bool)
    → processes_shown S D (R ++ record { parent = parent; kept = Ended status collected } ∷ [])
    ≡ processes_shown S D R ++ ended_process parent status collected ∷ []
unfolding processes_shown
shown_ended_more S D R parent status collected =
    map-append (process_by (holdings_in S D)) R
    (record { parent = parent; kept = Ended status collected } ∷ [])
