-- The lowest child of a process: in the records, and in the processes that they stand for.
use Rattle.std.proofs.Common.{◌≡◌, ◌≢◌, ℕ, zero, suc, ◌+◌, ◌-◌, ◌<◌, ◌≤◌, Bool, true, false, cond}
use Rattle.std.proofs.Common.{List, [], ◌∷◌, map, length, get_or, slice_get, Option, Some, None}
use Rattle.std.proofs.Common.{refl, sym, ap, ◌∙◌, arith}
use Rattle.std.specs.Prelude.{◌&&◌, ◌||◌, ◌==◌, filter, position}
use Rattle.std.proofs.lemmas.Option.{slice_get-get_or}
use Rattle.std.proofs.lemmas.Bool.Decides.{nat_tests}
use Rattle.std.proofs.lemmas.List.Quantifiers.{position-Some}
use Rattle.dos_world.specs.Numbered.{places_from, numbers_of}
use Rattle.dos_world.specs.World.{Process, first_of, has_ended, is_child}
use Rattle.dos_world.specs.ProcessCalls.{any_process}
use Rattle.space_map.specs.Mapping.{Mapping}
use Rattle.proc_table.specs.Children.{children_in}
use Rattle.proc_table.specs.Places.{holdings_in, process_by, processes_shown, is_child_record}
use Rattle.proc_table.specs.Places.{first_child}
use Rattle.proc_table.specs.Links.{passes, passes_at}
use Rattle.proc_table.specs.declared.record.Belongings.{Belongings}
use Rattle.proc_table.specs.declared.record.Kept.{Kept}
use Rattle.proc_table.specs.declared.record.Kept.TheVariants.{Live, Ended}
use Rattle.proc_table.specs.declared.record.Record.{Record}
use Rattle.proc_table.proofs.Places.{none_passes}

-- whether a number names another, where 0 names all
abbrev pub names : ℕ → ℕ → Bool
names which p = (which == 0) || (which == p)

names_all : (ps : List ℕ) → filter (names 0) ps ≡ ps
names_all [] = refl
names_all (p ∷ ps) = ap (λ qs. p ∷ qs) (names_all ps)

names_it : (which p : ℕ) → which ≡ p → names which p ≡ true
names_it which p same = grind (arith, nat_tests)

names_no_other : (which p : ℕ) → 0 < which → which ≢ p → names which p ≡ false
names_no_other which p some other = grind (arith, nat_tests)

module _ {A : Type 0} (test : A → Bool) where
  first_at : (n i : ℕ) (xs : List A) (d : A) → i < length xs → test (get_or xs i d) ≡ true
      → ((k : ℕ) → k < i → test (get_or xs k d) ≡ false)
      → first_of (places_from n test xs) ≡ Some (n + i)
  first_at n i [] d h here below = absurd (omega arith)
  first_at n zero (x ∷ xs) d h here below =
      ap (λ b. first_of (cond b (n ∷ places_from (suc n) test xs) (places_from (suc n) test xs)))
      here ∙ ap (λ k. Some k) (omega arith)
  first_at n (suc i) (x ∷ xs) d h here below =
      ap (λ b. first_of (cond b (n ∷ places_from (suc n) test xs) (places_from (suc n) test xs)))
      (below 0 (omega arith))
      ∙ first_at (suc n) i xs d (omega arith) here (λ k l. below (suc k) (omega arith))
      ∙ ap (λ k. Some k) (omega arith)

  none_at : (n : ℕ) (xs : List A) (d : A) → ((k : ℕ) → k < length xs → test (get_or xs k d) ≡ false)
      → places_from n test xs ≡ []
  none_at n [] d none = refl
  none_at n (x ∷ xs) d none =
      ap (λ b. cond b (n ∷ places_from (suc n) test xs) (places_from (suc n) test xs))
      (none 0 (omega arith)) ∙ none_at (suc n) xs d (λ k l. none (suc k) (omega arith))

  -- nothing below the first number is named
  none_below : (n which : ℕ) (xs : List A) → 0 < which → which < n
      → filter (names which) (places_from n test xs) ≡ []
  none_below n which [] some below = refl
  none_below n which (x ∷ xs) some below =
      elim (test x) as (λ b.
      filter (names which)
      (cond b (n ∷ places_from (suc n) test xs) (places_from (suc n) test xs)) ≡ []) [
        | true ↦ ap (λ b. cond b (n ∷ filter (names which) (places_from (suc n) test xs))
            (filter (names which) (places_from (suc n) test xs)))
            (names_no_other which n some (λ e. omega arith))
            ∙ none_below (suc n) which xs some (omega arith)
        | false ↦ none_below (suc n) which xs some (omega arith)
      ]

  -- the one that is named, where it passes
  abbrev if_passes : ℕ → Option A → Option ℕ
  if_passes which None = None
  if_passes which (Some x) = cond (test x) (Some which) None

  named_at : (n i which : ℕ) (xs : List A) → 0 < which → n + i ≡ which
      → first_of (filter (names which) (places_from n test xs)) ≡ if_passes which (slice_get xs i)
  named_at n i which [] some at = refl
  named_at n zero which (x ∷ xs) some at =
      elim (test x) as (λ b.
      first_of (filter (names which)
      (cond b (n ∷ places_from (suc n) test xs) (places_from (suc n) test xs)))
      ≡ cond b (Some which) None) [
        | true ↦ ap (λ b. first_of
            (cond b (n ∷ filter (names which) (places_from (suc n) test xs))
            (filter (names which) (places_from (suc n) test xs))))
            (names_it which n (omega arith)) ∙ ap (λ k. Some k) (omega arith)
        | false ↦ ap (first_of {A = ℕ}) (none_below (suc n) which xs some (omega arith))
      ]
  named_at n (suc i) which (x ∷ xs) some at =
      elim (test x) as (λ b.
      first_of (filter (names which)
      (cond b (n ∷ places_from (suc n) test xs) (places_from (suc n) test xs)))
      ≡ if_passes which (slice_get xs i)) [
        | true ↦ ap (λ b. first_of
            (cond b (n ∷ filter (names which) (places_from (suc n) test xs))
            (filter (names which) (places_from (suc n) test xs))))
            (names_no_other which n some (λ e. omega arith))
            ∙ named_at (suc n) i which xs some (omega arith)
        | false ↦ named_at (suc n) i which xs some (omega arith)
      ]

  -- the element of a number is there, and passes
  abbrev pub Passes : ℕ → ℕ → List A → Type 0
  Passes p n xs = (n ≤ p) × (p - n < length xs)
      × ((x : A) → slice_get xs (p - n) ≡ Some x → test x ≡ true)

  -- what is first is there, and passes
  pub first_passes : (q : ℕ → Bool) (n p : ℕ) (xs : List A)
      → first_of (filter q (places_from n test xs)) ≡ Some p → Passes p n xs
  first_passes q n p [] e = cc
  first_passes q n p (x ∷ xs) e = by (test x) refl e (first_passes q (suc n) p xs)
    where
      later : Passes p (suc n) xs → Passes p n (x ∷ xs)
      later rest =
          let one : p - n ≡ suc (p - suc n) = omega (arith, rest.0) in (
            omega (arith, rest.0),
            omega (arith, rest.0, rest.1),
            λ y is.
                rest.2 y (ap (slice_get (x ∷ xs)) (sym one) ∙ is),
          )

      by_name : (b : Bool) → test x ≡ true
          → first_of (cond b (n ∷ filter q (places_from (suc n) test xs))
          (filter q (places_from (suc n) test xs))) ≡ Some p
          → (first_of (filter q (places_from (suc n) test xs)) ≡ Some p → Passes p (suc n) xs)
          → Passes p n (x ∷ xs)
      by_name true is e rest =
          let same : n ≡ p = cc in
          let here : p - n ≡ 0 = omega arith in (
            omega arith,
            omega arith,
            λ y at. let it : Some x ≡ Some y =
                ap (slice_get (x ∷ xs)) (sym here) ∙ at in let y_is : x ≡ y = cc in
                ap test (sym y_is) ∙ is,
          )
      by_name false is e rest = later (rest e)

      by : (b : Bool) → test x ≡ b
          → first_of (filter q
          (cond b (n ∷ places_from (suc n) test xs) (places_from (suc n) test xs))) ≡ Some p
          → (first_of (filter q (places_from (suc n) test xs)) ≡ Some p → Passes p (suc n) xs)
          → Passes p n (x ∷ xs)
      by true is e rest = by_name (q n) is e rest
      by false is e rest = later (rest e)

-- ---- in the records

pub lowest_found : (asked : Bool) (parent i : ℕ) (R : List Record)
    → position (is_child_record asked parent) R ≡ Some i
    → Some (i + 1) ≡ first_child asked R parent 0
lowest_found asked parent i R e =
    let d : Record = record { parent = 0; kept = Live 0 } in
    let at = position-Some (is_child_record asked parent) R i d e in
    sym (ap (first_of {A = ℕ}) (names_all (numbers_of (is_child_record asked parent) R))
    ∙ first_at (is_child_record asked parent) 1 i R d at.0 at.1 at.2
    ∙ ap (λ k. Some k) (omega arith))

pub lowest_missing : (asked : Bool) (parent : ℕ) (R : List Record)
    → position (is_child_record asked parent) R ≡ None → None ≡ first_child asked R parent 0
lowest_missing asked parent R e =
    let d : Record = record { parent = 0; kept = Live 0 } in
    sym (ap (first_of {A = ℕ})
    (names_all (numbers_of (is_child_record asked parent) R)
    ∙ none_at (is_child_record asked parent) 1 R d
    (none_passes (is_child_record asked parent) R d e)))

-- whether the record of a number passes
passes_get : (test : Record → Bool) (R : List Record) (i : ℕ) (d : Record) → i < length R
    → passes_at test R (suc i) ≡ test (get_or R i d)
passes_get test R i d h = ap (passes test) (slice_get-get_or R i d h)

-- the first number that passes, and that none does
pub lowest_at : (asked : Bool) (parent n : ℕ) (R : List Record)
    → passes_at (is_child_record asked parent) R n ≡ true → n ≤ length R
    → ((k : ℕ) → k < n → passes_at (is_child_record asked parent) R k ≡ false)
    → Some n ≡ first_child asked R parent 0
lowest_at asked parent zero R t h below = cc
lowest_at asked parent (suc i) R t h below =
    let d : Record = record { parent = 0; kept = Live 0 } in
    let test : Record → Bool = is_child_record asked parent in
    sym (ap (first_of {A = ℕ}) (names_all (numbers_of test R))
    ∙ first_at test 1 i R d (omega arith) (sym (passes_get test R i d (omega arith)) ∙ t)
    (λ k l. sym (passes_get test R k d (omega arith)) ∙ below (suc k) (omega arith))
    ∙ ap (λ k. Some k) (omega arith))

pub lowest_nowhere : (asked : Bool) (parent : ℕ) (R : List Record)
    → ((k : ℕ) → k ≤ length R → passes_at (is_child_record asked parent) R k ≡ false)
    → None ≡ first_child asked R parent 0
lowest_nowhere asked parent R none =
    let d : Record = record { parent = 0; kept = Live 0 } in
    let test : Record → Bool = is_child_record asked parent in
    sym (ap (first_of {A = ℕ}) (names_all (numbers_of test R)
    ∙ none_at test 1 R d
    (λ k l. sym (passes_get test R k d l) ∙ none (suc k) (omega arith))))

pub named_is : (asked : Bool) (parent which : ℕ) (R : List Record) (o : Option Record) → 0 < which
    → slice_get R (which - 1) ≡ o
    → first_child asked R parent which ≡ if_passes (is_child_record asked parent) which o
named_is asked parent which R o some is =
    named_at (is_child_record asked parent) 1 (which - 1) which R some (omega arith)
    ∙ ap (if_passes (is_child_record asked parent) which) is

-- ---- in the processes

abbrev pub test_of : Bool → Process → Bool
test_of true = has_ended
test_of false = any_process

child_shown : (held : ℕ → _) (asked : Bool) (parent : ℕ) (r : Record)
    → (is_child parent (process_by held r) && test_of asked (process_by held r))
    ≡ is_child_record asked parent r
child_shown held asked parent r = by asked r.kept
  where
    by : (asked : Bool) (k : Kept)
        → (is_child parent (process_by held (record r { kept = k }))
        && test_of asked (process_by held (record r { kept = k })))
        ≡ is_child_record asked parent (record r { kept = k })
    by true (Live place) = refl
    by true (Ended status collected) = refl
    by false (Live place) = refl
    by false (Ended status collected) = refl

places_shown : {A B : Type 0} (f : A → B) (t : B → Bool) (u : A → Bool) → ((x : A) → t (f x) ≡ u x)
    → (n : ℕ) (xs : List A) → places_from n t (map f xs) ≡ places_from n u xs
places_shown f t u same n [] = refl
places_shown f t u same n (x ∷ xs) =
    ap (λ b. cond b (n ∷ places_from (suc n) t (map f xs)) (places_from (suc n) t (map f xs)))
    (same x)
    ∙ ap (λ ps. cond (u x) (n ∷ ps) ps) (places_shown f t u same (suc n) xs)

pub children_shown : (asked : Bool) (S : List Mapping) (D : List Belongings) (R : List Record)
    (parent which : ℕ)
    → first_of (children_in (test_of asked) (processes_shown S D R) parent which)
    ≡ first_child asked R parent which
unfolding processes_shown
children_shown asked S D R parent which =
    ap (λ ps. first_of (filter (names which) ps))
    (places_shown (process_by (holdings_in S D))
    (λ process. is_child parent process && test_of asked process)
    (is_child_record asked parent) (child_shown (holdings_in S D) asked parent) 1 R)
