-- What was found first in a front of a list is found first in the list.
use Rattle.std.proofs.Common.{◌≡◌, ℕ, zero, suc, ◌+◌, ◌<◌, ◌≤◌, List, [], ◌∷◌, ◌++◌, length, drop}
use Rattle.std.proofs.Common.{Bool, true, false, cond, Option, Some, None, refl, sym, ap, ◌∙◌}
use Rattle.std.proofs.Common.{arith}
use Rattle.std.proofs.Common.{append-nil, length-append, length-drop, ◌-◌}
use Rattle.std.specs.Prelude.{slice_get, find, is_some, nat_le, ◌||◌, option_map}
use Rattle.std.specs.Option.{option_or}
use Rattle.std.proofs.lemmas.Bool.{leb-true, leb-false}
use Rattle.std.proofs.lemmas.List.Folds.{find-append}
use Rattle.dos_world.specs.Numbered.{numbered, map_from}
use Rattle.debug_client.specs.Births.{rows_behind}
use Rattle.debug_client.proofs.Walked.{at_place}

-- ---- numbers

pub some_within : {A : Type 0} (xs : List A) (n : ℕ) (x : A) → numbered xs n ≡ Some x
    → n ≤ length xs
some_within xs zero x is = cc
some_within xs (suc i) x is = go xs i x is
  where
    go : {A : Type 0} (xs : List A) (i : ℕ) (x : A) → slice_get xs i ≡ Some x → suc i ≤ length xs
    go [] i x is = cc
    go (y ∷ ys) zero x is = omega arith
    go (y ∷ ys) (suc i) x is = omega (arith, go ys i x is)

pub none_beyond : {A : Type 0} (xs : List A) (n : ℕ) → n ≤ length xs → numbered xs n ≡ None
    → n ≡ 0
none_beyond xs zero within none = refl
none_beyond xs (suc i) within none =
    let here = at_place xs i (omega (arith, within)) in
    let two : Some here.0 ≡ None = sym here.1 ∙ none in
    cc

pub none_there : {A : Type 0} (xs : List A) (i : ℕ) → length xs < suc i → numbered xs (suc i) ≡ None
none_there [] i far = refl
none_there (x ∷ xs) zero far = absurd (omega (arith, far))
none_there (x ∷ xs) (suc i) far = none_there xs i (omega (arith, far))

get_front : {A : Type 0} (old more : List A) (i : ℕ) → i < length old
    → slice_get (old ++ more) i ≡ slice_get old i
get_front [] more i less = absurd (omega (arith, less))
get_front (x ∷ old) more zero less = refl
get_front (x ∷ old) more (suc i) less = get_front old more i (omega (arith, less))

pub numbered_front : {A : Type 0} (old more : List A) (n : ℕ) → n ≤ length old
    → numbered (old ++ more) n ≡ numbered old n
numbered_front old more zero within = refl
numbered_front old more (suc i) within = get_front old more i (omega (arith, within))

get_behind : {A : Type 0} (old more : List A) (j : ℕ)
    → slice_get (old ++ more) (length old + j) ≡ slice_get more j
get_behind [] more j =
    let same : 0 + j ≡ j = omega arith in ap (slice_get more) same
get_behind (x ∷ old) more j =
    let same : length (x ∷ old) + j ≡ suc (length old + j) = omega arith in
    ap (slice_get (x ∷ (old ++ more))) same ∙ get_behind old more j

get_dropped : {A : Type 0} (k : ℕ) (xs : List A) (j : ℕ)
    → slice_get (drop k xs) j ≡ slice_get xs (k + j)
get_dropped zero xs j = let same : j ≡ 0 + j = omega arith in ap (slice_get xs) same
get_dropped (suc k) [] j = refl
get_dropped (suc k) (x ∷ xs) j =
    let same : suc (k + j) ≡ suc k + j = omega arith in
    get_dropped k xs j ∙ ap (slice_get (x ∷ xs)) same

get_mapped : {A B : Type 0} (n : ℕ) (f : ℕ → A → B) (xs : List A) (j : ℕ)
    → slice_get (map_from n f xs) j ≡ option_map (f (n + j)) (slice_get xs j)
get_mapped n f [] j = refl
get_mapped n f (x ∷ xs) zero = let same : n ≡ n + 0 = omega arith in ap (λ k. Some (f k x)) same
get_mapped n f (x ∷ xs) (suc j) =
    let same : suc n + j ≡ n + suc j = omega arith in
    get_mapped (suc n) f xs j ∙ ap (λ k. option_map (f k) (slice_get xs j)) same

-- what was added has a number beyond those that were there
pub numbered_behind : {A B : Type 0} (old : List B) (f : ℕ → A → B) (xs : List A) (n : ℕ)
    → length old < n
    → numbered (old ++ rows_behind (length old) f xs) n ≡ option_map (f n) (numbered xs n)
numbered_behind old f xs zero beyond = absurd (omega (arith, beyond))
numbered_behind {A} {B} old f xs (suc i) beyond = by (i - length old) (omega (arith, beyond))
  where
    by : (j : ℕ) → i ≡ length old + j
        → slice_get (old ++ rows_behind (length old) f xs) i
        ≡ option_map (f (suc i)) (slice_get xs i)
    by j is =
        let k = length old in
        let same : 1 + k + j ≡ suc i = omega (arith, is) in
        ap (slice_get (old ++ rows_behind k f xs)) is
        ∙ get_behind old (rows_behind k f xs) j
        ∙ get_mapped (1 + k) f (drop k xs) j
        ∙ ap (λ o. option_map (f (1 + k + j)) o) (get_dropped k xs j)
        ∙ ap (λ m. option_map (f m) (slice_get xs (k + j))) same
        ∙ ap (λ m. option_map (f (suc i)) (slice_get xs m)) (sym is)

pub length_behind : {A B : Type 0} (old : List B) (f : ℕ → A → B) (xs : List A)
    → length xs ≤ length (old ++ rows_behind (length old) f xs)
length_behind old f xs =
    omega (
      arith,
      length-append old (rows_behind (length old) f xs),
      length_mapped (1 + length old) f (drop (length old) xs),
      length-drop (length old) xs,
    )
  where
    length_mapped : {A B : Type 0} (n : ℕ) (f : ℕ → A → B) (xs : List A)
        → length (map_from n f xs) ≡ length xs
    length_mapped n f [] = refl
    length_mapped n f (x ∷ xs) = ap suc (length_mapped (suc n) f xs)

-- ---- first ones

module _ {M : Type 0} (f : M → Bool) (front : List M) where
  pub first_stays : (behind : List M) (m : M) → find f front ≡ Some m
      → find f (front ++ behind) ≡ Some m
  first_stays behind m is =
      find-append f front behind ∙ ap (λ o. option_or o (find f behind)) is

  pub first_later : (behind : List M) → find f front ≡ None
      → find f (front ++ behind) ≡ find f behind
  first_later behind none =
      find-append f front behind ∙ ap (λ o. option_or o (find f behind)) none

  pub never : ((m : M) → f m ≡ false) → find f front ≡ None
  never fails = go front
    where
      go : (ms : List M) → find f ms ≡ None
      go [] = refl
      go (m ∷ ms) = ap (λ b. cond b (Some m) (find f ms)) (fails m) ∙ go ms

-- whether a list has an element of this number, at a moment
abbrev pub is_there : {M A : Type 0} → (M → List A) → ℕ → M → Bool
is_there xs_of n m = is_some (numbered (xs_of m) n)

-- A number that is kept, or any where nothing follows, was there first where it was kept.
pub same_first : {M A B : Type 0} (kept : List B) (g : M → B) (xs_of : M → List A)
    (front behind : List M) (is_whole : Bool) (n : ℕ)
    → numbered kept n ≡ option_map g (find (is_there xs_of n) front)
    → (is_whole ≡ true → behind ≡ []) → (is_whole || nat_le n (length kept)) ≡ true
    → find (is_there xs_of n) (front ++ behind) ≡ find (is_there xs_of n) front
same_first {M} kept g xs_of front behind is_whole n is ends known =
    by (find (is_there xs_of n) front) refl
  where
    unfound : find (is_there xs_of n) front ≡ None → (b : Bool) → is_whole ≡ b
        → (b || nat_le n (length kept)) ≡ true
        → find (is_there xs_of n) (front ++ behind) ≡ None
    unfound none true whole known =
        ap (λ (ms : List M). find (is_there xs_of n) (front ++ ms)) (ends whole)
        ∙ ap (find (is_there xs_of n)) (append-nil front) ∙ none
    unfound none false whole known = never_there n (none_beyond kept n
        (leb-true n (length kept) known) (is ∙ ap (option_map g) none))
      where
        never_there : (n : ℕ) → n ≡ 0 → find (is_there xs_of n) (front ++ behind) ≡ None
        never_there n zero_is =
            ap (λ k. find (is_there xs_of k) (front ++ behind)) zero_is
            ∙ never (is_there xs_of 0) (front ++ behind) (λ m. refl)

    by : (o : Option M) → find (is_there xs_of n) front ≡ o
        → find (is_there xs_of n) (front ++ behind) ≡ find (is_there xs_of n) front
    by (Some m) found = first_stays (is_there xs_of n) front behind m found ∙ sym found
    by None none = unfound none is_whole refl known ∙ sym none

-- What is kept is right with one moment more, behind which each number that it has is kept.
pub one_more : {M A B : Type 0} (old : List B) (f : ℕ → A → B) (g : M → B) (xs_of : M → List A)
    (front : List M) (m : M) (n : ℕ)
    → numbered old n ≡ option_map g (find (is_there xs_of n) front)
    → ((x : A) → numbered (xs_of m) n ≡ Some x → f n x ≡ g m)
    → numbered (old ++ rows_behind (length old) f (xs_of m)) n
    ≡ option_map g (find (is_there xs_of n) (front ++ m ∷ []))
one_more {M} {A} {B} old f g xs_of front m n is same =
    by (find (is_there xs_of n) front) refl
  where
    new : List B
    new = old ++ rows_behind (length old) f (xs_of m)

    added : (o : Option A) → numbered (xs_of m) n ≡ o
        → option_map (f n) (numbered (xs_of m) n)
        ≡ option_map g (find (is_there xs_of n) (m ∷ []))
    added None none =
        ap (option_map (f n)) none
        ∙ sym (ap (λ o. option_map g (cond (is_some o) (Some m) None)) none)
    added (Some x) some =
        ap (option_map (f n)) some ∙ ap (λ y. Some y) (same x some)
        ∙ sym (ap (λ o. option_map g (cond (is_some o) (Some m) None)) some)

    beyond : (k : ℕ) → n ≡ k → find (is_there xs_of n) front ≡ None
        → numbered new n ≡ option_map g (find (is_there xs_of n) (m ∷ []))
    beyond zero none_is none =
        ap (numbered new) none_is
        ∙ sym (ap (λ k. option_map g (find (is_there xs_of k) (m ∷ []))) none_is)
    beyond (suc i) some_is none = by_length (nat_le n (length old)) refl
      where
        by_length : (b : Bool) → nat_le n (length old) ≡ b
            → numbered new n ≡ option_map g (find (is_there xs_of n) (m ∷ []))
        by_length true within =
            let is_zero : n ≡ 0 = none_beyond old n (leb-true n (length old) within)
            (is ∙ ap (option_map g) none) in
            absurd (omega (arith, is_zero, some_is))
        by_length false far =
            numbered_behind old f (xs_of m) n (leb-false n (length old) far)
            ∙ added (numbered (xs_of m) n) refl

    by : (o : Option M) → find (is_there xs_of n) front ≡ o
        → numbered new n ≡ option_map g (find (is_there xs_of n) (front ++ m ∷ []))
    by (Some first) found =
        let was : numbered old n ≡ Some (g first) = is ∙ ap (option_map g) found in
        numbered_front old (rows_behind (length old) f (xs_of m)) n
        (some_within old n (g first) was)
        ∙ was
        ∙ sym (ap (option_map g) (first_stays (is_there xs_of n) front (m ∷ []) first found))
    by None none =
        beyond n refl none
        ∙ sym (ap (option_map g) (first_later (is_there xs_of n) front (m ∷ []) none))
