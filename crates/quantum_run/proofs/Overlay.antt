-- Own pages before lent ones.
use Rattle.std.proofs.Common.{ℕ, zero, suc, ◌<◌, ◌≡◌, refl, sym, ap, ◌∙◌, subst, true, List, []}
use Rattle.std.proofs.Common.{◌∷◌, length, map, set, slice_get, is_some, Option, Some, None, arith}
use Rattle.std.specs.Prelude.{slice_index_or, IsSome}
use Rattle.quantum_run.specs.Pages.{is_here, overlay}

pub here-page : (pages : List (Option (List ℕ))) (f : ℕ) → is_here pages f ≡ true
    → (page : List ℕ) × (slice_get pages f ≡ Some (Some page))
here-page [] f h = absurd (grind arith)
here-page (None ∷ pages) zero h = absurd (grind arith)
here-page (Some page ∷ pages) zero h = (page, refl)
here-page (x ∷ pages) (suc f) h = here-page pages f h

pub here-within : (pages : List (Option (List ℕ))) (f : ℕ) → is_here pages f ≡ true
    → f < length pages
here-within [] f h = absurd (grind arith)
here-within (x ∷ pages) zero h = omega arith
here-within (x ∷ pages) (suc f) h = let rest = here-within pages f h in omega arith

pub here-set : (pages : List (Option (List ℕ))) (g : ℕ) (page : List ℕ) (f : ℕ)
    → is_here pages f ≡ true → is_here (set pages g (Some page)) f ≡ true
here-set [] g page f h = absurd (grind arith)
here-set (x ∷ pages) zero page zero h = refl
here-set (x ∷ pages) zero page (suc f) h = h
here-set (x ∷ pages) (suc g) page zero h = h
here-set (x ∷ pages) (suc g) page (suc f) h = here-set pages g page f h

-- a page set where one is brings none here or away
pub some-set : (pages : List (Option (List ℕ))) (f : ℕ) (page : List ℕ) → is_here pages f ≡ true
    → map is_some (set pages f (Some page)) ≡ map is_some pages
some-set [] f page h = refl
some-set (None ∷ pages) zero page h = absurd (grind arith)
some-set (Some x ∷ pages) zero page h = refl
some-set (x ∷ pages) (suc f) page h = ap (λ bs. is_some x ∷ bs) (some-set pages f page h)

pub length-overlay : (own lent : List (Option (List ℕ))) → length own ≡ length lent
    → length (overlay own lent) ≡ length own
length-overlay [] lent e = sym e
length-overlay (x ∷ own) [] e = absurd (grind arith)
length-overlay (None ∷ own) (y ∷ lent) e = ap suc (length-overlay own lent (omega arith))
length-overlay (Some page ∷ own) (y ∷ lent) e = ap suc (length-overlay own lent (omega arith))

-- a page that is reached has its place in both lists
pub within-own : (own lent : List (Option (List ℕ))) (f : ℕ) → length own ≡ length lent
    → is_here (overlay own lent) f ≡ true → f < length own
within-own own lent f level here =
    subst (λ (n : ℕ). f < n) (length-overlay own lent level) (here-within (overlay own lent) f here)

pub within-lent : (own lent pages : List (Option (List ℕ))) (f : ℕ) → length own ≡ length lent
    → pages ≡ lent → is_here (overlay own lent) f ≡ true → f < length pages
within-lent own lent pages f level same here =
    subst (λ (ps : List (Option (List ℕ))). f < length ps) (sym same)
    (subst (λ (n : ℕ). f < n) level (within-own own lent f level here))

pub overlay-own : (own lent : List (Option (List ℕ))) (f : ℕ) (page : List ℕ)
    → length own ≡ length lent → slice_get own f ≡ Some (Some page)
    → slice_get (overlay own lent) f ≡ Some (Some page)
overlay-own [] lent f page e h = cc
overlay-own (x ∷ own) [] f page e h = absurd (grind arith)
overlay-own (None ∷ own) (y ∷ lent) zero page e h = cc
overlay-own (Some p ∷ own) (y ∷ lent) zero page e h = h
overlay-own (None ∷ own) (y ∷ lent) (suc f) page e h = overlay-own own lent f page (omega arith) h
overlay-own (Some p ∷ own) (y ∷ lent) (suc f) page e h = overlay-own own lent f page (omega arith) h

pub overlay-lent : (own lent : List (Option (List ℕ))) (f : ℕ) → length own ≡ length lent
    → slice_get own f ≡ Some None → slice_get (overlay own lent) f ≡ slice_get lent f
overlay-lent [] lent f e h = cc
overlay-lent (x ∷ own) [] f e h = absurd (grind arith)
overlay-lent (None ∷ own) (y ∷ lent) zero e h = refl
overlay-lent (Some p ∷ own) (y ∷ lent) zero e h = cc
overlay-lent (None ∷ own) (y ∷ lent) (suc f) e h = overlay-lent own lent f (omega arith) h
overlay-lent (Some p ∷ own) (y ∷ lent) (suc f) e h = overlay-lent own lent f (omega arith) h

pub overlay-set : (own lent : List (Option (List ℕ))) (f : ℕ) (page : List ℕ)
    → length own ≡ length lent → f < length own
    → overlay (set own f (Some page)) lent ≡ set (overlay own lent) f (Some page)
overlay-set [] lent f page e h = absurd (omega arith)
overlay-set (x ∷ own) [] f page e h = absurd (grind arith)
overlay-set (None ∷ own) (y ∷ lent) zero page e h = refl
overlay-set (Some p ∷ own) (y ∷ lent) zero page e h = refl
overlay-set (None ∷ own) (y ∷ lent) (suc f) page e h =
    ap (λ xs. y ∷ xs) (overlay-set own lent f page (omega arith) (omega arith))
overlay-set (Some p ∷ own) (y ∷ lent) (suc f) page e h =
    ap (λ xs. Some p ∷ xs) (overlay-set own lent f page (omega arith) (omega arith))

-- an element that was read by its place
pub get-of : {A : Type 0} (xs : List A) (f : ℕ) (x : A) → f < length xs → x ≡ slice_index_or xs f x
    → slice_get xs f ≡ Some x
get-of [] f x h e = absurd (omega arith)
get-of (y ∷ xs) zero x h e = ap Some (sym e)
get-of (y ∷ xs) (suc f) x h e = get-of xs f x (omega arith) e

pub lent-page : (own lent : List (Option (List ℕ))) (f : ℕ) → length own ≡ length lent
    → is_here (overlay own lent) f ≡ true → slice_get own f ≡ Some None
    → (page : List ℕ) × (slice_get lent f ≡ Some (Some page))
lent-page own lent f e here none = let page = here-page (overlay own lent) f here in
    (page.0, sym (overlay-lent own lent f e none) ∙ page.1)

pub Some-one : {a b : Option (List ℕ)} → ◌≡◌ {A = Option (Option (List ℕ))} (Some a) (Some b)
    → a ≡ b
Some-one e = cc

pub some-at : (pages : List (Option (List ℕ))) (f : ℕ) (page : List ℕ) (other : Option (List ℕ))
    → slice_get pages f ≡ Some (Some page) → IsSome (slice_index_or pages f other)
some-at [] f page other h = cc
some-at (None ∷ pages) zero page other h = cc
some-at (Some x ∷ pages) zero page other h = refl
some-at (x ∷ pages) (suc f) page other h = some-at pages f page other h
