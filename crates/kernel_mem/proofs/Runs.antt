-- Runs of pages: which are mapped, and what a service of memory comes to.
use Rattle.std.proofs.Common.{◌≡◌, ℕ, zero, suc, ◌+◌, ◌<◌, Bool, true, false, cond, List, [], ◌∷◌}
use Rattle.std.proofs.Common.{Some, option_map, Result, Ok, Err, refl, sym, ap, ◌∙◌, arith}
use Rattle.std.specs.Prelude.{not, ◌&&◌, ◌||◌, ◌==◌, nat_le, nat_lt, find, is_some}
use Rattle.std.proofs.lemmas.Bool.Decides.{nat_tests}
use Rattle.std.specs.List.{list_all, list_any}
use Rattle.dos_world.specs.Numbered.{run_of}
use Rattle.dos_world.specs.World.{World, look}
use Rattle.dos_world.specs.declared.Entry.{Entry}
use Rattle.space_map.specs.Mapping.{in_run}
use Rattle.kernel_mem.specs.Ranges.{maps_any}

-- ---- each of a run

pub all_pass : (test : ℕ → Bool) (page count : ℕ) → ((k : ℕ) → k < count → test (page + k) ≡ true)
    → list_all test (run_of page count) ≡ true
all_pass test page zero each = refl
all_pass test page (suc count) each =
    ap (λ b. b && list_all test (run_of (suc page) count))
    (ap test (omega arith) ∙ each 0 (omega arith))
    ∙ all_pass test (suc page) count (λ k h. ap test (omega arith) ∙ each (suc k) (omega arith))

pub one_fails : (test : ℕ → Bool) (page count k : ℕ) → k < count → test (page + k) ≡ false
    → list_all test (run_of page count) ≡ false
one_fails test page zero k h fails = absurd (omega arith)
one_fails test page (suc count) zero h fails =
    ap (λ b. b && list_all test (run_of (suc page) count)) (ap test (omega arith) ∙ fails)
one_fails test page (suc count) (suc k) h fails =
    ap (λ b. test page && b)
    (one_fails test (suc page) count k (omega arith) (ap test (omega arith) ∙ fails))
    ∙ never (test page)
  where
    never : (b : Bool) → (b && false) ≡ false
    never true = refl
    never false = refl

-- ---- one of a run

or_swap : (a b c d : Bool) → ((a || b) || (c || d)) ≡ ((a || c) || (b || d))
or_swap true b c d = refl
or_swap false true true d = refl
or_swap false true false d = refl
or_swap false false c d = refl

any_or : (f g : ℕ → Bool) (xs : List ℕ)
    → list_any (λ x. f x || g x) xs ≡ (list_any f xs || list_any g xs)
any_or f g [] = refl
any_or f g (x ∷ xs) = ap (λ b. (f x || g x) || b) (any_or f g xs)
    ∙ or_swap (f x) (g x) (list_any f xs) (list_any g xs)

-- a number is one of a run
in_numbers : (n page count : ℕ)
    → list_any (λ p. n == p) (run_of page count) ≡ (nat_le page n && nat_lt n (page + count))
in_numbers n page zero = grind (arith, nat_tests)
in_numbers n page (suc count) = ap (λ b. (n == page) || b) (in_numbers n (suc page) count)
    ∙ more n page count
  where
    more : (n page count : ℕ)
        → ((n == page) || (nat_le (suc page) n && nat_lt n (suc page + count)))
        ≡ (nat_le page n && nat_lt n (page + suc count))
    more n page count = grind (arith, nat_tests)

looked : (e : ℕ × Entry) (es : List (ℕ × Entry)) (p : ℕ)
    → is_some (look (e ∷ es) p) ≡ ((e.0 == p) || is_some (look es p))
looked e es p = by (e.0 == p)
  where
    by : (b : Bool) → is_some
        (option_map (λ (x : ℕ × Entry). x.1)
        (cond b (Some e) (find (λ (x : ℕ × Entry). x.0 == p) es)))
        ≡ (b || is_some (look es p))
    by true = refl
    by false = refl

never_any : (xs : List ℕ) → list_any (λ p. is_some (look [] p)) xs ≡ false
never_any [] = refl
never_any (x ∷ xs) = never_any xs

any_same : (f g : ℕ → Bool) → ((x : ℕ) → f x ≡ g x) → (xs : List ℕ) → list_any f xs ≡ list_any g xs
any_same f g same [] = refl
any_same f g same (x ∷ xs) = ap (λ b. b || list_any f xs) (same x)
    ∙ ap (λ b. g x || b) (any_same f g same xs)

-- one of a run is mapped where an entry is of the run
pub any_entry : (es : List (ℕ × Entry)) (page count : ℕ)
    → list_any (in_run page count) es ≡ maps_any es page count
any_entry [] page count = sym (never_any (run_of page count))
any_entry (e ∷ es) page count =
    ap (λ b. in_run page count e || b) (any_entry es page count)
    ∙ ap (λ b. b || maps_any es page count) (sym (in_numbers e.0 page count))
    ∙ sym (any_same (λ p. is_some (look (e ∷ es) p)) (λ p. (e.0 == p) || is_some (look es p))
    (looked e es) (run_of page count)
    ∙ any_or (λ p. e.0 == p) (λ p. is_some (look es p)) (run_of page count))

-- ---- refusals

-- a call of pages that are a range and mapped, or one that is refused
pub where_is : (a b both : Bool) (w : World) → both ≡ (a && b)
    → cond (not a) (Err 22) (cond (not b) (Err 22) (Ok w)) ≡ cond {A = Result World ℕ} both (Ok w)
    (Err 22)
where_is true true both w e = ap (λ x. cond {A = Result World ℕ} x (Ok w) (Err 22)) (sym e)
where_is true false both w e = ap (λ x. cond {A = Result World ℕ} x (Ok w) (Err 22)) (sym e)
where_is false b both w e = ap (λ x. cond {A = Result World ℕ} x (Ok w) (Err 22)) (sym e)

-- a call of map that isn't refused for its pages or rights
pub map_is : (range rights any few told : Bool) (w : World) → true ≡ range → rights ≡ true
    → any ≡ false → few ≡ told
    → cond (not (range && rights)) (Err 22) (cond any (Err 22) (cond few (Err 12) (Ok w)))
    ≡ cond {A = Result World ℕ} told (Err 12) (Ok w)
map_is true true false few told w a b c d = ap (λ x. cond {A = Result World ℕ} x (Err 12) (Ok w)) d
map_is true true true few told w a b c d = cc
map_is true false any few told w a b c d = cc
map_is false rights any few told w a b c d = cc
