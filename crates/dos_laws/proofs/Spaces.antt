-- Spaces: their pages rise, and no frame stands twice. What keeps that: fewer entries, other marks,
-- a page more.
use Rattle.std.proofs.Common.{ℕ, suc, ◌+◌, ◌<◌, ◌≤◌, ◌≡◌, ◌≢◌, refl, sym, ap, ◌∙◌, Bool, true}
use Rattle.std.proofs.Common.{false, cond, List, [], ◌∷◌, map, Option, Some, None, option_map}
use Rattle.std.proofs.Common.{arith}
use Rattle.std.specs.Prelude.{All, AllPairs, ⊤, ◌==◌, count_by, filter, find, is_some, nat_lt}
use Rattle.std.specs.List.Sorted.{IsStrictlyIncreasing}
use Rattle.std.proofs.lemmas.Bool.{ltb-true, ltb-false, true≢false, eqb-false, ne_eqb, eq-eqb}
use Rattle.std.proofs.lemmas.List.Sums.{sum_by-cons}
use Rattle.std.proofs.lemmas.List.Kept.{AllPairs-from_increasing, AllPairs-cons}
use Rattle.std.proofs.lemmas.List.Elements.{All-nil, All-cons, All-head, All-tail}
use Rattle.dos_world.specs.World.{look}
use Rattle.dos_world.specs.Kernel.{put}
use Rattle.dos_world.specs.declared.Entry.{Entry}
use Rattle.dos_laws.proofs.StandsSignals.{all-filtered}

-- ---- each element and each later one

abbrev pub Pairs : {A : Type 0} → (A → A → Type 0) → List A → Type 0
Pairs R [] = ⊤
Pairs R (x ∷ xs) = All (R x) xs × Pairs R xs

pub pairs_from : {A : Type 0} (R : A → A → Type 0) (xs : List A) → AllPairs R xs → Pairs R xs
pairs_from R [] all = tt
pairs_from R (x ∷ xs) all = (
  λ k d lt. all 0 (suc k) d (omega arith) (omega arith),
  pairs_from R xs (λ i j d less lt. all (suc i) (suc j) d (omega arith) (omega arith)),
)

pub pairs_to : {A : Type 0} (R : A → A → Type 0) (xs : List A) → Pairs R xs → AllPairs R xs
pairs_to R [] pairs = λ i j d less lt. absurd (omega arith)
pairs_to R (x ∷ xs) pairs = AllPairs-cons R x xs pairs.0 (pairs_to R xs pairs.1)

pub pairs-filtered : {A : Type 0} (R : A → A → Type 0) (test : A → Bool) (xs : List A) → Pairs R xs
    → Pairs R (filter test xs)
pairs-filtered R test [] pairs = tt
pairs-filtered {A} R test (x ∷ xs) pairs = by_test (test x) (pairs-filtered R test xs pairs.1)
  where
    by_test : (b : Bool) → Pairs R (filter test xs)
        → Pairs R (cond b (x ∷ filter test xs) (filter test xs))
    by_test true rest = (all-filtered (R x) test xs pairs.0, rest)
    by_test false rest = rest

pub all-mapped : {A B : Type 0} (P : A → Type 0) (R : B → Type 0) (f : A → B)
    → ((x : A) → P x → R (f x)) → (xs : List A) → All P xs → All R (map f xs)
all-mapped P R f keep [] all = All-nil R
all-mapped P R f keep (x ∷ xs) all =
    All-cons R (f x) (map f xs) (keep x (All-head P x xs all))
    (all-mapped P R f keep xs (All-tail P x xs all))

all-unmapped : {A B : Type 0} (R : B → Type 0) (f : A → B) (xs : List A) → All R (map f xs)
    → All (λ x. R (f x)) xs
all-unmapped R f [] all = All-nil (λ x. R (f x))
all-unmapped R f (x ∷ xs) all =
    All-cons (λ x. R (f x)) x xs (All-head R (f x) (map f xs) all)
    (all-unmapped R f xs (All-tail R (f x) (map f xs) all))

pairs-unmapped : {A B : Type 0} (R : B → B → Type 0) (f : A → B) (xs : List A) → Pairs R (map f xs)
    → Pairs (λ x y. R (f x) (f y)) xs
pairs-unmapped R f [] pairs = tt
pairs-unmapped R f (x ∷ xs) pairs =
    (all-unmapped (R (f x)) f xs pairs.0, pairs-unmapped R f xs pairs.1)

pub pairs-mapped : {A B : Type 0} (P : A → A → Type 0) (R : B → B → Type 0) (f : A → B)
    → ((x y : A) → P x y → R (f x) (f y)) → (xs : List A) → Pairs P xs → Pairs R (map f xs)
pairs-mapped P R f keep [] pairs = tt
pairs-mapped P R f keep (x ∷ xs) pairs =
    (all-mapped (P x) (R (f x)) f (keep x) xs pairs.0, pairs-mapped P R f keep xs pairs.1)

-- ---- rising pages, and frames that stand once

abbrev pub Below : ℕ × Entry → ℕ × Entry → Type 0
Below a b = a.0 < b.0

abbrev pub OtherFrame : ℕ × Entry → ℕ × Entry → Type 0
OtherFrame a b = a.1.frame ≢ b.1.frame

pub rising_from : (space : List (ℕ × Entry)) → IsStrictlyIncreasing (map (λ e. e.0) space)
    → Pairs Below space
rising_from space rising =
    pairs-unmapped (λ x y. x < y) (λ e. e.0) space
    (pairs_from (λ x y. x < y) (map (λ e. e.0) space)
    (AllPairs-from_increasing (map (λ e. e.0) space) rising))

pub rising_to : (space : List (ℕ × Entry)) → Pairs Below space
    → IsStrictlyIncreasing (map (λ e. e.0) space)
rising_to space pairs k lt =
    pairs_to (λ x y. x < y) (map (λ e. e.0) space)
    (pairs-mapped Below (λ x y. x < y) (λ e. e.0) (λ x y h. h) space pairs) k (k + 1) 0
    (omega arith) lt

-- ---- a page more

-- what holds of all holds with one more
pub all-put : (P : (ℕ × Entry) → Type 0) (page : ℕ) (entry : Entry) (space : List (ℕ × Entry))
    → P (page, entry) → All P space → All P (put page entry space)
all-put P page entry [] new all = All-cons P (page, entry) [] new (All-nil P)
all-put P page entry (e ∷ space) new all =
    by_order (nat_lt page e.0) (all-put P page entry space new (All-tail P e space all))
  where
    by_order : (b : Bool) → All P (put page entry space)
        → All P (cond b ((page, entry) ∷ e ∷ space) (e ∷ put page entry space))
    by_order true rest = All-cons P (page, entry) (e ∷ space) new all
    by_order false rest = All-cons P e (put page entry space) (All-head P e space all) rest

-- none of the pages is this one
pub unmapped_page : (page : ℕ) (space : List (ℕ × Entry)) → is_some (look space page) ≡ false
    → All (λ e. e.0 ≢ page) space
unmapped_page page [] e = All-nil (λ e. e.0 ≢ page)
unmapped_page page (x ∷ space) e = by_test (unmapped_page page space) (x.0 == page) refl e
  where
    by_test : (is_some (look space page) ≡ false → All (λ e. e.0 ≢ page) space) → (b : Bool)
        → (x.0 == page) ≡ b
        → is_some (option_map (λ (y : ℕ × Entry). y.1)
        (cond b (Some x) (find (λ (y : ℕ × Entry). y.0 == page) space))) ≡ false
        → All (λ e. e.0 ≢ page) (x ∷ space)
    by_test rest true is h = absurd (true≢false h)
    by_test rest false is h = All-cons (λ e. e.0 ≢ page) x space (eqb-false x.0 page is) (rest h)

-- another page is mapped as before
pub look-put : (page other : ℕ) (entry : Entry) (space : List (ℕ × Entry)) → other ≢ page
    → look (put page entry space) other ≡ look space other
look-put page other entry [] not_page =
    ap (λ b. option_map (λ (y : ℕ × Entry). y.1) (cond b (Some (page, entry)) None))
    (ne_eqb page other (λ e. not_page (sym e)))
look-put page other entry (e ∷ space) not_page =
    by_order (nat_lt page e.0) (look-put page other entry space not_page)
  where
    found : (space : List (ℕ × Entry)) → Option Entry
    found space = look space other

    by_first : (b : Bool) → look (put page entry space) other ≡ look space other
        → option_map (λ (y : ℕ × Entry). y.1)
        (cond b (Some e) (find (λ (y : ℕ × Entry). y.0 == other) (put page entry space)))
        ≡ option_map (λ (y : ℕ × Entry). y.1)
        (cond b (Some e) (find (λ (y : ℕ × Entry). y.0 == other) space))
    by_first true rest = refl
    by_first false rest = rest

    by_order : (b : Bool) → look (put page entry space) other ≡ look space other
        → look (cond b ((page, entry) ∷ e ∷ space) (e ∷ put page entry space)) other
        ≡ look (e ∷ space) other
    by_order true rest =
        ap
        (λ b. option_map (λ (y : ℕ × Entry). y.1)
        (cond b (Some (page, entry)) (find (λ (y : ℕ × Entry). y.0 == other) (e ∷ space))))
        (ne_eqb page other (λ same. not_page (sym same)))
    by_order false rest = by_first (e.0 == other) rest

-- the pages rise, where the new one isn't mapped
pub rising-put : (page : ℕ) (entry : Entry) (space : List (ℕ × Entry)) → All (λ e. e.0 ≢ page) space
    → Pairs Below space → Pairs Below (put page entry space)
rising-put page entry [] fresh pairs = (All-nil (Below (page, entry)), tt)
rising-put page entry (e ∷ space) fresh pairs =
    by_order (nat_lt page e.0) refl
    (rising-put page entry space (All-tail (λ x. x.0 ≢ page) e space fresh) pairs.1)
  where
    below_all : (xs : List (ℕ × Entry)) → page < e.0 → All (Below e) xs
        → All (Below (page, entry)) xs
    below_all [] lt all = All-nil (Below (page, entry))
    below_all (x ∷ xs) lt all =
        let first : e.0 < x.0 = All-head (Below e) x xs all in
        All-cons (Below (page, entry)) x xs (omega (arith, first, lt))
        (below_all xs lt (All-tail (Below e) x xs all))

    by_order : (b : Bool) → nat_lt page e.0 ≡ b → Pairs Below (put page entry space)
        → Pairs Below (cond b ((page, entry) ∷ e ∷ space) (e ∷ put page entry space))
    by_order true is rest =
        let lt = ltb-true page e.0 is in
        (All-cons (Below (page, entry)) e space lt (below_all space lt pairs.0), pairs)
    by_order false is rest =
        let not_same = All-head (λ x. x.0 ≢ page) e space fresh in (
          all-put (Below e) page entry space
              (omega (arith, ltb-false page e.0 is, not_same)) pairs.0,
          rest,
        )

-- no frame stands twice, where the new one stands nowhere
pub apart-put : (page : ℕ) (entry : Entry) (space : List (ℕ × Entry))
    → All (λ e. e.1.frame ≢ entry.frame) space → Pairs OtherFrame space
    → Pairs OtherFrame (put page entry space)
apart-put page entry [] fresh pairs = (All-nil (OtherFrame (page, entry)), tt)
apart-put page entry (e ∷ space) fresh pairs =
    by_order (nat_lt page e.0)
    (apart-put page entry space (All-tail (λ x. x.1.frame ≢ entry.frame) e space fresh) pairs.1)
  where
    turned : (xs : List (ℕ × Entry)) → All (λ x. x.1.frame ≢ entry.frame) xs
        → All (OtherFrame (page, entry)) xs
    turned [] all = All-nil (OtherFrame (page, entry))
    turned (x ∷ xs) all =
        let first = All-head (λ y. y.1.frame ≢ entry.frame) x xs all in
        All-cons (OtherFrame (page, entry)) x xs (λ same. first (sym same))
        (turned xs (All-tail (λ y. y.1.frame ≢ entry.frame) x xs all))

    by_order : (b : Bool) → Pairs OtherFrame (put page entry space)
        → Pairs OtherFrame (cond b ((page, entry) ∷ e ∷ space) (e ∷ put page entry space))
    by_order true rest = (turned (e ∷ space) fresh, pairs)
    by_order false rest = (
      all-put (OtherFrame e) page entry space
          (All-head (λ x. x.1.frame ≢ entry.frame) e space fresh) pairs.0,
      rest,
    )

-- ---- how often a frame stands

abbrev pub uses_in : ℕ → List (ℕ × Entry) → ℕ
uses_in frame space = count_by (λ e. e.1.frame == frame) space

pub uses-cons : (frame : ℕ) (e : ℕ × Entry) (space : List (ℕ × Entry))
    → uses_in frame (e ∷ space) ≡ cond (e.1.frame == frame) 1 0 + uses_in frame space
uses-cons frame e space =
    sum_by-cons (λ (x : ℕ × Entry). cond {A = ℕ} (x.1.frame == frame) 1 0) e space

pub uses-put : (frame page : ℕ) (entry : Entry) (space : List (ℕ × Entry))
    → uses_in frame (put page entry space) ≡ cond (entry.frame == frame) 1 0 + uses_in frame space
uses-put frame page entry [] = uses-cons frame (page, entry) []
uses-put frame page entry (e ∷ space) = by_order (nat_lt page e.0) (uses-put frame page entry space)
  where
    by_order : (b : Bool)
        → uses_in frame (put page entry space)
        ≡ cond (entry.frame == frame) 1 0 + uses_in frame space
        → uses_in frame (cond b ((page, entry) ∷ e ∷ space) (e ∷ put page entry space))
        ≡ cond (entry.frame == frame) 1 0 + uses_in frame (e ∷ space)
    by_order true rest = uses-cons frame (page, entry) (e ∷ space)
    by_order false rest =
        omega (arith, uses-cons frame e (put page entry space), uses-cons frame e space, rest)

pub uses-mapped : (frame : ℕ) (f : (ℕ × Entry) → ℕ × Entry)
    → ((e : ℕ × Entry) → (f e).1.frame ≡ e.1.frame) → (space : List (ℕ × Entry))
    → uses_in frame (map f space) ≡ uses_in frame space
uses-mapped frame f same [] = refl
uses-mapped frame f same (e ∷ space) =
    uses-cons frame (f e) (map f space)
    ∙ ap (λ n. cond {A = ℕ} (n == frame) 1 0 + uses_in frame (map f space)) (same e)
    ∙ ap (λ n. cond {A = ℕ} (e.1.frame == frame) 1 0 + n) (uses-mapped frame f same space)
    ∙ sym (uses-cons frame e space)

pub uses-filtered : (frame : ℕ) (test : (ℕ × Entry) → Bool) (space : List (ℕ × Entry))
    → uses_in frame (filter test space) ≤ uses_in frame space
uses-filtered frame test [] = omega arith
uses-filtered frame test (e ∷ space) = by_test (test e) (uses-filtered frame test space)
  where
    by_test : (b : Bool) → uses_in frame (filter test space) ≤ uses_in frame space
        → uses_in frame (cond b (e ∷ filter test space) (filter test space)) ≤ uses_in frame
        (e ∷ space)
    by_test true rest =
        omega (arith, uses-cons frame e (filter test space), uses-cons frame e space, rest)
    by_test false rest = omega (arith, uses-cons frame e space, rest)

-- an entry's frame is used
pub used_at : (P : (ℕ × Entry) → Type 0) (space : List (ℕ × Entry))
    → ((e : ℕ × Entry) → 0 < uses_in e.1.frame space → P e) → All P space
used_at P [] each = All-nil P
used_at P (e ∷ space) each =
    All-cons P e space (each e here)
    (used_at P space (λ x used. each x (omega (arith, uses-cons x.1.frame e space, used))))
  where
    here : 0 < uses_in e.1.frame (e ∷ space)
    here =
        let one : ◌≡◌ {A = ℕ} (cond (e.1.frame == e.1.frame) 1 0) 1 =
        ap (λ b. cond {A = ℕ} b 1 0) (eq-eqb e.1.frame e.1.frame refl) in
        omega (arith, uses-cons e.1.frame e space, one)

-- a frame that isn't used stands nowhere
pub unused : (frame : ℕ) (space : List (ℕ × Entry)) → uses_in frame space ≡ 0
    → All (λ e. e.1.frame ≢ frame) space
unused frame space none =
    used_at (λ e. e.1.frame ≢ frame) space
    (λ e used same. let here : uses_in e.1.frame space ≡ 0 =
    ap (λ n. uses_in n space) same ∙ none in
    omega (arith, used, here))
