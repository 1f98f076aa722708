-- Packs that were run: by index and by place, over a board, and what is left of their budgets.
use Rattle.std.proofs.Common.{◌≡◌, ℕ, zero, suc, ◌+◌, ◌<◌, ◌≤◌, List, [], ◌∷◌, length, refl, sym}
use Rattle.std.proofs.Common.{ap, ◌∙◌, subst, arith, Option, Some, set, length-set, get_or-set_same}
use Rattle.std.proofs.Common.{get_or-set_other, ◌≢◌, ◌⊎◌, inl, inr}
use Rattle.std.proofs.lemmas.Bool.{cases_eq}
use Rattle.std.specs.Prelude.{All, map, slice_get, slice_index_or}
use Rattle.std.proofs.lemmas.List.{length-map}
use mathlib.Core.Option.{some, some-injective, some-ne-none}
use lib.ListN.{get_elem?}
use Rattle.hand_board.specs.Seating.{AllFinished}
use Rattle.quantum_run.specs.Packs.{seen_by_view}
use Rattle.quantum_run.specs.Shows.{Pack, View, CanRun}
use Rattle.worker_pool.specs.declared.lent.Lent.{Lent}
use Rattle.worker_pool.specs.Lending.{packs_of, See, IsFinished, MayRunPack}
use Rattle.worker_pool.specs.Ran.{AllCanRun, AllRan, AllRunnable, EachRan, HasRun, budgets_left}

-- ---- by index and by place

pack-is : {p q : Pack} → ◌≡◌ {A = Option Pack} (Some p) (Some q) → p ≡ q
pack-is e = cc

-- what stands at a place stands there by index
pub index-at : (ps : List Pack) (i : ℕ) (p d : Pack) → slice_get ps i ≡ Some p
    → (i < length ps) × (slice_index_or ps i d ≡ p)
index-at [] i p d e = absurd (grind arith)
index-at (x ∷ ps) zero p d e = (omega arith, pack-is e)
index-at (x ∷ ps) (suc i) p d e = let r = index-at ps i p d e in (omega (arith, r.0), r.1)

place-at : (ps : List Pack) (i : ℕ) (d : Pack) → i < length ps
    → slice_get ps i ≡ Some (slice_index_or ps i d)
place-at [] i d low = absurd (omega arith)
place-at (x ∷ ps) zero d low = refl
place-at (x ∷ ps) (suc i) d low = place-at ps i d (omega arith)

runnable-of : (v : View) (ps : List Pack) → AllCanRun v ps → AllRunnable v ps
runnable-of v ps can i d low = can i (slice_index_or ps i d) (place-at ps i d low)

ran-of : (v : View) (ps qs : List Pack) → length qs ≡ length ps → EachRan v ps qs
    → AllRan v ps qs
ran-of v ps qs level each = record {
  level = level;
  each = λ i p at.
      let r = index-at ps i p p at in
      let run = each i p r.0 in (
        slice_index_or qs i p,
        place-at qs i p (omega (arith, level, r.0)),
        subst (λ x. HasRun v x (slice_index_or qs i p)) r.1 run,
      );
}

pub each-of : (v : View) (ps qs : List Pack) → AllRan v ps qs → EachRan v ps qs
each-of v ps qs ran i d low =
    let r = ran.each i (slice_index_or ps i d) (place-at ps i d low) in
    let q = index-at qs i r.0 d r.1 in
    subst (λ x. HasRun v (slice_index_or ps i d) x) (sym q.1) r.2

-- the same by the view of what is shared
pub runnable-in : (v s : View) (ps : List Pack) → v ≡ s → AllCanRun s ps → AllRunnable v ps
runnable-in v s ps same can = subst (λ x. AllRunnable x ps) (sym same) (runnable-of s ps can)

pub ran-in : (v s : View) (ps qs : List Pack) → v ≡ s → length qs ≡ length ps → EachRan v ps qs
    → AllRan s ps qs
ran-in v s ps qs same level each = subst (λ x. AllRan x ps qs) same (ran-of v ps qs level each)

-- one pack more was run
pub one-more : (v : View) (old now : List Pack) (n : ℕ) (p q : Pack) → length now ≡ length old
    → n < length now → slice_index_or now n p ≡ p → HasRun v p q
    → ((j : ℕ) (d : Pack) → j < n → HasRun v (slice_index_or old j d) (slice_index_or now j d))
    → ((j : ℕ) (d : Pack) → n ≤ j → j < length old
    → slice_index_or now j d ≡ slice_index_or old j d)
    → (length (set now n q) ≡ length old)
    × ((j : ℕ) (d : Pack) → j < n + 1
    → HasRun v (slice_index_or old j d) (slice_index_or (set now n q) j d))
    × ((j : ℕ) (d : Pack) → n + 1 ≤ j → j < length old
    → slice_index_or (set now n q) j d ≡ slice_index_or old j d)
one-more v old now n p q level low here run ran rest = (
  length-set now n q ∙ level,
  (λ j d less. by j d less (cases_eq j n)),
  λ j d more less.
      set-other j d (λ e. omega (arith, more, e)) ∙ rest j d (omega arith) less,
)
  where
    set-other : (j : ℕ) (d : Pack) → j ≢ n
        → slice_index_or (set now n q) j d ≡ slice_index_or now j d
    set-other j d other = get_or-set_other now n j q d other

    was : (d : Pack) → slice_index_or old n d ≡ p
    was d = sym (rest n d (omega arith) (omega (arith, low, level)))
        ∙ (index-at now n p d (place-at now n p low ∙ ap Some here)).1

    by : (j : ℕ) (d : Pack) → j < n + 1 → (j ≡ n) ⊎ (j ≢ n)
        → HasRun v (slice_index_or old j d) (slice_index_or (set now n q) j d)
    by j d less (inl same) =
        subst (λ k. HasRun v (slice_index_or old k d) (slice_index_or (set now n q) k d)) (sym same)
        (subst (λ x. HasRun v x (slice_index_or (set now n q) n d)) (sym (was d))
        (subst (λ x. HasRun v p x) (sym (get_or-set_same now n q d low)) run))
    by j d less (inr other) =
        subst (λ x. HasRun v (slice_index_or old j d) x) (sym (set-other j d other))
        (ran j d (omega (arith, less, other)))

-- ---- budgets

pub budgets-fall : (v : View) (ps qs : List Pack) → AllRan v ps qs
    → budgets_left qs ≤ budgets_left ps
budgets-fall v [] [] ran = omega arith
budgets-fall v [] (q ∷ qs) ran = absurd (let level = ran.level in omega arith)
budgets-fall v (p ∷ ps) [] ran = absurd (let level = ran.level in omega arith)
budgets-fall v (p ∷ ps) (q ∷ qs) ran =
    let first = ran.each 0 p refl in
    let less : q.budget ≤ p.budget =
    subst (λ (x : Pack). x.budget ≤ p.budget) (sym (pack-is first.1)) first.2.budget in
    let level = ran.level in
    let rest = budgets-fall v ps qs record {
      level = omega arith;
      each =
          λ i x at. ran.each (suc i) x at;
    } in
    omega arith

-- ---- over a board

pub as-many : {T : Type 0} (finished : T → T → Type 0) (xs ys : List T) → AllFinished finished xs ys
    → length ys ≡ length xs
as-many finished [] [] all = refl
as-many finished [] (y ∷ ys) all = absurd all
as-many finished (x ∷ xs) [] all = absurd all
as-many finished (x ∷ xs) (y ∷ ys) all = ap suc (as-many finished xs ys all.1)

-- packs with what they are lent, or share, which is the same for all
module _ {L : Type 0} (pack : L → Pack) (v : View) (same : L → Type 0) where
  pub ready-by : (ready : L → Type 0) → ((l : L) → same l → CanRun (pack l) v → ready l)
      → (ls : List L) → AllRunnable v (map pack ls) → All same ls → (k : ℕ) (x : L)
      → get_elem? ls k ≡ some x → ready x
  ready-by ready by [] can is k x at = absurd (some-ne-none x (sym at))
  ready-by ready by (l ∷ ls) can is zero x at =
      subst ready (some-injective l x at)
      (by l (is 0 l (omega arith)) (can 0 (pack l) (omega arith)))
  ready-by ready by (l ∷ ls) can is (suc k) x at =
      ready-by ready by ls (λ i d low. can (suc i) d (omega arith))
      (λ i d low. is (suc i) d (omega arith)) k x at

  pub finished-by : (finished : L → L → Type 0)
      → ((l m : L) → same l → finished l m → HasRun v (pack l) (pack m)) → (ls ms : List L)
      → AllFinished finished ls ms → All same ls → EachRan v (map pack ls) (map pack ms)
  finished-by finished by [] ms all is i d low = absurd (omega arith)
  finished-by finished by (l ∷ ls) [] all is i d low = absurd all
  finished-by finished by (l ∷ ls) (m ∷ ms) all is zero d low =
      by l m (is 0 l (omega arith)) all.0
  finished-by finished by (l ∷ ls) (m ∷ ms) all is (suc i) d low =
      finished-by finished by ls ms all.1 (λ j e k. is (suc j) e (omega arith)) i d (omega arith)

pub ready-of : (v : View) (ls : List Lent) → AllRunnable v (packs_of ls) → See v ls
    → (k : ℕ) (x : Lent) → get_elem? ls k ≡ some x → MayRunPack x
ready-of v ls =
    ready-by (λ (l : Lent). l.pack) v (λ (l : Lent). seen_by_view l.view.now ≡ v) MayRunPack
    (λ l same can. subst (λ z. CanRun l.pack z) (sym same) can) ls

pub finished-ran : (v : View) (ls ms : List Lent) → AllFinished IsFinished ls ms → See v ls
    → EachRan v (packs_of ls) (packs_of ms)
finished-ran v ls ms =
    finished-by (λ (l : Lent). l.pack) v (λ (l : Lent). seen_by_view l.view.now ≡ v) IsFinished
    (λ l m same all. subst (λ z. HasRun z l.pack m.pack) same all.1) ls ms

pub packs-length : (ls : List Lent) → length (packs_of ls) ≡ length ls
packs-length ls = length-map ls (λ (l : Lent). l.pack)
