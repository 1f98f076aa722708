-- Packs on their way into slots and back.
use Rattle.std.proofs.Common.{◌≡◌, ◌≢◌, ℕ, zero, suc, ◌+◌, ◌<◌, List, [], ◌∷◌, ◌++◌, length}
use Rattle.std.proofs.Common.{refl, sym, ap, ◌∙◌, subst, arith, add-one}
use Rattle.std.proofs.Common.{Option, Some, None, map}
use Rattle.std.proofs.Common.{replicate, get_or, set, Bool, false, get_or-set_other}
use mathlib.Core.Logic.{dite}
use native.Mathlib.Decide.{ℕ_discrete}
use Rattle.std.specs.Mem.Slots.Ownership.{Filled}
use Rattle.std.specs.Prelude.{slice_index}
use mathlib.Core.Option.{some, some-injective, some-ne-none}
use lib.ListN.{get_elem?, take}
use Rattle.hand_board.specs.Seating.{values, AllFinished, Rests}
use Rattle.hand_board.proofs.Counts.{there}
use Rattle.hand_board.proofs.Sitting.{inside}

pub values_map : {T : Type 0} → (xs : List T) → values (map Some xs) ≡ xs
values_map [] = refl
values_map (x ∷ xs) = ap (λ z. x ∷ z) (values_map xs)

pub all_zero : (n i : ℕ) → slice_index (replicate n 0) i ≡ 0
all_zero zero i = refl
all_zero (suc n) zero = refl
all_zero (suc n) (suc i) = all_zero n i

-- a word that stands there is the one that is read
pub read_at : (ws : List ℕ) (i w : ℕ) → get_elem? ws i ≡ some w → slice_index ws i ≡ w
read_at [] i w e = absurd (some-ne-none w (sym e))
read_at (x ∷ xs) zero w e = some-injective x w e
read_at (x ∷ xs) (suc i) w e = read_at xs i w e

module _ {T : Type 0} where
  -- a pack that is finished from the opening that is next stands next
  one_finished : (fin : T → T → Type 0) (xs ys : List T) (i : ℕ) (x y : T)
      → AllFinished fin (take i xs) ys → get_elem? xs i ≡ some x → fin x y
      → AllFinished fin (take (suc i) xs) (ys ++ y ∷ [])
  one_finished fin [] ys i x y h at f = absurd (some-ne-none x (sym at))
  one_finished fin (a ∷ xs) [] zero x y h at f =
      (subst (λ z. fin z y) (sym (some-injective a x at)) f, tt)
  one_finished fin (a ∷ xs) (b ∷ ys) zero x y h at f = absurd h
  one_finished fin (a ∷ xs) [] (suc i) x y h at f = absurd h
  one_finished fin (a ∷ xs) (b ∷ ys) (suc i) x y h at f =
      (h.0, one_finished fin xs ys i x y h.1 at f)

  pub more_finished : (fin : T → T → Type 0) (xs ys zs : List T) (i : ℕ) (x y : T)
      → AllFinished fin (take i xs) ys → get_elem? xs i ≡ some x → fin x y → zs ≡ ys ++ y ∷ []
      → AllFinished fin (take (i + 1) xs) zs
  more_finished fin xs ys zs i x y h at f e =
      subst (λ l. AllFinished fin (take (i + 1) xs) l) (sym e)
      (subst (λ n. AllFinished fin (take n xs) (ys ++ y ∷ [])) (sym (add-one i))
      (one_finished fin xs ys i x y h at f))

  -- the pack that comes out of slot i is finished, or under way where the word is 3
  pub comes_to_rest : (fin way : T → T → Type 0) (xs : List T) (ws : List ℕ) (os : List (Option T))
      (i w : ℕ) (o : Option T) (p : T) → Rests fin way xs ws os i → get_elem? ws (i + 1) ≡ some w
      → get_elem? os i ≡ some o → o ≡ Some p → (x : T) → get_elem? xs i ≡ some x
      → (w ≢ 3 → fin x p) × (w ≡ 3 → way x p)
  comes_to_rest fin way xs ws os i w o p rests word slot is x at =
      let t = rests x at in
      let same : t.0 ≡ p = inside t.0 p (some-injective _ _ (sym t.1 ∙ slot ∙ ap some is)) in
      let reads = read_at ws (i + 1) w word in (
        (λ n. subst (fin x) same (t.2 (λ e. n (sym reads ∙ e)))),
        (λ e. subst (way x) same (t.3 (reads ∙ e))),
      )

  -- and no slot is empty
  pub none_empty : (fin way : T → T → Type 0) (xs : List T) (ws : List ℕ) (os : List (Option T))
      (i : ℕ) → Rests fin way xs ws os i → i < length xs → get_elem? os i ≡ some None → ⊥
  none_empty fin way xs ws os i rests lt slot =
      let t = there xs i lt in
      let r = rests t.0 t.1 in
      let e : ◌≡◌ {A = Option T} None (Some r.0) = some-injective _ _ (sym slot ∙ r.1) in
      cc

pub emptied_here : (l : List Bool) (i : ℕ) → get_or (set l i false) i false ≡ false
emptied_here [] zero = refl
emptied_here [] (suc i) = refl
emptied_here (x ∷ xs) zero = refl
emptied_here (x ∷ xs) (suc i) = emptied_here xs i

-- one place more is empty
pub more_empty : (l m : List Bool) (i n n2 : ℕ) → m ≡ set l i false → n2 ≡ n → Filled l i n
    → ((k : ℕ) → k < i → get_or l k false ≡ false)
    → Filled m (i + 1) n2 × ((k : ℕ) → k < i + 1 → get_or m k false ≡ false)
more_empty l m i n n2 e same full none_ = (
  (λ k low high. ap (λ z. get_or z k false) e
      ∙ get_or-set_other l i k false false (λ q. absurd (omega arith))
      ∙ full k (omega arith) (omega arith)),
  (λ k h. ap (λ z. get_or z k false) e ∙ dite (ℕ_discrete k i)
      (λ q. subst (λ z. get_or (set l i false) z false ≡ false) (sym q) (emptied_here l i))
      (λ n. get_or-set_other l i k false false n ∙ none_ k (omega arith))),
)
