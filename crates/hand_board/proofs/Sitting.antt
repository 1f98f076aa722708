-- What is always true of a seat stays true.
use Rattle.std.proofs.Common.{◌≡◌, ℕ, Bool, true, false, suc, ◌+◌, ◌<◌, ◌≤◌, List, [], ◌∷◌, length}
use Rattle.std.proofs.Common.{refl, sym, ap, ap₂, ◌∙◌, subst, arith, Option, Some, None, max, ◌||◌}
use Rattle.std.proofs.Common.{◌⊎◌, inl, inr, ⊎_elim}
use mathlib.Core.Logic.{dite}
use native.Mathlib.Decide.{ℕ_discrete, dec_le}
use Rattle.atomic_table.specs.Table.{Me, rest}
use Rattle.atomic_table.specs.Seated.{TableId}
use Rattle.hand_board.specs.declared.rule.Knows.{Knows}
use Rattle.hand_board.specs.Placed.{times, whole_share, without, blanks, to_front, without_front}
use Rattle.hand_board.specs.Rule.{with_found, with_claimed, with_resumed}
use Rattle.hand_board.specs.Rule.{joined}
use Rattle.hand_board.specs.Seating.{Sits, Seating, seating, Has, Standing, IsBoard, standing}
use Rattle.hand_board.proofs.Counts.{times_else, times_append, times_without}

abbrev second_of : {A : Type 0} → A → List (ℕ × A) → A
second_of d [] = d
second_of d (x ∷ xs) = x.1

pub second : {A : Type 0} → (i j : ℕ) (a b : A) (l m : List (ℕ × A)) → (i, a) ∷ l ≡ (j, b) ∷ m
    → a ≡ b
second i j a b l m e = ap (second_of a) e

abbrev or_else_ : {A : Type 0} → A → Option A → A
or_else_ d None = d
or_else_ d (Some x) = x

pub inside : {A : Type 0} → (a b : A) → Some a ≡ Some b → a ≡ b
inside a b e = ap (or_else_ a) e

grows : (i k : ℕ) (l : List ℕ) → Has k l → Has k (i ∷ l)
grows i k l h = omega arith

-- ---- a seat at its board

-- the seat is one of the board's table
pub at_table : {T : Type 0} {sees seat : Seating T} {shows board : Standing T} → sees ≡ seat
    → seat.board ≡ board.id → shows ≡ board → sees.board ≡ shows.id
at_table sees same shows = ap (λ z. z.board) sees ∙ same ∙ sym (ap (λ z. z.id) shows)

module _ {T : Type 0} {id : TableId} {opened : List T} {count len room : ℕ}
    {board : Standing T} where
  -- a number of the board has a word in its table
  pub has_word : (number : ℕ) → IsBoard id opened count len room → standing id opened room
      ≡ board
      → number < length board.opened → (number < length opened) × (number + 1 < id.words)
  has_word number stands shows low =
      let all = stands.all in
      let words = stands.sized.0 in
      let below = subst (λ (z : Standing T). number < length z.opened) (sym shows) low in
      (below, omega arith)

module _ {T : Type 0} where
  -- a seat has a share
  pub has_share : {b : TableId} {me : Me (Option T) (Knows T)} {share next : ℕ} {ended : Bool}
      → Sits b me share next ended → 0 < me.0.share
  has_share s = let is = s.share_is in let some = s.positive.0 in omega arith

  -- the slot that was taken is full
  pub drawn_full : (v : Knows T) (l : List (ℕ × Option T)) (m : Me (Option T) (Knows T)) (i : ℕ)
      (x : T) → m ≡ (v, (i, Some x) ∷ l) → (y : T) × (m.1 ≡ (i, Some y) ∷ rest m.1)
  drawn_full v l m i x e = (x, ap (λ z. z.1) e ∙ ap (λ z. (i, Some x) ∷ rest z.1) (sym e))

  -- and what is lifted out of it is what lay there
  pub drawn_lifts : (v : Knows T) (l : List (ℕ × Option T)) (m : Me (Option T) (Knows T)) (i : ℕ)
      (x y : T) → m ≡ (v, (i, Some x) ∷ l) → m.1 ≡ (i, Some y) ∷ rest m.1 → x ≡ y
  drawn_lifts v l m i x y e is =
      sym (inside y x (second _ _ _ _ _ _ (sym is ∙ ap (λ z. z.1) e)))

  -- the slot drawn is emptied
  pub emptied : (v : Knows T) (l : List (ℕ × Option T)) (m n : Me (Option T) (Knows T)) (i : ℕ)
      (x : Option T) → m ≡ (v, (i, x) ∷ l) → n ≡ (m.0, (i, None) ∷ rest m.1)
      → n ≡ (v, (i, None) ∷ l)
  emptied v l m n i x e f = f ∙ ap (λ z. (z.0, (i, None) ∷ rest z.1)) e

  -- the slot at the front is filled, and leaves
  pub gone : (v : Knows T) (l : List (ℕ × Option T)) (a m n : Me (Option T) (Knows T)) (i : ℕ)
      (x y : Option T) → a ≡ (v, (i, x) ∷ l) → m ≡ (a.0, (i, y) ∷ rest a.1)
      → n ≡ (without_front m.0, rest m.1) → n ≡ (without_front v, l)
  gone v l a m n i x y d e f =
      f ∙ ap (λ z. (without_front z.0, rest z.1)) (e ∙ ap (λ z. (z.0, (i, y) ∷ rest z.1)) d)

  pub filled : (v : Knows T) (l : List (ℕ × Option T)) (a m : Me (Option T) (Knows T)) (i : ℕ)
      (x y : Option T) → a ≡ (v, (i, x) ∷ l) → m ≡ (a.0, (i, y) ∷ rest a.1)
      → m ≡ (v, (i, y) ∷ l)
  filled v l a m i x y d e = e ∙ ap (λ z. (z.0, (i, y) ∷ rest z.1)) d

module _ {T : Type 0} (b : TableId) (share next : ℕ) (ended : Bool) where
  -- a seat that learned nothing is as it was
  pub sits_same : (b2 : TableId) (m n : Me (Option T) (Knows T)) → Sits b m share next ended
      → b2 ≡ b → n ≡ m → Sits b2 n share next ended
  sits_same b2 m n s same e = subst (λ z. Sits z n share next ended) (sym same)
      (subst (λ z. Sits b z share next ended) (sym e) s)

  -- what is found is found still, and more
  pub sits_found : (b2 : TableId) (m n : Me (Option T) (Knows T)) (i : ℕ)
      → Sits b m share next ended → b2 ≡ b → n ≡ (with_found i m.0, m.1)
      → Sits b2 n share next ended
  sits_found b2 m n i s same e =
      subst (λ z. Sits z n share next ended) (sym same)
      (subst (λ z. Sits b z share next ended) (sym e) record {
        sized = s.sized;
        slots = s.slots;
        share_is = s.share_is;
        positive = s.positive;
        low = s.low;
        below = λ k h. grows i k m.0.found (s.below k h);
        all = λ t k h. grows i k m.0.found (s.all t k h);
      })

  -- the number resumed is below the count, and its slot is empty
  pub sits_resumed : (b2 : TableId) (m n : Me (Option T) (Knows T)) (i : ℕ)
      → Sits b m share next ended → i < length m.0.opened → b2 ≡ b
      → n ≡ (with_resumed i m.0, (i, None) ∷ m.1) → Sits b2 n share next ended
  sits_resumed b2 m n i s lt same e =
      subst (λ z. Sits z n share next ended) (sym same)
      (subst (λ z. Sits b z share next ended) (sym e) record {
        sized = s.sized;
        slots = ap (λ z. (i, None) ∷ z) s.slots;
        share_is = s.share_is;
        positive = s.positive;
        low = λ k h. dite (ℕ_discrete i k) (λ q. subst (λ z. z < length m.0.opened) q lt)
            (λ q. s.low k (subst (λ z. 0 < z) (times_else k i m.0.hand q) h));
        below = s.below;
        all = s.all;
      })

  -- so is the number claimed, and it is found too
  pub sits_drawn : (b2 : TableId) (m n : Me (Option T) (Knows T)) (i : ℕ)
      → Sits b m share next ended → i < length m.0.opened → b2 ≡ b
      → n ≡ (with_claimed i m.0, (i, None) ∷ m.1) → Sits b2 n share next ended
  sits_drawn b2 m n i s lt same e = sits_resumed b2 (with_found i m.0, m.1) n i
      (sits_found b m (with_found i m.0, m.1) i s refl refl) lt same e

  -- the hand has only lost a number
  pub sits_given : (b2 : TableId) (m n : Me (Option T) (Knows T)) (i : ℕ)
      → Sits b m share next ended → b2 ≡ b
      → n ≡ (without_front (to_front i m.0), blanks (without i m.0.hand))
      → Sits b2 n share next ended
  sits_given b2 m n i s same e =
      subst (λ z. Sits z n share next ended) (sym same)
      (subst (λ z. Sits b z share next ended) (sym e) record {
        sized = s.sized;
        slots = refl;
        share_is = s.share_is;
        positive = s.positive;
        low = λ k h. s.low k (let w = times_without i k m.0.hand in omega arith);
        below = s.below;
        all = s.all;
      })

  -- and what contracts see of the seat, after each
  pub shows_same : (b2 : TableId) (m n : Me (Option T) (Knows T)) (v : Seating T)
      → seating b m share next ended ≡ v → b2 ≡ b → n ≡ m → seating b2 n share next ended ≡ v
  shows_same b2 m n v e same new = ap₂ (λ x y. seating x y share next ended) same new ∙ e

  pub shows_found : (b2 : TableId) (m n : Me (Option T) (Knows T)) (v : Seating T) (i : ℕ)
      → seating b m share next ended ≡ v → b2 ≡ b → n ≡ (with_found i m.0, m.1)
      → seating b2 n share next ended ≡ record v { found = i ∷ v.found }
  shows_found b2 m n v i e same new = ap₂ (λ x y. seating x y share next ended) same new
      ∙ ap (λ (z : Seating T). record z { found = i ∷ z.found }) e

  pub shows_drawn : (b2 : TableId) (m n : Me (Option T) (Knows T)) (v : Seating T) (i : ℕ)
      → seating b m share next ended ≡ v → b2 ≡ b → n ≡ (with_claimed i m.0, (i, None) ∷ m.1)
      → seating b2 n share next ended ≡ record v { found = i ∷ v.found; hand = i ∷ v.hand }
  shows_drawn b2 m n v i e same new = ap₂ (λ x y. seating x y share next ended) same new
      ∙ ap (λ (z : Seating T). record z { found = i ∷ z.found; hand = i ∷ z.hand }) e

  pub shows_resumed : (b2 : TableId) (m n : Me (Option T) (Knows T)) (v : Seating T) (i : ℕ)
      → seating b m share next ended ≡ v → b2 ≡ b → n ≡ (with_resumed i m.0, (i, None) ∷ m.1)
      → seating b2 n share next ended ≡ record v { hand = i ∷ v.hand }
  shows_resumed b2 m n v i e same new = ap₂ (λ x y. seating x y share next ended) same new
      ∙ ap (λ (z : Seating T). record z { hand = i ∷ z.hand }) e

  pub shows_given : (b2 : TableId) (m n : Me (Option T) (Knows T)) (v : Seating T) (i : ℕ)
      → seating b m share next ended ≡ v → b2 ≡ b
      → n ≡ (without_front (to_front i m.0), blanks (without i m.0.hand))
      → seating b2 n share next ended ≡ record v { hand = without i v.hand }
  shows_given b2 m n v i e same new = ap₂ (λ x y. seating x y share next ended) same new
      ∙ ap (λ (z : Seating T). record z { hand = without i z.hand }) e

bool_or : (a b : Bool) → (a || b) ≡ true → (a ≡ true) ⊎ (b ≡ true)
bool_or true b e = inl refl
bool_or false b e = inr e

module _ {T : Type 0} where
  pub sits_joined : (b b1 b2 : TableId) (m w l n : Me (Option T) (Knows T))
      (share more next more_next : ℕ) (ended more_ended : Bool) (next2 : ℕ) (ended2 : Bool)
      → Sits b m share next ended → Sits b1 w more more_next more_ended → b ≡ b1 → w.0.hand ≡ []
      → l ≡ (joined m.0 w.0, m.1) → (n ≡ l) × (l.0.share ≤ whole_share) → b2 ≡ b
      → next2 ≡ max next more_next → ended2 ≡ (ended || more_ended)
      → Sits b2 n (share + more) next2 ended2
  sits_joined b b1 b2 m w l n share more next more_next ended more_ended next2 ended2 s r same empty
      l_is n_is same2 next_is ended_is =
      let p = s.share_is in
      let q = r.share_is in
      let a = s.positive in
      let ws = s.sized.0 in
      let wr = r.sized.0 in
      let same_words = ap (λ z. z.words) same in
      let sum : l.0.share ≡ m.0.share + w.0.share = ap (λ z. z.0.share) l_is in let most = n_is.1 in
      let level : length m.0.opened ≡ length w.0.opened = omega arith in
      subst (λ z. Sits z n (share + more) next2 ended2) (sym same2)
      (subst (λ z. Sits b z (share + more) next2 ended2) (sym (n_is.0 ∙ l_is)) record {
        sized = s.sized;
        slots = s.slots;
        share_is = omega arith;
        positive = (omega arith, omega arith);
        low = s.low;
        below = λ k h. let t = times_append k m.0.found w.0.found in
            dite (ℕ_discrete (times k m.0.found) 0)
            (λ none_. let y : k < more_next = (below_right k h none_) in
            let z = r.below k y in
            omega arith)
            (λ some_. omega arith);
        all = λ e k lt. let t = times_append k m.0.found w.0.found in ⊎_elim
            (λ x. let z = s.all x k lt in omega arith)
            (λ x. let z = r.all x k (omega arith) in omega arith)
            (bool_or ended more_ended (sym ended_is ∙ e));
      })
    where
      below_right : (k : ℕ) → k < next2 → times k m.0.found ≡ 0 → k < more_next
      below_right k h none_ =
          dite (dec_le (suc k) next) (λ y. absurd (let z = s.below k y in omega arith))
          (λ y. omega (arith, next_is))
