-- Each step keeps the rule.
use Rattle.std.proofs.Common.{◌≡◌, ◌≢◌, ℕ, zero, suc, ◌+◌, ◌<◌, List, [], ◌∷◌, ◌++◌, length, set}
use Rattle.std.proofs.Common.{refl, sym, ap, ◌∙◌, subst, arith, Option, Some, None, ◌⊎◌, inl, inr}
use Rattle.std.proofs.Common.{⊎_elim, map}
use mathlib.Core.Option.{some, none, some-injective, some-ne-none}
use mathlib.Core.Option as maybe
use lib.ListN.{get_elem?}
use prog.Atomic.{either}
use Rattle.std.specs.Prelude.{slice_index, ◌==◌}
use Rattle.atomic_table.specs.Table.{State, Me, Act, step, stepped, Valid, carried_after}
use Rattle.atomic_table.specs.Table.{homes_after, keeps, takes, gives, Allows, Splits, Joins}
use Rattle.atomic_table.specs.Table.{opening}
use Rattle.atomic_table.proofs.Lists.{set_again, exchanged}
use Rattle.order_place.specs.declared.rule.Knows.{Knows}
use Rattle.order_place.specs.Rule.{alone, giver, taker, with_both, free, lent, idle, busy, IsEmpty}
use Rattle.order_place.specs.Rule.{IsLaid, IsHeld, Stands, ArePair, IsOnly, Seats, Holds, Opened}
use Rattle.order_place.specs.Rule.{Laid, Taken, HasPutBack, IsBack, Fetched, Settled}

-- the first, or d where there is none
abbrev head_or : {A : Type 0} → A → List A → A
head_or d [] = d
head_or d (x ∷ xs) = x

set_same : (ws : List ℕ) (i : ℕ) → set ws i (slice_index ws i) ≡ ws
set_same [] i = refl
set_same (x ∷ xs) zero = refl
set_same (x ∷ xs) (suc i) = ap (λ z. x ∷ z) (set_same xs i)

no_one : {A : Type 0} (x : A) → ¬ ([] ≡ x ∷ [])
no_one x e = let l = ap length e in omega arith

module _ {T : Type 0} (same : T → T → Type 0) where
  -- ---- what stands where

  empty_of : (word : ℕ) (out hand : List T) (home : maybe.Option (Option T)) → out ≡ []
      → Stands same word out hand home → IsEmpty word out hand home
  empty_of word out hand home none_ = ⊎_elim (λ a. a)
      (λ b. ⊎_elim (λ l. absurd (no_one l.0 (sym none_ ∙ l.3)))
      (λ r. absurd (no_one r.0 (sym none_ ∙ r.3))) b)

  laid_of : (word : ℕ) (out hand : List T) (home : maybe.Option (Option T)) → word ≢ 0 → word ≢ 2
      → Stands same word out hand home → IsLaid same word out hand home
  laid_of word out hand home not0 not2 = ⊎_elim (λ a. absurd (not0 a.0))
      (λ b. ⊎_elim (λ l. l) (λ r. absurd (not2 r.2)) b)

  -- an order that is out and in nobody's hand lies there
  lies : (word : ℕ) (x : T) (out hand : List T) (home : maybe.Option (Option T)) → out ≡ x ∷ []
      → hand ≡ [] → Stands same word out hand home → IsLaid same word out hand home
  lies word x out hand home some_ none_ = ⊎_elim (λ a. absurd (no_one x (sym a.1 ∙ some_)))
      (λ b. ⊎_elim (λ l. l) (λ r. absurd (no_one r.1 (sym none_ ∙ r.4))) b)

  held_of : (word : ℕ) (y : T) (out hand : List T) (home : maybe.Option (Option T))
      → hand ≡ y ∷ [] → Stands same word out hand home → IsHeld same word out hand home
  held_of word y out hand home some_ = ⊎_elim (λ a. absurd (no_one y (sym a.2 ∙ some_)))
      (λ b. ⊎_elim (λ l. absurd (no_one y (sym l.4 ∙ some_))) (λ r. r) b)

  -- ---- which seat it is

  only_at : (word : ℕ) (home : maybe.Option (Option T)) (views : List (Knows T)) (id : ℕ)
      (v : Knows T) (end : ℕ) → v.end ≡ end → end ≢ 1 → end ≢ 2 → end ≢ 3 → end ≢ 4
      → Seats same word home views → get_elem? views id ≡ some v
      → (views ≡ v ∷ []) × (id ≡ 0) × IsOnly word home v
  only_at word home [] id v end e n1 n2 n3 n4 h at = absurd h
  only_at word home (c ∷ []) zero v end e n1 n2 n3 n4 h at =
      let is = some-injective c v at in
      (ap (λ z. z ∷ []) is, refl, subst (λ z. IsOnly word home z) is h)
  only_at word home (c ∷ []) (suc i) v end e n1 n2 n3 n4 h at = absurd (some-ne-none v (sym at))
  only_at word home (c ∷ u ∷ []) zero v end e n1 n2 n3 n4 h at =
      let is : c.end ≡ v.end = ap (λ (z : Knows T). z.end) (some-injective c v at) in
      absurd (⊎_elim (λ a. n1 (sym e ∙ sym is ∙ a.0)) (λ b. n2 (sym e ∙ sym is ∙ b.0)) h.0)
  only_at word home (c ∷ u ∷ []) (suc zero) v end e n1 n2 n3 n4 h at =
      let is : u.end ≡ v.end = ap (λ (z : Knows T). z.end) (some-injective u v at) in
      absurd (⊎_elim (λ a. n3 (sym e ∙ sym is ∙ a.1)) (λ b. n4 (sym e ∙ sym is ∙ b.1)) h.0)
  only_at word home (c ∷ u ∷ []) (suc (suc i)) v end e n1 n2 n3 n4 h at =
      absurd (some-ne-none v (sym at))
  only_at word home (c ∷ u ∷ t ∷ ts) id v end e n1 n2 n3 n4 h at = absurd h

  giver_at : (word : ℕ) (home : maybe.Option (Option T)) (views : List (Knows T)) (id : ℕ)
      (v : Knows T) → v.end ≡ 1 → Seats same word home views → get_elem? views id ≡ some v
      → (u : Knows T) × (views ≡ v ∷ u ∷ []) × (id ≡ 0) × (u.end ≡ 3)
      × Stands same word v.out u.hand home
  giver_at word home [] id v e h at = absurd h
  giver_at word home (c ∷ []) zero v e h at =
      let is : c.end ≡ v.end = ap (λ (z : Knows T). z.end) (some-injective c v at) in
      absurd (⊎_elim (λ a. let b = a.0 in omega arith) (λ a. let b = a.0 in omega arith) h)
  giver_at word home (c ∷ []) (suc i) v e h at = absurd (some-ne-none v (sym at))
  giver_at word home (c ∷ u ∷ []) zero v e h at =
      let is : c ≡ v = some-injective c v at in
      let end_ : c.end ≡ v.end = ap (λ (z : Knows T). z.end) is in (
        u,
        ap (λ z. z ∷ u ∷ []) is,
        refl,
        ⊎_elim (λ a. a.1) (λ b. absurd (let k = b.0 in omega arith)) h.0,
        subst (λ (z : Knows T). Stands same word z.out u.hand home) is h.1,
      )
  giver_at word home (c ∷ u ∷ []) (suc zero) v e h at =
      let is : u.end ≡ v.end = ap (λ (z : Knows T). z.end) (some-injective u v at) in
      absurd (⊎_elim (λ a. let b = a.1 in omega arith) (λ a. let b = a.1 in omega arith) h.0)
  giver_at word home (c ∷ u ∷ []) (suc (suc i)) v e h at = absurd (some-ne-none v (sym at))
  giver_at word home (c ∷ u ∷ t ∷ ts) id v e h at = absurd h

  taker_at : (word : ℕ) (home : maybe.Option (Option T)) (views : List (Knows T)) (id : ℕ)
      (v : Knows T) → v.end ≡ 3 → Seats same word home views → get_elem? views id ≡ some v
      → (c : Knows T) × (views ≡ c ∷ v ∷ []) × (id ≡ 1) × (c.end ≡ 1)
      × Stands same word c.out v.hand home
  taker_at word home [] id v e h at = absurd h
  taker_at word home (c ∷ []) zero v e h at =
      let is : c.end ≡ v.end = ap (λ (z : Knows T). z.end) (some-injective c v at) in
      absurd (⊎_elim (λ a. let b = a.0 in omega arith) (λ a. let b = a.0 in omega arith) h)
  taker_at word home (c ∷ []) (suc i) v e h at = absurd (some-ne-none v (sym at))
  taker_at word home (c ∷ u ∷ []) zero v e h at =
      let is : c.end ≡ v.end = ap (λ (z : Knows T). z.end) (some-injective c v at) in
      absurd (⊎_elim (λ a. let b = a.0 in omega arith) (λ a. let b = a.0 in omega arith) h.0)
  taker_at word home (c ∷ u ∷ []) (suc zero) v e h at =
      let is : u ≡ v = some-injective u v at in
      let end_ : u.end ≡ v.end = ap (λ (z : Knows T). z.end) is in (
        c,
        ap (λ z. c ∷ z ∷ []) is,
        refl,
        ⊎_elim (λ a. a.0) (λ b. absurd (let k = b.1 in omega arith)) h.0,
        subst (λ (z : Knows T). Stands same word c.out z.hand home) is h.1,
      )
  taker_at word home (c ∷ u ∷ []) (suc (suc i)) v e h at = absurd (some-ne-none v (sym at))
  taker_at word home (c ∷ u ∷ t ∷ ts) id v e h at = absurd h

  both_at : (word : ℕ) (home : maybe.Option (Option T)) (views : List (Knows T)) (id : ℕ)
      (v : Knows T) → v.end ≡ 2 → Seats same word home views → get_elem? views id ≡ some v
      → (u : Knows T) × (views ≡ v ∷ u ∷ []) × (id ≡ 0) × (u.end ≡ 4) × (u.hand ≡ [])
      × Stands same word v.out u.hand home
  both_at word home [] id v e h at = absurd h
  both_at word home (c ∷ []) zero v e h at =
      let is : c.end ≡ v.end = ap (λ (z : Knows T). z.end) (some-injective c v at) in
      absurd (⊎_elim (λ a. let b = a.0 in omega arith) (λ a. let b = a.0 in omega arith) h)
  both_at word home (c ∷ []) (suc i) v e h at = absurd (some-ne-none v (sym at))
  both_at word home (c ∷ u ∷ []) zero v e h at =
      let is : c ≡ v = some-injective c v at in
      let end_ : c.end ≡ v.end = ap (λ (z : Knows T). z.end) is in
      let pair : (u.end ≡ 4) × (u.hand ≡ []) =
      ⊎_elim (λ a. absurd (let k = a.0 in omega arith)) (λ b. (b.1, b.2)) h.0 in (
        u,
        ap (λ z. z ∷ u ∷ []) is,
        refl,
        pair.0,
        pair.1,
        subst (λ (z : Knows T). Stands same word z.out u.hand home) is h.1,
      )
  both_at word home (c ∷ u ∷ []) (suc zero) v e h at =
      let is : u.end ≡ v.end = ap (λ (z : Knows T). z.end) (some-injective u v at) in
      absurd (⊎_elim (λ a. let b = a.1 in omega arith) (λ a. let b = a.1 in omega arith) h.0)
  both_at word home (c ∷ u ∷ []) (suc (suc i)) v e h at = absurd (some-ne-none v (sym at))
  both_at word home (c ∷ u ∷ t ∷ ts) id v e h at = absurd h

  -- ---- the state after a step

  built : (s : State (Option T) (Knows T)) (word k : ℕ) (id : ℕ) (c : List (ℕ × Option T))
      (w : Knows T) (a : Act (Option T)) (home : maybe.Option (Option T)) (views : List (Knows T))
      → s.words ≡ word ∷ [] → homes_after s.homes c a ≡ home ∷ [] → set s.views id w ≡ views
      → Seats same k home views → Holds same (stepped s 0 k id c w a)
  built s word k id c w a home views ew eh ev seats = (
    k,
    home,
    ap (λ (ws : List ℕ). set ws 0 k) ew,
    eh,
    subst (λ (vs : List (Knows T)). Seats same k home vs) (sym ev) seats,
  )

  -- a word that is written as it is, by a seat that learns nothing, changes nothing
  stays : (s : State (Option T) (Knows T)) → Holds same s → (id : ℕ) (v : Knows T)
      → get_elem? s.views id ≡ some v → Holds same record {
        words = set s.words 0 (slice_index s.words 0);
        homes = s.homes;
        views = set s.views id v;
      }
  stays s h id v at = subst (λ (ws : List ℕ). Holds same record {
    words = ws;
    homes = s.homes;
    views = set s.views id v;
  }) (sym (set_same s.words 0))
      (subst (λ (vs : List (Knows T)). Holds same record {
        words = s.words;
        homes = s.homes;
        views = vs;
      }) (sym (set_again s.views id v at)) h)

  first_set : (views : List (Knows T)) (id : ℕ) (v u w : Knows T) → views ≡ v ∷ u ∷ [] → id ≡ 0
      → set views id w ≡ w ∷ u ∷ []
  first_set views id v u w e z =
      subst (λ i. set views i w ≡ w ∷ u ∷ []) (sym z) (ap (λ (vs : List (Knows T)). set vs 0 w) e)

  second_set : (views : List (Knows T)) (id : ℕ) (c v w : Knows T) → views ≡ c ∷ v ∷ [] → id ≡ 1
      → set views id w ≡ c ∷ w ∷ []
  second_set views id c v w e z =
      subst (λ i. set views i w ≡ c ∷ w ∷ []) (sym z) (ap (λ (vs : List (Knows T)). set vs 1 w) e)

  only_set : (views : List (Knows T)) (id : ℕ) (v w : Knows T) → views ≡ v ∷ [] → id ≡ 0
      → set views id w ≡ w ∷ []
  only_set views id v w e z =
      subst (λ i. set views i w ≡ w ∷ []) (sym z) (ap (λ (vs : List (Knows T)). set vs 0 w) e)

  -- ---- the steps

  -- Making: the word is 0, and the slot lies empty.
  pub opens : (ws : List ℕ) (xs : List (Option T)) → ws ≡ 0 ∷ [] → xs ≡ None ∷ []
      → Holds same (opening ws xs (alone 0))
  opens ws xs e f = (
    0,
    some None,
    e,
    ap (λ (l : List (Option T)). map some l) f,
    inl (refl, refl, refl),
  )

  -- Open: the only seat has the slot.
  pub opened : (slots id : ℕ) (m : Me (Option T) (Knows T)) → m ≡ (alone 0, [])
      → Allows (Holds same) slots id m 0 (λ n. n) (Opened (step slots 0 0 0 none) m)
  opened slots id m e = subst (λ (z : Me (Option T) (Knows T)). Allows (Holds same) slots id z 0
      (λ n. n) (Opened (step slots 0 0 0 none) z)) (sym e)
      (λ s h wide at _.
      let o = only_at h.0 h.1 s.views id (alone 0) 0 refl (λ q. absurd (omega arith))
      (λ q. absurd (omega arith)) (λ q. absurd (omega arith)) (λ q. absurd (omega arith)) h.4 at in
      let is : slice_index s.words 0 ≡ h.0 = ap (λ (ws : List ℕ). slice_index ws 0) h.2 in
      let at_home : (h.0 ≡ 0) × (h.1 ≡ some None) = ⊎_elim (λ a. (a.1, a.2))
      (λ b. absurd (let k = b.0 in omega arith)) o.2 in (
        alone 5,
        takes 0 None,
        ap (λ (hs : List (maybe.Option (Option T))). get_elem? hs 0) h.3 ∙ ap some at_home.1,
        built s h.0 (slice_index s.words 0) id [] (alone 5) (takes 0 None) none (alone 5 ∷ []) h.2
            (ap (λ (hs : List (maybe.Option (Option T))). set hs 0 none) h.3)
            (only_set s.views id (alone 0) (alone 5) o.0 o.1)
            (inr (refl, is ∙ at_home.0, refl)),
        refl,
      ))

  -- Divide: the caller's seat has the slot.
  pub divides : (id : ℕ) (v : Knows T) → v ≡ alone 5
      → Splits (Holds same) id v (giver []) (taker [])
  divides id v e s h at =
      let o = only_at h.0 h.1 s.views id v 5 (ap (λ (z : Knows T). z.end) e)
      (λ q. absurd (omega arith)) (λ q. absurd (omega arith)) (λ q. absurd (omega arith))
      (λ q. absurd (omega arith)) h.4 at in
      let end_ : v.end ≡ 5 = ap (λ (z : Knows T). z.end) e in
      let out_ : (h.0 ≡ 0) × (h.1 ≡ none) = ⊎_elim (λ a. absurd (let k = a.0 in omega arith))
      (λ b. (b.1, b.2)) o.2 in (
        h.0,
        h.1,
        h.2,
        h.3,
        subst (λ (vs : List (Knows T)). Seats same h.0 h.1 (vs ++ taker [] ∷ []))
            (sym (only_set s.views id v (giver []) o.0 o.1))
            (inl (refl, refl), inl (out_.0, refl, refl, out_.1)),
      )

  -- Lay: the slot comes home with the order.
  pub lays : (slots id : ℕ) (x : T) (m : Me (Option T) (Knows T))
      → m ≡ (giver [], (0, Some x) ∷ []) → same x x
      → Allows (Holds same) slots id m 0 (λ _. 1) (λ _. Laid (step slots 0 1 0 none) m 1)
  lays slots id x m e own = subst (λ (z : Me (Option T) (Knows T)). Allows (Holds same) slots id z 0
      (λ _. 1) (λ _. Laid (step slots 0 1 0 none) z 1)) (sym e)
      (λ s h wide at _.
      let g = giver_at h.0 h.1 s.views id (giver []) refl h.4 at in
      let empty = empty_of h.0 [] g.0.hand h.1 refl g.4 in (
        giver (x ∷ []),
        gives,
        tt,
        built s h.0 1 id ((0, Some x) ∷ []) (giver (x ∷ [])) gives (some (Some x))
            (giver (x ∷ []) ∷ g.0 ∷ []) h.2
            (ap (λ (hs : List (maybe.Option (Option T))). set hs 0 (some (Some x))) h.3)
            (first_set s.views id (giver []) g.0 (giver (x ∷ [])) g.1 g.2)
            (inl (refl, g.3), inr (inl (x, x, inl refl, refl, empty.2, refl, own))),
        refl,
      ))

  -- Take: where an order lies there, not taken, its slot goes to the worker.
  pub takes_it : (slots id : ℕ) (m : Me (Option T) (Knows T)) → m ≡ idle
      → Allows (Holds same) slots id m 0 (λ n. either (n == 1) 2 n)
      (Taken (step slots 0 1 2 none) m)
  takes_it slots id m e = subst (λ (z : Me (Option T) (Knows T)). Allows (Holds same) slots id z 0
      (λ n. either (n == 1) 2 n) (Taken (step slots 0 1 2 none) z)) (sym e)
      (λ s h wide at _.
      let g = taker_at h.0 h.1 s.views id (taker []) refl h.4 at in
      let n : ℕ = slice_index s.words 0 in
      let is : n ≡ h.0 = ap (λ (ws : List ℕ). slice_index ws 0) h.2 in
      exchanged n 1 2 (λ k. (w : Knows T) × (a : Act (Option T)) × Valid s.homes [] a
      × Holds same (stepped s 0 k id [] w a)
      × Taken (step slots 0 1 2 none) idle n (w, carried_after [] a))
      (λ one.
      let l = laid_of h.0 g.0.out [] h.1 (λ q. absurd (omega arith)) (λ q. absurd (omega arith)) g.4
      in (
        taker (l.1 ∷ []),
        takes 0 (Some l.1),
        ap (λ (hs : List (maybe.Option (Option T))). get_elem? hs 0) h.3 ∙ ap some l.5,
        built s h.0 2 id [] (taker (l.1 ∷ [])) (takes 0 (Some l.1)) none
            (g.0 ∷ taker (l.1 ∷ []) ∷ []) h.2
            (ap (λ (hs : List (maybe.Option (Option T))). set hs 0 none) h.3)
            (second_set s.views id g.0 (taker []) (taker (l.1 ∷ [])) g.1 g.2)
            (inl (g.3, refl), inr (inr (l.0, l.1, refl, l.3, refl, refl, l.6))),
        ((λ _. (l.1, refl)), (λ no. absurd (no one))),
      ))
      (λ other. (
        taker [],
        keeps,
        tt,
        stays s h id (taker []) at,
        ((λ q. absurd (other q)), (λ _. refl)),
      )))

  -- Put back: the slot comes home with what has come of the order.
  pub puts_back : (slots id : ℕ) (y z : T) (m : Me (Option T) (Knows T))
      → m ≡ (taker (y ∷ []), (0, Some z) ∷ []) → ((x : T) → same x y → same x z)
      → Allows (Holds same) slots id m 0 (λ _. 3) (λ _. HasPutBack (step slots 0 3 0 none) m 3)
  puts_back slots id y z m e on = subst (λ (q : Me (Option T) (Knows T)).
      Allows (Holds same) slots id q 0
      (λ _. 3) (λ _. HasPutBack (step slots 0 3 0 none) q 3)) (sym e)
      (λ s h wide at _.
      let g = taker_at h.0 h.1 s.views id (taker (y ∷ [])) refl h.4 at in
      let r = held_of h.0 y g.0.out (y ∷ []) h.1 refl g.4 in
      let is : r.1 ≡ y = ap (λ (l : List T). head_or y l) (sym r.4) in (
        taker [],
        gives,
        tt,
        built s h.0 3 id ((0, Some z) ∷ []) (taker []) gives (some (Some z))
            (g.0 ∷ taker [] ∷ []) h.2
            (ap (λ (hs : List (maybe.Option (Option T))). set hs 0 (some (Some z))) h.3)
            (second_set s.views id g.0 (taker (y ∷ [])) (taker []) g.1 g.2) (
              inl (g.3, refl),
              inr (inl (
                r.0,
                z,
                inr refl,
                r.3,
                refl,
                refl,
                on r.0 (subst (λ q. same r.0 q) is r.6),
              )),
            ),
        refl,
      ))

  -- Fetch, and recall: where the order lies there, its slot comes back.
  pub fetches : (slots id k : ℕ) (x : T) (m : Me (Option T) (Knows T)) → m ≡ lent x → k ≢ 0 → k ≢ 2
      → Allows (Holds same) slots id m 0 (λ n. either (n == k) 0 n)
      (Fetched same (step slots 0 k 0 none) m)
  fetches slots id k x m e not0 not2 = subst (λ (z : Me (Option T) (Knows T)).
      Allows (Holds same) slots id z 0
      (λ n. either (n == k) 0 n) (Fetched same (step slots 0 k 0 none) z)) (sym e)
      (λ s h wide at _.
      let g = giver_at h.0 h.1 s.views id (giver (x ∷ [])) refl h.4 at in
      let n : ℕ = slice_index s.words 0 in
      let is : n ≡ h.0 = ap (λ (ws : List ℕ). slice_index ws 0) h.2 in
      exchanged n k 0 (λ j. (w : Knows T) × (a : Act (Option T)) × Valid s.homes [] a
      × Holds same (stepped s 0 j id [] w a)
      × Fetched same (step slots 0 k 0 none) (lent x) n (w, carried_after [] a))
      (λ one.
      let l = laid_of h.0 (x ∷ []) g.0.hand h.1 (λ q. not0 (sym one ∙ is ∙ q))
      (λ q. not2 (sym one ∙ is ∙ q)) g.4 in (
        giver [],
        takes 0 (Some l.1),
        ap (λ (hs : List (maybe.Option (Option T))). get_elem? hs 0) h.3 ∙ ap some l.5,
        built s h.0 0 id [] (giver []) (takes 0 (Some l.1)) none (giver [] ∷ g.0 ∷ []) h.2
            (ap (λ (hs : List (maybe.Option (Option T))). set hs 0 none) h.3)
            (first_set s.views id (giver (x ∷ [])) g.0 (giver []) g.1 g.2)
            (inl (refl, g.3), inl (refl, refl, l.4, refl)),
        ((λ _. (l.0, l.1, l.3, l.6, refl)), (λ no. absurd (no one))),
      ))
      (λ other. (
        giver (x ∷ []),
        keeps,
        tt,
        stays s h id (giver (x ∷ [])) at,
        ((λ q. absurd (other q)), (λ _. refl)),
      )))

  -- Unite: the worker's seat, with nothing in hand, is given up.
  pub unites : (id : ℕ) (x : T) (v : Knows T) (other : ℕ) (w : Knows T) → v ≡ giver (x ∷ [])
      → w ≡ taker [] → Joins (Holds same) id v other w (with_both v) (alone 4)
  unites id x v other w e f s h at ne at_other =
      let g = giver_at h.0 h.1 s.views id v (ap (λ (z : Knows T). z.end) e) h.4 at in
      let now = first_set s.views id v g.0 (with_both v) g.1 g.2 in
      let o = is_second v.out g.0 w other (λ q. ne (q ∙ sym g.2))
      (subst (λ (vs : List (Knows T)). get_elem? vs other ≡ some w) now at_other) in
      let free_hand : g.0.hand ≡ [] = ap (λ (z : Knows T). z.hand) (o.1 ∙ f) in (
        h.0,
        h.1,
        h.2,
        h.3,
        subst (λ (vs : List (Knows T)). Seats same h.0 h.1 (set vs other (alone 4))) (sym now)
            (subst (λ i. Seats same h.0 h.1 (set (with_both v ∷ g.0 ∷ []) i (alone 4))) (sym o.0) (
              inr (refl, refl, refl),
              subst (λ l. Stands same h.0 v.out l h.1) free_hand g.4,
            )),
      )
    where
      is_second : (out : List T) (u z : Knows T) (i : ℕ) → i ≢ 0
          → get_elem? (record { end = 2; out = out; hand = [] } ∷ u ∷ []) i ≡ some z
          → (i ≡ 1) × (u ≡ z)
      is_second out u z zero apart at = absurd (apart refl)
      is_second out u z (suc zero) apart at = (refl, some-injective u z at)
      is_second out u z (suc (suc i)) apart at = absurd (some-ne-none z (sym at))

  -- Settle: nobody has the order in hand, so it lies there.
  pub settles : (slots id : ℕ) (x : T) (m : Me (Option T) (Knows T))
      → m ≡ (with_both (giver (x ∷ [])), [])
      → Allows (Holds same) slots id m 0 (λ _. 0) (Settled same (step slots 0 0 0 none) m)
  settles slots id x m e = subst (λ (z : Me (Option T) (Knows T)). Allows (Holds same) slots id z 0
      (λ _. 0) (Settled same (step slots 0 0 0 none) z)) (sym e)
      (λ s h wide at _.
      let g = both_at h.0 h.1 s.views id (with_both (giver (x ∷ []))) refl h.4 at in
      let l = lies h.0 x (x ∷ []) g.0.hand h.1 refl g.4 g.5 in (
        alone 2,
        takes 0 (Some l.1),
        ap (λ (hs : List (maybe.Option (Option T))). get_elem? hs 0) h.3 ∙ ap some l.5,
        built s h.0 0 id [] (alone 2) (takes 0 (Some l.1)) none (alone 2 ∷ g.0 ∷ []) h.2
            (ap (λ (hs : List (maybe.Option (Option T))). set hs 0 none) h.3)
            (first_set s.views id (with_both (giver (x ∷ []))) g.0 (alone 2) g.1 g.2)
            (inr (refl, g.3, g.4), inl (refl, refl, l.4, refl)),
        (l.0, l.1, l.3, l.6, refl),
      ))
