-- Each kind of step keeps every pack in its place, whatever the words say it by.
use Rattle.std.proofs.Common.{◌≡◌, ◌≢◌, ℕ, zero, suc, ◌+◌, ◌<◌, ◌≤◌, List, [], ◌∷◌, ◌++◌, length}
use Rattle.std.proofs.Common.{set, refl, sym, ap, ◌∙◌, subst, arith, Option, Some, None, length-set}
use Rattle.std.proofs.Common.{⊎_elim, map}
use Rattle.std.proofs.lemmas.List.{length-map}
use mathlib.Core.Logic.{dite}
use mathlib.Core.Option.{some, none, some-injective, some-ne-none}
use mathlib.Core.Option as maybe
use native.Mathlib.Decide.{ℕ_discrete}
use lib.ListN.{get_elem?}
use Rattle.atomic_table.specs.Table.{Act, Valid, carried_after, homes_after}
use Rattle.atomic_table.proofs.Lists.{at_set, at_snoc, set_here, set_else, at_map}
use Rattle.hand_board.specs.declared.rule.Knows.{Knows}
use Rattle.hand_board.specs.Placed.{Knowing, Lies, Placed, times, once, total, whole_share, without}
use Rattle.hand_board.specs.Placed.{tail}
use Rattle.hand_board.specs.Placed.{blanks, to_front, without_front, left_half, right_half}
use Rattle.hand_board.specs.Placed.{spent_view, first_view}
use Rattle.hand_board.proofs.Counts.{times_here, times_else, times_append, times_bring}
use Rattle.hand_board.proofs.Counts.{once_one, once_none, once_most, split_at, apart_of}
use Rattle.hand_board.proofs.Counts.{distinct_of, within_of, blanks_append, total_set}
use Rattle.hand_board.proofs.Counts.{total_snoc, total_part, total_alone}
use Rattle.hand_board.proofs.Front.{front, carries, others, long, valid}

abbrev pub Homes : Type 0 → Type 0
Homes T = List (maybe.Option (Option T))

module _ {T : Type 0} (so : T → T → Type 0) (opened : List T) where
  -- what lies at home in one phase lies there still, and so does the pack of i, if that is its
  -- phase
  lies_moved : (ph qh : ℕ → ℕ) (homes hs : Homes T) (k : ℕ) → once k ≡ 0
      → ((j : ℕ) → ph j ≡ k → Lies so opened homes j) → (i : ℕ)
      → ((j : ℕ) → j ≢ i → qh j ≡ ph j)
      → ((j : ℕ) → j ≢ i → once (ph j) ≡ 0 → get_elem? hs j ≡ get_elem? homes j)
      → (qh i ≡ k → Lies so opened hs i) → (j : ℕ) → qh j ≡ k → Lies so opened hs j
  lies_moved ph qh homes hs k out h i as_was same here j e = dite (ℕ_discrete j i)
      (λ q. subst (Lies so opened hs) (sym q) (here (ap qh (sym q) ∙ e)))
      (λ n x there_. let is_k : ph j ≡ k = sym (as_was j n) ∙ e in
      let t = h j is_k x there_ in
      (t.0, same j n (ap once is_k ∙ out) ∙ t.1, t.2))

module _ {T : Type 0} (fin way : T → T → Type 0) (opened : List T) where
  -- the phase of i changes, and the seat id has a new view
  pub placed_moved : (ph qh : ℕ → ℕ) (homes hs : Homes T) (views : List (Knows T))
      → Placed fin way opened ph homes views → (i id : ℕ) (v w : Knows T)
      → get_elem? views id ≡ some v → 0 < v.share → qh i ≢ 0 → ((j : ℕ) → j ≢ i → qh j ≡ ph j)
      → length hs ≡ length homes
      → ((j : ℕ) → j ≢ i → once (ph j) ≡ 0 → get_elem? hs j ≡ get_elem? homes j)
      → (qh i ≡ 2 → Lies fin opened hs i) → (qh i ≡ 3 → Lies way opened hs i)
      → w.opened ≡ v.opened → w.share ≡ v.share
      → ((j : ℕ) → j ≢ i → times j w.hand ≡ times j v.hand)
      → times i w.hand + once (ph i) ≡ times i v.hand + once (qh i)
      → Placed fin way opened qh hs (set views id w)
  placed_moved ph qh homes hs views h i id v w at share begun as_was long_ same ends waits opens
      shares_ apart_ here_ =
      let mine = h.knowing id v at in
      record {
        level = long_ ∙ h.level;
        unbegun = λ j x there_ e. dite (ℕ_discrete j i)
            (λ q. absurd (begun (ap qh (sym q) ∙ e)))
            (λ n. let z : ph j ≡ 0 = sym (as_was j n) ∙ e in
            same j n (ap once z) ∙ h.unbegun j x there_ z);
        held = λ j. dite (ℕ_discrete j i)
            (λ e. subst (λ z. total (λ (u : Knows T). times z u.hand) (set views id w)
            ≡ once (qh z)) (sym e)
            (let p = total_set (λ (u : Knows T). times i u.hand) views id v w at in
            let q = h.held i in
            omega arith))
            (λ n. let p = total_set (λ (u : Knows T). times j u.hand) views id v w at in
            let q = h.held j in
            let r = ap once (as_was j n) in
            let a = apart_ j n in
            omega arith);
        done = lies_moved fin opened ph qh homes hs 2 refl h.done i as_was same ends;
        waiting = lies_moved way opened ph qh homes hs 3 refl h.waiting i as_was same waits;
        shares =
            let p = total_set (λ (u : Knows T). u.share) views id v w at in
            let q = h.shares in
            omega arith;
        knowing = λ j u there_. ⊎_elim
            (λ t. subst (λ z. Knowing opened z) t.1 record {
              told = λ _. opens ∙ mine.told share;
              spent = λ z. absurd (omega arith);
            })
            (λ t. h.knowing j u t.1)
            (at_set views id j w u there_);
      }

  -- to phase 1: the pack leaves its home for this hand
  pub placed_taken : (ph qh : ℕ → ℕ) (homes : Homes T) (views : List (Knows T))
      → Placed fin way opened ph homes views → (i id : ℕ) (v w : Knows T)
      → get_elem? views id ≡ some v → 0 < v.share → once (ph i) ≡ 0 → qh i ≡ 1
      → ((j : ℕ) → j ≢ i → qh j ≡ ph j)
      → w.opened ≡ v.opened → w.share ≡ v.share → w.hand ≡ i ∷ v.hand
      → Placed fin way opened qh (set homes i none) (set views id w)
  placed_taken ph qh homes views h i id v w at share free held as_was opens shares_ hand =
      let b : once (qh i) ≡ 1 = ap once held in
      placed_moved ph qh homes (set homes i none) views h i id v w at share
      (λ z. absurd (omega arith)) as_was (length-set homes i none)
      (λ j q _. set_else homes i j none q) (λ q. absurd (omega arith)) (λ q. absurd (omega arith))
      opens shares_ (λ j q. ap (times j) hand ∙ times_else j i v.hand (λ e. q (sym e)))
      (let c = ap (times i) hand in let d = times_here i v.hand in omega arith)

  -- a number in a hand has phase 1
  pub in_hand : (ph : ℕ → ℕ) (homes : Homes T) (views : List (Knows T))
      → Placed fin way opened ph homes views → (id i : ℕ) (v : Knows T)
      → get_elem? views id ≡ some v → 0 < times i v.hand → ph i ≡ 1
  in_hand ph homes views h id i v at has =
      let part = total_part (λ (u : Knows T). times i u.hand) views id v at in
      let all = h.held i in
      once_one _ (omega arith)

  -- phase 1 to 2 or 3: the pack at the front of this hand goes home, finished or under way
  pub placed_given : (ph qh : ℕ → ℕ) (homes : Homes T) (views : List (Knows T))
      → Placed fin way opened ph homes views → (i id : ℕ) (v : Knows T) (y : T) (hand : List ℕ)
      → get_elem? views id ≡ some v → 0 < v.share → i < length opened → v.hand ≡ i ∷ hand
      → 2 ≤ qh i → ((j : ℕ) → j ≢ i → qh j ≡ ph j)
      → ((x : T) → get_elem? v.opened i ≡ some x → (qh i ≡ 2 → fin x y) × (qh i ≡ 3 → way x y))
      → Placed fin way opened qh (set homes i (some (Some y))) (set views id (without_front v))
  placed_given ph qh homes views h i id v y hand at share lt has high as_was comes =
      let says = (h.knowing id v at).told share in
      let here : times i v.hand ≡ suc (times i hand) = ap (times i) has ∙ times_here i hand in
      let one : ph i ≡ 1 = in_hand ph homes views h id i v at (omega arith) in
      let a : once (ph i) ≡ 1 = ap once one in
      let b : once (qh i) ≡ 0 = once_none (qh i) (λ e. absurd (omega arith)) in
      let level = h.level in
      let home = set_here homes i (some (Some y)) (omega arith) in
      let now = λ (x : T) (at2 : get_elem? opened i ≡ some x). comes x
      (ap (λ l. get_elem? l i) says ∙ at2) in
      placed_moved ph qh homes (set homes i (some (Some y))) views h i id v
      (without_front v) at share (λ z. absurd (omega arith)) as_was
      (length-set homes i (some (Some y)))
      (λ j n _. set_else homes i j (some (Some y)) n)
      (λ e x at2. (y, home, (now x at2).0 e)) (λ e x at2. (y, home, (now x at2).1 e))
      refl refl
      (λ j n. ap (λ z. times j (tail z)) has
      ∙ sym (ap (times j) has ∙ times_else j i hand (λ q. n (sym q))))
      (let c : times i (tail v.hand) ≡ times i hand = ap (λ z. times i (tail z)) has in omega arith)

  -- where a view keeps its packs, its share and its hand
  pub placed_same : (ph : ℕ → ℕ) (homes : Homes T) (views : List (Knows T))
      → Placed fin way opened ph homes views → (id : ℕ) (v w : Knows T)
      → get_elem? views id ≡ some v → 0 < v.share → w.opened ≡ v.opened → w.share ≡ v.share
      → w.hand ≡ v.hand → Placed fin way opened ph homes (set views id w)
  placed_same ph homes views h id v w at share opens shares_ hand =
      record {
        level = h.level;
        unbegun = h.unbegun;
        done = h.done;
        waiting = h.waiting;
        held = λ j. let p = total_set (λ (u : Knows T). times j u.hand) views id v w at in
            let q = h.held j in
            let a = ap (times j) hand in
            omega arith;
        shares =
            let p = total_set (λ (u : Knows T). u.share) views id v w at in
            let q = h.shares in
            omega arith;
        knowing = λ j u there_. ⊎_elim
            (λ t. subst (λ z. Knowing opened z) t.1 record {
              told =
                  λ _. opens ∙ (h.knowing id v at).told share;
              spent =
                  λ z. absurd (omega arith);
            })
            (λ t. h.knowing j u t.1)
            (at_set views id j w u there_);
      }

  -- the slot of i comes to the front of those that the seat has
  pub placed_brought : (ph : ℕ → ℕ) (homes : Homes T) (views : List (Knows T))
      → Placed fin way opened ph homes views → (low : (k : ℕ) → ph k ≡ 1 → k < length opened)
      → (i id : ℕ) (v : Knows T)
      → get_elem? views id ≡ some v → 0 < v.share → 0 < times i v.hand
      → (a : Act (Option T)) × Valid homes (blanks v.hand) a
      × Placed fin way opened ph (homes_after homes (blanks v.hand) a) (set views id (to_front i v))
      × (carried_after (blanks v.hand) a ≡ blanks (i ∷ without i v.hand))
  placed_brought ph homes views h low i id v at share has =
      let r = split_at i v.hand has in
      let pre : List ℕ = r.0 in let post : List ℕ = r.1 in
      let act : Act (Option T) = front (blanks pre) i None in
      let one : ph i ≡ 1 = in_hand ph homes views h id i v at has in
      let level = h.level in let lt = low i one in
      let fewer : (k : ℕ)
      → times k pre ≤ times k v.hand = λ k. let a : times k v.hand ≡ times k (pre ++ i ∷ post) =
      ap (times k) r.2 in
      let b = times_append k pre (i ∷ post) in
      omega arith in
      let few : (k : ℕ) → times k pre ≤ 1 = λ k. let a =
      total_part (λ (u : Knows T). times k u.hand) views id v at in
      let b = h.held k in
      let c = once_most (ph k) in
      let d = fewer k in
      omega arith in
      let inside_ : (k : ℕ) → 0 < times k pre → k < length homes = λ k p. let a = fewer k in
      let z = low k (in_hand ph homes views h id k v at (omega arith)) in
      omega arith in
      let F : List (ℕ × Option T) → Type 0 = λ c. Valid homes c act
      × Placed fin way opened ph (homes_after homes c act) (set views id (to_front i v))
      × (carried_after c act ≡ blanks (i ∷ without i v.hand)) in
      let f : F (blanks pre ++ (i, None) ∷ blanks post) = (
        valid homes (blanks pre) (blanks post) i None (omega arith)
            (within_of T (length homes) pre inside_) (apart_of T i pre r.4)
            (distinct_of T pre few),
        placed_moved ph ph homes
            (homes_after homes (blanks pre ++ (i, None) ∷ blanks post) act) views h i id v
            (to_front i v) at share (λ z. absurd (omega arith)) (λ j _. refl)
            (long homes (blanks pre) (blanks post) i None)
            (λ j ne out. others homes (blanks pre) (blanks post) i None j ne
            (apart_of T j pre (let a = fewer j in
            let b = total_part (λ (u : Knows T). times j u.hand) views id v at in
            let c = h.held j in
            omega arith)))
            (λ two. absurd (omega arith)) (λ three. absurd (omega arith)) refl refl
            (λ j _. times_bring i j v.hand has)
            (let a = times_bring i i v.hand has in omega arith),
        carries (blanks pre) (blanks post) i None
            ∙ ap (λ z. (i, None) ∷ z) (sym (blanks_append pre post) ∙ ap blanks (sym r.3)),
      ) in
      let g = subst F (sym (ap blanks r.2 ∙ blanks_append pre (i ∷ post))) f in
      (act, g.0, g.1, g.2)

  -- one share becomes two, and the hand stays with the first
  pub placed_split : (ph : ℕ → ℕ) (homes : Homes T) (views : List (Knows T))
      → Placed fin way opened ph homes views → (id : ℕ) (v : Knows T) → get_elem? views id ≡ some v
      → 2 ≤ v.share
      → Placed fin way opened ph homes (set views id (left_half v) ++ right_half v ∷ [])
  placed_split ph homes views h id v at two =
      let mine = h.knowing id v at in
      record {
        level = h.level;
        unbegun = h.unbegun;
        done = h.done;
        waiting = h.waiting;
        held = λ i. let p =
            total_set (λ (u : Knows T). times i u.hand) views id v (left_half v) at in
            let q =
            total_snoc (λ (u : Knows T). times i u.hand) (set views id (left_half v))
            (right_half v) in
            let r = h.held i in
            omega arith;
        shares =
            let p = total_set (λ (u : Knows T). u.share) views id v (left_half v) at in
            let q = total_snoc (λ (u : Knows T). u.share) (set views id (left_half v))
            (right_half v) in
            let r = h.shares in
            omega arith;
        knowing = λ j u there_. ⊎_elim
            (λ t. ⊎_elim
            (λ q. subst (λ z. Knowing opened z) q.1 record {
              told = λ _. mine.told (omega arith);
              spent = λ z. absurd (omega arith);
            })
            (λ q. h.knowing j u q.1)
            (at_set views id j (left_half v) u t))
            (λ t. subst (λ z. Knowing opened z) t record {
              told = λ _. mine.told (omega arith);
              spent = λ z. absurd (omega arith);
            })
            (at_snoc (set views id (left_half v)) (right_half v) u j there_);
      }

  -- two shares become one, and the other seat has nothing
  pub placed_joined : (ph : ℕ → ℕ) (homes : Homes T) (views : List (Knows T))
      → Placed fin way opened ph homes views → (id : ℕ) (v : Knows T) (other : ℕ) (w b : Knows T)
      → get_elem? views id ≡ some v → 0 < v.share → get_elem? (set views id b) other ≡ some w
      → w.hand ≡ [] → b.opened ≡ v.opened → b.share ≡ v.share + w.share → b.hand ≡ v.hand
      → Placed fin way opened ph homes (set (set views id b) other spent_view)
  placed_joined ph homes views h id v other w b at share at_other empty opens sum hand =
      let mine = h.knowing id v at in
      record {
        level = h.level;
        unbegun = h.unbegun;
        done = h.done;
        waiting = h.waiting;
        held = λ i. let p = total_set (λ (u : Knows T). times i u.hand) views id v b at in
            let q =
            total_set (λ (u : Knows T). times i u.hand)
            (set views id b) other w spent_view at_other in
            let r = h.held i in
            let e : times i w.hand ≡ 0 = ap (times i) empty in
            let d = ap (times i) hand in
            omega arith;
        shares =
            let p = total_set (λ (u : Knows T). u.share) views id v b at in
            let q = total_set (λ (u : Knows T). u.share)
            (set views id b) other w spent_view at_other in
            let r = h.shares in
            omega arith;
        knowing = λ j u there_. ⊎_elim
            (λ t. subst (λ z. Knowing opened z) t.1 record {
              told = λ z. absurd (omega arith);
              spent = λ _. (refl, refl);
            })
            (λ t. ⊎_elim
            (λ q. subst (λ z. Knowing opened z) q.1 record {
              told = λ _. opens ∙ mine.told share;
              spent = λ z. absurd (omega arith);
            })
            (λ q. h.knowing j u q.1)
            (at_set views id j b u t.1))
            (at_set (set views id b) other j spent_view u there_);
      }

  -- all at home, in phase 0
  pub placed_opens : (ph : ℕ → ℕ) → ((i : ℕ) → ph i ≡ 0) → (xs : List (Option T))
      → xs ≡ map Some opened → Placed fin way opened ph (map some xs) (first_view opened ∷ [])
  placed_opens ph zeros xs e =
      subst (λ l. Placed fin way opened ph (map some l) (first_view opened ∷ [])) (sym e) record {
        level = simp length-map;
        unbegun = λ i x at _. at_map some (map Some opened) i (Some x) (at_map Some opened i x at);
        held = λ i. sym (ap once (zeros i));
        done = λ i two. absurd (let z = zeros i in omega arith);
        waiting = λ i three. absurd (let z = zeros i in omega arith);
        shares = refl;
        knowing = λ j v at. first_only j v at;
      }
    where
      first_only : (j : ℕ) (v : Knows T) → get_elem? (first_view opened ∷ []) j ≡ some v
          → Knowing opened v
      first_only zero v at =
          subst (λ z. Knowing opened z) (some-injective _ _ at) record {
            told = λ _. refl;
            spent =
                λ z. absurd (omega arith);
          }
      first_only (suc j) v at = absurd (some-ne-none v (sym at))

  -- no share is above the whole
  pub placed_share : (ph : ℕ → ℕ) (homes : Homes T) (views : List (Knows T))
      → Placed fin way opened ph homes views → (id : ℕ) (v : Knows T) → get_elem? views id ≡ some v
      → v.share ≤ whole_share
  placed_share ph homes views h id v at =
      let p = total_part (λ (u : Knows T). u.share) views id v at in
      let q = h.shares in
      omega arith

  -- who has every share and nothing in hand knows that no number is in a hand
  pub none_out : (ph : ℕ → ℕ) (homes : Homes T) (views : List (Knows T))
      → Placed fin way opened ph homes views → (id : ℕ) (v : Knows T) → get_elem? views id ≡ some v
      → v.share ≡ whole_share → v.hand ≡ [] → (i : ℕ) → ph i ≢ 1
  none_out ph homes views h id v at all empty i one =
      let alone = total_alone (λ (u : Knows T). times i u.hand)
      (λ (u : Knows T). u.share) views id v at (h.shares ∙ sym all)
      (λ j u p none_. ap (times i) ((h.knowing j u p).spent none_).0) in
      let e : times i v.hand ≡ 0 = ap (times i) empty in
      let held = h.held i in let q : once (ph i) ≡ 1 = ap once one in absurd (omega arith)
