-- Each step keeps the rule.
use Rattle.std.proofs.Common.{◌≡◌, ◌≢◌, ℕ, zero, suc, ◌+◌, ◌<◌, ◌≤◌, List, [], ◌∷◌, length, get_or}
use Rattle.std.proofs.Common.{set, refl, sym, ap, ◌∙◌, subst, arith, Option, Some, length-set}
use Rattle.std.proofs.Common.{get_or-set_same, get_or-set_other, ⊎_elim, map}
use mathlib.Core.Logic.{dite}
use mathlib.Core.Option.{some, none, some-injective, some-ne-none}
use native.Mathlib.Decide.{ℕ_discrete}
use lib.ListN.{get_elem?}
use prog.Atomic.{either}
use Rattle.std.specs.Prelude.{slice_index, ◌==◌}
use Rattle.atomic_table.specs.Table.{State, Me, Act, step, stepped, Valid, carried_after}
use Rattle.atomic_table.specs.Table.{homes_after, keeps, takes, gives, Allows, Splits, Joins}
use Rattle.atomic_table.specs.Table.{opening}
use Rattle.atomic_table.proofs.Lists.{at_set, at_snoc, set_else, set_again, exchanged}
use Rattle.hand_board.specs.declared.rule.Knows.{Knows}
use Rattle.hand_board.specs.Placed.{Placed, times, once, whole_share, blanks, to_front}
use Rattle.hand_board.specs.Placed.{without_front}
use Rattle.hand_board.specs.Placed.{left_half, right_half, spent_view, first_view}
use Rattle.hand_board.specs.Rule.{Holds, Claimed, ClaimedAt, Given, Weighed, Brought, BroughtAt}
use Rattle.hand_board.specs.Rule.{with_found, with_claimed, joined}
use Rattle.hand_board.specs.Rule.{with_resumed, Resumed, ResumedAt}
use Rattle.hand_board.specs.Seating.{Rests}
use Rattle.hand_board.proofs.Counts.{within, there, times_here, times_else, times_append}
use Rattle.hand_board.proofs.Placing.{placed_taken, placed_given, placed_same, placed_brought}
use Rattle.hand_board.proofs.Placing.{placed_split, placed_joined, placed_opens, placed_share}
use Rattle.hand_board.proofs.Placing.{none_out, in_hand, Homes}

zero_of : (n : ℕ) → ¬ (0 < n) → n ≡ 0
zero_of n h = omega arith

positive : (n : ℕ) → n ≢ 0 → 0 < n
positive n h = omega arith

pub in_words : (l : List ℕ) (i : ℕ) → 0 < get_or l i 0 → i < length l
in_words [] i h = absurd (omega arith)
in_words (x ∷ xs) zero h = omega arith
in_words (x ∷ xs) (suc i) h = let r = in_words xs i h in omega arith

pub set_same : (ws : List ℕ) (i : ℕ) → set ws i (slice_index ws i) ≡ ws
set_same [] i = refl
set_same (x ∷ xs) zero = refl
set_same (x ∷ xs) (suc i) = ap (λ z. x ∷ z) (set_same xs i)

module _ {T : Type 0} (fin way : T → T → Type 0) (opened : List T) where
  -- the words of other numbers stand
  as_was : (s : State (Option T) (Knows T)) (i k j : ℕ) → j ≢ i
      → slice_index (set s.words (i + 1) k) (j + 1) ≡ slice_index s.words (j + 1)
  as_was s i k j n = get_or-set_other s.words (i + 1) (j + 1) k 0 (λ q. n (omega arith))

  -- the word that was written is there
  now_is : (s : State (Option T) (Knows T)) → Holds fin way opened s → (i k : ℕ) → i < length opened
      → slice_index (set s.words (i + 1) k) (i + 1) ≡ k
  now_is s h i k lt = let wide = h.wide in get_or-set_same s.words (i + 1) k 0 (omega arith)

  -- a word past the count is 0, so no number past it is in a hand
  low : (s : State (Option T) (Knows T)) → Holds fin way opened s → (k : ℕ)
      → slice_index s.words (k + 1) ≡ 1 → k < length opened
  low s h k one = let w = h.wide in let r = in_words s.words (k + 1) (omega arith) in omega arith

  -- the word of i becomes k, which is not 0, and the packs lie as it says
  written : (s : State (Option T) (Knows T)) → Holds fin way opened s
      → (i k id : ℕ) (v w : Knows T) (hs : Homes T)
      → get_elem? s.views id ≡ some v → i < length opened → 0 < k → k ≤ 3
      → Placed fin way opened (λ j. slice_index (set s.words (i + 1) k) (j + 1)) hs
      (set s.views id w)
      → ((j : ℕ) → j ≢ i → 0 < times j w.found → 0 < times j v.found)
      → Holds fin way opened record {
        words = set s.words (i + 1) k;
        homes = hs;
        views =
            set s.views id w;
      }
  written s h i k id v w hs at lt some_ most placed_ found =
      let now = now_is s h i k lt in
      let begins_ : (u : Knows T)
      → ((m : ℕ) → m ≢ i → 0 < times m u.found → slice_index s.words (m + 1) ≢ 0) → (m : ℕ)
      → 0 < times m u.found → slice_index (set s.words (i + 1) k) (m + 1) ≢ 0
      = λ u f m p. dite (ℕ_discrete m i)
      (λ q z. absurd
      (let y : k ≡ 0 =
      sym now ∙ ap (λ n. slice_index (set s.words (i + 1) k) (n + 1)) (sym q) ∙ z in
      omega arith)) (λ n z. f m n p (sym (as_was s i k m n) ∙ z)) in
      record {
        wide = length-set s.words (i + 1) k ∙ h.wide;
        unused = get_or-set_other s.words (i + 1) 0 k 0 (λ q. absurd (omega arith)) ∙ h.unused;
        small = λ j. dite (ℕ_discrete j i)
            (λ e. subst (λ n. slice_index (set s.words (i + 1) k) (n + 1) ≤ 3) (sym e)
            (subst (λ n. n ≤ 3) (sym now) most))
            (λ n. subst (λ z. z ≤ 3) (sym (as_was s i k j n)) (h.small j));
        placed = placed_;
        begun = λ j u there_. ⊎_elim
            (λ t. subst (λ (z : Knows T). (m : ℕ) → 0 < times m z.found
            → slice_index (set s.words (i + 1) k) (m + 1) ≢ 0) t.1
            (begins_ w (λ m n p. h.begun id v at m (found m n p))))
            (λ t. begins_ u (λ m n p. h.begun j u t.1 m p))
            (at_set s.views id j w u there_);
      }

  -- the word of i becomes 1, and its pack goes from its home to this seat
  taken : (s : State (Option T) (Knows T)) → Holds fin way opened s → (i id : ℕ) (v w : Knows T)
      → get_elem? s.views id ≡ some v → i < length opened → 0 < v.share
      → once (slice_index s.words (i + 1)) ≡ 0
      → w.opened ≡ v.opened → w.share ≡ v.share → w.hand ≡ i ∷ v.hand
      → ((j : ℕ) → j ≢ i → 0 < times j w.found → 0 < times j v.found)
      → Holds fin way opened record {
        words = set s.words (i + 1) 1;
        homes = set s.homes i none;
        views = set s.views id w;
      }
  taken s h i id v w at lt share free opens_ shares_ hand found =
      written s h i 1 id v w (set s.homes i none) at lt (omega arith) (omega arith)
      (placed_taken fin way opened _ (λ j. slice_index (set s.words (i + 1) 1) (j + 1)) s.homes
      s.views h.placed i id v w at share free (now_is s h i 1 lt) (as_was s i 1) opens_ shares_
      hand) found

  -- a word that is written as it is, by a seat that learns nothing, changes nothing
  stands : (s : State (Option T) (Knows T)) → Holds fin way opened s → (i id : ℕ) (v : Knows T)
      → get_elem? s.views id ≡ some v → Holds fin way opened record {
        words = set s.words i (slice_index s.words i);
        homes = s.homes;
        views = set s.views id v;
      }
  stands s h i id v at = subst (λ (ws : List ℕ). Holds fin way opened record {
    words = ws;
    homes = s.homes;
    views = set s.views id v;
  }) (sym (set_same s.words i))
      (subst (λ (vs : List (Knows T)). Holds fin way opened record {
        words = s.words;
        homes = s.homes;
        views = vs;
      }) (sym (set_again s.views id v at)) h)

  -- Claim: where the word was 0 the pack lies at home as it opened, and its slot goes to this seat;
  -- no seat had found it, since its word was 0. Else only this seat has found it, and it is begun.
  pub claims : (slots id i : ℕ) (m : Me (Option T) (Knows T)) → i < length opened → 0 < m.0.share
      → Allows (Holds fin way opened) slots id m (i + 1) (λ n. either (n == 0) 1 n)
      (Claimed (step slots (i + 1) 0 1 none) m)
  claims slots id i m lt share s h wide at _ =
      let says = (h.placed.knowing id m.0 at).told share in
      let n : ℕ = slice_index s.words (i + 1) in
      let small : n ≤ 3 = h.small i in
      let fewer : (w : Knows T) → w.found ≡ i ∷ m.0.found → (j : ℕ) → j ≢ i → 0 < times j w.found
      → 0 < times j m.0.found =
      λ w e j q p. subst (λ z. 0 < z)
      (ap (times j) e ∙ times_else j i m.0.found (λ e. q (sym e))) p in
      exchanged n 0 1 (λ k. (w : Knows T) × (a : Act (Option T)) × Valid s.homes m.1 a
      × Holds fin way opened (stepped s (i + 1) k id m.1 w a)
      × Claimed (step slots (i + 1) 0 1 none) m n (w, carried_after m.1 a))
      (λ free. let t = there opened i lt in (
        with_claimed i m.0,
        takes i (Some t.0),
        h.placed.unbegun i t.0 t.1 free,
        taken s h i id m.0 (with_claimed i m.0) at lt share (ap once free) refl refl refl
            (fewer (with_claimed i m.0) refl),
        (λ j q. let same : i ≡ j = omega arith in
            subst (λ z. ClaimedAt z m n (with_claimed i m.0, (i, Some t.0) ∷ m.1)) same (
              (λ _. (
                t.0,
                ap (λ l. get_elem? l i) says
                    ∙ t.1,
                zero_of (times i m.0.found) (λ p. h.begun id m.0 at i p free),
                refl,
              )),
              (λ no. absurd (no free)),
            )),
      ))
      (λ held. (
        with_found i m.0,
        keeps,
        tt,
        written s h i n id m.0 (with_found i m.0) s.homes at lt (positive n held) small
            (subst (λ (ws : List ℕ). Placed fin way opened (λ j. slice_index ws (j + 1)) s.homes
            (set s.views id (with_found i m.0))) (sym (set_same s.words (i + 1)))
            (placed_same fin way opened _ s.homes s.views h.placed id m.0
            (with_found i m.0) at share refl refl refl))
            (fewer (with_found i m.0) refl),
        (λ j q. let same : i ≡ j = omega arith in
            subst (λ z. ClaimedAt z m n (with_found i m.0, m.1)) same
            ((λ e. absurd (held e)), (λ _. refl))),
      ))

  -- Resume: where the word was 3 what has come of the pack lies at home under way, and its slot
  -- goes to this seat. Else nothing changes.
  pub resumes : (slots id i : ℕ) (m : Me (Option T) (Knows T)) → i < length opened → 0 < m.0.share
      → Allows (Holds fin way opened) slots id m (i + 1) (λ n. either (n == 3) 1 n)
      (Resumed way (step slots (i + 1) 3 1 none) m)
  resumes slots id i m lt share s h wide at _ =
      let says = (h.placed.knowing id m.0 at).told share in
      let n : ℕ = slice_index s.words (i + 1) in
      exchanged n 3 1 (λ k. (w : Knows T) × (a : Act (Option T)) × Valid s.homes m.1 a
      × Holds fin way opened (stepped s (i + 1) k id m.1 w a)
      × Resumed way (step slots (i + 1) 3 1 none) m n (w, carried_after m.1 a))
      (λ three. let t = there opened i lt in let u = h.placed.waiting i three t.0 t.1 in (
        with_resumed i m.0,
        takes i (Some u.0),
        u.1,
        taken s h i id m.0 (with_resumed i m.0) at lt share (ap once three) refl refl refl
            (λ j _ p. p),
        (λ j q. let same : i ≡ j = omega arith in
            subst (λ z. ResumedAt way z m n (with_resumed i m.0, (i, Some u.0) ∷ m.1)) same (
              (λ _. (t.0, u.0, ap (λ l. get_elem? l i) says ∙ t.1, u.2, refl)),
              (λ no. absurd (no three)),
            )),
      ))
      (λ other. (
        m.0,
        keeps,
        tt,
        stands s h (i + 1) id m.0 at,
        (λ j q. ((λ e. absurd (other e)), (λ _. refl))),
      ))

  -- Bring: no word changes. The slots before the wanted one go home and come back behind it; the
  -- hand
  -- names each number once, so they are apart.
  pub comes_at : (slots id i : ℕ) (m : Me (Option T) (Knows T)) → m.1 ≡ blanks m.0.hand
      → 0 < m.0.share → 0 < times i m.0.hand
      → Allows (Holds fin way opened) slots id m (i + 1) (λ n. n)
      (Brought (step slots (i + 1) 0 0 none) m)
  comes_at slots id i m e share has =
      subst (λ (l : List (ℕ × Option T)). Allows (Holds fin way opened) slots id (m.0, l) (i + 1)
      (λ n. n) (Brought (step slots (i + 1) 0 0 none) (m.0, l))) (sym e)
      (λ s h wide at _. let v : Knows T = m.0 in
      let one = in_hand fin way opened _ s.homes s.views h.placed id i v at has in
      let t = placed_brought fin way opened _ s.homes s.views h.placed (low s h) i id v at share has
      in (
        to_front i v,
        t.0,
        t.1,
        written s h i (slice_index s.words (i + 1)) id v (to_front i v)
            (homes_after s.homes (blanks v.hand) t.0) at (low s h i one) (omega arith)
            (h.small i)
            (subst (λ (ws : List ℕ). Placed fin way opened (λ j. slice_index ws (j + 1))
            (homes_after s.homes (blanks v.hand) t.0)
            (set s.views id (to_front i v))) (sym (set_same s.words (i + 1))) t.2)
            (λ j _ p. p),
        (λ j q. let same : i ≡ j = omega arith in
            subst (λ z.
            BroughtAt z (v, blanks v.hand)
            (to_front i v, carried_after (blanks v.hand) t.0)) same
            (ap (λ z. (to_front i v, z)) t.3)),
      ))

  -- Give: the front slot has the pack, finished or under way. It goes home as the word becomes 2 or
  -- 3, so no hand has it and its phase finds it as it says.
  pub gives_back : (slots id i k : ℕ) (m : Me (Option T) (Knows T)) (v : Knows T) (y : T)
      (hand : List ℕ) → m ≡ (v, (i, Some y) ∷ blanks hand) → v.hand ≡ i ∷ hand → 0 < v.share
      → (2 ≤ k) × (k ≤ 3)
      → ((x : T) → get_elem? v.opened i ≡ some x → (k ≡ 2 → fin x y) × (k ≡ 3 → way x y))
      → Allows (Holds fin way opened) slots id m (i + 1) (λ _. k)
      (λ _. Given (step slots (i + 1) k 0 none) m k)
  gives_back slots id i k m v y hand e has share in_ comes =
      subst (λ (z : Me (Option T) (Knows T)). Allows (Holds fin way opened) slots id z (i + 1)
      (λ _. k) (λ _. Given (step slots (i + 1) k 0 none) z k)) (sym e)
      (λ s h wide at _.
      let here : times i v.hand ≡ suc (times i hand) = ap (times i) has ∙ times_here i hand in
      let lt = low s h i (in_hand fin way opened _ s.homes s.views h.placed id i v at (omega arith))
      in
      let low_ = in_.0 in
      let high = in_.1 in
      let now = now_is s h i k lt in (
        without_front v,
        gives,
        tt,
        written s h i k id v (without_front v) (set s.homes i (some (Some y))) at lt (omega arith)
            high
            (placed_given fin way opened _
            (λ j. slice_index (set s.words (i + 1) k) (j + 1)) s.homes s.views h.placed
            i id v y hand at share lt has (subst (λ n. 2 ≤ n) (sym now) low_) (as_was s i k)
            (λ x at2. let c = comes x at2 in ((λ q. c.0 (sym now ∙ q)), (λ q. c.1 (sym now ∙ q)))))
            (λ j n p. p),
        refl,
      ))

  -- Split: the shares of both are the share that there was; both have found what was begun before.
  pub splits : (id : ℕ) (v : Knows T) → 2 ≤ v.share
      → Splits (Holds fin way opened) id v (left_half v) (right_half v)
  splits id v two s h at = record {
    wide = h.wide;
    unused = h.unused;
    small = h.small;
    placed = placed_split fin way opened _ s.homes s.views h.placed id v at two;
    begun = λ j u there_. ⊎_elim
        (λ t. ⊎_elim (λ q. subst (λ (z : Knows T). (i : ℕ) → 0 < times i z.found
        → slice_index s.words (i + 1) ≢ 0) q.1 (h.begun id v at))
        (λ q. h.begun j u q.1) (at_set s.views id j (left_half v) u t))
        (λ t. subst (λ (z : Knows T). (i : ℕ) → 0 < times i z.found
        → slice_index s.words (i + 1) ≢ 0) t (h.begun id v at))
        (at_snoc (set s.views id (left_half v)) (right_half v) u j there_);
  }

  -- Join: the shares add up as before; the other seat, with nothing in hand, is spent.
  pub joins : (id : ℕ) (v : Knows T) (other : ℕ) (w : Knows T) → 0 < v.share → w.hand ≡ []
      → Joins (Holds fin way opened) id v other w (joined v w) spent_view
  joins id v other w share empty s h at ne at_other = record {
    wide = h.wide;
    unused = h.unused;
    small = h.small;
    placed = placed_joined fin way opened _ s.homes s.views h.placed id v other w
        (joined v w) at share at_other empty refl refl refl;
    begun = λ j u there_. ⊎_elim
        (λ t. subst (λ (z : Knows T). (i : ℕ) → 0 < times i z.found
        → slice_index s.words (i + 1) ≢ 0) t.1 (λ i p. absurd (omega arith)))
        (λ t. ⊎_elim
        (λ q. subst (λ (z : Knows T). (i : ℕ) → 0 < times i z.found
        → slice_index s.words (i + 1) ≢ 0) q.1
        (λ i p. let a = times_append i v.found w.found in dite (ℕ_discrete (times i v.found) 0)
        (λ none_. h.begun other w (sym (set_else s.views id other (joined v w) ne) ∙ at_other) i
        (omega arith)) (λ some_. h.begun id v at i (positive _ some_))))
        (λ q. h.begun j u q.1)
        (at_set s.views id j (joined v w) u t.1))
        (at_set (set s.views id (joined v w)) other j spent_view u there_);
  }

  -- Making: all words are 0, all packs at home as they open, and the first seat has the whole
  -- share.
  pub opens : (ws : List ℕ) → length ws ≡ length opened + 1 → ((i : ℕ) → slice_index ws i ≡ 0)
      → (xs : List (Option T)) → xs ≡ map Some opened
      → Holds fin way opened (opening ws xs (first_view opened))
  opens ws wide zeros xs e = record {
    wide = wide;
    unused = zeros 0;
    small = λ i. let z = zeros (i + 1) in omega arith;
    placed = placed_opens fin way opened (λ i. slice_index ws (i + 1)) (λ i. zeros (i + 1)) xs e;
    begun = λ j v at. first_only j v at;
  }
    where
      first_only : (j : ℕ) (v : Knows T) → get_elem? (first_view opened ∷ []) j ≡ some v → (i : ℕ)
          → 0 < times i v.found → slice_index ws (i + 1) ≢ 0
      first_only zero v at =
          subst (λ (z : Knows T). (i : ℕ) → 0 < times i z.found → slice_index ws (i + 1) ≢ 0)
          (some-injective _ _ at) (λ i p. absurd (omega arith))
      first_only (suc j) v at = absurd (some-ne-none v (sym at))

  -- Weigh: nothing changes; one share is at most their sum, the whole.
  pub weighs : (slots id : ℕ) (m : Me (Option T) (Knows T))
      → Allows (Holds fin way opened) slots id m 0 (λ n. n) (Weighed (step slots 0 0 0 none) m)
  weighs slots id m s h wide at _ = (
    m.0,
    keeps,
    tt,
    stands s h 0 id m.0 at,
    (refl, placed_share fin way opened _ s.homes s.views h.placed id m.0 at),
  )

  -- who has every share, has found all and has nothing in hand knows that all is at home, and each
  -- pack finished, or under way where its word is 3; so it is in a table that is closed then
  pub ends : (s : State (Option T) (Knows T)) → Holds fin way opened s → (id : ℕ) (v : Knows T)
      → get_elem? s.views id ≡ some v → v.share ≡ whole_share → v.hand ≡ []
      → ((k : ℕ) → k < length opened → 0 < times k v.found)
      → (ws : List ℕ) (os : List (Option T)) → s.words ≡ ws
      → ((k : ℕ) (y : Option T) → get_elem? s.homes k ≡ some (some y) → get_elem? os k ≡ some y)
      → (i : ℕ) → Rests fin way opened ws os i
  ends s h id v at all empty found ws os same home i x there_ =
      let w : ℕ = slice_index s.words (i + 1) in
      let small : w ≤ 3 = h.small i in
      let begun : w ≢ 0 = h.begun id v at i (found i (within opened i x there_)) in
      let out : w ≢ 1 = none_out fin way opened _ s.homes s.views h.placed id v at all empty i in
      let reads : w ≡ slice_index ws (i + 1) = ap (λ l. slice_index l (i + 1)) same in
      dite (ℕ_discrete w 3)
      (λ three. let t = h.placed.waiting i three x there_ in
      (t.0, home i (Some t.0) t.1, (λ no. absurd (no (sym reads ∙ three))), (λ _. t.2)))
      (λ no. let t = h.placed.done i (omega arith) x there_ in
      (t.0, home i (Some t.0) t.1, (λ _. t.2), (λ three. absurd (no (reads ∙ three)))))
