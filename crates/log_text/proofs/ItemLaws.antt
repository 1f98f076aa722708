-- Exchanges and the entries that stand for them.
use Rattle.std.proofs.Common.{◌≡◌, ◌≢◌, ℕ, zero, suc, ◌+◌, Bool, true, false, eqb, List, []}
use Rattle.std.proofs.Common.{◌∷◌, ◌++◌, refl, sym, ap, subst, ◌∙◌, arith}
use Rattle.std.proofs.lemmas.Bool.{eqb-true, eq-eqb}
use Rattle.dos_io.specs.declared.exchange.Exchange.{Exchange}
use Rattle.dos_io.specs.declared.exchange.Exchange.TheVariants.{Signals, Input, Clock, End}
use Rattle.log_text.specs.Items.{Item, quiet, kept, joined_round, in_front, items_of, quiet_rounds}
use Rattle.log_text.specs.Items.{exchanges_of_items, IsLoud, GoesNotOn, AreJoined}

pub eqb-false : (m n : ℕ) → m ≢ n → eqb m n ≡ false
eqb-false m n not = by_cases (eqb m n) (λ is. not (eqb-true m n is))
  where
    by_cases : (b : Bool) → (b ≡ true → ⊥) → b ≡ false
    by_cases true never = absurd (never refl)
    by_cases false never = refl

not_equal : (m n : ℕ) → eqb m n ≡ false → m ≢ n
not_equal m n is same = both (eqb m n) is (eq-eqb m n same)
  where
    both : (b : Bool) → b ≡ false → b ≡ true → ⊥
    both true f t = absurd cc
    both false f t = absurd cc

-- ---- what the entries of some exchanges stand for are these

-- one round more in front
quiet_more : (round next count : ℕ) → next ≡ round + 1
    → quiet_rounds round (count + 1) ≡ Signals round [] ∷ quiet_rounds next count
unfolding quiet_rounds
quiet_more round next count is =
    let more : count + 1 ≡ suc count = omega arith in
    let from : suc round ≡ next = omega (arith, is) in
    ap (quiet_rounds round) more
    ∙ ap (λ (n : ℕ). Signals round [] ∷ quiet_rounds n count) from

-- ---- joined, by whether the first entry goes on

joined_on : (round next count : ℕ) (items : List Item) → next ≡ round + 1
    → joined_round round (quiet next count ∷ items) ≡ quiet round (count + 1) ∷ items
joined_on round next count items is =
    let t : eqb next (round + 1) ≡ true = eq-eqb next (round + 1) is in
    rw (t, joined_round) refl

joined_apart : (round next count : ℕ) (items : List Item) → next ≢ round + 1
    → joined_round round (quiet next count ∷ items) ≡ quiet round 1 ∷ quiet next count ∷ items
joined_apart round next count items not =
    let f : eqb next (round + 1) ≡ false = eqb-false next (round + 1) not in
    rw (f, joined_round) refl

one_quiet : (round : ℕ) → quiet_rounds round 1 ≡ Signals round [] ∷ []
unfolding quiet_rounds
one_quiet round = refl

joined_expanded : (round : ℕ) (items : List Item)
    → exchanges_of_items (joined_round round items) ≡ Signals round [] ∷ exchanges_of_items items
joined_expanded round [] = ap (λ (es : List Exchange). es ++ []) (one_quiet round)
joined_expanded round (kept e ∷ items) =
    ap (λ (es : List Exchange). es ++ exchanges_of_items (kept e ∷ items)) (one_quiet round)
joined_expanded round (quiet next count ∷ items) = by_cases (eqb next (round + 1)) refl
  where
    by_cases : (b : Bool) → eqb next (round + 1) ≡ b
        → exchanges_of_items (joined_round round (quiet next count ∷ items))
        ≡ Signals round [] ∷ exchanges_of_items (quiet next count ∷ items)
    by_cases true is = let on : next ≡ round + 1 = eqb-true next (round + 1) is in
        ap exchanges_of_items (joined_on round next count items on)
        ∙ ap (λ (es : List Exchange). es ++ exchanges_of_items items)
        (quiet_more round next count on)
    by_cases false is =
        ap exchanges_of_items (joined_apart round next count items (not_equal next (round + 1) is))
        ∙ ap (λ (es : List Exchange). es ++ exchanges_of_items (quiet next count ∷ items))
        (one_quiet round)

front_expanded : (e : Exchange) (items : List Item)
    → exchanges_of_items (in_front e items) ≡ e ∷ exchanges_of_items items
front_expanded (Signals round []) items = joined_expanded round items
front_expanded (Signals round (post ∷ posts)) items = refl
front_expanded (Input round tid max bytes) items = refl
front_expanded (Clock round tid n) items = refl
front_expanded (End ending rounds) items = refl

pub items_expanded : (es : List Exchange) → exchanges_of_items (items_of es) ≡ es
items_expanded [] = refl
items_expanded (e ∷ es) =
    front_expanded e (items_of es) ∙ ap (λ (xs : List Exchange). e ∷ xs) (items_expanded es)

-- ---- each stretch is as long as it can be

joined_keeps : (round : ℕ) (items : List Item) → AreJoined items
    → AreJoined (joined_round round items)
joined_keeps round [] are = (omega arith, tt, tt)
joined_keeps round (kept e ∷ items) are = (omega arith, tt, are)
joined_keeps round (quiet next count ∷ items) are = by_cases (eqb next (round + 1)) refl
  where
    by_cases : (b : Bool) → eqb next (round + 1) ≡ b
        → AreJoined (joined_round round (quiet next count ∷ items))
    by_cases true is =
        let on : next ≡ round + 1 = eqb-true next (round + 1) is in
        let last : next + count ≡ round + (count + 1) = omega (arith, on) in
        subst AreJoined (sym (joined_on round next count items on)) (
          omega (arith, are.0),
          subst (λ (n : ℕ). GoesNotOn n items) last are.1,
          are.2,
        )
    by_cases false is =
        let apart : next ≢ round + 1 = not_equal next (round + 1) is in
        subst AreJoined (sym (joined_apart round next count items apart))
        (omega arith, apart, are)

front_keeps : (e : Exchange) (items : List Item) → AreJoined items → AreJoined (in_front e items)
front_keeps (Signals round []) items are = joined_keeps round items are
front_keeps (Signals round (post ∷ posts)) items are = (tt, are)
front_keeps (Input round tid max bytes) items are = (tt, are)
front_keeps (Clock round tid n) items are = (tt, are)
front_keeps (End ending rounds) items are = (tt, are)

pub items_joined : (es : List Exchange) → AreJoined (items_of es)
items_joined [] = tt
items_joined (e ∷ es) = front_keeps e (items_of es) (items_joined es)

-- ---- entries that are joined are those of what they stand for

front_loud : (e : Exchange) (items : List Item) → IsLoud e → in_front e items ≡ kept e ∷ items
front_loud (Signals round []) items loud = absurd loud
front_loud (Signals round (post ∷ posts)) items loud = refl
front_loud (Input round tid max bytes) items loud = refl
front_loud (Clock round tid n) items loud = refl
front_loud (End ending rounds) items loud = refl

joined_first : (round : ℕ) (items : List Item) → GoesNotOn (round + 1) items
    → joined_round round items ≡ quiet round 1 ∷ items
joined_first round [] not = refl
joined_first round (kept e ∷ items) not = refl
joined_first round (quiet next count ∷ items) not = joined_apart round next count items not

-- so many rounds in front of entries that don't go on with them
quiet_again : (round count : ℕ) (es : List Exchange) (items : List Item)
    → GoesNotOn (round + suc count) items → items_of es ≡ items
    → items_of (quiet_rounds round (suc count) ++ es) ≡ quiet round (suc count) ∷ items
unfolding quiet_rounds
quiet_again round zero es items not is =
    ap (joined_round round) is ∙ joined_first round items not
quiet_again round (suc count) es items not is =
    let from : suc round + suc count ≡ round + suc (suc count) = omega arith in
    let on : suc round ≡ round + 1 = omega arith in
    let more : suc count + 1 ≡ suc (suc count) = omega arith in
    ap (joined_round round) (quiet_again (suc round) count es items
    (subst (λ (n : ℕ). GoesNotOn n items) (sym from) not) is)
    ∙ joined_on round (suc round) (suc count) items on
    ∙ ap (λ (n : ℕ). quiet round n ∷ items) more

pub joined_again : (items : List Item) → AreJoined items → items_of (exchanges_of_items items)
    ≡ items
joined_again [] are = refl
joined_again (kept e ∷ items) are =
    ap (in_front e) (joined_again items are.1) ∙ front_loud e items are.0
joined_again (quiet round zero ∷ items) are = absurd (omega (arith, are.0))
joined_again (quiet round (suc count) ∷ items) are =
    quiet_again round count (exchanges_of_items items) items are.1 (joined_again items are.2)

-- So the entries of some exchanges determine these, and the other way round.
pub same_exchanges : (es fs : List Exchange) → items_of es ≡ items_of fs → es ≡ fs
same_exchanges es fs is = sym (items_expanded es) ∙ ap exchanges_of_items is ∙ items_expanded fs
