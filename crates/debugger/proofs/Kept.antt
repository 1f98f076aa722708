-- What is kept of the puts of a history.
use Rattle.std.proofs.Common.{ℕ, ◌≡◌, ◌+◌, ◌<◌, ◌≤◌, List, [], ◌∷◌, ◌++◌, map, filter, Bool, true}
use Rattle.std.proofs.Common.{false, cond, refl, sym, ap, ◌∙◌, subst, arith, append-nil, drop}
use Rattle.std.proofs.Common.{append_assoc}
use Rattle.std.proofs.Common.{Some}
use Rattle.std.specs.Prelude.{nat_lt, nat_le, ◌&&◌, ◌==◌, length, slice_get}
use Rattle.std.specs.List.{list_all}
use Rattle.std.proofs.lemmas.Bool.{eq-eqb, eqb-true, le-ltb, leb-false, leb-true, lt-ltb}
use Rattle.std.proofs.lemmas.Bool.{ltb-true, true≢false}
use Rattle.std.proofs.lemmas.List.{map-append}
use Rattle.std.proofs.lemmas.List.Folds.{list_all-append, list_all-map}
use Rattle.dos_world.specs.World.{World}
use Rattle.recorded_walk.specs.Playbacks.{Heard, Played}
use Rattle.std.proofs.lemmas.Bool.{and_parts}
use Rattle.debugger.proofs.Passed.{kept_end, kept_split}
use Rattle.debug_session.specs.Halts.{puts_between, puts_from, some_bytes}
use Rattle.group_moves.specs.Moves.{MoveKind}
use Rattle.debug_session.specs.Positions.{Position, first_kind, position_after}
use Rattle.debugger.specs.declared.forwards.Put.{Put}
use Rattle.debugger.specs.Halting.{HasKept, puts_before, puts_kept}
use Rattle.debugger.proofs.Pathway.{IsAhead, Step, puts_grow, puts_none, some_ahead}

-- bytes, with the number of their move
abbrev pub Numbered : Type 0
Numbered = ℕ × List ℕ

-- those of the moves in front of a number
abbrev pub bytes_under : ℕ → List Numbered → List (List ℕ)
bytes_under n [] = []
bytes_under n (p ∷ ps) = cond (nat_lt p.0 n) (p.1 ∷ bytes_under n ps) (bytes_under n ps)

abbrev pub all_under : ℕ → List Numbered → Bool
all_under n ps = list_all (λ (p : Numbered). nat_lt p.0 n) ps

-- bytes that one move put
abbrev pub numbered_so : ℕ → List (List ℕ) → List Numbered
numbered_so n bs = map (λ b. (n, b)) bs

pub before_are : (n : ℕ) (puts : List Put) → puts_before n puts ≡ bytes_under n (puts_kept puts)
before_are n [] = refl
before_are n (put ∷ puts) = by (before_are n puts) (nat_lt put.moves n)
  where
    by : puts_before n puts ≡ bytes_under n (puts_kept puts) → (b : Bool)
        → map (λ (x : Put). x.bytes.items)
        (cond b (put ∷ filter (λ (x : Put). nat_lt x.moves n) puts)
        (filter (λ (x : Put). nat_lt x.moves n) puts))
        ≡ cond b (put.bytes.items ∷ bytes_under n (puts_kept puts))
        (bytes_under n (puts_kept puts))
    by rest true = ap (λ (bs : List (List ℕ)). put.bytes.items ∷ bs) rest
    by rest false = rest

under_append : (n : ℕ) (ps qs : List Numbered)
    → bytes_under n (ps ++ qs) ≡ bytes_under n ps ++ bytes_under n qs
under_append n [] qs = refl
under_append n (p ∷ ps) qs = by (under_append n ps qs) (nat_lt p.0 n)
  where
    by : bytes_under n (ps ++ qs) ≡ bytes_under n ps ++ bytes_under n qs → (b : Bool)
        → cond b (p.1 ∷ bytes_under n (ps ++ qs)) (bytes_under n (ps ++ qs))
        ≡ cond b (p.1 ∷ bytes_under n ps) (bytes_under n ps) ++ bytes_under n qs
    by rest true = ap (λ (bs : List (List ℕ)). p.1 ∷ bs) rest
    by rest false = rest

-- all of them are
under_all : (n m : ℕ) (ps : List Numbered) → n ≤ m → all_under n ps ≡ true
    → bytes_under m ps ≡ map (λ (p : Numbered). p.1) ps
under_all n m [] more all = refl
under_all n m (p ∷ ps) more all =
    let both = and_parts (nat_lt p.0 n) (all_under n ps) all in
    let less = ltb-true p.0 n both.0 in
    ap (λ (b : Bool). cond b (p.1 ∷ bytes_under m ps) (bytes_under m ps))
    (lt-ltb p.0 m (omega (arith, less, more)))
    ∙ ap (λ (bs : List (List ℕ)). p.1 ∷ bs) (under_all n m ps more both.1)

all_more : (n m : ℕ) (ps : List Numbered) → n ≤ m → all_under n ps ≡ true → all_under m ps ≡ true
all_more n m [] more all = refl
all_more n m (p ∷ ps) more all =
    let both = and_parts (nat_lt p.0 n) (all_under n ps) all in
    let less = ltb-true p.0 n both.0 in
    ap (λ (b : Bool). b && all_under m ps) (lt-ltb p.0 m (omega (arith, less, more)))
    ∙ all_more n m ps more both.1

-- the bytes of one move
so_none : (k n : ℕ) (bs : List (List ℕ)) → n ≤ k → bytes_under n (numbered_so k bs) ≡ []
so_none k n [] few = refl
so_none k n (b ∷ bs) few =
    ap (λ (x : Bool). cond x (b ∷ bytes_under n (numbered_so k bs))
    (bytes_under n (numbered_so k bs))) (le-ltb k n few)
    ∙ so_none k n bs few

so_all : (k n : ℕ) (bs : List (List ℕ)) → k < n → bytes_under n (numbered_so k bs) ≡ bs
so_all k n [] less = refl
so_all k n (b ∷ bs) less =
    ap (λ (x : Bool). cond x (b ∷ bytes_under n (numbered_so k bs))
    (bytes_under n (numbered_so k bs))) (lt-ltb k n less)
    ∙ ap (λ (cs : List (List ℕ)). b ∷ cs) (so_all k n bs less)

so_under : (k n : ℕ) (bs : List (List ℕ)) → k < n → all_under n (numbered_so k bs) ≡ true
so_under k n [] less = refl
so_under k n (b ∷ bs) less =
    ap (λ (x : Bool). x && all_under n (numbered_so k bs)) (lt-ltb k n less)
    ∙ so_under k n bs less

-- what is said of all puts that are kept
kept_all : (n : ℕ) (puts : List Put)
    → all_under n (puts_kept puts) ≡ list_all (λ (put : Put). nat_lt put.moves n) puts
kept_all n puts =
    list_all-map (λ (p : Numbered). nat_lt p.0 n) (λ (put : Put). (put.moves, put.bytes.items)) puts

-- Bytes are kept, where there are any.
pub kept_nothing : (puts : List Put) (moves : ℕ) (bytes : List ℕ) → bytes ≡ []
    → puts_kept puts ≡ puts_kept puts ++ numbered_so moves (some_bytes bytes)
kept_nothing puts moves bytes none =
    sym (append-nil (puts_kept puts))
    ∙ ap (λ (b : List ℕ). puts_kept puts ++ numbered_so moves (some_bytes b)) (sym none)

pub empty_is : (bytes : List ℕ) (b : Bool) → b ≡ (length bytes == 0) → b ≡ true → bytes ≡ []
empty_is [] b is holds = refl
empty_is (x ∷ bytes) b is holds =
    let none : length (x ∷ bytes) ≡ 0 = eqb-true (length (x ∷ bytes)) 0 (sym is ∙ holds) in
    absurd (omega (arith, none))

pub filled_is : (bytes : List ℕ) (b : Bool) → b ≡ (length bytes == 0) → b ≡ false → bytes ≡ []
    → ⊥
filled_is bytes b is fails none =
    true≢false (sym (eq-eqb (length bytes) 0 (ap (λ (x : List ℕ). length x) none)) ∙ sym is ∙ fails)

bytes_some : (bytes : List ℕ) → (bytes ≡ [] → ⊥) → some_bytes bytes ≡ bytes ∷ []
bytes_some [] some = absurd (some refl)
bytes_some (b ∷ bytes) some = refl

pub kept_push : (puts new : List Put) (put : Put) (moves : ℕ) (bytes : List ℕ)
    → new ≡ puts ++ put ∷ [] → put.moves ≡ moves → put.bytes.items ≡ bytes
    → (bytes ≡ [] → ⊥)
    → puts_kept new ≡ puts_kept puts ++ numbered_so moves (some_bytes bytes)
kept_push puts new put moves bytes push moves_are bytes_are some =
    ap puts_kept push
    ∙ map-append (λ (p : Put). (p.moves, p.bytes.items)) puts (put ∷ [])
    ∙ ap (λ (n : ℕ). puts_kept puts ++ (n, put.bytes.items) ∷ []) moves_are
    ∙ ap (λ (b : List ℕ). puts_kept puts ++ (moves, b) ∷ []) bytes_are
    ∙ ap (λ (bs : List (List ℕ)). puts_kept puts ++ numbered_so moves bs)
    (sym (bytes_some bytes some))

pub kept_both : (puts mid new : List Put) (moves : ℕ) (a b : List (List ℕ))
    → puts_kept mid ≡ puts_kept puts ++ numbered_so moves a
    → puts_kept new ≡ puts_kept mid ++ numbered_so moves b
    → puts_kept new ≡ puts_kept puts ++ numbered_so moves (a ++ b)
kept_both puts mid new moves a b first second =
    second ∙ ap (λ (ps : List Numbered). ps ++ numbered_so moves b) first
    ∙ append_assoc (puts_kept puts) (numbered_so moves a) (numbered_so moves b)
    ∙ ap (λ (ps : List Numbered). puts_kept puts ++ ps)
    (sym (map-append (λ (x : List ℕ). (moves, x)) a b))

-- what was heard of a move
pub heard_are : (p : Played) (before behind : World) → Heard p before behind
    → some_bytes p.output ++ some_bytes p.error ≡ puts_between before behind
heard_are p before behind heard =
    ap (λ (b : List ℕ). some_bytes b ++ some_bytes p.error) heard.output
    ∙ ap (λ (b : List ℕ). some_bytes (drop (length before.output) behind.output) ++ some_bytes b)
    heard.error

-- Nothing was put yet.
pub kept_none : (start : Position) (first : ℕ) (puts : List Put) → puts ≡ []
    → HasKept start first first puts
kept_none start first puts none = subst (HasKept start first first) (sym none) (record {
  each = λ moves from to.
      let same : first ≡ moves = omega (arith, from, to) in
      sym (puts_none (position_after first start))
      ∙ ap (λ (n : ℕ). puts_from (position_after first start) (position_after n start)) same;
  behind = refl;
})

-- What one more move put was kept.
module _ (start : Position) (first now : ℕ) (old new : List Put) (between : List (List ℕ))
    (from : first ≤ now) (more : puts_kept new ≡ puts_kept old ++ numbered_so now between)
    (grow : puts_from (position_after first start) (position_after (now + 1) start)
    ≡ puts_from (position_after first start) (position_after now start) ++ between)
    (kept : HasKept start first now old) where
  split : (n : ℕ) → puts_before n new
      ≡ bytes_under n (puts_kept old) ++ bytes_under n (numbered_so now between)
  split n =
      before_are n new ∙ ap (bytes_under n) more
      ∙ under_append n (puts_kept old) (numbered_so now between)

  all_old : all_under now (puts_kept old) ≡ true
  all_old = kept_all now old ∙ kept.behind

  same_old : bytes_under (now + 1) (puts_kept old) ≡ bytes_under now (puts_kept old)
  same_old =
      under_all now (now + 1) (puts_kept old) (omega arith) all_old
      ∙ sym (under_all now now (puts_kept old) (omega arith) all_old)

  each_more : (moves : ℕ) → first ≤ moves → moves ≤ now + 1
      → puts_before moves new
      ≡ puts_from (position_after first start) (position_after moves start)
  each_more moves low high = by (nat_le moves now) refl
    where
      by : (b : Bool) → nat_le moves now ≡ b → puts_before moves new
          ≡ puts_from (position_after first start) (position_after moves start)
      by true few =
          let under = leb-true moves now few in
          split moves
          ∙ ap (λ (bs : List (List ℕ)). bytes_under moves (puts_kept old) ++ bs)
          (so_none now moves between under)
          ∙ append-nil (bytes_under moves (puts_kept old))
          ∙ sym (before_are moves old) ∙ kept.each moves low under
      by false many =
          let over = leb-false moves now many in
          let same : now + 1 ≡ moves = omega (arith, over, high) in
          subst (λ (n : ℕ). puts_before n new
          ≡ puts_from (position_after first start) (position_after n start)) same
          (split (now + 1)
          ∙ ap (λ (bs : List (List ℕ)). bs ++ bytes_under (now + 1) (numbered_so now between))
          (same_old ∙ sym (before_are now old) ∙ kept.each now from (omega arith))
          ∙ ap (λ (bs : List (List ℕ)). puts_from (position_after first start)
          (position_after now start) ++ bs) (so_all now (now + 1) between (omega arith))
          ∙ sym grow)

  behind_more : list_all (λ (put : Put). nat_lt put.moves (now + 1)) new ≡ true
  behind_more =
      sym (kept_all (now + 1) new) ∙ ap (all_under (now + 1)) more
      ∙ list_all-append (λ (p : Numbered). nat_lt p.0 (now + 1)) (puts_kept old)
      (numbered_so now between)
      ∙ ap (λ (b : Bool). b && all_under (now + 1) (numbered_so now between))
      (all_more now (now + 1) (puts_kept old) (omega arith) all_old)
      ∙ so_under now (now + 1) between (omega arith)

  pub kept_more : HasKept start first (now + 1) new
  kept_more = record { each = each_more; behind = behind_more }

-- A move was made, and what was heard of it was kept.
pub kept_move : (start : Position) (first now later : ℕ) (old new : List Put) (p : Played)
    (made : MoveKind) → first ≤ now → later ≡ now + 1
    → first_kind (position_after now start).future ≡ Some made
    → Heard p (position_after now start).moment.world (position_after later start).moment.world
    → puts_kept new
    ≡ puts_kept old ++ numbered_so now (some_bytes p.output ++ some_bytes p.error)
    → HasKept start first now old → HasKept start first later new
kept_move start first now later old new p made from next ahead heard more kept =
    let some : IsAhead (position_after now start).future made =
    some_ahead (position_after now start).future made ahead in
    let so : Heard p (position_after now start).moment.world
    (position_after (now + 1) start).moment.world =
    subst (λ (n : ℕ). Heard p (position_after now start).moment.world
    (position_after n start).moment.world) next heard in
    subst (λ (n : ℕ). HasKept start first n new) (sym next)
    (kept_more start first now old new
    (puts_between (position_after now start).moment.world
    (position_after (now + 1) start).moment.world)
    from
    (more ∙ ap (λ (bs : List (List ℕ)). puts_kept old ++ numbered_so now bs)
    (heard_are p (position_after now start).moment.world
    (position_after (now + 1) start).moment.world so))
    (puts_grow start first now some.step some.steps from some.is)
    kept)

-- ---- one put after another, for a person's console

module _ (f : List ℕ → List ℕ) (n : ℕ) where
  pub none_told : (put : Put) → n ≤ put.moves → map f (puts_before n (put ∷ [])) ≡ []
  none_told put many =
      ap (λ (b : Bool). map f (map (λ (x : Put). x.bytes.items) (cond b (put ∷ []) [])))
      (le-ltb put.moves n many)

  pub one_told : (put : Put) → put.moves < n
      → map f (puts_before n (put ∷ [])) ≡ f put.bytes.items ∷ []
  one_told put less =
      ap (λ (b : Bool). map f (map (λ (x : Put). x.bytes.items) (cond b (put ∷ []) [])))
      (lt-ltb put.moves n less)

  module _ (puts : List Put) (i : ℕ) where
    abbrev bytes_in : List Put → List (List ℕ)
    bytes_in xs = map f (map (λ (x : Put). x.bytes.items) xs)

    abbrev before_too : Put → Bool
    before_too put = nat_lt put.moves n

    pub told_split : (put : Put) → slice_get puts i ≡ Some put
        → map f (puts_before n (drop i puts))
        ≡ map f (puts_before n (put ∷ [])) ++ map f (puts_before n (drop (i + 1) puts))
    told_split put is =
        ap bytes_in (kept_split before_too puts i put is)
        ∙ ap (map f) (map-append (λ (x : Put). x.bytes.items) (filter before_too (put ∷ []))
        (filter before_too (drop (i + 1) puts)))
        ∙ map-append f (map (λ (x : Put). x.bytes.items) (filter before_too (put ∷ [])))
        (map (λ (x : Put). x.bytes.items) (filter before_too (drop (i + 1) puts)))

    pub told_end : length puts ≤ i → map f (puts_before n (drop i puts)) ≡ []
    told_end long = ap bytes_in (kept_end before_too puts i long)
