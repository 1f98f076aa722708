-- The moments of a history, by how many moves lead to them.
use Rattle.std.proofs.Common.{◌≡◌, ℕ, zero, suc, ◌+◌, ◌<◌, List, [], ◌∷◌, ◌++◌, length, map}
use Rattle.std.proofs.Common.{take, reverse, Some, refl, sym, ap, ◌∙◌, subst, arith}
use Rattle.std.proofs.Common.{append_assoc}
use Rattle.std.specs.Prelude.{slice_get}
use Rattle.std.proofs.lemmas.List.{length-append, length-map, length-reverse, reverse-append}
use Rattle.group_moves.specs.Moves.{MoveKind}
use Rattle.group_moves.specs.Moments.{Moment}
use Rattle.debug_session.specs.Positions.{Position, all_moments, first_kind, moved_on}
use Rattle.debug_session.specs.Positions.{position_after}

-- ---- lists

-- what stands behind a list
get_seam : (xs : List Moment) (m : Moment) (ys : List Moment) (n : ℕ) → length xs ≡ n
    → slice_get (xs ++ m ∷ ys) n ≡ Some m
get_seam [] m ys zero is = refl
get_seam [] m ys (suc n) is = absurd (omega (arith, is))
get_seam (x ∷ xs) m ys zero is = absurd (omega (arith, is))
get_seam (x ∷ xs) m ys (suc n) is = get_seam xs m ys n (omega (arith, is))

-- an element of a front
pub get_front : (xs : List Moment) (k i : ℕ) → i < k → slice_get (take k xs) i ≡ slice_get xs i
get_front xs zero i less = absurd (omega (arith, less))
get_front [] (suc k) i less = refl
get_front (x ∷ xs) (suc k) zero less = refl
get_front (x ∷ xs) (suc k) (suc i) less = get_front xs k i (omega (arith, less))

-- a front with one more
pub take_one_more : (xs : List Moment) (k : ℕ) (m : Moment) → slice_get xs k ≡ Some m
    → take (k + 1) xs ≡ take k xs ++ m ∷ []
take_one_more xs k m is = (let one : k + 1 ≡ suc k = omega arith in
    ap (λ n. take n xs) one ∙ go xs k is)
  where
    go : (xs : List Moment) (k : ℕ) → slice_get xs k ≡ Some m
        → take (suc k) xs ≡ take k xs ++ m ∷ []
    go [] k is = absurd cc
    go (x ∷ xs) zero is = (let same : x ≡ m = cc in ap (λ (y : Moment). y ∷ []) same)
    go (x ∷ xs) (suc k) is = ap (λ (ys : List Moment). x ∷ ys) (go xs k is)

-- ---- positions

-- the moments of moves
abbrev moments_of : List (MoveKind × Moment) → List Moment
moments_of moves = map (λ (move : MoveKind × Moment). move.1) moves

-- a move on doesn't change the history
moved_keeps : (at : Position) → all_moments (moved_on at) ≡ all_moments at
moved_keeps at = go at at.future
  where
    go : (at : Position) (future : List (MoveKind × Moment))
        → all_moments (moved_on (record at { future = future }))
        ≡ all_moments (record at { future = future })
    go at [] = refl
    go at (move ∷ moves) =
        ap (λ (ms : List Moment). ms ++ move.1 ∷ moments_of moves)
        (reverse-append (at.moment ∷ []) (moments_of at.past))
        ∙ append_assoc (reverse (moments_of at.past)) (at.moment ∷ [])
        (move.1 ∷ moments_of moves)

pub after_keeps : (n : ℕ) (at : Position) → all_moments (position_after n at) ≡ all_moments at
after_keeps zero at = refl
after_keeps (suc n) at = moved_keeps (position_after n at) ∙ after_keeps n at

-- how many moments there are
pub count_all : (at : Position)
    → length (all_moments at) ≡ length at.past + suc (length at.future)
count_all at =
    let sum : length (all_moments at) ≡ length (reverse (moments_of at.past))
    + suc (length (moments_of at.future)) =
    length-append (reverse (moments_of at.past)) (at.moment ∷ moments_of at.future) in
    let past : length (reverse (moments_of at.past)) ≡ length at.past =
    length-reverse (moments_of at.past) ∙ length-map at.past (λ move. move.1) in
    let future : length (moments_of at.future) ≡ length at.future =
    length-map at.future (λ move. move.1) in
    omega (arith, sum, past, future)

-- a move on has one move more behind it
moved_counts : (at : Position) (n : ℕ) → length at.past ≡ n → suc n < length (all_moments at)
    → length (moved_on at).past ≡ suc n
moved_counts at n is less = go at at.future is (omega (arith, less, count_all at, is))
  where
    go : (at : Position) (future : List (MoveKind × Moment)) → length at.past ≡ n
        → 0 < length future → length (moved_on (record at { future = future })).past ≡ suc n
    go at [] is less = absurd (omega (arith, less))
    go at (move ∷ moves) is less = ap suc is

-- so many moves are behind
pub count_behind : (n : ℕ) (start : Position) → start.past ≡ []
    → n < length (all_moments start) → length (position_after n start).past ≡ n
count_behind zero start none less = ap length none
count_behind (suc n) start none less =
    moved_counts (position_after n start) n (count_behind n start none (omega (arith, less)))
    (subst (λ (ms : List Moment). suc n < length ms) (sym (after_keeps n start)) less)

-- the moment behind so many moves
pub moment_behind_moves : (n : ℕ) (start : Position) → start.past ≡ []
    → n < length (all_moments start)
    → slice_get (all_moments start) n ≡ Some (position_after n start).moment
moment_behind_moves n start none less =
    let at : Position = position_after n start in
    ap (λ (ms : List Moment). slice_get ms n) (sym (after_keeps n start))
    ∙ get_seam (reverse (moments_of at.past)) at.moment (moments_of at.future) n
    (length-reverse (moments_of at.past) ∙ length-map at.past (λ move. move.1)
    ∙ count_behind n start none less)

-- Where a move is ahead there is one moment more.
pub one_more : (n : ℕ) (start : Position) (kind : MoveKind) → start.past ≡ []
    → n < length (all_moments start)
    → first_kind (position_after n start).future ≡ Some kind
    → suc n < length (all_moments start)
one_more n start kind none less ahead =
    let at : Position = position_after n start in
    let all : length (all_moments at) ≡ length (all_moments start) =
    ap length (after_keeps n start) in
    let some : 0 < length at.future = some_ahead at.future ahead in
    omega (arith, all, some, count_all at, count_behind n start none less)
  where
    some_ahead : (moves : List (MoveKind × Moment)) → first_kind moves ≡ Some kind
        → 0 < length moves
    some_ahead [] is = absurd cc
    some_ahead (move ∷ moves) is = omega arith

-- Where none is ahead it is the last.
pub no_more : (n : ℕ) (start : Position) → start.past ≡ [] → n < length (all_moments start)
    → (position_after n start).future ≡ [] → suc n ≡ length (all_moments start)
no_more n start none less over =
    let at : Position = position_after n start in
    let all : length (all_moments at) ≡ length (all_moments start) =
    ap length (after_keeps n start) in
    let ahead : length at.future ≡ 0 = ap length over in
    omega (arith, all, ahead, count_all at, count_behind n start none less)
