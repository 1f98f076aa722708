-- What is kept of watchpoints, and what one more adds.
use Rattle.std.proofs.Common.{◌≡◌, ℕ, ◌+◌, ◌-◌, ◌≤◌, List, [], ◌∷◌, ◌++◌, length, map}
use Rattle.std.proofs.Common.{take, drop, All, Bool, refl, sym, ap, ◌∙◌, arith, length-append}
use Rattle.std.specs.Prelude.{slice_range}
use Rattle.std.proofs.lemmas.List.{take-append-le, drop-append-le, length-drop, map-append}
use Rattle.std.proofs.lemmas.List.{take_all}
use Rattle.std.proofs.lemmas.List.Elements.{All-head, All-tail}
use Rattle.std.proofs.Math.Seq.{drop-append_seam}
use Rattle.dos_world.specs.World.{World}
use Rattle.group_moves.specs.Moves.{MoveKind}
use Rattle.debug_session.specs.declared.points.Watchpoint.{Watchpoint}
use Rattle.debug_session.specs.Told.{bytes_told}
use Rattle.debug_hits.specs.declared.watched.Mark.{Mark}
use Rattle.debug_hits.specs.Kept.{IsKeptWithin, Kept, kept_in, kept_of, front_count, is_touched_as}

-- ---- stretches of a list that grew

range_kept : (bytes more : List ℕ) (i j : ℕ) → i ≤ j → j ≤ length bytes
    → slice_range (bytes ++ more) i j ≡ slice_range bytes i j
range_kept bytes more i j le within =
    ap (take (j - i)) (drop-append-le i bytes more (omega arith))
    ∙ take-append-le (j - i) (drop i bytes) more (omega (arith, length-drop i bytes))

range_added : (bytes more : List ℕ) (i j : ℕ) → i ≡ length bytes → j ≡ length (bytes ++ more)
    → slice_range (bytes ++ more) i j ≡ more
range_added bytes more i j i-is j-is =
    ap (λ k. take (j - i) (drop k (bytes ++ more))) i-is
    ∙ ap (take (j - i)) (drop-append_seam bytes more)
    ∙ take_all (j - i) more (omega (arith, i-is, j-is, length-append bytes more))

-- ---- what was kept stays

kept_stays : (bytes more : List ℕ) (mark : Mark) → IsKeptWithin bytes mark
    → kept_in (bytes ++ more) mark ≡ kept_in bytes mark
kept_stays bytes more mark within =
    ap (λ (front : List ℕ). record {
      point = mark.point;
      front = front;
      back = slice_range (bytes ++ more) mark.middle mark.to;
      is_touched = mark.is_touched;
    })
    (range_kept bytes more mark.from mark.middle within.front
    (omega (arith, within.back, within.end)))
    ∙ ap (λ (back : List ℕ). record {
      point = mark.point;
      front = slice_range bytes mark.from mark.middle;
      back = back;
      is_touched = mark.is_touched;
    })
    (range_kept bytes more mark.middle mark.to within.back within.end)

all_stay : (bytes more : List ℕ) (marks : List Mark) → All (IsKeptWithin bytes) marks
    → map (kept_in (bytes ++ more)) marks ≡ map (kept_in bytes) marks
all_stay bytes more [] within = refl
all_stay bytes more (mark ∷ marks) within =
    ap (λ (k : Kept). k ∷ map (kept_in (bytes ++ more)) marks)
    (kept_stays bytes more mark (All-head (IsKeptWithin bytes) mark marks within))
    ∙ ap (λ (ks : List Kept). kept_in bytes mark ∷ ks)
    (all_stay bytes more marks (All-tail (IsKeptWithin bytes) mark marks within))

-- ---- one more

module _ (bytes front back front_behind all : List ℕ) (marks behind : List Mark)
    (point : Watchpoint) (from middle to : ℕ) (is_touched : Bool)
    (within : All (IsKeptWithin bytes) marks) (front_is : front_behind ≡ bytes ++ front)
    (all_is : all ≡ front_behind ++ back) (from_is : from ≡ length bytes)
    (middle_is : middle ≡ length front_behind) (to_is : to ≡ length all) where
  abbrev mark : Mark
  mark = record {
    point = point;
    from = from;
    middle = middle;
    to = to;
    is_touched = is_touched;
  }

  abbrev kept : Kept
  kept = record { point = point; front = front; back = back; is_touched = is_touched }

  -- the parts of what was added
  front_there : slice_range all from middle ≡ front
  front_there =
      ap (λ bs. slice_range bs from middle) all_is
      ∙ range_kept front_behind back from middle
      (omega (arith, from_is, middle_is, ap length front_is, length-append bytes front))
      (omega (arith, middle_is))
      ∙ ap (λ bs. slice_range bs from middle) front_is
      ∙ range_added bytes front from middle from_is (middle_is ∙ ap length front_is)

  back_there : slice_range all middle to ≡ back
  back_there =
      ap (λ bs. slice_range bs middle to) all_is
      ∙ range_added front_behind back middle to middle_is (to_is ∙ ap length all_is)

  pub one_kept : behind ≡ marks ++ mark ∷ []
      → map (kept_in all) behind ≡ map (kept_in bytes) marks ++ kept ∷ []
  one_kept behind_is =
      ap (map (kept_in all)) behind_is ∙ map-append (kept_in all) marks (mark ∷ [])
      ∙ ap (λ (ks : List Kept). ks ++ kept_in all mark ∷ [])
      (ap (λ bs. map (kept_in bs) marks) all_is
      ∙ ap (λ bs. map (kept_in (bs ++ back)) marks) front_is
      ∙ ap (λ bs. map (kept_in bs) marks) (append_to bytes front back)
      ∙ all_stay bytes (front ++ back) marks within)
      ∙ ap (λ (k : List ℕ). map (kept_in bytes) marks ++ record {
        point = point;
        front = k;
        back = slice_range all middle to;
        is_touched = is_touched;
      } ∷ []) front_there
      ∙ ap (λ (k : List ℕ). map (kept_in bytes) marks ++ record {
        point = point;
        front = front;
        back = k;
        is_touched = is_touched;
      } ∷ []) back_there
    where
      append_to : (a b c : List ℕ) → (a ++ b) ++ c ≡ a ++ (b ++ c)
      append_to [] b c = refl
      append_to (x ∷ a) b c = ap (λ (xs : List ℕ). x ∷ xs) (append_to a b c)

-- by the numbers that the code has
pub kept_as : (w : World) (kind : MoveKind) (point : Watchpoint) (count left start next : ℕ)
    (front back : List ℕ) (is_touched : Bool) → count ≡ front_count point
    → left ≡ point.length - count → start ≡ point.address → next ≡ point.address + count
    → front ≡ bytes_told w point.process count start
    → back ≡ bytes_told w point.process left next
    → is_touched_as point.kind w kind point ≡ is_touched
    → record { point = point; front = front; back = back; is_touched = is_touched }
    ≡ kept_of w kind point
kept_as w kind point count left start next front back t count-is left-is start-is next-is front-is
    back-is t-is =
    let n = front_count point in
    let as_front : front ≡ bytes_told w point.process n point.address =
    front-is ∙ ap (λ k. bytes_told w point.process k start) count-is
    ∙ ap (bytes_told w point.process n) start-is in
    let as_back : back ≡ bytes_told w point.process (point.length - n) (point.address + n) =
    back-is ∙ ap (λ k. bytes_told w point.process k next) left-is
    ∙ ap (bytes_told w point.process (point.length - count)) next-is
    ∙ ap (λ k. bytes_told w point.process (point.length - k) (point.address + k)) count-is in
    ap (λ (k : List ℕ). record { point = point; front = k; back = back; is_touched = t }) as_front
    ∙ ap (λ (k : List ℕ). record {
      point = point;
      front = bytes_told w point.process n point.address;
      back = k;
      is_touched = t;
    }) as_back
    ∙ ap (λ (b : Bool). record {
      point = point;
      front = bytes_told w point.process n point.address;
      back = bytes_told w point.process (point.length - n) (point.address + n);
      is_touched = b;
    }) (sym t-is)
