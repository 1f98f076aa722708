-- Where a resumption backwards stops, by the move in front of where it begins.
use Rattle.std.proofs.Common.{◌≡◌, ℕ, suc, ◌+◌, Bool, true, false, cond, List, [], ◌∷◌}
use Rattle.std.proofs.Common.{Option, Some, None, refl, sym, ap, ◌∙◌, arith, ne_eqb, eq-eqb}
use Rattle.std.proofs.Common.{◌≤◌, ◌⊎◌, inl, inr}
use Rattle.std.specs.Prelude.{◌||◌, if◌then◌else◌, option_map}
use Rattle.group_moves.specs.Moves.{MoveKind}
use Rattle.group_moves.specs.Moments.{Moment}
use Rattle.gdb_packets.specs.declared.resumptions.Resumption.{Resumption}
use Rattle.debug_session.specs.Backwards.{halt_back, halt_start, halt_stepped_back}
use Rattle.debug_session.specs.Backwards.{is_there, was_ever_there}
use Rattle.debug_session.specs.Forwards.{or_else}
use Rattle.debug_session.specs.Halts.{Halt, halt_at}
use Rattle.debug_session.specs.Positions.{Position, first_kind, moved_on, position_after}
use Rattle.debug_session.specs.Positions.{position_at}
use Rattle.debug_session.specs.Sessions.{Session, Pair, home_pair}
use Rattle.debug_session.specs.declared.stops.Cause.TheVariants.{Plainly, ReachedStart}
use Rattle.debugger.specs.declared.halts.Halt.{Halt as Kept}
use Rattle.debugger.specs.Halting.{backwards_from, halt_meant, whose_stop}
use Rattle.debugger.proofs.Watching.{kept_at, whose_or}

module _ (s : Session) (rs : List Resumption) (stepped : Option ℕ) where
  -- whether somebody was there by now, this moment included
  abbrev pub was_by : Position → Bool
  was_by at =
      is_there s rs stepped at.moment.world || was_ever_there s rs stepped at.past

  -- from behind a move, by what the move itself is hit by
  abbrev pub from_behind : Position → Option Halt → Bool → Halt
  from_behind at found was = elim found [
    | Some halt ↦ halt
    | None ↦ if was then backwards_from s rs stepped at
        else halt_start s rs stepped (moved_on at)
  ]

  over : (past : List (MoveKind × Moment)) (m : Moment) (future : List (MoveKind × Moment))
      (kind : MoveKind) → first_kind future ≡ Some kind
      → (backwards_from s rs stepped (moved_on (position_at past m future))
      ≡ from_behind (position_at past m future)
      (halt_back s rs stepped (moved_on (position_at past m future)) kind
      (position_at past m future)) (was_by (position_at past m future)))
      × (was_ever_there s rs stepped (moved_on (position_at past m future)).past
      ≡ was_by (position_at past m future))
  over past m [] kind is = absurd cc
  over past m (move ∷ moves) kind is =
      let same : move.0 ≡ kind = cc in (
        ap (λ (k : MoveKind). from_behind (position_at past m (move ∷ moves))
            (halt_back s rs stepped (moved_on (position_at past m (move ∷ moves))) k
            (position_at past m (move ∷ moves))) (was_by (position_at past m (move ∷ moves)))) same,
        refl,
      )

  module _ (at : Position) (kind : MoveKind) (ahead : first_kind at.future ≡ Some kind) where
    pub backwards_over_move : backwards_from s rs stepped (moved_on at)
        ≡ from_behind at (halt_back s rs stepped (moved_on at) kind at) (was_by at)
    backwards_over_move = (over at.past at.moment at.future kind ahead).0

    pub was_over_move : was_ever_there s rs stepped (moved_on at).past ≡ was_by at
    was_over_move = (over at.past at.moment at.future kind ahead).1

  -- at the first moment
  pub backwards_first : (at : Position) → at.past ≡ []
      → backwards_from s rs stepped at ≡ halt_start s rs stepped at
  backwards_first at first = by at.past at.moment at.future first
    where
      by : (past : List (MoveKind × Moment)) (m : Moment) (future : List (MoveKind × Moment))
          → past ≡ []
          → backwards_from s rs stepped (position_at past m future)
          ≡ halt_start s rs stepped (position_at past m future)
      by [] m future is = refl
      by (move ∷ past) m future is = cc

  pub was_first : (at : Position) → at.past ≡ []
      → was_ever_there s rs stepped at.past ≡ false
  was_first at first = ap (was_ever_there s rs stepped) first

-- one more number of moves
pub after_next : (start : Position) (moves next : ℕ) → next ≡ moves + 1
    → position_after next start ≡ moved_on (position_after moves start)
after_next start moves next is =
    let one : next ≡ suc moves = omega (arith, is) in
    ap (λ (n : ℕ). position_after n start) one

-- ---- what is kept, behind one move more

module _ (s : Session) (rs : List Resumption) (stepped : Option ℕ) (start : Position)
    (moves next : ℕ) (next_is : next ≡ moves + 1) (kind : MoveKind)
    (ahead : first_kind (position_after moves start).future ≡ Some kind) where
  abbrev found_by : Position → Option Halt
  found_by behind = halt_back s rs stepped behind kind (position_after moves start)

  behind : backwards_from s rs stepped (position_after next start)
      ≡ from_behind s rs stepped (position_after moves start)
      (found_by (moved_on (position_after moves start)))
      (was_by s rs stepped (position_after moves start))
  behind =
      ap (backwards_from s rs stepped) (after_next start moves next next_is)
      ∙ backwards_over_move s rs stepped (position_after moves start) kind ahead

  -- by what the move is hit by
  by_found : (found : Option Halt) → found ≡ found_by (position_after next start)
      → backwards_from s rs stepped (position_after next start)
      ≡ from_behind s rs stepped (position_after moves start) found
      (was_by s rs stepped (position_after moves start))
  by_found found is =
      behind
      ∙ ap (λ (f : Option Halt). from_behind s rs stepped (position_after moves start) f
      (was_by s rs stepped (position_after moves start)))
      (ap found_by (sym (after_next start moves next next_is)) ∙ sym is)

  pub behind_found : (halt : Halt) → Some halt ≡ found_by (position_after next start)
      → halt ≡ backwards_from s rs stepped (position_after next start)
  behind_found halt is = sym (by_found (Some halt) is)

  module _ (none : None ≡ found_by (position_after next start)) (was : Bool)
      (was_is : was ≡ was_by s rs stepped (position_after moves start)) where
    pub behind_kept : (halt : Halt) → was ≡ true
        → halt ≡ backwards_from s rs stepped (position_after moves start)
        → halt ≡ backwards_from s rs stepped (position_after next start)
    behind_kept halt there is =
        is
        ∙ sym (by_found None none
        ∙ ap (λ (b : Bool). from_behind s rs stepped (position_after moves start) None b)
        (sym was_is ∙ there))

    pub behind_start : (halt : Halt) → was ≡ false
        → halt ≡ halt_start s rs stepped (position_after next start)
        → halt ≡ backwards_from s rs stepped (position_after next start)
    behind_start halt nobody is =
        is ∙ ap (halt_start s rs stepped) (after_next start moves next next_is)
        ∙ sym (by_found None none
        ∙ ap (λ (b : Bool). from_behind s rs stepped (position_after moves start) None b)
        (sym was_is ∙ nobody))

  pub was_behind : was_ever_there s rs stepped (position_after next start).past
      ≡ was_by s rs stepped (position_after moves start)
  was_behind =
      ap (λ (at : Position). was_ever_there s rs stepped at.past)
      (after_next start moves next next_is)
      ∙ was_over_move s rs stepped (position_after moves start) kind ahead

-- ---- the first of some halts

-- where one is that is at one of two moments
pub within_either : (moves first other last : ℕ) → (moves ≡ first) ⊎ (moves ≡ other)
    → first ≤ last → other ≤ last → moves ≤ last
within_either moves first other last (inl is) one two = omega (arith, is, one)
within_either moves first other last (inr is) one two = omega (arith, is, two)

pub found_first : (halt : Halt) (found rest : Option Halt) → Some halt ≡ found
    → Some halt ≡ or_else found rest
found_first halt found rest is = ap (λ (o : Option Halt). or_else o rest) is

pub found_later : (found rest later : Option Halt) → None ≡ found → later ≡ rest
    → later ≡ or_else found rest
found_later found rest later none is = is ∙ ap (λ (o : Option Halt). or_else o rest) none

-- ---- the start of a history, and the move of the thread whose step it is

pub start_meant : (s : Session) (rs : List Resumption) (start : Position) (stepped : Option ℕ)
    (halt : Kept) (moves : ℕ) (whose : Option Pair) → whose ≡ option_map (home_pair s) stepped
    → halt ≡ kept_at moves whose ReachedStart
    → halt_meant s rs start halt ≡ halt_start s rs stepped (position_after moves start)
start_meant s rs start stepped halt moves whose pair is =
    ap (halt_meant s rs start) is
    ∙ ap (λ (p : Option Pair). halt_at (position_after moves start)
    (whose_stop s rs (position_after moves start) p) ReachedStart) pair
    ∙ ap (λ (p : Pair). halt_at (position_after moves start) p ReachedStart)
    (whose_or s rs (position_after moves start) stepped)

module _ (s : Session) (at : Position) (stepped mover : Option ℕ) where
  pub no_step : stepped ≡ None → None ≡ halt_stepped_back s at stepped mover
  no_step is = ap (λ (o : Option ℕ). halt_stepped_back s at o mover) (sym is)

  by_step : (t : ℕ) (o : Option ℕ) → stepped ≡ Some t → mover ≡ o
      → halt_stepped_back s at (Some t) o ≡ halt_stepped_back s at stepped mover
  by_step t o is moves =
      ap (halt_stepped_back s at (Some t)) (sym moves)
      ∙ ap (λ (n : Option ℕ). halt_stepped_back s at n mover) (sym is)

  pub no_mover : (t : ℕ) → stepped ≡ Some t → mover ≡ None
      → None ≡ halt_stepped_back s at stepped mover
  no_mover t is moves = by_step t None is moves

  pub other_mover : (t m : ℕ) → stepped ≡ Some t → mover ≡ Some m → (m ≡ t → ⊥)
      → None ≡ halt_stepped_back s at stepped mover
  other_mover t m is moves other =
      ap (λ (b : Bool). cond b (Some (halt_at at (home_pair s t) Plainly)) None)
      (sym (ne_eqb t m (λ same. other (sym same))))
      ∙ by_step t (Some m) is moves

  pub its_move : (t m : ℕ) (pair : Pair) → stepped ≡ Some t → mover ≡ Some m → m ≡ t
      → pair ≡ home_pair s t
      → Some (halt_at at pair Plainly) ≡ halt_stepped_back s at stepped mover
  its_move t m pair is moves same home =
      ap (λ (p : Pair). Some (halt_at at p Plainly)) home
      ∙ ap (λ (b : Bool). cond b (Some (halt_at at (home_pair s t) Plainly)) None)
      (sym (eq-eqb t m (sym same)))
      ∙ by_step t (Some m) is moves
