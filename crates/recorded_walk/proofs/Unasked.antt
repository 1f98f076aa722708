-- Moves that ask nothing.
use Rattle.std.proofs.Common.{ℕ, ◌≡◌, refl, sym, ap, ◌∙◌, subst, List, Option, Some, None}
use Rattle.std.proofs.Common.{Result, Ok, Err, ◌+◌, Bool, true, false, nat_le, ◌||◌, if◌then◌else◌}
use Rattle.std.specs.Prelude.{IsSome}
use Rattle.dos_world.specs.Play.{Play, done, ◌>>=◌}
use Rattle.dos_world.specs.World.{World, live_threads}
use Rattle.dos_world.specs.Kernel.{process_ended}
use Rattle.dos_world.specs.declared.Reason.{Reason}
use Rattle.dos_world.specs.declared.Reason.TheVariants.{Page, Fault, Service}
use Rattle.debug_session.specs.Recordings.{LogEntry, followed}
use Rattle.flat_machine.specs.Step.{step}
use Rattle.flat_machine.specs.Round.{is_none_of}
use Rattle.flat_machine.specs.Rest.{Turn, after_step, on, over_with, process_of, settled}
use Rattle.group_moves.specs.Moves.{MoveKind, begins, runs, faults, kind_by, move_of}
use Rattle.group_moves.specs.Moves.{next_kind, part_step, rest_turn}
use Rattle.group_moves.specs.Moments.{Moment, kind_at, moment_behind, settled_scene}
use Rattle.group_moves.specs.Places.{Place, Scene, at_end, before_parts, before_rests}
use Rattle.group_moves.specs.Places.{between_rounds, within_part, within_rest}
use Rattle.recorded_walk.specs.Following.{follow_one}

-- ---- which moves ask nothing

-- a run instruction and a fault
abbrev pub AsksNothing : MoveKind → Type 0
AsksNothing (runs t) = Unit {0}
AsksNothing (faults t number) = Unit {0}
AsksNothing _ = ⊥

-- the move is done at once
abbrev IsDone : World → Place → Type 0
IsDone w place = (scene : Scene) × (move_of w place ≡ done scene)

some_is : (x y : MoveKind) → ◌≡◌ {A = Option MoveKind} (Some x) (Some y) → x ≡ y
some_is x y is = ap (λ (o : Option MoveKind). elim o [ None ↦ x | Some kind ↦ kind ]) is

-- a turn in which nothing is asked
turn_done : (w : World) (t : ℕ) (r : Result World Reason) → AsksNothing (kind_by t r)
    → (taken : Turn) × (after_step t w r ≡ done taken)
turn_done w t (Ok next) h = (on next, refl)
turn_done w t (Err (Page address access)) h = absurd h
turn_done w t (Err (Fault number)) h =
    (over_with (process_ended w (process_of w t) (128 + number)), refl)
turn_done w t (Err Service) h = absurd h

move_done : (limit begun : ℕ) (w : World) (place : Place) (kind : MoveKind) → AsksNothing kind
    → next_kind limit begun w place ≡ Some kind → IsDone w place
move_done limit begun w between_rounds kind h is =
    by_test (is_none_of (live_threads w) || nat_le limit begun) is
  where
    by_test : (b : Bool) → (if b then None else Some begins) ≡ Some kind → IsDone w between_rounds
    by_test true is = absurd cc
    by_test false is = absurd (subst AsksNothing (sym (some_is begins kind is)) h)
move_done limit begun w (before_parts starters threads) kind h is = absurd cc
move_done limit begun w (before_rests starters threads) kind h is = absurd cc
move_done limit begun w (within_part starters t ts) kind h is =
    (part_step starters t ts w (step w t), refl)
move_done limit begun w (within_rest starters t ts) kind h is =
    let s = settled 3 w t in
    let unasked = subst AsksNothing (sym (some_is (kind_by t s.1) kind is)) h in
    let taken = turn_done s.0 t s.1 unasked in (
      rest_turn starters t ts taken.0,
      ap (λ (p : Play Turn). p >>= λ turned. done (rest_turn starters t ts turned)) taken.1,
    )
move_done limit begun w (at_end ending) kind h is = absurd cc

-- A move that is done at once leads on, whatever entries are left.
pub leads_done : (limit : ℕ) (entries : List LogEntry) (m : Moment) (kind : MoveKind)
    (scene : Scene) → kind_at limit m ≡ Some kind → move_of m.world m.place ≡ done scene
    → follow_one limit entries m ≡ Some (moment_behind kind m (settled_scene scene), entries)
leads_done limit entries m kind scene is move =
    ap (λ (k : Option MoveKind). elim k [
      | None ↦ None
      | Some kind ↦ elim (followed entries (move_of m.world m.place)) [
        | None ↦ None
        | Some (scene, left) ↦ Some (moment_behind kind m (settled_scene scene), left)
      ]
    ]) is
    ∙ ap (λ (p : Play Scene). elim (followed entries p) [
      | None ↦ None
      | Some (scene, left) ↦ Some (moment_behind kind m (settled_scene scene), left)
    ]) move

-- So does one that asks nothing.
pub leads_unasked : (limit : ℕ) (entries : List LogEntry) (m : Moment) (kind : MoveKind)
    → AsksNothing kind → kind_at limit m ≡ Some kind → IsSome (follow_one limit entries m)
leads_unasked limit entries m kind h is =
    let moved = move_done limit m.begun_rounds m.world m.place kind h is in
    subst IsSome (sym (leads_done limit entries m kind moved.0 is moved.1)) refl
