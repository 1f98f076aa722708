-- Nobody is there behind the last process's exit: a resumption forwards halts in front of it.
use Rattle.std.proofs.Common.{ℕ, ◌≡◌, List, [], ◌∷◌, Option, Some, None, true, false, cond}
use Rattle.std.proofs.Common.{refl, sym, ap, ◌∙◌, subst, length}
use Rattle.std.specs.Prelude.{◌&&◌, find, is_some}
use Rattle.std.specs.List.{list_any}
use Rattle.std.proofs.lemmas.Bool.{and_left, and_right, or_from}
use Rattle.dos_world.specs.Numbered.{run_of}
use Rattle.dos_world.specs.World.{Holdings, World}
use Rattle.group_moves.specs.Moves.{MoveKind}
use Rattle.group_walk.specs.Exits.{IsDeserted}
use Rattle.gdb_packets.specs.declared.resumptions.Resumption.{Resumption}
use Rattle.debug_session.specs.Forwards.{halt_watched}
use Rattle.debug_session.specs.Halts.{Halt, halt_at}
use Rattle.debug_session.specs.Hits.{hit_by, is_hit_as, is_watching}
use Rattle.debug_session.specs.Positions.{Position, first_kind, moved_on, position_after}
use Rattle.debug_session.specs.Sessions.{Session, chosen_at, is_anybody_there, is_belonging}
use Rattle.debug_session.specs.Sessions.{is_process_live}
use Rattle.debug_session.specs.declared.points.Watchpoint.{Watchpoint}
use Rattle.debug_session.specs.declared.stops.Cause.TheVariants.{ReachedEnd}
use Rattle.recorded_walk.specs.Playbacks.{IsLastExit}
use Rattle.debugger.specs.declared.forwards.Way.{Way}
use Rattle.debugger.specs.declared.halts.Halt.{Halt as Kept}
use Rattle.debugger.specs.declared.moving.Before.{Before}
use Rattle.debugger.specs.Halting.{IsNoted, IsPassing, forwards_from, halt_meant}
use Rattle.debugger.proofs.Onward.{deserted_now, meant_at, moving_deserted, over_moving}
use Rattle.debugger.proofs.Pathway.{Step, on_step}

-- ---- where no process lives

module _ (s : Session) (rs : List Resumption) (w next : World) (deserted : IsDeserted next) where
  dead : (p : ℕ) → is_process_live next p ≡ false
  dead p = ap (λ (o : Option Holdings). is_some o) (deserted p)

  -- nobody is there
  nobody : is_anybody_there s rs next ≡ false
  nobody = each (run_of 1 (length next.processes))
    where
      each : (ps : List ℕ)
          → list_any (λ p. is_process_live next p && is_belonging s rs next p) ps ≡ false
      each [] = refl
      each (p ∷ ps) =
          or_from (is_process_live next p && is_belonging s rs next p)
          (list_any (λ p. is_process_live next p && is_belonging s rs next p) ps)
          (and_left (is_process_live next p) (is_belonging s rs next p) (dead p)) (each ps)

  -- no watchpoint is hit by a move that leads there
  unhit : (kind : MoveKind) → hit_by s rs w kind next ≡ None
  unhit kind = each s.watchpoints
    where
      each : (points : List Watchpoint)
          → find (λ point. is_watching s rs w next point
          && is_hit_as point.kind w kind next point) points ≡ None
      each [] = refl
      each (point ∷ points) =
          ap (λ b. cond b (Some point) (find (λ x. is_watching s rs w next x
          && is_hit_as x.kind w kind next x) points))
          (and_left (is_watching s rs w next point) (is_hit_as point.kind w kind next point)
          (and_right (is_belonging s rs w point.process && is_process_live w point.process)
          (is_process_live next point.process) (dead point.process)))
          ∙ each points

-- ---- on the way

-- Somebody was there, and the moment doesn't halt by itself: so the resumption ends there.
pub ends_at_exit : (s : Session) (rs : List Resumption) (start : Position) (way : Way)
    (at : Position) (b : Before) (end : Kept)
    → end ≡ record {
      moves = way.last;
      signal = 5;
      whose = None;
      cause = ReachedEnd;
      born = None;
      is_owed = false;
    }
    → way.was_there ≡ true → IsLastExit at → IsPassing b s rs way.is_first at
    → IsNoted s rs start way at
    → forwards_from s rs start way at ≡ halt_meant s rs start end
ends_at_exit s rs start way at b end is was exit passing noted =
    over_moving s rs way.is_first way.was_there last at step exit.later exit.ahead noted.last
    noted.there halt
    (passing.passing (first ∙ ap (λ (k : MoveKind). Some k) (passing.kind exit.kind first)))
    (sym (moving_deserted s rs start way.was_there last at after exit.kind unwatched halt
    (sym (deserted_now s rs last after way.was_there false was
    (sym (nobody s rs at.moment.world after.moment.world deserted)) refl))))
    ∙ sym (meant_at s rs start end way.last None ReachedEnd is)
  where
    step : Step
    step = (exit.kind, exit.next)

    first : first_kind at.future ≡ Some exit.kind
    first = ap first_kind exit.ahead

    last : Position
    last = position_after way.last start

    after : Position
    after = moved_on at

    halt : Halt
    halt = halt_at last (chosen_at s rs last) ReachedEnd

    deserted : IsDeserted after.moment.world
    deserted = subst (λ (p : Position). IsDeserted p.moment.world)
        (sym (on_step at step exit.later exit.ahead)) exit.deserted

    unwatched : None ≡ halt_watched s rs exit.kind after.moment.world at after
        (hit_by s rs at.moment.world exit.kind after.moment.world)
    unwatched = sym (ap (halt_watched s rs exit.kind after.moment.world at after)
        (unhit s rs at.moment.world after.moment.world deserted exit.kind))
