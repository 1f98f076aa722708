-- Moves send their bytes behind those that were sent.
use Rattle.std.proofs.Common.{ℕ, zero, suc, List, [], ◌∷◌, Bool, cond, true, false, Option, Some}
use Rattle.std.proofs.Common.{None, Result, Ok, Err, refl, ◌≡◌}
use Rattle.std.specs.Prelude.{is_none}
use Rattle.dos_world.specs.World.{World, live_threads, ready_threads, thread_at}
use Rattle.dos_world.specs.Play.{Play, done, ask, ◌>>=◌, over, posts_of}
use Rattle.dos_world.specs.Signals.{ripen, signalled}
use Rattle.dos_world.specs.declared.Ending.TheVariants.{Done, Stalled}
use Rattle.dos_world.specs.declared.Reason.{Reason}
use Rattle.dos_io.specs.Outside.{IsFront}
use Rattle.flat_machine.specs.Alone.{emptied}
use Rattle.flat_machine.specs.Rest.{Turn, on, over_with, turn}
use Rattle.flat_machine.specs.Round.{is_none_of, with_budgets}
use Rattle.flat_machine.specs.Step.{step}
use Rattle.round_core.specs.Protocol.{Allows}
use Rattle.round_core.proofs.Allowed.{then_allows}
use Rattle.round_core.proofs.Keeps.{opened_keeps, turns_keep, with_budgets_keep}
use Rattle.group_moves.specs.Moments.{Moment, kind_at, moment_behind, settled_scene}
use Rattle.group_moves.specs.Moves.{MoveKind, begins, runs, is_served, faults}
use Rattle.group_moves.specs.Moves.{begun_scene, move_of, part_step, rest_turn}
use Rattle.group_moves.specs.Places.{Place, Scene, at_end, before_parts, before_rests}
use Rattle.group_moves.specs.Places.{between_rounds, is_part_over, is_rest_over, to_parts, to_rests}
use Rattle.group_moves.specs.Places.{within_part, within_rest}
use Rattle.kernel_calls.specs.Plays.{AreFrontsOf}
use Rattle.group_rounds.proofs.FrontLaws.{HasSent, fronts_kept, fronts_over, sending}
use Rattle.group_walk.specs.Plays.{moved, walked}

module _ (o e : List ℕ) where
  abbrev Sent : World → Type 0
  Sent w = HasSent o e [] w

  -- ---- what happens without a move

  rests-sent : (w : World) (starters ts : List ℕ) → Sent w → Sent (to_rests w starters ts).0
  rests-sent w starters [] h = h
  rests-sent w starters (t ∷ ts) h =
      go (is_none (thread_at w t)) (is_rest_over (emptied w t) t) (rests-sent w starters ts h)
      (rests-sent (emptied w t) starters ts h)
    where
      go : (gone spent : Bool) → Sent (to_rests w starters ts).0
          → Sent (to_rests (emptied w t) starters ts).0
          → Sent (cond gone (to_rests w starters ts) (cond spent
          (to_rests (emptied w t) starters ts) (emptied w t, within_rest starters t ts))).0
      go true spent h k = h
      go false true h k = k
      go false false h' k = h

  parts-sent : (w : World) (starters ts : List ℕ) → Sent w → Sent (to_parts w starters ts).0
  parts-sent w starters [] h = rests-sent w starters starters h
  parts-sent w starters (t ∷ ts) h =
      go (is_part_over (emptied w t) t) (parts-sent (emptied w t) starters ts h)
    where
      go : (spent : Bool) → Sent (to_parts (emptied w t) starters ts).0
          → Sent (cond spent (to_parts (emptied w t) starters ts)
          (emptied w t, within_part starters t ts)).0
      go true k = k
      go false k = h

  settled-sent : (w : World) (place : Place) → Sent w → Sent (settled_scene (w, place)).0
  settled-sent w between_rounds h = h
  settled-sent w (before_parts starters ts) h = parts-sent w starters ts h
  settled-sent w (before_rests starters ts) h = rests-sent w starters ts h
  settled-sent w (within_part starters t ts) h =
      go (is_part_over w t) (parts-sent w starters ts h)
    where
      go : (spent : Bool) → Sent (to_parts w starters ts).0
          → Sent (cond spent (to_parts w starters ts) (w, within_part starters t ts)).0
      go true k = k
      go false k = h
  settled-sent w (within_rest starters t ts) h =
      go (is_rest_over w t) (rests-sent w starters ts h)
    where
      go : (spent : Bool) → Sent (to_rests w starters ts).0
          → Sent (cond spent (to_rests w starters ts) (w, within_rest starters t ts)).0
      go true k = k
      go false k = h
  settled-sent w (at_end ending) h = h

  -- ---- a move

  begun-sent : (w : World) → Sent w → Sent (begun_scene w).0
  begun-sent w h = go (is_none_of (live_threads w)) (is_none_of (ready_threads w))
    where
      go : (dead idle : Bool)
          → Sent (cond {A = Scene} dead (w, at_end Done) (cond idle (w, at_end Stalled) (
            with_budgets w (ready_threads w),
            before_parts (ready_threads w) (ready_threads w),
          ))).0
      go true idle = h
      go false true = h
      go false false =
          with_budgets_keep (sending o e) (HasSent o e) (fronts_kept o e) [] w (ready_threads w) h

  stepped-sent : (w : World) (t : ℕ) (starters ts : List ℕ) → Sent w → (r : Result World Reason)
      → step w t ≡ r → Sent (part_step starters t ts w r).0
  stepped-sent w t starters ts h (Ok next) is =
      (fronts_kept o e).steps_kept [] w next t is h
  stepped-sent w t starters ts h (Err reason) is = h

  -- the world of a turn
  abbrev Taken : Turn → Type 0
  Taken (on w) = Sent w
  Taken (over_with w) = Sent w

  -- a turn is the first of the turns
  first-turn : (p : Play Turn)
      → Allows (sending o e) (HasSent o e [])
      (p >>= λ taken. elim taken as (λ _. Play World) [
        | on next ↦ done next
        | over_with last ↦ done last
      ]) → Allows (sending o e) Taken p
  first-turn (done (on w)) h = h
  first-turn (done (over_with w)) h = h
  first-turn (ask question output error next) h =
      (h.0, λ answer fits. first-turn (next answer) (h.1 answer fits))

  turn-sends : (w : World) (t : ℕ) → Sent w → Allows (sending o e) Taken (turn w t)
  turn-sends w t h = first-turn (turn w t)
      (turns_keep (sending o e) (HasSent o e) (fronts_kept o e) 1 [] w t h)

  turned-sent : (starters : List ℕ) (t : ℕ) (ts : List ℕ) (taken : Turn) → Taken taken
      → Sent (rest_turn starters t ts taken).0
  turned-sent starters t ts (on w) h = h
  turned-sent starters t ts (over_with w) h = h

  move-sends : (w : World) (place : Place) → Sent w
      → Allows (sending o e) (λ (scene : Scene). Sent scene.0) (move_of w place)
  move-sends w between_rounds h = (
    h,
    λ answer fits. begun-sent (ripen (signalled w (posts_of answer)))
        (opened_keeps (sending o e) (HasSent o e) (fronts_kept o e) w (posts_of answer)
        ((sending o e).brings answer fits) h),
  )
  move-sends w (within_part starters t ts) h = stepped-sent w t starters ts h (step w t) refl
  move-sends w (within_rest starters t ts) h =
      then_allows (sending o e) Taken (λ (scene : Scene). Sent scene.0) (turn w t)
      (λ taken. done (rest_turn starters t ts taken)) (turn-sends w t h)
      (λ taken k. turned-sent starters t ts taken k)
  move-sends w (before_parts starters ts) h = h
  move-sends w (before_rests starters ts) h = h
  move-sends w (at_end ending) h = h

  behind-sent : (kind : MoveKind) (m : Moment) (scene : Scene) → Sent scene.0
      → Sent (moment_behind kind m (settled_scene scene)).world
  behind-sent begins m scene h = settled-sent scene.0 scene.1 h
  behind-sent (runs t) m scene h = settled-sent scene.0 scene.1 h
  behind-sent (is_served t) m scene h = settled-sent scene.0 scene.1 h
  behind-sent (faults t number) m scene h = settled-sent scene.0 scene.1 h

  moved-sends : (limit : ℕ) (m : Moment) → Sent m.world
      → Allows (sending o e) (λ (n : Moment). Sent n.world) (moved limit m)
  moved-sends limit m h = go (kind_at limit m)
    where
      go : (x : Option MoveKind)
          → Allows (sending o e) (λ (n : Moment). Sent n.world) (elim x as (λ _. Play Moment) [
            | None ↦ done m
            | Some kind ↦ move_of m.world m.place
                >>= λ scene. done (moment_behind kind m (settled_scene scene))
          ])
      go None = h
      go (Some kind) =
          then_allows (sending o e) (λ (scene : Scene). Sent scene.0)
          (λ (n : Moment). Sent n.world) (move_of m.world m.place)
          (λ scene. done (moment_behind kind m (settled_scene scene)))
          (move-sends m.world m.place h) (λ scene k. behind-sent kind m scene k)

  walked-sends : (moves limit : ℕ) (m : Moment) → Sent m.world
      → Allows (sending o e) (λ (n : Moment). Sent n.world) (walked moves limit m)
  walked-sends zero limit m h = h
  walked-sends (suc moves) limit m h =
      then_allows (sending o e) (λ (n : Moment). Sent n.world) (λ (n : Moment). Sent n.world)
      (moved limit m) (λ next. walked moves limit next) (moved-sends limit m h)
      (λ next k. walked-sends moves limit next k)

  -- what a walk sends, it sends behind what was sent
  pub fronts_walked : (moves limit : ℕ) (m : Moment) → IsFront o m.world.output
      → IsFront e m.world.error
      → AreFrontsOf (λ (n : Moment). n.world) o e (over [] (walked moves limit m))
  fronts_walked moves limit m out err =
      fronts_over o e (λ (n : Moment). n.world) [] (walked moves limit m)
      (walked-sends moves limit m (out, err))
