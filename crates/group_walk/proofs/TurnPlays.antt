-- A turn of the serial phase, as the play that a state's calls play.
use Rattle.std.proofs.Common.{ℕ, ◌+◌, ◌≡◌, ap, ◌∙◌, true, false, List, [], Result}
use Rattle.std.proofs.Common.{Ok, Some}
use Rattle.dos_world.specs.World.{World}
use Rattle.dos_world.specs.Kernel.{process_ended}
use Rattle.dos_world.specs.Play.{Play, done, ◌>>=◌, over}
use Rattle.dos_world.specs.Services.{Served as FlatServed, went, waits, yields, gone, service}
use Rattle.dos_world.specs.declared.Access.{Access}
use Rattle.dos_world.specs.declared.Reason.TheVariants.{Page, Fault, Service}
use Rattle.dos_io.specs.Borders.{BorderState}
use Rattle.dos_io.specs.Outside.{IsFront}
use Rattle.dos_laws.specs.Plays.{world_served}
use Rattle.flat_machine.specs.Rest.{Turn, over_with, settled, turn, after_service, process_of}
use Rattle.flat_machine.specs.Rest.{service_done}
use Rattle.flat_machine.specs.Step.{step}
use Rattle.kernel_calls.specs.StateWorld.{sent, way_in, world_of}
use Rattle.kernel_calls.specs.Plays.{AreFrontsOf, Plays, PlaysOn, PlaysOnce}
use Rattle.kernel_calls.specs.declared.state.RunStop.{RunStop}
use Rattle.kernel_calls.specs.declared.state.Served.{Served}
use Rattle.kernel_calls.specs.declared.state.Served.TheVariants.{Went, Waits, Yields, Gone}
use Rattle.kernel_calls.specs.declared.state.State.{State}
use Rattle.kernel_calls.proofs.Playing.{once_plays, plays_after, plays_before, plays_still}
use Rattle.group_rounds.specs.Parts.{goes_on_after}
use Rattle.group_walk.specs.Needs.{reason_of}
use Rattle.group_walk.specs.Plays.{turn_in, world_turned}
use Rattle.group_walk.proofs.Turned.{turn_faults, turn_serves, turn_steps, turn_stops}

-- what a turn sends, it sends behind what its service has sent
behind_service : (o e : List ℕ) (served : FlatServed) → IsFront o (world_served served).output
    → IsFront e (world_served served).error
    → AreFrontsOf world_turned o e (over [] (service_done served))
behind_service o e (went w) out err = (out, err)
behind_service o e (waits w) out err = (out, err)
behind_service o e (yields w) out err = (out, err)
behind_service o e (gone w) out err = (out, err)

-- behind a service the part goes on or doesn't
pub served_turn : (q : ℕ) (play : World → Play Turn) (old new : State) (before after : BorderState)
    (way : Served)
    → PlaysOn q play old before (λ w. done (after_service (way_in way w))) new after
    → PlaysOn q play old before (λ w. done (turn_in (goes_on_after way) w)) new after
served_turn q play old new before after Went h = h
served_turn q play old new before after Waits h = h
served_turn q play old new before after Yields h = h
served_turn q play old new before after Gone h = h

module _ (old s : State) (t : ℕ)
    (settles : (q : ℕ) (o e : List ℕ) → settled 3 (sent o e (world_of q old)) t
    ≡ (sent o e (world_of q s), step (sent o e (world_of q s)) t)) where
  pub plays_step : (new : State)
      → ((q : ℕ) (o e : List ℕ)
      → step (sent o e (world_of q s)) t ≡ Ok (sent o e (world_of q new)))
      → (q : ℕ) (b : BorderState)
      → PlaysOn q (λ w. turn w t) old b (λ w. done (turn_in true w)) new b
  plays_step new steps q b =
      plays_still q (λ w. turn w t) (λ w. done (turn_in true w)) old new b
      (λ o e. turn_steps (sent o e (world_of q old)) (sent o e (world_of q s)) t (settles q o e)
      (sent o e (world_of q new)) (steps q o e))

  pub plays_stop : (address : ℕ) (access : Access)
      → ((q : ℕ) (o e : List ℕ)
      → reason_of (step (sent o e (world_of q s)) t) ≡ Some (Page address access))
      → (q : ℕ) (b : BorderState)
      → PlaysOn q (λ w. turn w t) old b (λ w. done (turn_in false w)) s b
  plays_stop address access why q b =
      plays_still q (λ w. turn w t) (λ w. done (turn_in false w)) old s b
      (λ o e. turn_stops (sent o e (world_of q old)) (sent o e (world_of q s)) t (settles q o e)
      address access (why q o e))

  pub plays_fault : (number : ℕ) (new : State)
      → ((q : ℕ) (o e : List ℕ)
      → reason_of (step (sent o e (world_of q s)) t) ≡ Some (Fault number))
      → ((q : ℕ) (o e : List ℕ)
      → process_ended (sent o e (world_of q s)) (process_of (sent o e (world_of q s)) t)
      (128 + number) ≡ sent o e (world_of q new))
      → (q : ℕ) (b : BorderState)
      → PlaysOn q (λ w. turn w t) old b (λ w. done (turn_in false w)) new b
  plays_fault number new why ends q b =
      plays_still q (λ w. turn w t) (λ w. done (turn_in false w)) old new b
      (λ o e. turn_faults (sent o e (world_of q old)) (sent o e (world_of q s)) t (settles q o e)
      number (why q o e) ∙ ap (λ w. done (over_with w)) (ends q o e))

  pub plays_service : (new : State) (result : Result Served RunStop) (before after : BorderState)
      → ((q : ℕ) (o e : List ℕ)
      → reason_of (step (sent o e (world_of q s)) t) ≡ Some Service)
      → PlaysOnce (λ w. service w t) result s before new after
      → (q : ℕ) → Plays q world_turned (λ w. turn w t)
      (λ way w. done (after_service (way_in way w))) result old before new after
  plays_service new result before after why once q =
      plays_after q world_turned (λ w. turn w t) (λ w. service w t >>= service_done)
      (λ way w. done (after_service (way_in way w))) result old s new before before after
      (plays_still q (λ w. turn w t) (λ w. service w t >>= service_done) old s before
      (λ o e. turn_serves (sent o e (world_of q old)) (sent o e (world_of q s)) t (settles q o e)
      (why q o e)))
      (plays_before q world_served world_turned (λ w. service w t) service_done
      (λ way w. done (way_in way w)) result s new before after behind_service
      (once_plays q (λ w. service w t) result s new before after once))
