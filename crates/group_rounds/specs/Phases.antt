-- The starters of a round, and who waits no longer. This project's own words.
use Rattle.std.specs.Prelude.{ℕ, ◌≡◌, Bool, List, Option, All, filter, not, ◌&&◌}
use Rattle.dos_world.specs.Numbered.{numbers_of}
use Rattle.dos_world.specs.World.{World, Thread, is_state, thread_at}
use Rattle.dos_world.specs.Signals.{would_wait}
use Rattle.dos_world.specs.declared.Scheme.{Scheme}
use Rattle.dos_world.specs.declared.ThreadState.TheVariants.{Ready, Retry}
use Rattle.proc_table.specs.Tables.{IsLiveThread, thread_in}
use Rattle.flat_machine.specs.Buffered.{all_put}
use Rattle.flat_machine.specs.Round.{all_alone, phase_of}
use Rattle.kernel_calls.specs.StateWorld.{IsSound, sent, world_of, StaysInRound}
use Rattle.kernel_calls.specs.declared.state.State.{State}
use Rattle.group_rounds.specs.Parts.{KeepsCount}

-- the numbers of the ready threads, in rising order
abbrev pub ready_in : List (Option Thread) → List ℕ
ready_in threads = numbers_of (is_state Ready) threads

-- whether the thread of this number is ready
abbrev pub is_ready : List (Option Thread) → ℕ → Bool
is_ready threads t = is_state Ready (thread_in threads t)

-- each of these is a live thread
abbrev pub AreLive : List (Option Thread) → List ℕ → Type 0
AreLive threads starters = All (IsLiveThread threads) starters

-- whether the thread of this number waits, and its service would not wait any more
abbrev pub is_ripe : World → ℕ → Bool
is_ripe w t = is_state Retry (thread_at w t) && not (would_wait w t)

-- the numbers of those threads, in rising order
abbrev pub ripe_in : World → List ℕ
ripe_in w = filter (λ t. not (would_wait w t)) (numbers_of (is_state Retry) w.threads)

-- This change of the flat world led from the old state to the new one, and nothing else is another.
pub record LedBy (change : World → World) (old new : State) : Type 0 where
  pub runs : (q : ℕ) (o e : List ℕ)
      → change (sent o e (world_of q old)) ≡ sent o e (world_of q new)
  pub sound : IsSound new
  pub round : StaysInRound old new
  pub count : KeepsCount old new

-- The parallel phase of a scheme has run.
abbrev pub HaveRunPhase : Scheme → (old new : State) → Type 0
HaveRunPhase scheme = LedBy (phase_of scheme)

-- Each of these threads has run its part by itself.
abbrev pub HaveRunAlone : (starters : List ℕ) → (old new : State) → Type 0
HaveRunAlone starters = LedBy (λ w. all_alone w starters)

-- The parts of these threads, each taken of the world as it was, have been put in one after
-- another.
abbrev pub HavePutParts : (starters : List ℕ) → (old new : State) → Type 0
HavePutParts starters = LedBy (λ w. all_put w w starters)
