-- What a kernel holds. This project's own rules.
use Rattle.std.specs.Prelude.{ℕ, ◌≡◌, ◌≤◌, ◌-◌, Bool, List, false, length}
use Rattle.dos_world.specs.World.{World}
use Rattle.dos_world.specs.Lawful.{IsConfig}
use Rattle.dos_world.specs.declared.Config.{Config}
use Rattle.dos_world.specs.declared.Owner.{Owner}
use Rattle.kernel_calls.specs.StateWorld.{IsSound, world_of}
use Rattle.kernel_calls.specs.declared.state.State.{State}

-- the state between two rounds, what the run was given, the threads that were ready as the last
-- phases began, and whether a round has failed
pub record Held : Type 0 where
  pub state : State
  pub config : Config
  pub starters : List ℕ
  pub failed : Bool

-- A state that a run with this configuration may have between two rounds.
pub record IsBetweenRounds (state : State) (config : Config) : Type 0 where
  pub sound : IsSound state
  pub range : IsConfig config
  pub rounds : state.round - 1 ≤ config.rounds
  pub frames : length state.frames.owners ≡ config.frames

-- the same state and kernel with these owners marked
abbrev pub state_marked : State → List Owner → State
state_marked s marked = record s { frames = record s.frames { marked = marked } }

abbrev pub kernel_marked : Held → List Owner → Held
kernel_marked k marked = record k { state = state_marked k.state marked }

-- the kernel's flat world, with nothing sent
abbrev pub kernel_world : Held → World
kernel_world k = world_of k.config.quantum k.state

-- a kernel with this configuration that has run no round
pub record IsFresh (k : Held) (config : Config) : Type 0 where
  pub running : k.failed ≡ false
  pub round : k.state.round ≡ 1
  pub given : k.config ≡ config
