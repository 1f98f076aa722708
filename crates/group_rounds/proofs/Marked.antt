-- A state whose owners are marked otherwise.
use Rattle.std.proofs.Common.{List, ◌≡◌, Result, Ok, Err, subst, sym}
use Rattle.std.specs.Prelude.{OnErr, OnOk}
use Rattle.dos_world.specs.declared.Config.{Config}
use Rattle.dos_world.specs.declared.Owner.{Owner}
use Rattle.kernel_calls.specs.StateWorld.{IsSound}
use Rattle.kernel_calls.specs.declared.state.State.{State}
use Rattle.group_rounds.specs.Kernels.{IsBetweenRounds, state_marked}

pub sound-marked : (s : State) (marked : List Owner) → IsSound s → IsSound (state_marked s marked)
sound-marked s marked sound = record {
  counted = record {
    home = record {
      home = sound.counted.home.home;
      owners = sound.counted.home.owners;
    };
    round = sound.counted.round;
    room = sound.counted.room;
    uses = sound.counted.uses;
    ends = sound.counted.ends;
  };
  lawful = sound.lawful;
}

pub between-marked : (s : State) (marked : List Owner) (config : Config)
    → IsBetweenRounds s config → IsBetweenRounds (state_marked s marked) config
between-marked s marked config between = record {
  sound = sound-marked s marked between.sound;
  range = between.range;
  rounds = between.rounds;
  frames = between.frames;
}

-- what holds of either holds of what is left, by how the call came out
pub of_either : {T E A : Type 0} (r : Result T E) (P : A → Type 0) (new done undone : A)
    → OnOk r (new ≡ done) → OnErr r (new ≡ undone) → P done → P undone → P new
of_either (Ok x) P new done undone ok err p q = subst P (sym ok) p
of_either (Err e) P new done undone ok err p q = subst P (sym err) q
