-- How small programs are run by the checker, on the machine of one thread and one flat memory.
use Rattle.std.specs.Prelude.{ℕ, true, List, [], ◌∷◌, Option, flat_map}
use Rattle.dos_world.specs.Bytes.{bytes_of}
use Rattle.dos_world.specs.World.{World}
use Rattle.dos_world.specs.Play.{Answer}
use Rattle.dos_world.specs.declared.Config.{Config}
use Rattle.dos_world.specs.declared.Ending.{Ending}
use Rattle.dos_world.specs.declared.Question.{Question}
use Rattle.dos_world.specs.declared.Scheme.TheVariants.{Ownership}
use Rattle.elf_image.specs.Image.{Image}
use Rattle.flat_machine.specs.Opening.{opening}
use Rattle.flat_machine.specs.Machine.{Ran, ends, needs, machine}

-- an image of these instruction words at 0x10000, readable, writable and executable, entered at the
-- first
abbrev pub program : List ℕ → Image
program words =
    record {
      entry = 0x10000;
      parts =
          record {
            address = 0x10000;
            bytes = flat_map (bytes_of 4) words;
            zeros = 0;
            write =
                true;
            exec = true;
            index = 0;
          } ∷ [];
    }

-- at most 100000 rounds, in the ownership scheme
abbrev pub with_quantum : ℕ → ℕ → Config
with_quantum quantum frames = record {
  quantum = quantum;
  rounds = 100000;
  frames = frames;
  scheme = Ownership;
}

abbrev pub with_frames : ℕ → Config
with_frames frames = with_quantum 1000 frames

-- what is seen of a run whose guests sent nothing to error, but for its work
abbrev pub ended : List Question → List ℕ → List (Option ℕ) → Ending → ℕ → Ran
ended questions output statuses ending rounds =
    ends (record {
      questions = questions;
      output = output;
      error = [];
      statuses = statuses;
      ending =
          ending;
      rounds = rounds;
      work = 0;
    })

-- a run without its work
abbrev pub without_work : Ran → Ran
without_work (ends s) = ends (record s { work = 0 })
without_work (needs question output error) = needs question output error
