-- The parts of what a run is asked to be, as the words are read.
use Rattle.std.specs.Prelude.{ℕ, List, Option, Some, codes}
use Rattle.dos_words.specs.Numbers.{Text, ◌>>=◌}
use Rattle.dos_words.specs.Asked.{Values, number_or, number_if_given, workers_of, images_of}
use Rattle.dos_words.specs.Asked.{most_u64}
use Rattle.dos_words.specs.declared.read.Limits.{Limits}

-- how far it goes
abbrev pub limits_asked : Values → Option Limits
limits_asked value = do
  q ← number_or (value (codes "quantum")) 16 65536 1000
  r ← number_or (value (codes "rounds")) 1 1000000 100000
  f ← number_or (value (codes "frames")) 16 16384 4096
  w ← workers_of value
  Some (record { quantum = q; rounds = r; frames = f; workers = w })

-- the first reading of a counted clock, and what it goes on by
abbrev pub clock_asked : Values → Option (Option ℕ × ℕ)
clock_asked value = do
  from ← number_if_given (value (codes "clock-from")) 0 most_u64
  step ← number_or (value (codes "clock-step")) 0 most_u64 1
  Some (from, step)

-- the file of the log, and those of the images
abbrev pub files_asked : Values → List Text → Option (Text × List Text)
files_asked value names = do
  log ← value (codes "log")
  images ← images_of names
  Some (log, images)
