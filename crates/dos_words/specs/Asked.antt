-- What the values of a command's options and its names ask for: the ranges, and what stands for an
-- option that isn't given. This project's own rule. Whoever has read the words says the value of an
-- option by its name without the dashes.
use Rattle.std.specs.Prelude.{ℕ, ◌-◌, ◌^◌, List, [], ◌∷◌, length, Option, Some, None, if◌then◌else◌}
use Rattle.std.specs.Prelude.{bytes_eq, codes}
use Rattle.std.specs.Int.{is_in_range}
use Rattle.std.specs.Option.{option_map_or}
use Rattle.dos_world.specs.declared.Post.{Post}
use Rattle.dos_words.specs.Numbers.{Text, ◌>>=◌, number_within, posts_from}
use Rattle.dos_words.specs.declared.request.Request.{Request}
use Rattle.dos_world.specs.declared.Scheme.{Scheme}
use Rattle.dos_world.specs.declared.Scheme.TheVariants.{Ownership, Buffered}
use Rattle.dos_words.specs.declared.request.Request.TheVariants.{Run, Replay, Inspect, Gen}
use Rattle.dos_words.specs.declared.request.Request.TheVariants.{Debug, Migrate, Trace, Save}
use Rattle.dos_words.specs.declared.request.Request.TheVariants.{Resume}

-- the value of an option by its name, where it is given
abbrev pub Values : Type 0
Values = Text → Option Text

-- ---- one option

-- its number in the range, or the default
abbrev pub number_or : Option Text → (low high default : ℕ) → Option ℕ
number_or given low high default = option_map_or (number_within low high) given (Some default)

-- its posts, or none
abbrev pub posts_or_none : Option Text → Option (List (ℕ × Post))
posts_or_none given = option_map_or posts_from given (Some [])

-- a number that need not be given
abbrev pub number_if_given : Option Text → (low high : ℕ) → Option (Option ℕ)
number_if_given given low high =
    option_map_or (λ text. number_within low high text >>= λ n. Some (Some n)) given (Some None)

-- the highest number of 64 bits
abbrev pub most_u64 : ℕ
most_u64 = 2 ^ 64 - 1

-- 1 to 32 workers, else 4
abbrev pub workers_of : Values → Option ℕ
workers_of value = number_or (value (codes "workers")) 1 32 4

-- the scheme of this name
abbrev pub scheme_named : Text → Option Scheme
scheme_named name =
    if bytes_eq name (codes "ownership") then Some Ownership
    else (if bytes_eq name (codes "buffered") then Some Buffered else None)

-- the scheme that is named, else that of ownership
abbrev pub scheme_of : Values → Option Scheme
scheme_of value = option_map_or scheme_named (value (codes "scheme")) (Some Ownership)

-- one to eight names of images
abbrev pub images_of : List Text → Option (List Text)
images_of names = if is_in_range 1 8 (length names) then Some names else None

-- ---- the commands

-- `run`
abbrev pub run_asked : Values → List Text → Option Request
run_asked value names = do
  quantum ← number_or (value (codes "quantum")) 16 65536 1000
  rounds ← number_or (value (codes "rounds")) 1 1000000 100000
  frames ← number_or (value (codes "frames")) 16 16384 4096
  workers ← workers_of value
  scheme ← scheme_of value
  posts ← posts_or_none (value (codes "signals"))
  clock_from ← number_if_given (value (codes "clock-from")) 0 most_u64
  clock_step ← number_or (value (codes "clock-step")) 0 most_u64 1
  log ← value (codes "log")
  images ← images_of names
  Some (Run quantum rounds frames workers scheme posts clock_from clock_step log images)

-- `replay`
abbrev pub replay_asked : Values → List Text → Option Request
replay_asked value names = do
  workers ← workers_of value
  scheme ← scheme_of value
  log ← value (codes "log")
  images ← images_of names
  Some (Replay workers scheme log images)

-- `trace`, as `replay`
abbrev pub trace_asked : Values → List Text → Option Request
trace_asked value names = do
  workers ← workers_of value
  log ← value (codes "log")
  images ← images_of names
  Some (Trace workers log images)

-- `debug`, as `replay`
abbrev pub debug_asked : Values → List Text → Option Request
debug_asked value names = do
  workers ← workers_of value
  log ← value (codes "log")
  images ← images_of names
  Some (Debug workers log images)

-- `save`
abbrev pub save_asked : Values → List Text → Option Request
save_asked value names = do
  workers ← workers_of value
  log ← value (codes "log")
  text ← value (codes "round")
  round ← number_within 1 1000000 text
  to ← value (codes "to")
  images ← images_of names
  Some (Save workers log round to images)

-- `resume`, with no names
abbrev pub resume_asked : Values → List Text → Option Request
resume_asked value [] = do
  workers ← workers_of value
  log ← value (codes "log")
  from ← value (codes "from")
  Some (Resume workers log from)
resume_asked value _ = None

-- `inspect`, of one name
abbrev pub inspect_asked : Values → List Text → Option Request
inspect_asked value (name ∷ []) = Some (Inspect name)
inspect_asked value _ = None

-- `gen`, with no names
abbrev pub gen_asked : Values → List Text → Option Request
gen_asked value [] = do
  text ← value (codes "number")
  number ← number_within 0 4294967295 text
  count ← value (codes "threads")
  threads ← number_within 1 32 count
  workers ← workers_of value
  Some (Gen number threads workers)
gen_asked value _ = None

-- `migrate`, with no names
abbrev pub migrate_asked : Values → List Text → Option Request
migrate_asked value [] = do
  log ← value (codes "log")
  to ← value (codes "to")
  Some (Migrate log to)
migrate_asked value _ = None
