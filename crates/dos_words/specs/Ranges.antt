-- The ranges of what the words may ask for. This project's own rule.
use Rattle.std.specs.Prelude.{◌≤◌, ℕ, List, length, Option, IfSome, ⊤}
use Rattle.std.specs.List.{AllByRecursion}
use Rattle.std.specs.Int.{IsInRange}
use Rattle.dos_world.specs.declared.Post.{Post}
use Rattle.dos_words.specs.Numbers.{Text}
use Rattle.dos_words.specs.Asked.{most_u64}
use Rattle.dos_words.specs.declared.request.Request.{Request}
use Rattle.dos_words.specs.declared.request.Request.TheVariants.{Run, Replay, Inspect, Gen}
use Rattle.dos_words.specs.declared.request.Request.TheVariants.{Debug, Migrate, Trace, Save}
use Rattle.dos_words.specs.declared.request.Request.TheVariants.{Resume}

-- a post with its round
pub record FitsAskedPost (post : ℕ × Post) : Type 0 where
  pub round : IsInRange 1 1000000 post.0
  pub process : IsInRange 1 65535 post.1.pid
  pub signal : IsInRange 1 31 post.1.signal

-- of a run
pub record FitsRun (quantum rounds frames workers : ℕ) (posts : List (ℕ × Post))
    (clock_from : Option ℕ) (clock_step : ℕ) (names : List Text) : Type 0 where
  pub quantum_fits : IsInRange 16 65536 quantum
  pub rounds_fit : IsInRange 1 1000000 rounds
  pub frames_fit : IsInRange 16 16384 frames
  pub workers_fit : IsInRange 1 32 workers
  pub posts_fit : AllByRecursion FitsAskedPost posts
  pub few_posts : length posts ≤ 32
  pub clock_from_fits : IfSome clock_from (λ n. n ≤ most_u64)
  pub clock_step_fits : clock_step ≤ most_u64
  pub names_fit : IsInRange 1 8 (length names)

-- of each request
abbrev pub FitsRequest : Request → Type 0
FitsRequest (Run quantum rounds frames workers scheme posts clock_from clock_step log names) =
    FitsRun quantum rounds frames workers posts clock_from clock_step names
FitsRequest (Replay workers scheme log names) =
    IsInRange 1 32 workers × IsInRange 1 8 (length names)
FitsRequest (Inspect name) = ⊤
FitsRequest (Gen number threads workers) =
    (number ≤ 4294967295) × IsInRange 1 32 threads × IsInRange 1 32 workers
FitsRequest (Migrate log to) = ⊤
FitsRequest (Trace workers log names) = IsInRange 1 32 workers × IsInRange 1 8 (length names)
FitsRequest (Debug workers log names) = IsInRange 1 32 workers × IsInRange 1 8 (length names)
FitsRequest (Save workers log round to names) =
    IsInRange 1 32 workers × IsInRange 1 1000000 round × IsInRange 1 8 (length names)
FitsRequest (Resume workers log from) = IsInRange 1 32 workers
