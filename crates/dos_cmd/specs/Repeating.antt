-- When a replay repeats a run that wrote its log, and what the two then show. This project's own
-- rules.
use Rattle.std.specs.Prelude.{◌≡◌, ℕ, List, map, Some, IsTrue}
use Rattle.dos_words.specs.Numbers.{Text}
use Rattle.dos_words.specs.Request.{request}
use Rattle.dos_words.specs.declared.request.Request.{Request}
use Rattle.dos_words.specs.declared.request.Request.TheVariants.{Run, Replay}
use Rattle.dos_cmd.specs.Judging.{digests_of}
use Rattle.dos_cmd.specs.Outside.{Outside, Grew}
use Rattle.dos_cmd.specs.RunLeaves.{RunAsked}

-- what a run is asked for, with so many workers
abbrev pub run_asked_with : RunAsked → (workers : ℕ) → Request
run_asked_with a workers =
    Run a.config.quantum a.config.rounds a.config.frames workers a.config.scheme a.posts
    a.clock_from a.clock_step a.log a.names

-- The first words ask for a run, and the others, of a call after it, for a replay by the same
-- scheme: of a log that holds what the run's log holds after the run, and of images that hold what
-- the run's held before it. The files of the run tell all that they hold, and each of its images
-- is there.
pub record IsReplayOf (first : List Text) (run : Outside) (again : List Text) (replay : Outside) :
    Type 0 where
  pub asked : RunAsked
  pub workers : ℕ
  pub asks_run : request first ≡ Some (run_asked_with asked workers)
  pub log : Text
  pub names : List Text
  pub workers_again : ℕ
  pub asks_replay : request again ≡ Some (Replay workers_again asked.config.scheme log names)
  pub all_told : IsTrue run.files_tell
  pub digests : List (List ℕ)
  pub are_there : digests_of (map run.files asked.names) ≡ Some digests
  pub same_log : replay.files log ≡ run.files_after asked.log
  pub same_images : map replay.files names ≡ map run.files asked.names

-- Two calls showed the same: each output grew by the same bytes, the report among them, and so the
-- statuses are the same.
pub record ShowTheSame (status : ℕ) (o : Outside) (again : ℕ) (p : Outside) : Type 0 where
  pub status_is : again ≡ status
  pub output : List ℕ
  pub error : List ℕ
  pub grew : Grew o output error
  pub grew_again : Grew p output error
