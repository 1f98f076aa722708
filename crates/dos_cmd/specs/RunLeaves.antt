-- What `run` leaves. This project's own rules.
use Rattle.std.specs.Prelude.{◌≡◌, ◌++◌, ℕ, List, map, Option, Some, None, IfSome}
use Rattle.dos_world.specs.declared.Config.{Config}
use Rattle.dos_world.specs.declared.Post.{Post}
use Rattle.dos_io.specs.declared.exchange.ClockRule.{ClockRule}
use Rattle.dos_io.specs.declared.exchange.ClockRule.TheVariants as clocks
use Rattle.dos_io.specs.declared.shim.ShimStop.{ShimStop}
use Rattle.elf_image.specs.Image.{Image}
use Rattle.flat_machine.specs.Machine.{Seen}
use Rattle.kernel_calls.specs.StateWorld.{shim_stop}
use Rattle.kernel_calls.specs.declared.state.RunStop.{RunStop}
use Rattle.dpg_run.specs.Report.{report}
use Rattle.log_text.specs.LogText.{Log, logtext}
use Rattle.log_text.specs.declared.header.LogHeader.{LogHeader}
use Rattle.logged_runs.specs.Recording.{Plan, Recorded, RecordedUntil, RecordedAhead, plan_of}
use Rattle.dos_texts.specs.Exit.{ending_status}
use Rattle.dos_words.specs.Numbers.{Text}
use Rattle.group_rounds.specs.Kernels.{Held}
use Rattle.logged_runs.specs.Opened.{IsOpenedWith}
use Rattle.shim_log.specs.Ledger.{LedgerState}
use Rattle.dos_cmd.specs.Judging.{digests_of}
use Rattle.dos_cmd.specs.Outside.{Outside, Counted, Grew, GrewUpToLast, FilesStay, OthersStay}
use Rattle.dos_cmd.specs.Outside.{FileHolds}

-- what `run` is asked for, but for its workers
pub record RunAsked : Type 0 where
  pub config : Config
  pub posts : List (ℕ × Post)
  pub clock_from : Option ℕ
  pub clock_step : ℕ
  pub log : Text
  pub names : List Text

-- a counted clock where its first reading is given, else the host's
abbrev pub clock_rule : Option ℕ → ℕ → ClockRule
clock_rule None step = clocks.FromHost
clock_rule (Some start) step = clocks.Counted start step

-- the header of the log: the run's numbers, and the digests of its images
abbrev pub header_of : Config → List (List ℕ) → LogHeader
header_of config digests = record {
  quantum = config.quantum;
  rounds = config.rounds;
  frames = config.frames;
  digests = digests;
}

-- The run that is asked for, of these images, whose files have these digests, as far as they tell.
pub record IsPlanned (asked : RunAsked) (images : List Image) (o : Outside) (plan : Plan) :
    Type 0 where
  pub images_are : plan.images ≡ images
  pub config_is : plan.config ≡ asked.config
  pub posts_are : plan.posts ≡ asked.posts
  pub clock_is : plan.clock ≡ clock_rule asked.clock_from asked.clock_step
  pub header_is : plan.header ≡ header_of asked.config plan.header.digests
  pub digests_are : IfSome (digests_of (map o.files asked.names))
      (λ digests. plan.header.digests ≡ digests)

-- All is at hand for it: a kernel that was opened with these images, a ledger, and the log's name.
pub record IsPrepared (asked : RunAsked) (images : List Image) (kernel : Held)
    (ledger : LedgerState) (name : Text) (o : Outside) : Type 0 where
  pub opened : IsOpenedWith kernel images asked.config
  pub planned : IsPlanned asked images o (plan_of images asked.config ledger)
  pub log_is : asked.log ≡ name

-- The group was run to its end, by this plan and the host, and recorded in this log; this is seen
-- of it.
pub record WasRecorded (asked : RunAsked) (images : List Image) (o : Outside) (log : Log)
    (seen : Seen) : Type 0 where
  pub plan : Plan
  pub planned : IsPlanned asked images o plan
  pub recorded : Recorded plan o.host o.host_after log seen

-- It was done: the outputs grew by the run's bytes and the report, the log's file holds the log,
-- and no other file changed.
pub record DidRun (asked : RunAsked) (images : List Image) (status : ℕ) (o : Outside) : Type 0 where
  pub log : Log
  pub seen : Seen
  pub was : WasRecorded asked images o log seen
  pub written : FileHolds o asked.log (logtext log)
  pub others : OthersStay o asked.log
  pub status_is : status ≡ ending_status seen.ending
  pub counted : Counted o seen.work
  pub grew : Grew o seen.output (seen.error ++ report seen)

-- The recorder stopped it at a question. The outputs grew by the run's bytes until there, and then
-- error by the last ones, and the tally by its work; no file changed.
pub record StoppedRun (asked : RunAsked) (images : List Image) (stop : ShimStop) (last : List ℕ)
    (o : Outside) : Type 0 where
  pub plan : Plan
  pub planned : IsPlanned asked images o plan
  pub output : List ℕ
  pub error : List ℕ
  pub work : ℕ
  pub recorded : RecordedUntil plan o.host o.host_after stop output error work
  pub counted : Counted o work
  pub grew : Grew o output (error ++ last)
  pub files_stay : FilesStay o

-- It came to its end, and the log couldn't be written. The outputs grew by the run's bytes, and
-- then error by the last ones, with no report; no other file changed.
pub record UnwrittenRun (asked : RunAsked) (images : List Image) (last : List ℕ) (o : Outside) :
    Type 0 where
  pub log : Log
  pub seen : Seen
  pub was : WasRecorded asked images o log seen
  pub counted : Counted o seen.work
  pub grew : Grew o seen.output (seen.error ++ last)
  pub others : OthersStay o asked.log

-- An output failed in the run, which stopped so. Each holds a front of what the run would have
-- given it until its next question, or its end, and the tally grew by the run's work; no file
-- changed.
pub record CutRun (asked : RunAsked) (images : List Image) (o : Outside) : Type 0 where
  pub plan : Plan
  pub planned : IsPlanned asked images o plan
  pub stop : RunStop
  pub by_output : shim_stop stop ≡ None
  pub output : List ℕ
  pub error : List ℕ
  pub work : ℕ
  pub recorded : RecordedAhead plan o.host o.host_after stop output error work
  pub counted : Counted o work
  pub grew : Grew o output error
  pub files_stay : FilesStay o

-- Error failed in the report. The log was written before.
pub record CutRunReport (asked : RunAsked) (images : List Image) (o : Outside) : Type 0 where
  pub log : Log
  pub seen : Seen
  pub was : WasRecorded asked images o log seen
  pub written : FileHolds o asked.log (logtext log)
  pub others : OthersStay o asked.log
  pub counted : Counted o seen.work
  pub grew : GrewUpToLast o seen.output seen.error (report seen)
