-- What `replay` leaves. This project's own rules.
use Rattle.std.specs.Prelude.{◌≡◌, ◌⊎◌, ◌<◌, ◌≤◌, ◌++◌, ⊤, ℕ, List, []}
use Rattle.dos_world.specs.declared.Misfit.{Misfit}
use Rattle.dos_world.specs.declared.Scheme.{Scheme}
use Rattle.elf_image.specs.Image.{Image}
use Rattle.flat_machine.specs.Opening.{needed}
use Rattle.log_files.specs.declared.refusal.LogRefusal.{LogRefusal}
use Rattle.flat_machine.specs.Machine.{Seen}
use Rattle.dpg_run.specs.Report.{report}
use Rattle.log_text.specs.LogText.{Log}
use Rattle.logged_runs.specs.Replaying.{Replayed, ReplayedUntil, ReplayedAhead}
use Rattle.dos_texts.specs.Exit.{ending_status}
use Rattle.dos_texts.specs.declared.refusal.Refusal.{Refusal}
use Rattle.dos_texts.specs.declared.refusal.Refusal.TheVariants as refusals
use Rattle.dos_cmd.specs.Judging.{OfFiles}
use Rattle.dos_cmd.specs.Outside.{Outside, Faults, Counted, Grew, GrewUpToLast, FilesStay}
use Rattle.dos_cmd.specs.Outside.{HostStays, OutputFailed, Says}

-- Files and host stay.
pub record StaysAll (o : Outside) : Type 0 where
  pub files_stay : FilesStay o
  pub host_stays : HostStays o

-- The run, by this scheme, fits the log, and was done: the outputs grew by its bytes and the
-- report.
pub record DidReplay (scheme : Scheme) (log : Log) (images : List Image) (status : ℕ) (o : Outside)
    : Type 0 where
  pub seen : Seen
  pub replayed : Replayed scheme images log seen
  pub status_is : status ≡ ending_status seen.ending
  pub counted : Counted o seen.work
  pub grew : Grew o seen.output (seen.error ++ report seen)
  pub stays : StaysAll o

-- The run came to the log's misfit. The outputs grew by its bytes until there, and then error by
-- the last ones, and the tally by its work.
pub record Misfitted (scheme : Scheme) (log : Log) (images : List Image) (found : Misfit)
    (last : List ℕ) (o : Outside) : Type 0 where
  pub output : List ℕ
  pub error : List ℕ
  pub work : ℕ
  pub replayed : ReplayedUntil scheme images log found output error work
  pub counted : Counted o work
  pub grew : Grew o output (error ++ last)
  pub stays : StaysAll o

-- An output failed in the run.
pub record CutReplay (scheme : Scheme) (log : Log) (images : List Image) (o : Outside) : Type 0
  where
    pub output : List ℕ
    pub error : List ℕ
    pub work : ℕ
    pub replayed : ReplayedAhead scheme images log output error work
    pub counted : Counted o work
    pub grew : Grew o output error
    pub stays : StaysAll o

-- Error failed in the report.
pub record CutReplayReport (scheme : Scheme) (log : Log) (images : List Image) (o : Outside)
    : Type 0 where
  pub seen : Seen
  pub replayed : Replayed scheme images log seen
  pub counted : Counted o seen.work
  pub grew : GrewUpToLast o seen.output seen.error (report seen)
  pub stays : StaysAll o

-- ---- from part to whole

-- A refusal that reading the log may come to: of the log, by what its file tells; or a fault of the
-- files, or want of memory.
abbrev pub OfLogFile : Refusal → (LogRefusal → Type 0) → Type 0
OfLogFile (refusals.Log why) P = P why
OfLogFile refusals.Files P = ⊤
OfLogFile refusals.Memory P = ⊤
OfLogFile _ P = ⊥

-- The same of reading the log and the images, and agreeing them.
abbrev pub OfReading : Refusal → (Refusal → Type 0) → Type 0
OfReading (refusals.Log why) P = P (refusals.Log why)
OfReading why P = OfFiles why P

-- Why a log that is of these images came to no report, and what stands then: there was no room; or
-- the run came to the log's misfit, or an output failed in it. Want of memory comes before the run.
abbrev pub LeavesTaken : Scheme → Log → List Image → Outside → Faults → Refusal → Type 0
LeavesTaken scheme log images o f (refusals.NoRoom n frames) =
    (n ≡ needed images) × (frames ≡ log.header.frames) × (log.header.frames < needed images)
    × Says o []
LeavesTaken scheme log images o f (refusals.Misfit found) =
    (needed images ≤ log.header.frames) × Misfitted scheme log images found [] o
LeavesTaken scheme log images o f refusals.Sink =
    (needed images ≤ log.header.frames) × OutputFailed f
    × (CutReplay scheme log images o ⊎ CutReplayReport scheme log images o)
LeavesTaken scheme log images o f refusals.Memory = Says o []
LeavesTaken scheme log images o f _ = ⊥
