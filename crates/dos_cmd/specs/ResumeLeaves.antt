-- What `resume` leaves. This project's own rules.
use Rattle.std.specs.Prelude.{◌≡◌, ◌⊎◌, ◌++◌, ℕ, List, [], ⊤}
use Rattle.group_files.specs.declared.refusal.SavedRefusal.{SavedRefusal}
use Rattle.group_files.specs.declared.refusal.SavedRefusal.TheVariants.{OtherLog}
use Rattle.dos_world.specs.declared.Misfit.{Misfit}
use Rattle.flat_machine.specs.Machine.{Seen}
use Rattle.dpg_run.specs.Report.{report}
use Rattle.group_text.specs.Groups.{SavedGroup, world_in}
use Rattle.log_text.specs.LogText.{Log}
use Rattle.logged_runs.specs.Resuming.{Resumed, ResumedAhead, ResumedUntil}
use Rattle.dos_texts.specs.Exit.{ending_status}
use Rattle.dos_texts.specs.declared.refusal.Refusal.{Refusal}
use Rattle.dos_texts.specs.declared.refusal.Refusal.TheVariants as refusals
use Rattle.dos_cmd.specs.Outside.{Outside, Faults, Counted, Grew, GrewUpToLast, OutputFailed, Says}
use Rattle.dos_cmd.specs.ReplayLeaves.{StaysAll}

-- What was left of the log fits the run from the group's world, and it was done: the outputs grew
-- by its bytes, and error by the report.
pub record DidResume (g : SavedGroup) (log : Log) (status : ℕ) (o : Outside) : Type 0 where
  pub seen : Seen
  pub resumed : Resumed (world_in g) g.config g.used log seen
  pub status_is : status ≡ ending_status seen.ending
  pub counted : Counted o seen.work
  pub grew : Grew o seen.output (seen.error ++ report seen)
  pub stays : StaysAll o

-- The run came to a misfit of what was left. The outputs grew by its bytes until there, and then
-- error by the last ones, and the tally by its work.
pub record MisfittedResume (g : SavedGroup) (log : Log) (found : Misfit) (last : List ℕ)
    (o : Outside) : Type 0 where
  pub output : List ℕ
  pub error : List ℕ
  pub work : ℕ
  pub resumed : ResumedUntil (world_in g) g.config g.used log found output error work
  pub counted : Counted o work
  pub grew : Grew o output (error ++ last)
  pub stays : StaysAll o

-- An output failed in the run.
pub record CutResume (g : SavedGroup) (log : Log) (o : Outside) : Type 0 where
  pub output : List ℕ
  pub error : List ℕ
  pub work : ℕ
  pub resumed : ResumedAhead (world_in g) g.config g.used log output error work
  pub counted : Counted o work
  pub grew : Grew o output error
  pub stays : StaysAll o

-- Error failed in the report.
pub record CutResumeReport (g : SavedGroup) (log : Log) (o : Outside) : Type 0 where
  pub seen : Seen
  pub resumed : Resumed (world_in g) g.config g.used log seen
  pub counted : Counted o seen.work
  pub grew : GrewUpToLast o seen.output seen.error (report seen)
  pub stays : StaysAll o

-- ---- from part to whole

-- Why a group that is of this log came to no report, and what stands then. Want of memory comes
-- before the run.
abbrev pub LeavesResume : SavedGroup → Log → Outside → Faults → Refusal → Type 0
LeavesResume g log o f (refusals.Misfit found) = MisfittedResume g log found [] o
LeavesResume g log o f refusals.Sink =
    OutputFailed f × (CutResume g log o ⊎ CutResumeReport g log o)
LeavesResume g log o f refusals.Memory = Says o []
LeavesResume g log o f _ = ⊥

-- A refusal that reading the group's file may come to: of the group, by what its file tells; or a
-- fault of the files, or want of memory.
abbrev pub OfGroupFile : Refusal → (SavedRefusal → Type 0) → Type 0
OfGroupFile (refusals.Group why) P = P why
OfGroupFile refusals.Files P = ⊤
OfGroupFile refusals.Memory P = ⊤
OfGroupFile _ P = ⊥

-- The file itself is refused, and not what is in it held against a log.
abbrev pub IsOfSavedFile : SavedRefusal → Type 0
IsOfSavedFile OtherLog = ⊥
IsOfSavedFile _ = ⊤

-- The same of reading the group and its log, and holding one against the other.
abbrev pub OfTakingGroup : Refusal → (Refusal → Type 0) → Type 0
OfTakingGroup (refusals.Group why) P = P (refusals.Group why)
OfTakingGroup (refusals.Log why) P = P (refusals.Log why)
OfTakingGroup refusals.Files P = ⊤
OfTakingGroup refusals.Memory P = ⊤
OfTakingGroup _ P = ⊥
