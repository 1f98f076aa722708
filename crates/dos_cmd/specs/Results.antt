-- What a call leaves, by how it ends. This project's own rules.
use Rattle.std.specs.Prelude.{◌≡◌, ◌≢◌, ◌⊎◌, ℕ, List, [], Option, Some, None, IfSome, Ok, Err}
use Rattle.dos_io.specs.FileCalls.{FileCall}
use Rattle.dos_io.specs.Outside.{IsFront, Rose}
use Rattle.dos_io.specs.declared.shim.ShimStop.{ShimStop}
use Rattle.dos_io.specs.declared.shim.ShimStop.TheVariants as stops
use Rattle.dos_world.specs.declared.Misfit.{Misfit}
use Rattle.dos_world.specs.declared.Post.{Post}
use Rattle.dos_world.specs.declared.Scheme.{Scheme}
use Rattle.dos_world.specs.declared.Scheme.TheVariants.{Ownership}
use Rattle.dpg_run.specs.Fits.{misfit, misfit_from}
use Rattle.logged_runs.specs.Replaying.{config_of}
use Rattle.log_text.specs.LogText.{Log, exchanges, exchanges_from}
use Rattle.flat_machine.specs.Machine.{run_from}
use Rattle.group_text.specs.Groups.{SavedGroup, world_in}
use Rattle.dos_texts.specs.Exit.{refusal_status, line_of}
use Rattle.dos_texts.specs.declared.refusal.Refusal.{Refusal}
use Rattle.dos_texts.specs.declared.refusal.Refusal.TheVariants as refusals
use Rattle.dos_words.specs.Numbers.{Text}
use Rattle.dos_words.specs.Request.{request}
use Rattle.dos_words.specs.declared.request.Request.{Request}
use Rattle.dos_words.specs.declared.request.Request.TheVariants.{Run, Replay, Inspect, Gen}
use Rattle.dos_words.specs.declared.request.Request.TheVariants.{Migrate, Trace, Save, Resume}
use Rattle.dos_words.specs.declared.request.Request.TheVariants.{Debug}
use Rattle.dos_cmd.specs.Asking.{AskedSoFar, named_in}
use Rattle.dos_cmd.specs.Judging.{Taken, judgement}
use Rattle.dos_cmd.specs.Outside.{Outside, Faults, FilesStay, OutputFailed, Says}
use Rattle.dos_cmd.specs.RunLeaves.{RunAsked, DidRun, StoppedRun, UnwrittenRun, CutRun}
use Rattle.dos_cmd.specs.RunLeaves.{CutRunReport}
use Rattle.dos_cmd.specs.ReplayLeaves.{DidReplay, Misfitted, CutReplay, CutReplayReport}
use Rattle.dos_cmd.specs.TraceLeaves.{DidTrace, MisfittedTrace, CutTrace, CutTraceReport}
use Rattle.dos_cmd.specs.SaveLeaves.{CutSave, DidSave, MisfittedSave, UnwrittenGroup}
use Rattle.dos_cmd.specs.ResumeLeaves.{CutResume, CutResumeReport, DidResume, MisfittedResume}
use Rattle.debug_connection.specs.declared.stops.ServeStop.TheVariants as serve
use Rattle.dos_cmd.specs.DebugLeaves.{CutDebug, DidDebug, StoppedDebug}
use Rattle.dos_cmd.specs.Migrating.{Migrated, UnwrittenText, CutMigration}
use Rattle.dos_cmd.specs.Printing.{Inspected, Generated, CutInspect, CutSummary, QuietlyStopped}

-- ---- it was done

-- what a request to run asks for
abbrev pub run_request_asked : (quantum rounds frames : ℕ) → Scheme → List (ℕ × Post) → Option ℕ
    → ℕ → Text → List Text → RunAsked
run_request_asked quantum rounds frames scheme posts clock_from clock_step log names = record {
  config = record { quantum = quantum; rounds = rounds; frames = frames; scheme = scheme };
  posts = posts;
  clock_from = clock_from;
  clock_step = clock_step;
  log = log;
  names = names;
}

-- of a log, if there is one
abbrev pub OfLog : Option Log → (Log → Type 0) → Type 0
OfLog None P = ⊥
OfLog (Some log) P = P log

-- of a saved group and a log, if they are there
abbrev pub OfBoth : Option SavedGroup → Option Log → (SavedGroup → Log → Type 0) → Type 0
OfBoth None read P = ⊥
OfBoth (Some g) read P = OfLog read (P g)

abbrev pub OfGroup : Taken → (SavedGroup → Log → Type 0) → Type 0
OfGroup taken P = OfBoth taken.group taken.log P

-- What is asked for was done with what was taken for it, and ended with this status.
abbrev pub Did : Request → Taken → ℕ → Outside → Type 0
Did (Run quantum rounds frames workers scheme posts clock_from clock_step log names) taken status
    o =
    DidRun (run_request_asked quantum rounds frames scheme posts clock_from clock_step log names)
    taken.images
    status o
Did (Replay workers scheme log names) taken status o =
    OfLog taken.log (λ read. DidReplay scheme read taken.images status o)
Did (Inspect name) taken status o = Inspected taken.images status o
Did (Gen number threads workers) taken status o = Generated taken.images status o
Did (Migrate log to) taken status o = OfLog taken.log (λ read. Migrated read to status o)
Did (Trace workers log names) taken status o =
    OfLog taken.log (λ read. DidTrace read taken.images status o)
Did (Save workers log round to names) taken status o =
    OfLog taken.log (λ read. DidSave read taken.images round to status o)
Did (Resume workers log from) taken status o = OfGroup taken (λ g read. DidResume g read status o)
Did (Debug workers log names) taken status o =
    OfLog taken.log (λ read. DidDebug read taken.images names status o)

-- ---- it was begun, and came to no report

-- A run was stopped so: a recorded one, or the generated group's for want of memory; or a session
-- of a debugger.
abbrev pub WasStopped : Request → Taken → ShimStop → (last : List ℕ) → Outside → Type 0
WasStopped (Run quantum rounds frames workers scheme posts clock_from clock_step log names) taken
    stop last o =
    StoppedRun
    (run_request_asked quantum rounds frames scheme posts clock_from clock_step log names)
    taken.images stop last o
WasStopped (Gen number threads workers) taken stops.Memory last o =
    QuietlyStopped taken.images last o
WasStopped (Debug workers log names) taken stops.HostFault last o =
    OfLog taken.log (λ read. StoppedDebug read taken.images names serve.HostFault last o)
WasStopped (Debug workers log names) taken stops.Memory last o =
    OfLog taken.log (λ read. StoppedDebug read taken.images names serve.Memory last o)
WasStopped _ taken stop last o = ⊥

-- A recorded run's log couldn't be written, or a log anew, or a group that was to be saved.
abbrev pub Unwritten : Request → Taken → (last : List ℕ) → Outside → Type 0
Unwritten (Run quantum rounds frames workers scheme posts clock_from clock_step log names) taken
    last o =
    UnwrittenRun
    (run_request_asked quantum rounds frames scheme posts clock_from clock_step log names)
    taken.images last o
Unwritten (Migrate log to) taken last o = UnwrittenText to last o
Unwritten (Save workers log round to names) taken last o =
    OfLog taken.log (λ read. UnwrittenGroup read taken.images round to last o)
Unwritten _ taken last o = ⊥

-- A replay came to this misfit, traced or not, as far as a round or from one on.
abbrev pub HasMisfit : Request → Taken → Misfit → (last : List ℕ) → Outside → Type 0
HasMisfit (Replay workers scheme log names) taken found last o =
    OfLog taken.log (λ read. Misfitted scheme read taken.images found last o)
HasMisfit (Trace workers log names) taken found last o =
    OfLog taken.log (λ read. MisfittedTrace read taken.images found last o)
HasMisfit (Save workers log round to names) taken found last o =
    OfLog taken.log (λ read. MisfittedSave read taken.images round found last o)
HasMisfit (Resume workers log from) taken found last o =
    OfGroup taken (λ g read. MisfittedResume g read found last o)
HasMisfit _ taken found last o = ⊥

-- An output failed while what is asked for was done.
abbrev pub Cut : Request → Taken → Outside → Type 0
Cut (Run quantum rounds frames workers scheme posts clock_from clock_step log names) taken o =
    CutRun (run_request_asked quantum rounds frames scheme posts clock_from clock_step log names)
    taken.images o
    ⊎ CutRunReport
    (run_request_asked quantum rounds frames scheme posts clock_from clock_step log names)
    taken.images o
Cut (Replay workers scheme log names) taken o =
    OfLog taken.log (λ read. CutReplay scheme read taken.images o
    ⊎ CutReplayReport scheme read taken.images o)
Cut (Inspect name) taken o = CutInspect taken.images o
Cut (Gen number threads workers) taken o = CutSummary taken.images o
Cut (Migrate log to) taken o = OfLog taken.log (λ read. CutMigration read to o)
Cut (Trace workers log names) taken o =
    OfLog taken.log (λ read. CutTrace read taken.images o ⊎ CutTraceReport read taken.images o)
Cut (Save workers log round to names) taken o =
    OfLog taken.log (λ read. CutSave read taken.images round to o)
Cut (Resume workers log from) taken o =
    OfGroup taken (λ g read. CutResume g read o ⊎ CutResumeReport g read o)
Cut (Debug workers log names) taken o =
    OfLog taken.log (λ read. CutDebug read taken.images names o)

-- What the files are taken for, as far as they tell, and what is then so.
pub record Begun (asked : Request) (o : Outside) (P : Taken → Type 0) : Type 0 where
  pub taken : Taken
  pub is : IfSome (judgement o.files asked) (λ j. j ≡ Ok taken)
  pub so : P taken

-- The files aren't taken for what is asked for, for this reason, as far as they tell; nothing but
-- the last bytes was put.
pub record NotTaken (asked : Request) (o : Outside) (why : Refusal) (last : List ℕ) : Type 0 where
  pub is : IfSome (judgement o.files asked) (λ j. j ≡ Err why)
  pub says : Says o last

-- A log has no room: for what a run's question may bring, or for a text of version 2.
abbrev pub FullLog : Request → Outside → (last : List ℕ) → Type 0
FullLog (Migrate log to) o last = NotTaken (Migrate log to) o refusals.LogFull last
FullLog asked o last = Begun asked o (λ taken. WasStopped asked taken stops.LogFull last o)

-- ---- why what is asked for came to no report, and what stands then; error has grown by the last
-- bytes, behind those of a run

abbrev pub Leaves : Request → Outside → Faults → Refusal → (last : List ℕ) → Type 0
Leaves asked o f refusals.Words last = ⊥
Leaves asked o f (refusals.TooLong image) last = NotTaken asked o (refusals.TooLong image) last
Leaves asked o f (refusals.Image image error) last =
    NotTaken asked o (refusals.Image image error) last
Leaves asked o f (refusals.NoRoom needed frames) last =
    NotTaken asked o (refusals.NoRoom needed frames) last
Leaves asked o f (refusals.Log why) last = NotTaken asked o (refusals.Log why) last
Leaves asked o f (refusals.Group why) last = NotTaken asked o (refusals.Group why) last
Leaves asked o f (refusals.Misfit found) last =
    Begun asked o (λ taken. HasMisfit asked taken found last o)
Leaves asked o f refusals.Files last =
    Rose f.files f.files_after
    × (Says o last ⊎ Begun asked o (λ taken. Unwritten asked taken last o))
Leaves asked o f refusals.Host last =
    Rose f.host f.host_after × Begun asked o
    (λ taken. WasStopped asked taken stops.HostFault last o)
Leaves asked o f refusals.Sink last =
    OutputFailed f × (last ≡ []) × Begun asked o (λ taken. Cut asked taken o)
Leaves asked o f refusals.LogFull last = FullLog asked o last
Leaves asked o f refusals.Memory last =
    Says o last
    ⊎ Begun asked o (λ taken. WasStopped asked taken stops.Memory last o)
    ⊎ (FilesStay o × Begun asked o (λ taken. Unwritten asked taken last o))

-- ---- the call, by its words

-- It was done.
pub record WasDone (words : List Text) (status : ℕ) (o : Outside) : Type 0 where
  pub asked : Request
  pub asks : request words ≡ Some asked
  pub begun : Begun asked o (λ taken. Did asked taken status o)

-- It was refused, or stopped, for this reason: the words ask for nothing, or for what came to no
-- report. Want of memory may come before the words are read.
abbrev pub Fails : List Text → Outside → Faults → Refusal → (last : List ℕ) → Type 0
Fails words o f why last =
    ((request words ≡ None) × (why ≡ refusals.Words) × Says o last)
    ⊎ ((why ≡ refusals.Memory) × Says o last)
    ⊎ ((asked : Request) × (request words ≡ Some asked) × Leaves asked o f why last)

-- It ended with a status that a refusal has, and error says so by its one line. No file was asked
-- for behind the one for which it is refused.
pub record Refused (words : List Text) (status : ℕ) (o : Outside) (f : Faults)
    (asked asked_after : List FileCall) : Type 0 where
  pub why : Refusal
  pub status_is : status ≡ refusal_status why
  pub fails : Fails words o f why (line_of why)
  pub so_far : AskedSoFar (named_in (request words)) why asked asked_after

-- An output failed, and nothing was put after it: in what was asked for, or in a refusal's line, of
-- which a front was put.
pub record CutShort (words : List Text) (o : Outside) (f : Faults)
    (asked asked_after : List FileCall) : Type 0 where
  pub failed : OutputFailed f
  pub why : Refusal
  pub put : List ℕ
  pub front : IsFront put (line_of why)
  pub fails : Fails words o f why put
  pub so_far : AskedSoFar (named_in (request words)) why asked asked_after

-- ---- what must come, where the files tell what the words ask for

-- A replay comes to its log's misfit, if there is one, and is done else.
abbrev pub MustReplay : Option Misfit → Scheme → Log → Taken → ℕ → Outside → Type 0
MustReplay None scheme log taken status o = DidReplay scheme log taken.images status o
MustReplay (Some found) scheme log taken status o =
    (status ≡ refusal_status (refusals.Misfit found))
    × Misfitted scheme log taken.images found (line_of (refusals.Misfit found)) o

-- The same of one that is traced.
abbrev pub MustTrace : Option Misfit → Log → Taken → ℕ → Outside → Type 0
MustTrace None log taken status o = DidTrace log taken.images status o
MustTrace (Some found) log taken status o =
    (status ≡ refusal_status (refusals.Misfit found))
    × MisfittedTrace log taken.images found (line_of (refusals.Misfit found)) o

-- The same of one that is to be saved after a round; it may get there, or end, before the misfit.
abbrev pub MustSave : Option Misfit → Log → Taken → (round : ℕ) → (to : Text) → ℕ → Outside → Type 0
MustSave None log taken round to status o = DidSave log taken.images round to status o
MustSave (Some found) log taken round to status o =
    DidSave log taken.images round to status o
    ⊎ ((status ≡ refusal_status (refusals.Misfit found))
    × MisfittedSave log taken.images round found (line_of (refusals.Misfit found)) o)

-- And of a saved group by what is left of its log.
abbrev pub MustResume : Option Misfit → SavedGroup → Log → ℕ → Outside → Type 0
MustResume None g log status o = DidResume g log status o
MustResume (Some found) g log status o =
    (status ≡ refusal_status (refusals.Misfit found))
    × MisfittedResume g log found (line_of (refusals.Misfit found)) o

-- With what is taken it is done; but a run's log may be full.
abbrev pub MustDo : Request → Taken → ℕ → Outside → Type 0
MustDo (Replay workers scheme log names) taken status o =
    OfLog taken.log (λ read. MustReplay
    (misfit taken.images (config_of scheme read.header) (exchanges read)) scheme read taken status
    o)
MustDo (Trace workers log names) taken status o =
    OfLog taken.log (λ read. MustTrace
    (misfit taken.images (config_of Ownership read.header) (exchanges read)) read taken status o)
MustDo (Migrate log to) taken status o = Did (Migrate log to) taken status o
MustDo (Save workers log round to names) taken status o =
    OfLog taken.log (λ read. MustSave
    (misfit taken.images (config_of Ownership read.header) (exchanges read)) read taken round to
    status o)
MustDo (Resume workers log from) taken status o =
    OfGroup taken (λ g read. MustResume
    (misfit_from g.used (exchanges_from g.used read) (run_from (world_in g) g.config)) g read
    status o)
MustDo asked taken status o = (status ≢ 10) → Did asked taken status o
