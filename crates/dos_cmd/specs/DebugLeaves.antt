-- What `debug` leaves: a session over the host's input and output, and nothing on error. This
-- project's own rules.
use Rattle.std.specs.Prelude.{◌≡◌, ◌⊎◌, ◌<◌, ◌≤◌, ⊤, ℕ, List, [], map, IfSome, Result, Ok, Err}
use Rattle.debug_connection.specs.declared.stops.ServeStop.{ServeStop}
use Rattle.debug_connection.specs.declared.stops.ServeStop.TheVariants as serve
use Rattle.debugger.specs.Debugging.{HasDebugged}
use Rattle.debugger.specs.declared.stops.DebugStop.{DebugStop}
use Rattle.debugger.specs.declared.stops.DebugStop.TheVariants as debugs
use Rattle.dos_io.specs.Outside.{grown, Rose}
use Rattle.elf_image.specs.Image.{Image}
use Rattle.flat_machine.specs.Opening.{needed}
use Rattle.log_text.specs.LogText.{Log}
use Rattle.dos_texts.specs.declared.refusal.Refusal.{Refusal}
use Rattle.dos_texts.specs.declared.refusal.Refusal.TheVariants as refusals
use Rattle.dos_words.specs.Numbers.{Text}
use Rattle.dos_cmd.specs.Judging.{contents_of}
use Rattle.dos_cmd.specs.Outside.{Outside, Faults, FilesStay, OutputFailed, Says, TallyStays}

-- why the call comes to no report
abbrev pub debug_refusal : DebugStop → Refusal
debug_refusal (debugs.NoRoom needed frames) = refusals.NoRoom needed frames
debug_refusal debugs.HostFault = refusals.Host
debug_refusal debugs.SinkFault = refusals.Sink
debug_refusal debugs.Memory = refusals.Memory

-- The run was shown with the names of its images and the bytes of their files, as far as they tell:
-- by the host's input, on output. The files stay, and no worker ran.
pub record WasDebugged (log : Log) (images : List Image) (names : List Text)
    (result : Result ⊤ ServeStop) (o : Outside) : Type 0 where
  pub files : List (List ℕ)
  pub files_are : IfSome (contents_of (map o.files names)) (λ all. files ≡ all)
  pub debugged : HasDebugged images names files log result o.host.told o.out o.out_after
  pub files_stay : FilesStay o
  pub tally_stays : TallyStays o

-- to the end of the input
pub record DidDebug (log : Log) (images : List Image) (names : List Text) (status : ℕ)
    (o : Outside) : Type 0 where
  pub status_is : status ≡ 0
  pub was : WasDebugged log images names (Ok tt) o
  pub err_stays : o.err_after ≡ o.err

-- A read of the input failed, or memory was wanted. Error grew by the last bytes.
pub record StoppedDebug (log : Log) (images : List Image) (names : List Text) (stop : ServeStop)
    (last : List ℕ) (o : Outside) : Type 0 where
  pub was : WasDebugged log images names (Err stop) o
  pub err_says : o.err_after ≡ grown o.err last

-- output failed
pub record CutDebug (log : Log) (images : List Image) (names : List Text) (o : Outside) : Type 0
  where
    pub was : WasDebugged log images names (Err serve.SinkFault) o
    pub err_stays : o.err_after ≡ o.err

-- ---- from part to whole

-- Why a log that is of these images wasn't shown to the end of the input, and what stands then.
abbrev pub LeavesDebug : Log → List Image → (names : List Text) → Outside → Faults → Refusal
    → Type 0
LeavesDebug log images names o f (refusals.NoRoom n frames) =
    (n ≡ needed images) × (frames ≡ log.header.frames) × (log.header.frames < needed images)
    × Says o []
LeavesDebug log images names o f refusals.Host =
    (needed images ≤ log.header.frames) × Rose f.host f.host_after
    × StoppedDebug log images names serve.HostFault [] o
LeavesDebug log images names o f refusals.Sink =
    (needed images ≤ log.header.frames) × OutputFailed f × CutDebug log images names o
LeavesDebug log images names o f refusals.Memory =
    Says o []
    ⊎ ((needed images ≤ log.header.frames) × StoppedDebug log images names serve.Memory [] o)
LeavesDebug log images names o f _ = ⊥
