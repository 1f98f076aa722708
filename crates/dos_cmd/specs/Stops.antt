-- How a group that isn't opened, or a run that stops, ends its call. This project's own rules.
use Rattle.std.specs.Prelude.{◌≡◌, ◌<◌, ◌⊎◌, ℕ, Bool, List, [], Option, Some, IfSome, IsTrue, ⊤}
use Rattle.dos_world.specs.declared.Config.{Config}
use Rattle.elf_image.specs.Image.{Image}
use Rattle.flat_machine.specs.Opening.{needed}
use Rattle.dos_io.specs.Outside.{GrewByFront, Rose}
use Rattle.dos_io.specs.declared.shim.ShimStop.TheVariants as shims
use Rattle.kernel_calls.specs.declared.state.RunStop.{RunStop}
use Rattle.kernel_calls.specs.declared.state.RunStop.TheVariants.{HostFault, LogFull, Misfit}
use Rattle.kernel_calls.specs.declared.state.RunStop.TheVariants.{OutFault, ErrFault, Memory}
use Rattle.log_text.specs.LogText.{Log, logtext}
use Rattle.dos_words.specs.Numbers.{Text}
use Rattle.dos_texts.specs.declared.refusal.Refusal.{Refusal}
use Rattle.dos_texts.specs.declared.refusal.Refusal.TheVariants as refusals
use Rattle.dos_cmd.specs.Outside.{Outside, Faults, FilesStay, OutputFailed}
use Rattle.dos_cmd.specs.RunLeaves.{RunAsked, StoppedRun, UnwrittenRun, CutRun, CutRunReport}

-- why the call comes to no report then
abbrev pub refusal_by : RunStop → Refusal
refusal_by OutFault = refusals.Sink
refusal_by ErrFault = refusals.Sink
refusal_by HostFault = refusals.Host
refusal_by LogFull = refusals.LogFull
refusal_by (Misfit found) = refusals.Misfit found
refusal_by Memory = refusals.Memory

-- The group isn't opened: the images need more frames than there are, and both numbers are told; or
-- memory ran out.
abbrev pub IsNotOpened : List Image → Config → Refusal → Type 0
IsNotOpened images config (refusals.NoRoom n frames) =
    (n ≡ needed images) × (frames ≡ config.frames) × (config.frames < needed images)
IsNotOpened images config refusals.Memory = ⊤
IsNotOpened images config _ = ⊥

-- why a recorded run that was begun comes to no report, and what stands then
abbrev pub LeavesRun : RunAsked → List Image → Outside → Faults → Refusal → Type 0
LeavesRun asked images o f refusals.Files =
    Rose f.files f.files_after × UnwrittenRun asked images [] o
LeavesRun asked images o f refusals.Host =
    Rose f.host f.host_after × StoppedRun asked images shims.HostFault [] o
LeavesRun asked images o f refusals.Sink =
    OutputFailed f × (CutRun asked images o ⊎ CutRunReport asked images o)
LeavesRun asked images o f refusals.LogFull = StoppedRun asked images shims.LogFull [] o
LeavesRun asked images o f refusals.Memory =
    StoppedRun asked images shims.Memory [] o ⊎ (FilesStay o × UnwrittenRun asked images [] o)
LeavesRun asked images o f _ = ⊥

-- ---- how a run that has ended comes to no report

-- The log was written to the file of this name, as far as files tell.
pub record IsWritten (log : Log) (tells : Bool) (files after : Text → Option (List ℕ))
    (name : Text) : Type 0 where
  pub where_told : IfSome (files name) (λ _. after name ≡ Some (logtext log))
  pub where_all_tell : IsTrue tells → after name ≡ Some (logtext log)

-- The log couldn't be written, by a fault of the files, or for want of memory, where the file holds
-- what it held; and nothing was put.
pub record IsUnwritten (why : Refusal) (files after : Text → Option (List ℕ)) (name : Text)
    (faults faults_after : ℕ) (err err_after : Option (List ℕ)) : Type 0 where
  pub cause : (why ≡ refusals.Files) ⊎ ((why ≡ refusals.Memory) × (after name ≡ files name))
  pub rose : why ≡ refusals.Files → Rose faults faults_after
  pub err_stays : err_after ≡ err

-- Error failed in the report, behind a front of it. The log was written before.
pub record IsUnreported (why : Refusal) (log : Log) (tells : Bool)
    (files after : Text → Option (List ℕ)) (name : Text) (faults faults_after : ℕ)
    (err err_after : Option (List ℕ)) (report : List ℕ) : Type 0 where
  pub is : why ≡ refusals.Sink
  pub written : IsWritten log tells files after name
  pub rose : Rose faults faults_after
  pub front : GrewByFront err err_after report
