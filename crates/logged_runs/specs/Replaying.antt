-- A run that is replayed. This project's own rules.
use Rattle.std.specs.Prelude.{◌≡◌, ⊤, ℕ, List, Some, map, take}
use Rattle.dos_world.specs.declared.Config.{Config}
use Rattle.dos_world.specs.declared.Misfit.{Misfit}
use Rattle.dos_world.specs.declared.Scheme.{Scheme}
use Rattle.elf_image.specs.Image.{Image}
use Rattle.kernel_calls.specs.declared.state.RunStop.{RunStop}
use Rattle.kernel_calls.specs.declared.state.RunStop.TheVariants.{HostFault, LogFull, Memory}
use Rattle.dos_io.specs.Exchanges.{answer_of}
use Rattle.dpg_run.specs.Fits.{misfit}
use Rattle.dpg_run.specs.Work.{group_work}
use Rattle.flat_machine.specs.Machine.{Seen}
use Rattle.log_text.specs.declared.header.LogHeader.{LogHeader}
use Rattle.log_text.specs.LogText.{Log, exchanges}
use Rattle.logged_runs.specs.Runs.{RanWhole, RanUntil, RanAhead}

-- The configuration that a log's header has, in this scheme: no log names one.
abbrev pub config_of : Scheme → LogHeader → Config
config_of scheme h = record {
  quantum = h.quantum;
  rounds = h.rounds;
  frames = h.frames;
  scheme = scheme;
}

-- how much the parallel phases of the run of these images run over so many first exchanges of a log
abbrev pub first_work : Scheme → (count : ℕ) → List Image → Log → ℕ
first_work scheme count images log =
    group_work images (config_of scheme log.header) (map answer_of (take count (exchanges log)))

-- The run of these images, in this scheme, asked exactly the questions of this log, which answered
-- it.
abbrev pub Replayed : Scheme → List Image → Log → Seen → Type 0
Replayed scheme images log seen =
    RanWhole images (config_of scheme log.header) (exchanges log) seen

-- The run of these images came to the log's misfit; by then it had sent these bytes, and its
-- parallel phases had run so much.
pub record ReplayedUntil (scheme : Scheme) (images : List Image) (log : Log) (found : Misfit)
    (output error : List ℕ) (work : ℕ) : Type 0 where
  pub is : misfit images (config_of scheme log.header) (exchanges log) ≡ Some found
  pub ran : RanUntil images (config_of scheme log.header) (take found.entry (exchanges log))
      found.asked output error
  pub worked : first_work scheme found.entry images log ≡ work

-- The run of these images over so many of the log's exchanges was cut off as an output failed.
pub record ReplayedAhead (scheme : Scheme) (images : List Image) (log : Log)
    (output error : List ℕ) (work : ℕ) : Type 0 where
  pub answered : ℕ
  pub ran : RanAhead images (config_of scheme log.header) (take answered (exchanges log)) output
      error
  pub worked : first_work scheme answered images log ≡ work

-- It has no host, writes no log, and takes no memory.
abbrev pub StopsReplay : RunStop → Type 0
StopsReplay HostFault = ⊥
StopsReplay LogFull = ⊥
StopsReplay Memory = ⊥
StopsReplay _ = ⊤
