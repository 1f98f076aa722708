-- A replay as far as a round, and a run that goes on from there. This project's own rules.
use Rattle.std.specs.Prelude.{◌≡◌, ◌≤◌, ◌<◌, ◌+◌, ℕ, Option, List, Some, map, take, length}
use Rattle.dos_world.specs.World.{World}
use Rattle.dos_world.specs.declared.Config.{Config}
use Rattle.dos_world.specs.declared.Misfit.{Misfit}
use Rattle.dos_world.specs.declared.Scheme.{Scheme}
use Rattle.dos_io.specs.Exchanges.{answer_of}
use Rattle.elf_image.specs.Image.{Image}
use Rattle.flat_machine.specs.Machine.{Seen, run_from}
use Rattle.flat_machine.specs.Opening.{opening}
use Rattle.dpg_run.specs.Fits.{misfit_from}
use Rattle.kernel_calls.specs.StateWorld.{sent}
use Rattle.dpg_run.specs.Reaching.{RunsTo, RunsToItsEnd, RunsToQuestion}
use Rattle.dpg_run.specs.Work.{work_from}
use Rattle.log_text.specs.LogText.{Log, exchanges, exchanges_from}
use Rattle.group_rounds.specs.Kernels.{Held, kernel_world}
use Rattle.logged_runs.specs.Replaying.{Replayed, config_of, first_work}
use Rattle.dpg_run.specs.GroupRuns.{limited_by}
use Rattle.logged_runs.specs.Runs.{Ended, Halted, RanFromAhead, RanUntil}
use Rattle.logged_runs.specs.declared.resuming.Arrived.{Arrived}
use Rattle.logged_runs.specs.declared.resuming.Arrived.TheVariants.{AtRound, AtItsEnd}

-- The run of these images, over so many of the log's exchanges, of which none is the end, has come
-- so many rounds far, to this world, sent these bytes, and worked so much.
pub record ReplayedTo (scheme : Scheme) (images : List Image) (log : Log) (rounds used : ℕ)
    (reached : World) (output error : List ℕ) (work : ℕ) : Type 0 where
  pub runs : RunsTo scheme rounds (opening images (config_of scheme log.header))
      (take used (exchanges log)) output error reached
  pub few : used ≤ length log.entries
  pub counted : reached.rounds ≡ rounds
  pub allowed : rounds ≤ log.header.rounds
  pub worked : first_work scheme used images log ≡ work

-- A run that has no more rounds than so many comes to a misfit of the log, too.
pub record AsksWithin (scheme : Scheme) (limit : ℕ) (images : List Image) (log : Log)
    (found : Misfit) : Type 0 where
  pub output : List ℕ
  pub error : List ℕ
  pub ran : RanUntil images (limited_by limit (config_of scheme log.header))
      (take found.entry (exchanges log)) found.asked output error

-- What a replay leaves that was to come to a round, by how far it came: to the round, in the world
-- that the kernel is in; or to its end, which was before.
abbrev pub Arrives : Scheme → Arrived → List Image → Log → (round : ℕ) → Held
    → (out err out_after err_after : Option (List ℕ)) → (tally tally_after : ℕ) → Type 0
Arrives scheme (AtRound used) images log round kernel out err out_after err_after tally
    tally_after =
    (output : List ℕ) × (error : List ℕ) × (work : ℕ)
    × ReplayedTo scheme images log round used (kernel_world kernel) output error work
    × Halted out err out_after err_after tally tally_after output error work
Arrives scheme (AtItsEnd ending) images log round kernel out err out_after err_after tally
    tally_after =
    (seen : Seen) × Replayed scheme images log seen
    × Ended kernel ending seen out err out_after err_after tally tally_after
    × (seen.rounds < round)

-- ---- from a world on

-- how much the parallel phases of the run from this world run over so many of those that are left
abbrev pub work_left : (count : ℕ) → World → Config → (used : ℕ) → Log → ℕ
work_left count w config used log =
    work_from w config (map answer_of (take count (exchanges_from used log)))

-- Whatever was sent before, the run from this world asked exactly the questions of what was left of
-- the log, which answered it.
abbrev pub Resumed : World → Config → (used : ℕ) → Log → Seen → Type 0
Resumed w config used log seen = RunsToItsEnd w config (exchanges_from used log) seen

-- Whatever was sent before, it came to a misfit, which is named by its place in the whole log; by
-- then it had sent these bytes, and its parallel phases had run so much.
pub record ResumedUntil (w : World) (config : Config) (used : ℕ) (log : Log) (found : Misfit)
    (output error : List ℕ) (work : ℕ) : Type 0 where
  pub answered : ℕ
  pub is : (o e : List ℕ)
      → misfit_from used (exchanges_from used log) (run_from (sent o e w) config) ≡ Some found
  pub place : found.entry ≡ used + answered
  pub ran : RunsToQuestion w config (take answered (exchanges_from used log)) found.asked output
      error
  pub worked : work_left answered w config used log ≡ work

-- It was cut off over so many of the exchanges that were left, as an output failed.
pub record ResumedAhead (w : World) (config : Config) (used : ℕ) (log : Log)
    (output error : List ℕ) (work : ℕ) : Type 0 where
  pub answered : ℕ
  pub ran : RanFromAhead w config (take answered (exchanges_from used log)) output error
  pub worked : work_left answered w config used log ≡ work
