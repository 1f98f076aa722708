-- Laws of recorded and replayed runs; the functions of the module laws promise them.
use Rattle.std.specs.Prelude.{◌≡◌, ◌++◌, ℕ, List, Some, None, take}
use Rattle.dos_world.specs.World.{World}
use Rattle.dos_world.specs.declared.Misfit.{Misfit}
use Rattle.dos_world.specs.declared.Scheme.{Scheme}
use Rattle.elf_image.specs.Image.{Image}
use Rattle.dos_io.specs.Hosts.{Told}
use Rattle.dos_io.specs.declared.host_question.HostQuestion.{HostQuestion}
use Rattle.dos_io.specs.declared.shim.ShimStop.TheVariants.{LogFull}
use Rattle.log_text.specs.LogText.{Log, exchanges, exchanges_from}
use Rattle.dpg_run.specs.Fits.{misfit}
use Rattle.dpg_run.specs.Laws.{seen_joined}
use Rattle.flat_machine.specs.Machine.{Seen}
use Rattle.logged_runs.specs.Recording.{HostSeen, Plan, Recorded, RecordedUntil, host_seen}
use Rattle.logged_runs.specs.Replaying.{Replayed, ReplayedUntil, config_of}
use Rattle.logged_runs.specs.Resuming.{ReplayedTo, Resumed, ResumedUntil}

-- Where the header has the configuration, a replay in its scheme asks exactly what was recorded,
-- shows the same, and finds no misfit.
abbrev pub RecordingsReplay : Type 0
RecordingsReplay =
    (scheme : Scheme) (plan : Plan) (host host_after : HostSeen) (log : Log) (seen : Seen)
    → Recorded plan host host_after log seen → plan.config ≡ config_of scheme plan.header
    → Replayed scheme plan.images log seen
    × (misfit plan.images (config_of scheme log.header) (exchanges log) ≡ None)

-- Two recordings of one plan, over hosts that tell the same before, are one.
abbrev pub RecordedRunsAreOne : Type 0
RecordedRunsAreOne = (plan : Plan) (host : Told) (asked other_asked : List HostQuestion)
    (after other_after : HostSeen) (log other : Log) (seen other_seen : Seen)
    → Recorded plan (host_seen (Some host) asked) after log seen
    → Recorded plan (host_seen (Some host) other_asked) other_after other other_seen
    → (log ≡ other) × (seen ≡ other_seen)

-- A run that has no room for its log comes to no end: over a host that tells the same before, the
-- same plan has no whole log.
abbrev pub FullRunsNeverEnd : Type 0
FullRunsNeverEnd = (plan : Plan) (host : Told) (asked other_asked : List HostQuestion)
    (after other_after : HostSeen) (log : Log) (seen : Seen) (output error : List ℕ) (work : ℕ)
    → Recorded plan (host_seen (Some host) asked) after log seen
    → RecordedUntil plan (host_seen (Some host) other_asked) other_after LogFull output error work
    → ⊥

-- A replay as far as a round, and a run that goes on from there by what is left of the log, are the
-- replay, in each scheme.
pub record ReplaysJoin : Type 0 where
  -- to its end
  pub ended : (scheme : Scheme) (images : List Image) (log : Log) (rounds used : ℕ)
      (reached : World) (output error : List ℕ) (work : ℕ) (seen : Seen)
      → ReplayedTo scheme images log rounds used reached output error work
      → Resumed reached (config_of scheme log.header) used log seen → (earlier : ℕ)
      × Replayed scheme images log (seen_joined (take used (exchanges log))
      (exchanges_from used log) output error earlier seen)
  -- to the misfit
  pub misfits : (scheme : Scheme) (images : List Image) (log : Log) (rounds used : ℕ)
      (reached : World) (output error : List ℕ) (work : ℕ) (found : Misfit)
      (output_then error_then : List ℕ) (work_then : ℕ)
      → ReplayedTo scheme images log rounds used reached output error work
      → ResumedUntil reached (config_of scheme log.header) used log found output_then error_then
      work_then
      → (all : ℕ) × ReplayedUntil scheme images log found (output ++ output_then)
      (error ++ error_then) all
