-- What `trace` leaves: the lines of its trace on output, and nothing of what the guests print. Its
-- run is of the scheme of ownership. This project's own rules.
use Rattle.std.specs.Prelude.{◌≡◌, ◌⊎◌, ◌<◌, ◌≤◌, ℕ, List, []}
use Rattle.dos_world.specs.declared.Misfit.{Misfit}
use Rattle.dos_world.specs.declared.Scheme.TheVariants.{Ownership}
use Rattle.dos_io.specs.Outside.{grown, GrewByFront}
use Rattle.elf_image.specs.Image.{Image}
use Rattle.flat_machine.specs.Machine.{Seen}
use Rattle.flat_machine.specs.Opening.{needed}
use Rattle.dpg_run.specs.Report.{report}
use Rattle.log_text.specs.LogText.{Log}
use Rattle.logged_runs.specs.Replaying.{Replayed, ReplayedUntil, first_work}
use Rattle.page_trace.specs.declared.stop.TraceStop.{TraceStop}
use Rattle.page_trace.specs.declared.stop.TraceStop.TheVariants as traces
use Rattle.traced_logs.specs.TracedLogs.{first_log_lines, log_lines}
use Rattle.dos_texts.specs.Exit.{ending_status}
use Rattle.dos_texts.specs.declared.refusal.Refusal.{Refusal}
use Rattle.dos_texts.specs.declared.refusal.Refusal.TheVariants as refusals
use Rattle.dos_cmd.specs.Outside.{Outside, Faults, Counted, Grew, OutputFailed, Says}
use Rattle.dos_cmd.specs.ReplayLeaves.{StaysAll}
use Rattle.dos_cmd.specs.Stops.{refusal_by}

-- why the call comes to no report
abbrev pub trace_refusal : TraceStop → Refusal
trace_refusal (traces.Run stop) = refusal_by stop
trace_refusal traces.LineFault = refusals.Sink
trace_refusal traces.Memory = refusals.Memory

-- The run fits the log, and was done: output grew by the lines of its trace, and error by the
-- report.
pub record DidTrace (log : Log) (images : List Image) (status : ℕ) (o : Outside) : Type 0 where
  pub seen : Seen
  pub replayed : Replayed Ownership images log seen
  pub status_is : status ≡ ending_status seen.ending
  pub counted : Counted o seen.work
  pub grew : Grew o (log_lines images log) (report seen)
  pub stays : StaysAll o

-- The run came to the log's misfit. Output grew by the lines until there, error by the last bytes,
-- and the tally by the run's work.
pub record MisfittedTrace (log : Log) (images : List Image) (found : Misfit) (last : List ℕ)
    (o : Outside) : Type 0 where
  pub output : List ℕ
  pub error : List ℕ
  pub work : ℕ
  pub replayed : ReplayedUntil Ownership images log found output error work
  pub counted : Counted o work
  pub grew : Grew o (first_log_lines found.entry images log) last
  pub stays : StaysAll o

-- Output failed in a line, behind a front of those over so many first exchanges, by whose work the
-- tally grew.
pub record CutTrace (log : Log) (images : List Image) (o : Outside) : Type 0 where
  pub answered : ℕ
  pub counted : Counted o (first_work Ownership answered images log)
  pub out_is : GrewByFront o.out o.out_after (first_log_lines answered images log)
  pub err_stays : o.err_after ≡ o.err
  pub stays : StaysAll o

-- Error failed in the report.
pub record CutTraceReport (log : Log) (images : List Image) (o : Outside) : Type 0 where
  pub seen : Seen
  pub replayed : Replayed Ownership images log seen
  pub counted : Counted o seen.work
  pub out_is : o.out_after ≡ grown o.out (log_lines images log)
  pub err_is : GrewByFront o.err o.err_after (report seen)
  pub stays : StaysAll o

-- ---- from part to whole

-- Why a log that is of these images came to no report, and what stands then, as of a replay.
abbrev pub LeavesTrace : Log → List Image → Outside → Faults → Refusal → Type 0
LeavesTrace log images o f (refusals.NoRoom n frames) =
    (n ≡ needed images) × (frames ≡ log.header.frames) × (log.header.frames < needed images)
    × Says o []
LeavesTrace log images o f (refusals.Misfit found) =
    (needed images ≤ log.header.frames) × MisfittedTrace log images found [] o
LeavesTrace log images o f refusals.Sink =
    (needed images ≤ log.header.frames) × OutputFailed f
    × (CutTrace log images o ⊎ CutTraceReport log images o)
LeavesTrace log images o f refusals.Memory = Says o []
LeavesTrace log images o f _ = ⊥
