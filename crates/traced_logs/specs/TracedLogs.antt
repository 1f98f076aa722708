-- What a traced replay in the ownership scheme leaves. This project's own rules.
use Rattle.std.specs.Prelude.{◌≡◌, ⊤, ℕ, List, Option, map, take}
use Rattle.dos_world.specs.declared.Config.{Config}
use Rattle.dos_world.specs.declared.Ending.{Ending}
use Rattle.dos_world.specs.declared.Misfit.{Misfit}
use Rattle.dos_world.specs.declared.Scheme.TheVariants.{Ownership}
use Rattle.dos_io.specs.Exchanges.{answer_of}
use Rattle.dos_io.specs.Outside.{grown, GrewByFront}
use Rattle.dos_io.specs.declared.exchange.Exchange.{Exchange}
use Rattle.elf_image.specs.Image.{Image}
use Rattle.flat_machine.specs.Machine.{Seen}
use Rattle.flat_machine.specs.Opening.{opening}
use Rattle.group_rounds.specs.Kernels.{Held}
use Rattle.kernel_calls.specs.declared.state.RunStop.TheVariants.{Misfit as FoundMisfit}
use Rattle.logged_runs.specs.Replaying.{Replayed, ReplayedUntil, config_of, first_work}
use Rattle.logged_runs.specs.Runs.{ReportsRun}
use Rattle.page_trace.specs.Lines.{change_lines}
use Rattle.page_trace.specs.Trace.{trace}
use Rattle.page_trace.specs.declared.stop.TraceStop.{TraceStop}
use Rattle.page_trace.specs.declared.stop.TraceStop.TheVariants.{Run, LineFault, Memory}
use Rattle.log_text.specs.LogText.{Log, exchanges}
use Rattle.worker_pool.specs.Ran.{GrewBy}

-- the lines of the trace of these images' group over the answers of these exchanges
abbrev pub group_lines : List Image → Config → List Exchange → List ℕ
group_lines images config told =
    change_lines (trace (opening images config) config (map answer_of told))

-- over those of a log
abbrev pub log_lines : List Image → Log → List ℕ
log_lines images log = group_lines images (config_of Ownership log.header) (exchanges log)

-- over so many first ones of a log
abbrev pub first_log_lines : (count : ℕ) → List Image → Log → List ℕ
first_log_lines count images log =
    group_lines images (config_of Ownership log.header) (take count (exchanges log))

-- The run of these images fits the log: what is seen of it, what the kernel reports, and what the
-- tally grew by; the lines grew by those of the log.
pub record TracedWhole (images : List Image) (log : Log) (kernel : Held) (ending : Ending)
    (lines lines_after : Option (List ℕ)) (tally tally_after : ℕ) : Type 0 where
  pub seen : Seen
  pub replayed : Replayed Ownership images log seen
  pub shows : ReportsRun kernel ending seen
  pub counted : GrewBy tally tally_after seen.work
  pub lines_are : lines_after ≡ grown lines (log_lines images log)

-- It came to the log's misfit, and the tally grew by its work until there. The lines grew by those
-- over the exchanges before it.
pub record TracedUntil (images : List Image) (log : Log) (found : Misfit)
    (lines lines_after : Option (List ℕ)) (tally tally_after : ℕ) : Type 0 where
  pub output : List ℕ
  pub error : List ℕ
  pub work : ℕ
  pub replayed : ReplayedUntil Ownership images log found output error work
  pub counted : GrewBy tally tally_after work
  pub lines_are : lines_after ≡ grown lines (first_log_lines found.entry images log)

-- A line failed. The lines grew by a front of those over so many first exchanges, and the tally by
-- the work over them.
pub record TracedAhead (images : List Image) (log : Log) (lines lines_after : Option (List ℕ))
    (tally tally_after : ℕ) : Type 0 where
  pub answered : ℕ
  pub counted : GrewBy tally tally_after (first_work Ownership answered images log)
  pub front : GrewByFront lines lines_after (first_log_lines answered images log)

-- It stops at a misfit, where a line fails, or for want of memory before the first round.
abbrev pub StopsTrace : TraceStop → Type 0
StopsTrace (Run (FoundMisfit found)) = ⊤
StopsTrace (Run _) = ⊥
StopsTrace LineFault = ⊤
StopsTrace Memory = ⊤
