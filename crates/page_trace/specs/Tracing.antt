-- What a run that is traced leaves. This project's own rules.
use Rattle.std.specs.Prelude.{◌≡◌, ◌-◌, ℕ, List, ◌++◌, map, Option, Some, None, Result, Ok, Err, ⊤}
use Rattle.std.specs.Prelude.{false, IfErr}
use Rattle.dos_world.specs.Play.{Answer}
use Rattle.dos_world.specs.declared.Config.{Config}
use Rattle.dos_world.specs.declared.Ending.{Ending}
use Rattle.dos_io.specs.Borders.{BorderState}
use Rattle.dos_io.specs.Exchanges.{answer_of}
use Rattle.dos_io.specs.Outside.{grown, GrewByFront, Rose}
use Rattle.dos_io.specs.Shims.{HasNoEnd}
use Rattle.dos_io.specs.declared.exchange.Exchange.{Exchange}
use Rattle.dos_io.specs.declared.shim.ShimStop.{ShimStop}
use Rattle.kernel_calls.specs.StateWorld.{shim_stop, world_of}
use Rattle.kernel_calls.specs.declared.state.RunStop.{RunStop}
use Rattle.kernel_calls.specs.declared.state.State.{State}
use Rattle.group_rounds.specs.Kernels.{Held}
use Rattle.group_rounds.specs.Rounds.{answers_since, next_round}
use Rattle.dpg_run.specs.GroupRuns.{PlaysNext, PlaysRounds, PlaysSome, RunsGroup}
use Rattle.dpg_run.specs.GroupRuns.{end_by}
use Rattle.dpg_run.specs.Work.{work_from}
use Rattle.worker_pool.specs.Ran.{GrewBy}
use Rattle.page_trace.specs.Lines.{change_lines}
use Rattle.page_trace.specs.Trace.{changes, trace, trace_rounds}
use Rattle.page_trace.specs.declared.stop.TraceStop.{TraceStop}
use Rattle.page_trace.specs.declared.stop.TraceStop.TheVariants.{Run, LineFault, Memory}

-- what is told of the shim and of the lines
pub record Traced : Type 0 where
  pub exchanges : List Exchange
  pub lines : Option (List ℕ)

abbrev pub traced : List Exchange → Option (List ℕ) → Traced
traced exchanges lines = record { exchanges = exchanges; lines = lines }

-- The lines grew by those of a trace over the answers of the exchanges that are told more.
pub record TracesBy (trace : List Answer → List ℕ) (before after : Traced) : Type 0 where
  pub exchanges : List Exchange
  pub told_is : after.exchanges ≡ before.exchanges ++ exchanges
  pub lines_are : after.lines ≡ grown before.lines (trace (map answer_of exchanges))

-- The lines grew by a front of them.
pub record TracesFront (trace : List Answer → List ℕ) (before after : Traced) : Type 0 where
  pub exchanges : List Exchange
  pub told_is : after.exchanges ≡ before.exchanges ++ exchanges
  pub front : GrewByFront before.lines after.lines (trace (map answer_of exchanges))

-- the lines of the trace of a state
abbrev pub trace_lines : Config → State → List Answer → List ℕ
trace_lines config old answers =
    change_lines (trace (world_of config.quantum old) config answers)

-- the lines of at most so many rounds of it
abbrev pub round_lines : Config → (rounds : ℕ) → State → List Answer → List ℕ
round_lines config rounds old answers =
    change_lines (trace_rounds config.scheme rounds (world_of config.quantum old) answers)

-- After a stop of the shim they are those over all that was told. A sink of the guests may fail
-- when all is told of its round that is asked, and then they are those of the rounds before it,
-- which the kernel has counted.
abbrev pub StopTraces : Option ShimStop → Config → (old new : State) → (before after : Traced)
    → Type 0
StopTraces (Some why) config old new before after = TracesBy (trace_lines config old) before after
StopTraces None config old new before after =
    TracesBy (round_lines config (new.round - old.round) old) before after

-- The rounds that were left have been run, and the lines grew by those of the trace, whatever is
-- answered to what is asked behind them.
pub record TracesRounds (config : Config) (old : State) (before after : Traced) : Type 0 where
  pub exchanges : List Exchange
  pub told_is : after.exchanges ≡ before.exchanges ++ exchanges
  pub lines_are : (rest : List Answer) → after.lines
      ≡ grown before.lines (trace_lines config old (map answer_of exchanges ++ rest))

-- The lines that a traced run leaves, by how it ended.
abbrev pub Traces : Config → Result Ending TraceStop → (old new : State) → (before after : Traced)
    → Type 0
Traces config (Ok ending) old new before after = TracesBy (trace_lines config old) before after
Traces config (Err (Run stop)) old new before after =
    StopTraces (shim_stop stop) config old new before after
Traces config (Err LineFault) old new before after =
    TracesFront (trace_lines config old) before after
Traces config (Err Memory) old new before after = after ≡ before

-- What is said of the run itself, unless a line failed or memory was wanting before it.
abbrev pub OfRun : {T : Type 0} → Result T TraceStop → (Result T RunStop → Type 0) → Type 0
OfRun (Ok x) P = P (Ok x)
OfRun (Err (Run stop)) P = P (Err stop)
OfRun (Err LineFault) P = ⊤
OfRun (Err Memory) P = ⊤

-- the run stopped
abbrev pub IsOfRun : TraceStop → Type 0
IsOfRun (Run stop) = ⊤
IsOfRun LineFault = ⊥
IsOfRun Memory = ⊥

-- A line failed only where the count of its sink rose.
abbrev pub HasLineCause : TraceStop → (faults faults_after : ℕ) → Type 0
HasLineCause LineFault faults faults_after = Rose faults faults_after
HasLineCause _ faults faults_after = ⊤

-- ---- from part to whole

-- the lines of the changes from one state to another, in the round of the first
abbrev pub lines_between : State → State → List ℕ
lines_between old new =
    change_lines (changes old.round old.frames.owners new.frames.owners)

-- The tally grew by the work of the rounds over the answers that are told more.
abbrev pub Counts : Config → State → (told told_after : List Exchange) → (tally tally_after : ℕ)
    → Type 0
Counts config old told told_after tally tally_after =
    GrewBy tally tally_after (work_from (world_of config.quantum old) config
    (answers_since told told_after))

-- A round was run, and its lines were put.
pub record TracedRound (config : Config) (ended : Option Ending) (old : State)
    (before : BorderState) (new : State) (after : BorderState) (lines lines_after : Option (List ℕ))
    (tally tally_after : ℕ) : Type 0 where
  pub plays : PlaysNext config (Ok ended) old before new after
  pub some : PlaysSome config (Ok ended) old before new after tally tally_after
  pub round : new.round ≡ next_round (end_by ended) old.round
  pub running : HasNoEnd after.shim.told
  pub lines_are : lines_after ≡ grown lines (lines_between old new)

-- It stopped, and no line was put.
pub record UntracedRound (config : Config) (stop : RunStop) (old : State) (before : BorderState)
    (new : State) (after : BorderState) (lines lines_after : Option (List ℕ))
    (tally tally_after : ℕ) : Type 0 where
  pub plays : PlaysNext config (Err stop) old before new after
  pub some : PlaysSome config (Err stop) old before new after tally tally_after
  pub uncounted : new.round ≡ old.round
  pub lines_stay : lines_after ≡ lines

-- It was run, and a line failed behind a front of them.
pub record CutLinesOfRound (config : Config) (old : State) (before : BorderState) (new : State)
    (after : BorderState) (lines lines_after : Option (List ℕ)) (tally tally_after : ℕ) : Type 0
  where
    pub ended : Option Ending
    pub plays : PlaysNext config (Ok ended) old before new after
    pub some : PlaysSome config (Ok ended) old before new after tally tally_after
    pub front : GrewByFront lines lines_after (lines_between old new)

abbrev pub RoundTraces : Config → Result (Option Ending) TraceStop → State → BorderState → State
    → BorderState → (lines lines_after : Option (List ℕ)) → (tally tally_after : ℕ) → Type 0
RoundTraces config (Ok ended) old before new after lines lines_after tally tally_after =
    TracedRound config ended old before new after lines lines_after tally tally_after
RoundTraces config (Err (Run stop)) old before new after lines lines_after tally tally_after =
    UntracedRound config stop old before new after lines lines_after tally tally_after
RoundTraces config (Err LineFault) old before new after lines lines_after tally tally_after =
    CutLinesOfRound config old before new after lines lines_after tally tally_after
RoundTraces config (Err Memory) old before new after lines lines_after tally tally_after = ⊥

-- what is told of a border and of the lines
abbrev pub traced_at : BorderState → Option (List ℕ) → Traced
traced_at b lines = traced b.shim.told lines

-- All rounds were run, or stopped.
pub record TracedRounds (config : Config) (ran : Result Ending RunStop) (old : State)
    (before : BorderState) (new : State) (after : BorderState) (tally tally_after : ℕ)
    (Lines : Type 0) : Type 0 where
  pub plays : PlaysRounds config ran old before new after tally tally_after
  pub lines : Lines

abbrev pub RoundsTrace : Config → Result Ending TraceStop → State → BorderState → State
    → BorderState → (lines lines_after : Option (List ℕ)) → (tally tally_after : ℕ) → Type 0
RoundsTrace config (Ok ending) old before new after lines lines_after tally tally_after =
    TracedRounds config (Ok ending) old before new after tally tally_after
    (TracesRounds config old (traced_at before lines) (traced_at after lines_after))
RoundsTrace config (Err (Run stop)) old before new after lines lines_after tally tally_after =
    TracedRounds config (Err stop) old before new after tally tally_after
    (Traces config (Err (Run stop)) old new (traced_at before lines)
    (traced_at after lines_after))
RoundsTrace config (Err LineFault) old before new after lines lines_after tally tally_after =
    Traces config (Err LineFault) old new (traced_at before lines) (traced_at after lines_after)
    × Counts config old before.shim.told after.shim.told tally tally_after
RoundsTrace config (Err Memory) old before new after lines lines_after tally tally_after = ⊥

-- The shim was told the end of a traced run, or stopped at it, whatever rounds came before; and
-- it tells more exchanges than before.
pub record EndsTraced (kernel : Held) (result : Result Ending TraceStop) (ending : Ending)
    (before after : BorderState) : Type 0 where
  pub runs : (config : Config) (old : State) (first : BorderState) (tally tally_after : ℕ)
      → kernel.failed ≡ false
      → PlaysRounds config (Ok ending) old first kernel.state before tally tally_after
      → OfRun result (λ ran. RunsGroup config ran old first kernel.state after kernel.failed tally
      tally_after)
  pub traces : (config : Config) (old : State) (first : BorderState) (tally tally_after : ℕ)
      → kernel.failed ≡ false
      → PlaysRounds config (Ok ending) old first kernel.state before tally tally_after
      → (start : Traced) (lines : Option (List ℕ))
      → TracesRounds config old start (traced_at before lines)
      → Traces config result old kernel.state start (traced_at after lines)
  pub stops : IfErr result (λ stop. IsOfRun stop)
