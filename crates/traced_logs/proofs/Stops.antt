-- How a traced replay ends, from part to whole.
use Rattle.std.proofs.Common.{◌≡◌, ◌∙◌, ℕ, Bool, refl, ap, subst, List, [], Option, Some, None}
use Rattle.std.proofs.Common.{Ok}
use Rattle.std.proofs.Common.{Err, Result, arith}
use Rattle.std.specs.Prelude.{IfSome, IsErrOf}
use Rattle.dos_world.specs.declared.Ending.{Ending}
use Rattle.dos_world.specs.declared.Misfit.{Misfit}
use Rattle.dos_world.specs.declared.Scheme.TheVariants.{Ownership}
use Rattle.dos_world.specs.declared.Question.{Question}
use Rattle.dos_io.specs.Borders.{BorderState}
use Rattle.dos_io.specs.declared.exchange.Exchange.{Exchange}
use Rattle.dos_io.specs.declared.shim.ShimStop.{ShimStop}
use Rattle.dos_io.specs.declared.shim.ShimStop.TheVariants as shims
use Rattle.elf_image.specs.Image.{Image}
use Rattle.group_rounds.specs.Kernels.{Held}
use Rattle.kernel_calls.specs.declared.state.RunStop.{RunStop}
use Rattle.kernel_calls.specs.declared.state.RunStop.TheVariants as stops
use Rattle.dpg_run.specs.GroupRuns.{RunsGroup}
use Rattle.logged_runs.specs.Opened.{IsOpenedWith}
use Rattle.logged_runs.specs.Replaying.{config_of}
use Rattle.logged_runs.proofs.FromOpening.{is_told}
use Rattle.logged_runs.proofs.Replays.{only, replayed, replayed_until}
use Rattle.dpg_run.specs.Reached.{border_of}
use Rattle.page_trace.specs.Tracing.{Counts, OfRun, TracesBy, Traces, trace_lines}
use Rattle.page_trace.specs.Tracing.{Traced, traced}
use Rattle.page_trace.specs.declared.stop.TraceStop.{TraceStop}
use Rattle.page_trace.specs.declared.stop.TraceStop.TheVariants as traces
use Rattle.log_text.specs.LogText.{Log}
use Rattle.log_text.specs.Ranges.{FitsLog}
use Rattle.shim_log.specs.Replay.{IsMisfitOf, IsReplay, ReplayState, entries_used}
use Rattle.shim_log.specs.Replay.{replayer_state}
use Rattle.traced_logs.specs.TracedLogs.{StopsTrace, TracedAhead, TracedUntil, TracedWhole}
use Rattle.traced_logs.proofs.Lines.{ahead_lines, until_lines, whole_lines}

-- what is seen of a replayer beside sinks that tell nothing and never fail
abbrev pub quiet_border : ReplayState → BorderState
quiet_border p = border_of (replayer_state p) None None 0 0

abbrev some_misfit : Misfit → ShimStop
some_misfit m = shims.Misfit m

one_misfit : (x y : Misfit) → some_misfit x ≡ some_misfit y → x ≡ y
one_misfit x y is = cc

module _ (k k' : Held) (s p : ReplayState) (log : Log) (fresh : (replayer_state s).told ≡ [])
    (same : p.log ≡ log) (first : p.start ≡ 0) (l l' : Option (List ℕ)) (has : Bool)
    (t t' : ℕ) where
  abbrev Runs : Result Ending RunStop → Type 0
  Runs ran = RunsGroup k.config ran k.state (quiet_border s) k'.state (quiet_border p) has t t'

  module _ (images : List Image) (opened : IsOpenedWith k images (config_of Ownership log.header))
    where
      pub traced_whole : (ending : Ending) → FitsLog log → Runs (Ok ending)
          → TracesBy (trace_lines k.config k.state) (traced (replayer_state s).told l)
          (traced (replayer_state p).told l')
          → TracedWhole images log k' ending l l' t t'
      traced_whole ending fits run lines =
          let ended = is_told ending _ (replayer_state p).told run.told_end in
          let seen = replayed k (replayer_state s).told p None None None None fresh log same
          first Ownership images opened k' ending t t' run.runs.0 run.runs.1 run.runs.2 fits
          ended in
          record {
            seen = seen.0;
            replayed = seen.1;
            shows = seen.2.shows;
            counted = seen.2.counted;
            lines_are = whole_lines k (replayer_state s).told fresh p log same first images opened
                l l' fits ended lines;
          }

      -- the misfit is of the entry that came next
      entry_is : (found : Misfit) → Runs (Err (stops.Misfit found)) → IsReplay p
          → found.entry ≡ p.answered
      entry_is found run kept =
          let asked = run.asks in
          let is : IsMisfitOf p asked.question (shims.Misfit found) =
          subst (λ (o : Option ShimStop). IfSome o (IsMisfitOf p asked.question)) run.causes.shim.1
          (subst (λ (o : Option Question). IfSome o (λ q. IfSome p.last (IsMisfitOf p q)))
          asked.asked_is kept.stop) in
          let here : Misfit =
          record { entry = entries_used p; kept = is.kept; asked = asked.question } in
          let used_is : entries_used p ≡ p.answered = omega (arith, first) in
          ap (λ (m : Misfit). m.entry) (one_misfit found here is.says) ∙ used_is

      pub traced_until : (stop : TraceStop) (found : Misfit)
          → stop ≡ traces.Run (stops.Misfit found) → IsReplay p → OfRun {T = Ending} (Err stop) Runs
          → Traces k.config (Err stop) k.state k'.state (traced (replayer_state s).told l)
          (traced (replayer_state p).told l')
          → TracedUntil images log found l l' t t'
      traced_until stop found is kept run lines =
          let run : Runs (Err (stops.Misfit found)) =
          subst (λ (x : TraceStop). OfRun {T = Ending} (Err x) Runs) is run in
          let lines : TracesBy (trace_lines k.config k.state) (traced (replayer_state s).told l)
          (traced (replayer_state p).told l') =
          subst (λ (x : TraceStop). Traces k.config (Err x) k.state k'.state
          (traced (replayer_state s).told l) (traced (replayer_state p).told l')) is lines in
          let until = replayed_until k (replayer_state s).told p None None None None fresh log same
          first Ownership images opened (stops.Misfit found) found s refl run.asks run.causes.shim
          kept t t'
          run.grew in
          record {
            output = until.0;
            error = until.1;
            work = until.2;
            replayed = until.3;
            counted = until.4.counted;
            lines_are = until_lines k (replayer_state s).told fresh p log same first images opened
                l l' found.entry (entry_is found run kept) lines;
          }

      fault_is : (stop : TraceStop) → stop ≡ traces.LineFault
          → IsErrOf {T = Ending} (Err stop) traces.LineFault
      fault_is stop is = cc

      pub traced_ahead : (stop : TraceStop) → stop ≡ traces.LineFault
          → Traces k.config (Err stop) k.state k'.state (traced (replayer_state s).told l)
          (traced (replayer_state p).told l')
          → (IsErrOf {T = Ending} (Err stop) traces.LineFault → Counts k.config k.state
          (replayer_state s).told (replayer_state p).told t t')
          → TracedAhead images log l l' t t'
      traced_ahead stop is lines counted =
          ahead_lines k (replayer_state s).told fresh p log same first images opened l l' t t'
          (counted (fault_is stop is))
          (subst (λ (x : TraceStop). Traces k.config (Err x) k.state k'.state
          (traced (replayer_state s).told l) (traced (replayer_state p).told l')) is lines)

  -- its own sinks never fail, so it stops by the shim alone
  by_run : (stop : RunStop) → IsReplay p → Runs (Err stop) → StopsTrace (traces.Run stop)
  by_run (stops.Misfit found) kept run = tt
  by_run stops.OutFault kept run = absurd (omega (arith, run.causes.sinks))
  by_run stops.ErrFault kept run = absurd (omega (arith, run.causes.sinks))
  by_run stops.HostFault kept run =
      absurd (only k (replayer_state s).told p None None None None fresh stops.HostFault run.asks s
      run.causes.shim kept)
  by_run stops.LogFull kept run =
      absurd (only k (replayer_state s).told p None None None None fresh stops.LogFull run.asks s
      run.causes.shim kept)
  by_run stops.Memory kept run =
      absurd (only k (replayer_state s).told p None None None None fresh stops.Memory run.asks s
      run.causes.shim kept)

  pub traced_only : (stop : TraceStop) → IsReplay p → OfRun {T = Ending} (Err stop) Runs
      → StopsTrace stop
  traced_only (traces.Run stop) kept run = by_run stop kept run
  traced_only traces.LineFault kept run = tt
  traced_only traces.Memory kept run = tt

-- ---- want of memory before the first round

pub lines_stay : (k k' : Held) (told told' : List Exchange) (l l' : Option (List ℕ))
    (stop : TraceStop) → stop ≡ traces.Memory
    → Traces k.config (Err stop) k.state k'.state (traced told l) (traced told' l')
    → l' ≡ l
lines_stay k k' told told' l l' stop is lines =
    ap (λ (x : Traced). x.lines) (subst (λ (x : TraceStop). Traces k.config (Err x) k.state
    k'.state (traced told l) (traced told' l')) is lines)

-- ---- results

-- what ended hasn't stopped
pub no_trace_stop : (ending : Ending) (stop : TraceStop)
    → ◌≡◌ {A = Result Ending TraceStop} (Ok ending) (Err stop) → ⊥
no_trace_stop ending stop is = cc

-- what stopped by a reason has this one
pub this_trace_stop : (stop other : TraceStop)
    → ◌≡◌ {A = Result Ending TraceStop} (Err stop) (Err other) → stop ≡ other
this_trace_stop stop other is = cc
