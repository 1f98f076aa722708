-- Traced rounds, from part to whole.
use Rattle.std.proofs.Common.{◌≡◌, ◌≢◌, ℕ, ◌+◌, ◌-◌, ◌≤◌, ◌∙◌, sym, ap, subst, List, Option}
use Rattle.std.proofs.Common.{None, Some, Err, Ok, Result, arith, false, true, refl, ◌<◌, Bool, []}
use Rattle.std.specs.Prelude.{IfErr, IfOk, IsErrOf, OnErr, OnOk, is_err}
use Rattle.dos_world.specs.declared.Config.{Config}
use Rattle.dos_world.specs.declared.Ending.{Ending}
use Rattle.dos_world.specs.declared.Owner.{Owner}
use Rattle.dos_io.specs.Borders.{BorderState}
use Rattle.dos_io.specs.Outside.{GrewByFront, HasCause, grown}
use Rattle.dos_io.specs.Shims.{HasNoEnd}
use Rattle.dos_world.specs.declared.Question.{Question}
use Rattle.kernel_calls.specs.StateWorld.{shim_stop, world_of}
use Rattle.kernel_calls.specs.declared.state.RunStop.{RunStop}
use Rattle.kernel_calls.specs.declared.state.RunStop.TheVariants.{HostFault, LogFull, Misfit}
use Rattle.kernel_calls.specs.declared.state.RunStop.TheVariants.{OutFault, ErrFault}
use Rattle.kernel_calls.specs.declared.state.RunStop.TheVariants.{Memory as RunMemory}
use Rattle.kernel_calls.specs.declared.state.State.{State}
use Rattle.group_rounds.specs.Rounds.{answers_since, next_round}
use Rattle.dpg_run.specs.GroupRuns.{PlaysNext, PlaysSome, RunsGroup, end_by, has_failed}
use Rattle.dpg_run.proofs.RoundsRun.{all_err, all_ok, grew_by, runs_stopped, some_then}
use Rattle.dpg_run.proofs.Worked.{worked_so_far}
use Rattle.page_trace.specs.Lines.{change_lines}
use Rattle.page_trace.specs.Trace.{changes}
use Rattle.page_trace.specs.Tracing.{Counts, HasLineCause, IsOfRun, OfRun, RoundTraces}
use Rattle.page_trace.specs.Tracing.{RoundsTrace}
use Rattle.page_trace.specs.Tracing.{StopTraces, Traced, TracedRound, Traces, TracesBy}
use Rattle.page_trace.specs.Tracing.{lines_between, trace_lines, traced_at}
use Rattle.page_trace.specs.declared.stop.TraceStop.{TraceStop}
use Rattle.page_trace.specs.declared.stop.TraceStop.TheVariants.{Run, LineFault, Memory}
use Rattle.page_trace.proofs.Changes.{rose_later}
use Rattle.page_trace.proofs.Traced.{TracedSome, traced_fault, traced_last, traced_stops}
use Rattle.page_trace.proofs.Traced.{traced_over, traced_went}

-- ---- one round

-- the lines of what was kept
are_between : (round : ℕ) (kept : List Owner) (s s' : State) → round ≡ s.round
    → kept ≡ s.frames.owners
    → change_lines (changes round kept s'.frames.owners) ≡ lines_between s s'
are_between round kept s s' number owners =
    ap (λ n. change_lines (changes n kept s'.frames.owners)) number
    ∙ ap (λ os. change_lines (changes s.round os s'.frames.owners)) owners

-- its lines, or a line that failed
pub round_put : (config : Config) (ended : Option Ending) (r : Result (Option Ending) TraceStop)
    (s s' : State) (b b' : BorderState) (lines lines' : Option (List ℕ)) (t t' : ℕ)
    → IfOk r (λ x. x ≡ ended) → IfErr r (λ stop. stop ≡ LineFault)
    → (round : ℕ) (kept : List Owner) → round ≡ s.round → kept ≡ s.frames.owners
    → OnOk r (lines' ≡ grown lines (change_lines (changes round kept s'.frames.owners)))
    → OnErr r (GrewByFront lines lines' (change_lines (changes round kept s'.frames.owners)))
    → PlaysNext config (Ok ended) s b s' b' → PlaysSome config (Ok ended) s b s' b' t t'
    → s'.round ≡ next_round (end_by ended) s.round → HasNoEnd b'.shim.told
    → RoundTraces config r s b s' b' lines lines' t t'
round_put config ended (Ok x) s s' b b' lines lines' t t' same only n kept number owners ok err
    plays some round running =
    subst (λ x. TracedRound config x s b s' b' lines lines' t t') (sym same) (record {
      plays = plays;
      some = some;
      round = round;
      running = running;
      lines_are = ok ∙ ap (grown lines) (are_between n kept s s' number owners);
    })
round_put config ended (Err LineFault) s s' b b' lines lines' t t' same only n kept number owners ok
    err plays some round running = record {
      ended = ended;
      plays = plays;
      some = some;
      front = subst (λ xs. GrewByFront lines lines' xs) (are_between n kept s s' number owners) err;
    }
round_put config ended (Err (Run stop)) s s' b b' lines lines' t t' same only n kept number owners
    ok err plays some round running = absurd cc
round_put config ended (Err Memory) s s' b b' lines lines' t t' same only n kept number owners ok
    err plays some round running = absurd cc

-- its cause
pub line_cause : {T : Type 0} (r : Result T TraceStop) (faults faults' : ℕ)
    → IfErr r (λ stop. stop ≡ LineFault) → HasCause faults faults' r
    → IfErr r (λ stop. HasLineCause stop faults faults')
line_cause (Ok x) faults faults' only cause = tt
line_cause (Err LineFault) faults faults' only cause = cause.failed
line_cause (Err (Run stop)) faults faults' only cause = absurd cc
line_cause (Err Memory) faults faults' only cause = absurd cc

-- without that, its sink's count stands
pub line_steady : {T : Type 0} (r : Result T TraceStop) (faults faults' : ℕ)
    → IfErr r (λ stop. stop ≡ LineFault) → OnOk r (faults' ≡ faults)
    → (r ≡ Err LineFault → ⊥) → faults' ≡ faults
line_steady (Ok x) faults faults' only steady other = steady
line_steady (Err stop) faults faults' only steady other = absurd (other cc)

pub no_fault : {T : Type 0} (x : T) → Ok x ≡ Err LineFault → ⊥
no_fault x is = cc

pub other_fault : (T U : Type 0) (stop : TraceStop)
    → (◌≡◌ {A = Result T TraceStop} (Err stop) (Err LineFault) → ⊥)
    → ◌≡◌ {A = Result U TraceStop} (Err stop) (Err LineFault) → ⊥
other_fault T U stop differs is =
    let same : stop ≡ LineFault = cc in
    differs (ap (λ (s : TraceStop). (let result : Result T TraceStop = Err s in result)) same)

-- the kernel hasn't failed
pub still_running : {T : Type 0} (r : Result T TraceStop) (failed : Bool)
    → IfErr r (λ stop. stop ≡ LineFault) → failed ≡ false → OfRun r (λ ran. failed ≡ is_err ran)
still_running (Ok x) failed only is = is
still_running (Err LineFault) failed only is = tt
still_running (Err (Run stop)) failed only is = absurd cc
still_running (Err Memory) failed only is = absurd cc

pub cause_later : (stop : TraceStop) (first then last : ℕ) → first ≤ then
    → HasLineCause stop then last → HasLineCause stop first last
cause_later (Run stop) first then last later rose = tt
cause_later LineFault first then last later rose = rose_later first then last later rose
cause_later Memory first then last later rose = tt

-- ---- rounds so far, and one more

module _ (config here : Config) (old s s' : State) (b0 b b' : BorderState)
    (l0 l l' : Option (List ℕ)) (t0 t t' : ℕ) (same : here ≡ config)
    (some : PlaysSome config (Ok None) old b0 s b t0 t)
    (traced : TracedSome config old (traced_at b0 l0) s (traced_at b l))
    (begun : 1 ≤ old.round) (later : old.round ≤ s.round) (allowed : s.round ≤ config.rounds)
  where
    first : 1 ≤ s.round
    first = omega (arith, begun, later)

    next_as : (r : Result (Option Ending) RunStop) → PlaysNext here r s b s' b'
        → PlaysNext config r s b s' b'
    next_as r h = subst (λ (c : Config). PlaysNext c r s b s' b') same h

    -- it stops, or its lines do
    pub rounds_stop : (stop : TraceStop) → RoundTraces here (Err stop) s b s' b' l l' t t'
        → RoundsTrace config (Err stop) old b0 s' b' l0 l' t0 t'
    rounds_stop (Run stop) h = record {
      plays = all_err config stop old s' b0 b' t0 t'
          (some_then config here (Err stop) old s s' b0 b b' t0 t t' same some h.some);
      lines = traced_stops config old s s' b b' (traced_at b0 l0) (traced_at b l)
          (traced_at b' l') traced first later begun stop (next_as (Err stop) h.plays) allowed
          h.uncounted refl refl h.lines_stay;
    }
    rounds_stop LineFault h =
        let k = next_as (Ok h.ended) h.plays in
        let all = some_then config here (Ok h.ended) old s s' b0 b b' t0 t t' same some h.some in (
          traced_fault config old s s' b b' (traced_at b0 l0) (traced_at b l) (traced_at b' l')
              traced first later begun (end_by h.ended) k.work k.plays.goes allowed
              k.plays.goes.tells.exchanges h.front,
          grew_by config old b0 b' t0 t' all.work
              (worked_so_far config h.ended (answers_since b0.shim.told b'.shim.told)
              (world_of config.quantum old) s' all.work (all.worked [] [])) all.grew,
        )
    rounds_stop Memory h = absurd h

    some_as : (ended is : Option Ending) → ended ≡ is
        → TracedRound here ended s b s' b' l l' t t'
        → PlaysSome config (Ok is) old b0 s' b' t0 t'
    some_as ended is e h =
        subst (λ (x : Option Ending). PlaysSome config (Ok x) old b0 s' b' t0 t') e
        (some_then config here (Ok ended) old s s' b0 b b' t0 t t' same some h.some)

    -- the run ends with it
    pub rounds_end : (ended : Option Ending) (ending : Ending) → ended ≡ Some ending
        → TracedRound here ended s b s' b' l l' t t'
        → RoundsTrace config (Ok ending) old b0 s' b' l0 l' t0 t'
    rounds_end ended ending is h =
        let k = next_as (Ok ended) h.plays in
        record {
          plays = all_ok config ending old s' b0 b' t0 t' (some_as ended (Some ending) is h);
          lines = traced_last config old s s' b b' (traced_at b0 l0) (traced_at b l)
              (traced_at b' l') traced first later begun ended ending k.work k.plays.goes is allowed
              k.plays.goes.tells.exchanges h.lines_are;
        }

    -- it goes on
    pub some_more : (ended : Option Ending) → ended ≡ None
        → TracedRound here ended s b s' b' l l' t t'
        → PlaysSome config (Ok None) old b0 s' b' t0 t'
    some_more ended is h = some_as ended None is h

    pub traced_more : (ended : Option Ending) → ended ≡ None
        → TracedRound here ended s b s' b' l l' t t'
        → TracedSome config old (traced_at b0 l0) s' (traced_at b' l')
    traced_more None is h =
        let k = next_as (Ok None) h.plays in
        traced_went config old s s' b b' (traced_at b0 l0) (traced_at b l) (traced_at b' l') traced
        first later begun k.work k.plays.goes h.round k.plays.goes.tells.exchanges h.lines_are
    traced_more (Some ending) is h = absurd cc

pub numbered : (ended : Option Ending) (start round i now : ℕ) → ended ≡ None
    → now ≡ next_round (end_by ended) round → round ≡ start + i → now ≡ start + (i + 1)
numbered None start round i now is counted before = omega (arith, counted, before)
numbered (Some ending) start round i now is counted before = absurd cc

-- no round is left
pub rounds_over : (config here : Config) (old s : State) (b0 b : BorderState)
    (l0 l : Option (List ℕ)) (t0 t i : ℕ) (ending : Ending) → here ≡ config
    → PlaysSome config (Ok None) old b0 s b t0 t
    → TracedSome config old (traced_at b0 l0) s (traced_at b l) → 1 ≤ old.round
    → s.round ≡ old.round + i → config.rounds - (old.round - 1) ≤ i
    → s.round - 1 ≤ here.rounds
    → PlaysSome here (Ok (Some ending)) s b s b t t
    → RoundsTrace config (Ok ending) old b0 s b l0 l t0 t
rounds_over config here old s b0 b l0 l t0 t i ending same some traced begun round past within
    over =
    let within : s.round - 1 ≤ config.rounds =
    subst (λ (c : Config). s.round - 1 ≤ c.rounds) same within in
    record {
      plays = all_ok config ending old s b0 b t0 t
          (some_then config here (Ok (Some ending)) old s s b0 b b t0 t t same some over);
      lines = traced_over config old s (traced_at b0 l0) (traced_at b l) traced
          (omega (arith, round, past, begun)) within begun (omega (arith, round));
    }

pub past_limit : (config here : Config) (old now i : ℕ) → here ≡ config → now ≡ old + i → 1 ≤ old
    → config.rounds - (old - 1) ≤ i → here.rounds ≤ now - 1
past_limit config here old now i same is begun past =
    let r = ap (λ (c : Config). c.rounds) same in omega (arith, r, is, begun, past)

pub in_limit : (config here : Config) (old now i left : ℕ) → here ≡ config → now ≡ old + i
    → 1 ≤ old → left ≡ config.rounds - (old - 1) → i < left → now ≤ here.rounds
in_limit config here old now i left same is begun count lt =
    let r = ap (λ (c : Config). c.rounds) same in omega (arith, r, is, begun, count, lt)

-- ---- the run

-- a stop is one whatever would have been answered
pub failed_as : (stop : TraceStop) (failed : Bool)
    → OfRun {T = Option Ending} (Err stop) (λ ran. failed ≡ is_err ran)
    → OfRun {T = Ending} (Err stop) (λ ran. failed ≡ is_err ran)
failed_as (Run stop) failed is = is
failed_as LineFault failed is = tt
failed_as Memory failed is = tt

module _ (config : Config) (old s : State) (b0 b : BorderState) (l0 l : Option (List ℕ))
    (t t' : ℕ) (failed : Bool) where
  pub over_runs : (stop : TraceStop)
      → OfRun {T = Ending} (Err stop) (λ ran. failed ≡ is_err ran)
      → RoundsTrace config (Err stop) old b0 s b l0 l t t'
      → OfRun {T = Ending} (Err stop) (λ ran. RunsGroup config ran old b0 s b failed t t')
  over_runs (Run stop) is h = runs_stopped config old s b0 b stop failed t t' is h.plays
  over_runs LineFault is h = tt
  over_runs Memory is h = tt

  pub over_traces : (stop : TraceStop) → RoundsTrace config (Err stop) old b0 s b l0 l t t'
      → Traces config (Err stop) old s (traced_at b0 l0) (traced_at b l)
  over_traces (Run stop) h = h.lines
  over_traces LineFault h = h.0
  over_traces Memory h = absurd h

  pub over_counts : (stop : TraceStop) → RoundsTrace config (Err stop) old b0 s b l0 l t t'
      → IsErrOf {T = Ending} (Err stop) LineFault
      → Counts config old b0.shim.told b.shim.told t t'
  over_counts (Run stop) h is = absurd cc
  over_counts LineFault h is = h.1
  over_counts Memory h is = absurd h

  pub over_only : (stop : TraceStop) → RoundsTrace config (Err stop) old b0 s b l0 l t t'
      → stop ≢ Memory
  over_only (Run stop) h = λ is. absurd cc
  over_only LineFault h = λ is. absurd cc
  over_only Memory h = absurd h

pub of_run_only : (r : Result Ending TraceStop) → IfErr r IsOfRun → IfErr r (λ stop. stop ≢ Memory)
of_run_only (Ok ending) h = tt
of_run_only (Err (Run stop)) h = λ is. absurd cc
of_run_only (Err LineFault) h = absurd h
of_run_only (Err Memory) h = absurd h

pub never_fault : (r : Result Ending TraceStop) (P : Type 0) → IfErr r IsOfRun
    → IsErrOf r LineFault → P
never_fault (Ok ending) P h is = absurd cc
never_fault (Err (Run stop)) P h is = absurd cc
never_fault (Err LineFault) P h is = absurd h
never_fault (Err Memory) P h is = absurd h

pub of_run_cause : (r : Result Ending TraceStop) (faults faults' : ℕ) → IfErr r IsOfRun
    → IfErr r (λ stop. HasLineCause stop faults faults')
of_run_cause (Ok ending) faults faults' h = tt
of_run_cause (Err (Run stop)) faults faults' h = tt
of_run_cause (Err LineFault) faults faults' h = absurd h
of_run_cause (Err Memory) faults faults' h = absurd h

-- the shim's stop at the end is a shim's
pub end_traces : (config : Config) (old s : State) (before after : Traced) (stop : RunStop)
    (asked : Option Question) (failed : Bool) → failed ≡ false
    → failed ≡ has_failed (Err stop) asked → TracesBy (trace_lines config old) before after
    → StopTraces (shim_stop stop) config old s before after
end_traces config old s before after HostFault asked failed is has h = h
end_traces config old s before after LogFull asked failed is has h = h
end_traces config old s before after (Misfit found) asked failed is has h = h
end_traces config old s before after RunMemory asked failed is has h = h
end_traces config old s before after OutFault asked failed is has h =
    absurd (let clash : true ≡ false = sym has ∙ is in cc)
end_traces config old s before after ErrFault asked failed is has h =
    absurd (let clash : true ≡ false = sym has ∙ is in cc)

pub never_memory : (r : Result Ending TraceStop) (P : Type 0) → IfErr r (λ stop. stop ≢ Memory)
    → IsErrOf r Memory → P
never_memory (Ok ending) P only is = absurd (is_ok is)
  where
    is_ok : IsErrOf (Ok ending) Memory → ⊥
    is_ok x = cc
never_memory (Err stop) P only is = absurd (only (same is))
  where
    same : IsErrOf {T = Ending} (Err stop) Memory → stop ≡ Memory
    same x = cc
