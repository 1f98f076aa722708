-- Runs, where the owners are marked otherwise behind them or before them.
use Rattle.std.proofs.Common.{ℕ, List, Bool, Option, None, Some, Ok, Err}
use Rattle.std.specs.Prelude.{Result, OnSome}
use Rattle.std.proofs.lemmas.Result.{IfErr-weaker, IfOk-weaker, on_err_weaker}
use Rattle.dos_world.specs.declared.Config.{Config}
use Rattle.dos_world.specs.declared.Ending.{Ending}
use Rattle.dos_world.specs.declared.Owner.{Owner}
use Rattle.dos_io.specs.Borders.{BorderState}
use Rattle.dos_io.specs.declared.shim.ShimStop.{ShimStop}
use Rattle.kernel_calls.specs.StateWorld.{shim_stop}
use Rattle.kernel_calls.specs.declared.state.RunStop.{RunStop}
use Rattle.kernel_calls.specs.declared.state.State.{State}
use Rattle.group_rounds.specs.Kernels.{state_marked}
use Rattle.dpg_run.specs.GroupRuns.{PlaysNext, PlaysSome, RunsGroup}
use Rattle.page_trace.specs.Tracing.{OfRun, StopTraces, Traced, Traces}
use Rattle.page_trace.specs.declared.stop.TraceStop.{TraceStop}
use Rattle.page_trace.specs.declared.stop.TraceStop.TheVariants.{Run, LineFault, Memory}

-- ---- behind a round

module _ (config : Config) (ended : Option Ending) (s s' : State) (marked : List Owner)
    (b b' : BorderState) where
  pub next_marked : PlaysNext config (Ok ended) s b s' b'
      → PlaysNext config (Ok ended) s b (state_marked s' marked) b'
  next_marked h =
      let goes = h.plays.goes in
      record {
        work = h.work;
        plays = record {
          goes = record {
            crossings = goes.crossings;
            tells = goes.tells;
            stands = goes.stands;
            running = goes.running;
            goes = goes.goes;
          };
          stops = tt;
        };
      }

pub some_marked : (config : Config) (ended : Option Ending) (s s' : State) (marked : List Owner)
    (b b' : BorderState) (t t' : ℕ) → PlaysSome config (Ok ended) s b s' b' t t'
    → PlaysSome config (Ok ended) s b (state_marked s' marked) b' t t'
some_marked config None s s' marked b b' t t' h = record {
  work = h.work;
  plays = λ earlier.
      let goes = (h.plays earlier).goes in
      record {
        goes = record {
          crossings = goes.crossings;
          tells = goes.tells;
          stands = goes.stands;
          running = goes.running;
          goes = goes.goes;
        };
        stops = tt;
      };
  worked = h.worked;
  grew = h.grew;
}
some_marked config (Some ending) s s' marked b b' t t' h = record {
  work = h.work;
  plays = λ earlier.
      let goes = (h.plays earlier).goes in
      record {
        goes = record {
          crossings = goes.crossings;
          tells = goes.tells;
          stands = goes.stands;
          running = goes.running;
          goes = goes.goes;
        };
        stops = tt;
      };
  worked = h.worked;
  grew = h.grew;
}

-- ---- before a run

on_some : {A : Type 0} (o : Option A) (P Q : Type 0) → (P → Q) → OnSome o P → OnSome o Q
on_some None P Q f h = tt
on_some (Some x) P Q f h = f h

pub runs_marked : (config : Config) (r : Result Ending RunStop) (old : State) (marked : List Owner)
    (b : BorderState) (new : State) (b' : BorderState) (failed : Bool) (t t' : ℕ)
    → RunsGroup config r (state_marked old marked) b new b' failed t t'
    → RunsGroup config r old b new b' failed t t'
runs_marked config r old marked b new b' failed t t' h = record {
  runs = IfOk-weaker r _ _ (λ ending x. (
    x.0,
    record { more = x.1.more; fits = x.1.fits; ends = x.1.ends; behind = x.1.behind },
    x.2,
  )) h.runs;
  asks = IfErr-weaker r _ _ (λ stop. on_some (shim_stop stop) _ _ (λ x. record {
    more = x.more;
    question = x.question;
    asked_is = x.asked_is;
    asks = x.asks;
    asked_so = x.asked_so;
    behind = x.behind;
  })) h.asks;
  cut = on_err_weaker r (λ x. record { more = x.more; goes = x.goes; fronts = x.fronts }) h.cut;
  grew = h.grew;
  told_end = h.told_end;
  failed = h.failed;
  causes = h.causes;
  out_steady = h.out_steady;
  err_steady = h.err_steady;
}

-- ---- a run that is traced

pub of_run_weaker : {T : Type 0} (r : Result T TraceStop) (P Q : Result T RunStop → Type 0)
    → ((ran : Result T RunStop) → P ran → Q ran) → OfRun r P → OfRun r Q
of_run_weaker (Ok x) P Q f h = f (Ok x) h
of_run_weaker (Err (Run stop)) P Q f h = f (Err stop) h
of_run_weaker (Err LineFault) P Q f h = tt
of_run_weaker (Err Memory) P Q f h = tt

pub traces_marked : (config : Config) (r : Result Ending TraceStop) (old : State)
    (marked : List Owner) (new : State) (before after : Traced)
    → Traces config r (state_marked old marked) new before after
    → Traces config r old new before after
traces_marked config (Ok ending) old marked new before after h = h
traces_marked config (Err (Run stop)) old marked new before after h = by (shim_stop stop) h
  where
    by : (o : Option ShimStop) → StopTraces o config (state_marked old marked) new before after
        → StopTraces o config old new before after
    by None h = h
    by (Some why) h = h
traces_marked config (Err LineFault) old marked new before after h = h
traces_marked config (Err Memory) old marked new before after h = h
