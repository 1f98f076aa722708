-- Why a run stops, and what a run may do to its shim and its sinks. This project's own rules.
use Rattle.std.specs.Prelude.{ℕ, ◌≡◌, ◌≤◌, Bool, true, false, Option, Some, None, Result, IfErr}
use Rattle.std.specs.Prelude.{OnOk}
use Rattle.dos_world.specs.declared.Question.{Question}
use Rattle.dos_world.specs.declared.Question.TheVariants.{Signals, Input, Clock, End}
use Rattle.dos_io.specs.Outside.{counted_to_limit}
use Rattle.dos_io.specs.Shims.{ShimState}
use Rattle.kernel_calls.specs.StateWorld.{HasSinkCause, shim_stop}
use Rattle.kernel_calls.specs.declared.state.RunStop.{RunStop}

-- ---- causes

-- the shim hasn't stopped
pub record HasNotStopped (before after : ShimState) : Type 0 where
  pub stops : after.stops ≡ before.stops
  pub last : after.last ≡ before.last

-- The shim stopped so, once, if the stop is a shim's; else it hasn't stopped.
abbrev pub HasShimCause : RunStop → ShimState → ShimState → Type 0
HasShimCause stop before after =
    elim (shim_stop stop) [
      | None ↦ HasNotStopped before after
      | Some s ↦ (after.stops ≡ counted_to_limit before.stops) × (after.last ≡ Some s)
    ]

-- whether what was asked is the run's end
abbrev pub is_end_question : Option Question → Bool
is_end_question None = false
is_end_question (Some (Signals round)) = false
is_end_question (Some (Input round tid max)) = false
is_end_question (Some (Clock round tid)) = false
is_end_question (Some (End ending rounds)) = true

-- No sink's count falls, and a stop comes only where its object's count rose.
pub record HaveCauses {T : Type 0} (result : Result T RunStop) (before after : ShimState)
    (out out_after err err_after : ℕ) : Type 0 where
  pub out_later : out ≤ out_after
  pub err_later : err ≤ err_after
  pub shim : IfErr result (λ stop. HasShimCause stop before after)
  pub stands : OnOk result (HasNotStopped before after)
  pub sinks : IfErr result (λ stop. HasSinkCause stop out out_after err err_after)
