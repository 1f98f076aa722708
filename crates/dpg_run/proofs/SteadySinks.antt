-- A sink's count of faults stands where another stopped the run.
use Rattle.std.proofs.Common.{◌≡◌, refl, Result, Err}
use Rattle.dos_io.specs.Borders.{BorderState}
use Rattle.dos_io.specs.declared.border.Stream.TheVariants.{Output, Error}
use Rattle.kernel_calls.specs.Plays.{stopper}
use Rattle.kernel_calls.specs.declared.state.RunStop.{RunStop}
use Rattle.kernel_calls.specs.declared.state.RunStop.TheVariants.{HostFault, LogFull, Misfit}
use Rattle.kernel_calls.specs.declared.state.RunStop.TheVariants.{OutFault, ErrFault, Memory}
use Rattle.group_rounds.proofs.PlayCauses.{Fails}

abbrev pub IsOther : (T : Type 0) (stop fault : RunStop) → Type 0
IsOther T stop fault = ◌≡◌ {A = Result T RunStop} (Err stop) (Err fault) → ⊥

module _ {T : Type 0} (before after : BorderState) where
  pub out_stands : (stop : RunStop) → Fails (stopper stop) before after → IsOther T stop OutFault
      → after.out_faults ≡ before.out_faults
  out_stands HostFault h other = h.faults Output
  out_stands LogFull h other = h.faults Output
  out_stands (Misfit m) h other = h.faults Output
  out_stands Memory h other = h.faults Output
  out_stands OutFault h other = absurd (other refl)
  out_stands ErrFault h other = h.others Output (λ same. cc)

  pub err_stands : (stop : RunStop) → Fails (stopper stop) before after → IsOther T stop ErrFault
      → after.err_faults ≡ before.err_faults
  err_stands HostFault h other = h.faults Error
  err_stands LogFull h other = h.faults Error
  err_stands (Misfit m) h other = h.faults Error
  err_stands Memory h other = h.faults Error
  err_stands OutFault h other = h.others Error (λ same. cc)
  err_stands ErrFault h other = absurd (other refl)
