-- The outputs' counts of faults and the host's stand, unless such a fault is why a call comes to no
-- report.
use Rattle.std.proofs.Common.{◌≡◌, refl, ap, ◌∙◌, ℕ, Result, Ok, Err}
use Rattle.std.specs.Prelude.{IfErr, OnOk}
use Rattle.dos_world.specs.declared.Ending.{Ending}
use Rattle.kernel_calls.specs.declared.state.RunStop.{RunStop}
use Rattle.kernel_calls.specs.declared.state.RunStop.TheVariants as stops
use Rattle.dos_texts.specs.declared.refusal.Refusal.{Refusal}
use Rattle.dos_texts.specs.declared.refusal.Refusal.TheVariants as refusals
use Rattle.dos_cmd.specs.Stops.{refusal_by}

-- what came to its end hasn't stopped
pub no_stop : {T E : Type 0} (x : T) (e : E) → Ok x ≡ Err e → ⊥
no_stop x e is = cc

-- a refusal for another reason
pub no_sink : (T : Type 0) (why : Refusal) → (why ≡ refusals.Sink → ⊥)
    → ◌≡◌ {A = Result T Refusal} (Err why) (Err refusals.Sink) → ⊥
no_sink T why other is = let same : why ≡ refusals.Sink = cc in other same

-- a run that stopped for another reason
pub outputs_steady : {T : Type 0} (stop : RunStop) (why : Refusal) (out out_after err err_after : ℕ)
    → why ≡ refusal_by stop
    → ((◌≡◌ {A = Result T RunStop} (Err stop) (Err stops.OutFault) → ⊥) → out_after ≡ out)
    → ((◌≡◌ {A = Result T RunStop} (Err stop) (Err stops.ErrFault) → ⊥) → err_after ≡ err)
    → (◌≡◌ {A = Result Ending Refusal} (Err why) (Err refusals.Sink) → ⊥)
    → (out_after ≡ out) × (err_after ≡ err)
outputs_steady {T} stop why out out_after err err_after is outs errs other =
    by_stop stop outs errs (λ sink. other (ap wrapped (is ∙ sink)))
  where
    wrapped : Refusal → Result Ending Refusal
    wrapped r = Err r

    by_stop : (stop : RunStop)
        → ((◌≡◌ {A = Result T RunStop} (Err stop) (Err stops.OutFault) → ⊥) → out_after ≡ out)
        → ((◌≡◌ {A = Result T RunStop} (Err stop) (Err stops.ErrFault) → ⊥) → err_after ≡ err)
        → (refusal_by stop ≡ refusals.Sink → ⊥) → (out_after ≡ out) × (err_after ≡ err)
    by_stop stops.OutFault outs errs other = absurd (other refl)
    by_stop stops.ErrFault outs errs other = absurd (other refl)
    by_stop stop outs errs other = (outs (λ is. cc), errs (λ is. cc))

-- where it isn't the host's fault, the host's count stands
pub no_host : (T : Type 0) (why : Refusal) → (why ≡ refusals.Host → ⊥)
    → ◌≡◌ {A = Result T Refusal} (Err why) (Err refusals.Host) → ⊥
no_host T why other is = let same : why ≡ refusals.Host = cc in other same

pub host_steady : {T : Type 0} (stop : RunStop) (why : Refusal) (host host_after : ℕ)
    → why ≡ refusal_by stop
    → ((◌≡◌ {A = Result T RunStop} (Err stop) (Err stops.HostFault) → ⊥) → host_after ≡ host)
    → (◌≡◌ {A = Result Ending Refusal} (Err why) (Err refusals.Host) → ⊥) → host_after ≡ host
host_steady {T} stop why host host_after is steady other =
    by_stop stop steady (λ fault. other (ap wrapped (is ∙ fault)))
  where
    wrapped : Refusal → Result Ending Refusal
    wrapped r = Err r

    by_stop : (stop : RunStop)
        → ((◌≡◌ {A = Result T RunStop} (Err stop) (Err stops.HostFault) → ⊥) → host_after ≡ host)
        → (refusal_by stop ≡ refusals.Host → ⊥) → host_after ≡ host
    by_stop stops.HostFault steady other = absurd (other refl)
    by_stop stop steady other = steady (λ is. cc)

-- a report that was put
pub report_steady : (r : Result Ending Refusal) (err err_after : ℕ)
    → IfErr r (λ why. why ≡ refusals.Sink) → OnOk r (err_after ≡ err)
    → (r ≡ Err refusals.Sink → ⊥) → err_after ≡ err
report_steady (Ok ending) err err_after sink steady other = steady
report_steady (Err why) err err_after sink steady other = absurd (other cc)
