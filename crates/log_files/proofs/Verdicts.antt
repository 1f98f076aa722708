-- What the file of a log is taken for.
use Rattle.std.proofs.Common.{◌≡◌, ◌∙◌, ℕ, ◌≤◌, ◌<◌, List, length, Option, Some, None, Ok, Err}
use Rattle.std.proofs.Common.{refl, ap, subst}
use Rattle.std.specs.Prelude.{IfSome, IsErrOf, ⊤}
use Rattle.std.proofs.lemmas.Bool.{lt-ltb, le-ltb}
use Rattle.log_text.specs.declared.refusal.LogError.{LogError}
use Rattle.log_text.specs.declared.refusal.ReadError.{ReadError}
use Rattle.log_text.specs.declared.refusal.ReadError.TheVariants as read
use Rattle.log_text.specs.Gives.{FailsAs}
use Rattle.log_text.specs.LogText.{Log}
use Rattle.log_text.specs.Reading.{log_at}
use Rattle.log_text.specs.Ranges.{most_bytes}
use Rattle.log_files.specs.declared.refusal.LogRefusal.{LogRefusal}
use Rattle.log_files.specs.declared.refusal.LogRefusal.TheVariants.{TooLong, Refused}
use Rattle.log_files.specs.declared.refusal.LoadError.TheVariants as load
use Rattle.log_files.specs.Judging.{log_judged, log_verdict}

verdict_within : (file : List ℕ) → length file ≤ most_bytes
    → log_verdict file ≡ log_judged (log_at file)
unfolding log_verdict
verdict_within file within = rw (le-ltb most_bytes (length file) within) refl

pub accepted_as : (file : List ℕ) (log : Log) → length file ≤ most_bytes → log_at file ≡ Ok log
    → log_verdict file ≡ Ok log
accepted_as file log within is = verdict_within file within ∙ ap log_judged is

pub refused_as : (file : List ℕ) (why : ReadError) (error : LogError) → length file ≤ most_bytes
    → why ≡ read.Refused error → FailsAs why (log_at file)
    → log_verdict file ≡ Err (Refused error)
refused_as file why error within is fails = verdict_within file within
    ∙ ap log_judged (subst (λ (w : ReadError). FailsAs w (log_at file)) is fails)

verdict_long : (file : List ℕ) → most_bytes < length file → log_verdict file ≡ Err TooLong
unfolding log_verdict
verdict_long file long = rw (lt-ltb most_bytes (length file) long) refl

pub told_long : (told : Option (List ℕ)) → IfSome told (λ t. most_bytes < length t)
    → IfSome told (λ file. log_verdict file ≡ Err TooLong)
told_long None long = tt
told_long (Some file) long = verdict_long file long

-- nothing is said of it
pub told_free : (told : Option (List ℕ)) → IfSome told (λ file. ⊤)
told_free None = tt
told_free (Some file) = tt

-- ---- what is no fault of the files

pub log_no_fault : {T : Type 0} (why : LogRefusal)
    → IsErrOf {T = T} (Err (load.Log why)) load.Fault → ⊥
log_no_fault why is = cc

pub memory_no_fault : {T : Type 0} → IsErrOf {T = T} (Err load.Memory) load.Fault → ⊥
memory_no_fault is = cc
