-- Reading a whole log.
use Rattle.std.proofs.Common.{◌≡◌, ◌≤◌, ℕ, Bool, true, false, cond, ltb, List, length, take}
use Rattle.std.proofs.Common.{drop, Result, Ok, Err, IfOk, ap, subst, arith, refl}
use Rattle.std.proofs.lemmas.Bool.{ltb-false}
use Rattle.std.proofs.lemmas.List.{length-take, length-append}
use Rattle.text_fields.specs.declared.refusal.FieldError.{FieldError}
use Rattle.text_fields.specs.declared.refusal.FieldError.TheVariants.{Short}
use Rattle.text_fields.specs.Reading.{field_place, first_bytes}
use Rattle.log_text.specs.declared.refusal.ReadError.{ReadError}
use Rattle.log_text.specs.Bytes.{IsBytes}
use Rattle.log_text.specs.LogText.{Log, logtext}
use Rattle.log_text.specs.Ranges.{FitsLog}
use Rattle.log_text.specs.Gives.{ReadsAs}
use Rattle.log_text.specs.Reading.{log_at}
use Rattle.log_text.proofs.Steps.{Takes}
use Rattle.log_text.proofs.LengthLaws.{ranges_of_read}
use Rattle.log_text.proofs.LogLaws.{log_takes}

guard_ok : {A : Type 0} (b : Bool) (d : FieldError) (x y : A) → cond b (Err d) (Ok x) ≡ Ok y
    → (b ≡ false) × (x ≡ y)
guard_ok true d x y e = absurd cc
guard_ok false d x y e = (refl, cc)

pub bytes_len : (count end : ℕ) (bytes text rest : List ℕ)
    → first_bytes count end bytes ≡ Ok (text, rest) → length text ≡ count
bytes_len count end bytes text rest e =
    let g = guard_ok (ltb (length bytes) count) (Short (field_place end bytes))
    (take count bytes, drop count bytes) (text, rest) e in
    let long : count ≤ length bytes = ltb-false _ _ g.0 in
    subst (λ (p : List ℕ × List ℕ). length p.0 ≡ count) g.1 (omega (arith, length-take count bytes))

pub rest_short : (bytes text rest : List ℕ) → Takes bytes text rest → length rest ≤ length bytes
rest_short bytes text rest t = omega (arith, ap length t.parts, length-append text rest)

pub is_found : (bytes : List ℕ) (r : Result Log ReadError) → IsBytes bytes
    → ReadsAs r (log_at bytes) → IfOk r (λ log. (bytes ≡ logtext log) × FitsLog log)
is_found bytes (Ok log) fits read =
    ((log_takes bytes log fits read).text, ranges_of_read bytes log fits read)
is_found bytes (Err e) fits read = tt
