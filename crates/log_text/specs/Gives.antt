-- What a reader that runs answers, beside what reading is. This project's own rule.
use Rattle.std.specs.Prelude.{◌≡◌, ℕ, List, Result, Ok, Err, IsOk}
use Rattle.log_text.specs.declared.refusal.ReadError.{ReadError}
use Rattle.log_text.specs.declared.refusal.ReadError.TheVariants.{Refused, Memory}
use Rattle.log_text.specs.declared.refusal.LogError.{LogError}

-- What a function returned, seen by view, is what reading gives.
abbrev pub Gives : {X Y : Type 0} → (X → Y) → Result X LogError → Result Y LogError → Type 0
Gives view (Ok x) read = read ≡ Ok (view x)
Gives view (Err e) read = read ≡ Err e

-- A refusal is the one that reading gives. Memory runs out only where there is something to keep.
abbrev pub FailsAs : {Y : Type 0} → ReadError → Result Y LogError → Type 0
FailsAs (Refused e) read = read ≡ Err e
FailsAs Memory read = IsOk read

-- The value that reading gives, or why there is none.
abbrev pub ReadsAs : {Y : Type 0} → Result Y ReadError → Result Y LogError → Type 0
ReadsAs (Ok x) read = read ≡ Ok x
ReadsAs (Err e) read = FailsAs e read

-- the bytes behind what is read
abbrev pub behind : {Y E : Type 0} → Result (Y × List ℕ) E → Result (List ℕ) E
behind (Ok y) = Ok y.1
behind (Err e) = Err e
