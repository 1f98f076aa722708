-- What the file of a log is taken for, and whether a log is of the images of a call. This project's
-- own rules.
use Rattle.std.specs.Prelude.{ℕ, suc, ◌≡◌, List, [], ◌∷◌, length, Option, Some, None, Result, Ok}
use Rattle.std.specs.Prelude.{Err, ⊤, nat_lt, ◌==◌, if◌then◌else◌, bytes_eq}
use Rattle.log_text.specs.declared.refusal.LogError.{LogError}
use Rattle.log_text.specs.LogText.{Log}
use Rattle.log_text.specs.Reading.{log_at}
use Rattle.log_text.specs.Ranges.{most_bytes}
use Rattle.log_files.specs.declared.refusal.LogRefusal.{LogRefusal}
use Rattle.log_files.specs.declared.refusal.LogRefusal.TheVariants.{TooLong, Refused, Images}
use Rattle.log_files.specs.declared.refusal.LogRefusal.TheVariants.{Digest}
use Rattle.log_files.specs.declared.refusal.LoadError.{LoadError}
use Rattle.log_files.specs.declared.refusal.LoadError.TheVariants as load

-- ---- the file

-- what is said of a file that is read
abbrev pub log_judged : Result Log LogError → Result Log LogRefusal
log_judged (Ok log) = Ok log
log_judged (Err error) = Err (Refused error)

-- the log that a file is, or why it is refused
unfoldable pub log_verdict : List ℕ → Result Log LogRefusal
log_verdict file = if nat_lt most_bytes (length file) then Err TooLong else log_judged (log_at file)

-- A refusal is the file's; memory runs out and files fail for any file that isn't refused, or is.
abbrev pub IsLogRefusal : Result Log LogRefusal → LoadError → Type 0
IsLogRefusal verdict (load.Log why) = verdict ≡ Err why
IsLogRefusal verdict load.Fault = ⊤
IsLogRefusal verdict load.Memory = ⊤

-- the file itself is refused, and not what is in it held against the images
abbrev pub IsOfFile : LogRefusal → Type 0
IsOfFile (Images logged given) = ⊥
IsOfFile (Digest number digest kept) = ⊥
IsOfFile _ = ⊤

-- so of a refusal
abbrev pub IsForFile : LoadError → Type 0
IsForFile (load.Log why) = IsOfFile why
IsForFile _ = ⊤

-- ---- the images

-- The first of these images, counted from this number, whose digest isn't the log's.
abbrev pub first_other : ℕ → (given logged : List (List ℕ)) → Option LogRefusal
first_other number [] logged = None
first_other number (digest ∷ given) [] = None
first_other number (digest ∷ given) (kept ∷ logged) =
    if bytes_eq digest kept then first_other (suc number) given logged
    else Some (Digest number digest kept)

-- How the digests of a call's images differ from a log's: in number, or else in one of them.
abbrev pub disagreement : (given logged : List (List ℕ)) → Option LogRefusal
disagreement given logged =
    if length given == length logged then first_other 1 given logged
    else Some (Images (length logged) (length given))

-- what is answered is the first difference
abbrev pub Agrees : {T : Type 0} → Result T LogRefusal → Option LogRefusal → Type 0
Agrees (Ok x) found = found ≡ None
Agrees (Err why) found = found ≡ Some why
