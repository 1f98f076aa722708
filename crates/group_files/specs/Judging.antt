-- What the file of a saved group is taken for, and whether it is of a log. This project's own
-- rules.
use Rattle.std.specs.Prelude.{ℕ, ◌≡◌, Bool, ◌&&◌, List, length, Result, Ok, Err, ⊤, nat_lt}
use Rattle.std.specs.Prelude.{if◌then◌else◌, bytes_eq}
use Rattle.dos_world.specs.IsLawful.{is_lawful}
use Rattle.group_text.specs.Groups.{SavedGroup, world_in}
use Rattle.group_text.specs.Reading.{group_in_text}
use Rattle.group_text.specs.declared.refusal.GroupRefusal.{GroupRefusal}
use Rattle.group_files.specs.declared.refusal.SavedRefusal.{SavedRefusal}
use Rattle.group_files.specs.declared.refusal.SavedRefusal.TheVariants.{TooLong, Refused, Unlawful}
use Rattle.group_files.specs.declared.refusal.SavedRefusal.TheVariants.{OtherLog}
use Rattle.group_files.specs.declared.refusal.GroupFileError.{GroupFileError}
use Rattle.group_files.specs.declared.refusal.GroupFileError.TheVariants as load

-- ---- the file

-- the longest file of a saved group: 80 MiB
abbrev pub longest_group : ℕ
longest_group = 83886080

-- what is said of a file that is read
abbrev pub group_judged : Result SavedGroup GroupRefusal → Result SavedGroup SavedRefusal
group_judged (Ok g) = if is_lawful (world_in g) then Ok g else Err Unlawful
group_judged (Err error) = Err (Refused error)

-- the saved group that a file is, or why it is refused
unfoldable pub group_verdict : List ℕ → Result SavedGroup SavedRefusal
group_verdict file =
    if nat_lt longest_group (length file) then Err TooLong else group_judged (group_in_text file)

-- A refusal is the file's; memory runs out and files fail for any file that isn't refused, or is.
abbrev pub IsGroupRefusal : Result SavedGroup SavedRefusal → GroupFileError → Type 0
IsGroupRefusal verdict (load.Group why) = verdict ≡ Err why
IsGroupRefusal verdict load.Fault = ⊤
IsGroupRefusal verdict load.Memory = ⊤

-- The file itself is refused, and not what is in it held against a log.
abbrev pub IsOfItsFile : GroupFileError → Type 0
IsOfItsFile (load.Group OtherLog) = ⊥
IsOfItsFile _ = ⊤

-- ---- the log

-- It was saved from a replay of the log whose file has this digest (SHA-256, FIPS 180-4), and left
-- some of so many exchanges.
abbrev pub is_of_log : SavedGroup → (digest : List ℕ) → (exchanges : ℕ) → Bool
is_of_log g digest exchanges = bytes_eq g.digest digest && nat_lt g.used exchanges
