-- Reading a saved group: the magic, the version, the group, and nothing more. This project's own
-- rule.
use Rattle.std.specs.Prelude.{◌≡◌, ℕ, List, length, Result, Ok, Err, ◌==◌, if◌then◌else◌, ⊤}
use Rattle.std.specs.Int.{w16}
use Rattle.std.specs.Str.{bytes_eq}
use Rattle.text_fields.specs.declared.refusal.FieldError.{FieldError}
use Rattle.text_fields.specs.Formats.{AreBytes}
use Rattle.text_fields.specs.Reading.{field_place, ◌>>=◌, first_bytes, first_number}
use Rattle.group_text.specs.declared.refusal.GroupRefusal.{GroupRefusal}
use Rattle.group_text.specs.declared.refusal.GroupRefusal.TheVariants as refusal
use Rattle.group_text.specs.declared.refusal.GroupError.{GroupError}
use Rattle.group_text.specs.declared.refusal.GroupError.TheVariants.{Refused, Memory}
use Rattle.group_text.specs.Groups.{SavedGroup}
use Rattle.group_text.specs.Refusals.{field_refusal}
use Rattle.group_text.specs.GroupText.{group_magic, group_version, group_row, grouptext}

abbrev pub from_field : {A : Type 0} → Result A FieldError → Result A GroupRefusal
from_field (Ok x) = Ok x
from_field (Err e) = Err (field_refusal e)

-- the bytes behind the magic, the first four
unfoldable pub past_magic : ℕ → List ℕ → Result (List ℕ) GroupRefusal
past_magic end bytes = do
  first ← from_field (first_bytes 4 end bytes)
  if bytes_eq first.0 group_magic then Ok first.1 else Err refusal.Magic

-- the bytes behind the version, which is this one
unfoldable pub past_version : ℕ → List ℕ → Result (List ℕ) GroupRefusal
past_version end bytes = do
  n ← from_field (first_number w16 end bytes)
  if n.0 == group_version then Ok n.1 else Err (refusal.Version n.0)

-- all of it
unfoldable pub group_in_text : List ℕ → Result SavedGroup GroupRefusal
group_in_text bytes = do
  versioned ← past_magic (length bytes) bytes
  fields ← past_version (length bytes) versioned
  g ← from_field (group_row.read (length bytes) fields)
  if length g.1 == 0 then Ok g.0 else Err (refusal.AfterEnd (field_place (length bytes) g.1))

-- ---- what is promised of reading

-- What a function returned, seen by view, is what reading gives.
abbrev pub GivesPart : {X Y : Type 0} → (X → Y) → Result X GroupRefusal → Result Y GroupRefusal
    → Type 0
GivesPart view (Ok x) read = read ≡ Ok (view x)
GivesPart view (Err e) read = read ≡ Err e

-- The same of a whole group, for which memory may have run out before.
abbrev pub GivesGroup : {X : Type 0} → (X → SavedGroup) → Result X GroupError
    → Result SavedGroup GroupRefusal → Type 0
GivesGroup view (Ok x) read = read ≡ Ok (view x)
GivesGroup view (Err (Refused e)) read = read ≡ Err e
GivesGroup view (Err Memory) read = ⊤

-- What was read was written so, and in its ranges; what was written is read again.
pub record GroupsAreSpelled : Type 0 where
  pub found : (bytes : List ℕ) (g : SavedGroup) → AreBytes bytes → group_in_text bytes ≡ Ok g
      → (bytes ≡ grouptext g) × group_row.Fits g
  pub again : (g : SavedGroup) → group_row.Fits g → group_in_text (grouptext g) ≡ Ok g
