-- Which saved groups are lawful. This project's own rule.
use Rattle.std.specs.Prelude.{◌↔◌, ◌≡◌, true, Result, Ok, Err, ⊤}
use Rattle.dos_world.specs.IsLawful.{is_lawful}
use Rattle.dos_world.specs.World.{World}
use Rattle.dos_world.specs.Lawful.{Lawful}
use Rattle.group_text.specs.Groups.{SavedGroup, world_in}
use Rattle.group_text.specs.GroupText.{group_row}
use Rattle.group_text.specs.declared.refusal.GroupRefusal.{GroupRefusal}
use Rattle.lawful_groups.specs.declared.reading.SavedError.{SavedError}
use Rattle.lawful_groups.specs.declared.reading.SavedError.TheVariants.{Refused, Unlawful, Memory}
use Rattle.lawful_groups.specs.Agreeing.{PartsAgree}

-- Where the fields are in their ranges, the world is lawful exactly where its parts agree.
abbrev pub LawfulByParts : Type 0
LawfulByParts = (g : SavedGroup) → group_row.Fits g → Lawful (world_in g) ↔ PartsAgree (world_in g)

-- A world is lawful exactly where it passes the test of the definitions.
abbrev pub LawfulWorldsPass : Type 0
LawfulWorldsPass = (w : World) → (is_lawful w ≡ true) ↔ Lawful w

-- ---- what is promised of reading a lawful group

-- a text that is a group's, in its ranges, in a world that isn't lawful
abbrev pub IsUnlawful : Result SavedGroup GroupRefusal → Type 0
IsUnlawful (Ok g) = Lawful (world_in g) → ⊥
IsUnlawful (Err e) = ⊥

-- What a function returned, seen by view, is what reading gives, and lawful; else it says which
-- of the two isn't so, or memory ran out.
abbrev pub GivesLawful : {X : Type 0} → (X → SavedGroup) → Result X SavedError
    → Result SavedGroup GroupRefusal → Type 0
GivesLawful view (Ok x) read = (read ≡ Ok (view x)) × Lawful (world_in (view x))
GivesLawful view (Err (Refused e)) read = read ≡ Err e
GivesLawful view (Err Unlawful) read = IsUnlawful read
GivesLawful view (Err Memory) read = ⊤
