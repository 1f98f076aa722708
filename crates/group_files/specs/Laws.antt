-- What is read of a file that was written. This project's own rule.
use Rattle.std.specs.Prelude.{◌≡◌, Ok}
use Rattle.dos_world.specs.Lawful.{Lawful}
use Rattle.group_text.specs.GroupText.{group_row, grouptext}
use Rattle.group_text.specs.Groups.{SavedGroup, world_in}
use Rattle.group_files.specs.Judging.{group_verdict}

-- The text of a saved group in a lawful world is a file that is taken for it: long as it may be, it
-- is no longer than such files may be.
abbrev pub WrittenGroupsAreTaken : Type 0
WrittenGroupsAreTaken = (g : SavedGroup) → group_row.Fits g → Lawful (world_in g)
    → group_verdict (grouptext g) ≡ Ok g
