-- What a table needs of the processes that it is built of. This project's own rules.
use Rattle.std.specs.Prelude.{ℕ, ◌≡◌, ◌<◌, ◌≤◌, List, [], ◌∷◌, length, None}
use Rattle.dos_world.specs.World.{all_holdings}
use Rattle.proc_table.specs.Tables.{Tables, process_restored}
use Rattle.space_map.specs.Mapping.{IsRising}
use Rattle.group_text.specs.declared.records.ProcessRecord.{ProcessRecord}
use Rattle.group_text.specs.Records.{process_of_record}

-- where the process lives: 31 actions, 32 descriptors, and pages that rise and have room
pub record IsHolding (room : ℕ) (r : ProcessRecord) : Type 0 where
  pub actions : length r.actions.items ≡ 31
  pub ends : length r.ends.items ≡ 32
  pub rising : IsRising r.pages.items
  pub fits : length r.pages.items ≤ room

-- A process can come next into a table: fewer processes than threads were given a number, its
-- parent's number is there, and where it lives fewer than 32 do.
pub record IsRestorable (t : Tables) (r : ProcessRecord) : Type 0 where
  pub numbers : length t.processes < length t.threads
  pub given : length t.processes < 65535
  pub parent : r.parent ≤ length t.processes
  pub few : r.status ≡ None → length (all_holdings t.processes) < 32
  pub holds : r.status ≡ None → IsHolding t.room r

-- each of these can come next, one after another
abbrev pub AreRestorable : Tables → List ProcessRecord → Type 0
AreRestorable t [] = Unit {0}
AreRestorable t (r ∷ rs) =
    IsRestorable t r × AreRestorable (process_restored t (process_of_record r)) rs

-- with these processes, one after another
abbrev pub all_restored : Tables → List ProcessRecord → Tables
all_restored t [] = t
all_restored t (r ∷ rs) = all_restored (process_restored t (process_of_record r)) rs
