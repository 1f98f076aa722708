-- The processes of a table by number, and the places of those that live. This project's own rules.
use Rattle.std.specs.Prelude.{◌≡◌, ℕ, suc, Bool, List, [], ◌∷◌, map, length, replicate, Option}
use Rattle.std.specs.Prelude.{Some, None, is_some, option_and_then, slice_get, slice_index_or, All}
use Rattle.std.specs.Prelude.{count_by, ◌&&◌, not, ◌||◌, ◌==◌, true, false, filter, if◌then◌else◌}
use Rattle.dos_world.specs.Numbered.{numbered, numbers_of}
use Rattle.dos_world.specs.World.{first_of, Process, Holdings, Life, live, ended}
use Rattle.dos_world.specs.declared.Entry.{Entry}
use Rattle.space_map.specs.Mapping.{Mapping, empty}
use Rattle.proc_table.specs.declared.record.Kept.{Kept}
use Rattle.proc_table.specs.declared.record.Kept.TheVariants.{Live, Ended}
use Rattle.proc_table.specs.declared.record.Record.{Record}
use Rattle.proc_table.specs.declared.record.Belongings.{Belongings}

-- the processes, and the room of each space
pub record Group : Type 0 where
  pub processes : List Process
  pub room : ℕ

-- ---- by place

-- where nothing stands
abbrev pub no_belongings : Belongings
no_belongings = record { descriptors = []; actions = [] }

-- those of a process that begins: no descriptor open, and all actions default
abbrev pub first_belongings : Belongings
first_belongings = record { descriptors = replicate 32 None; actions = replicate 31 0 }

-- what a process has, of these belongings and pages
abbrev pub holdings_by : Belongings → List (ℕ × Entry) → Holdings
holdings_by b space = record { actions = b.actions; descriptors = b.descriptors; space = space }

abbrev pub holdings_in : List Mapping → List Belongings → ℕ → Holdings
holdings_in spaces belongings place =
    holdings_by (slice_index_or belongings place no_belongings)
    (slice_index_or spaces place (empty 0)).entries

abbrev pub life_by : (ℕ → Holdings) → Kept → Life
life_by held (Live place) = live (held place)
life_by held (Ended status collected) = ended status collected

abbrev pub process_by : (ℕ → Holdings) → Record → Process
process_by held r = record { parent = r.parent; life = life_by held r.kept }

-- the processes that these records and places stand for
unfoldable pub processes_shown : List Mapping → List Belongings → List Record → List Process
processes_shown spaces belongings records = map (process_by (holdings_in spaces belongings)) records

abbrev pub group_shown : List Mapping → List Belongings → List Record → ℕ → Group
group_shown spaces belongings records room =
    record { processes = processes_shown spaces belongings records; room = room }

abbrev pub place_kept : Kept → Option ℕ
place_kept (Live place) = Some place
place_kept (Ended status collected) = None

-- the place of a process, where it lives
abbrev pub place_of_record : Record → Option ℕ
place_of_record r = place_kept r.kept

abbrev pub place_in : List Record → ℕ → Option ℕ
place_in records p = option_and_then place_of_record (numbered records p)

abbrev pub is_placed : Record → Bool
is_placed r = is_some (place_of_record r)

-- whether a process has ended and its parent has collected it
abbrev pub is_collected : Kept → Bool
is_collected (Live place) = false
is_collected (Ended status collected) = collected

abbrev pub kept_as : Kept → Record → Record
kept_as kept r = record r { kept = kept }

-- a child whose parent ends has none, unless it was collected
abbrev pub orphan_record : ℕ → Record → Record
orphan_record p r = record r {
  parent =
      if (r.parent == p) && not (is_collected r.kept) then 0 else r.parent;
}

-- ---- children

-- whether it has ended, where that is asked
abbrev pub has_come : Bool → Kept → Bool
has_come asked (Live place) = not asked
has_come asked (Ended status collected) = true

-- whether a process is a child of this parent that wasn't collected, and has ended where that is
-- asked
abbrev pub is_child_record : Bool → ℕ → Record → Bool
is_child_record asked parent r =
    (r.parent == parent) && not (is_collected r.kept) && has_come asked r.kept

-- the lowest of them that a number names, where 0 names all
abbrev pub first_child : Bool → List Record → ℕ → ℕ → Option ℕ
first_child asked records parent which =
    first_of (filter (λ p. (which == 0) || (which == p))
    (numbers_of (is_child_record asked parent) records))

-- the status of a process, 0 where it lives
abbrev pub status_or_0 : Kept → ℕ
status_or_0 (Live place) = 0
status_or_0 (Ended status collected) = status

-- ---- what is kept

-- the process of this number holds its place, where it has one
abbrev pub IsHeld : List (Option ℕ) → Option ℕ → ℕ → Type 0
IsHeld holders None n = Unit {0}
IsHeld holders (Some place) n = slice_get holders place ≡ Some (Some n)

-- the processes from number n on hold their places
abbrev pub AreHeld : List (Option ℕ) → ℕ → List Record → Type 0
AreHeld holders n [] = Unit {0}
AreHeld holders n (r ∷ records) =
    IsHeld holders (place_of_record r) n × AreHeld holders (suc n) records

-- Each process that lives holds a place of its own, of 32. Live is the count of both.
pub record ArePlaced (records : List Record) (holders : List (Option ℕ)) (spaces : List Mapping)
    (belongings : List Belongings) (live room : ℕ) : Type 0 where
  pub held : AreHeld holders 1 records
  pub holding : live ≡ count_by is_some holders
  pub living : live ≡ count_by is_placed records
  pub holders_count : length holders ≡ 32
  pub spaces_count : length spaces ≡ 32
  pub belongings_count : length belongings ≡ 32
  pub rooms : All (λ s. s.room ≡ room) spaces
