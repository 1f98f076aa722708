-- What is kept of the births in a run, and of which moments it is right. This project's own rule.
use Rattle.std.specs.Prelude.{◌≡◌, ◌≤◌, ◌<◌, ◌+◌, ℕ, Bool, true, false, ◌||◌, List, [], ◌∷◌, ◌++◌}
use Rattle.std.specs.Prelude.{length, drop, Option, Some, None, IfSome, option_map, unwrap_or}
use Rattle.std.specs.Prelude.{nat_le}
use Rattle.std.specs.List.{list_all}
use Rattle.dos_world.specs.Numbered.{numbered, map_from}
use Rattle.dos_world.specs.World.{Process, Thread, belongs_to, first_of, first_thread}
use Rattle.dos_world.specs.World.{thread_at, parent_of}
use Rattle.dos_world.specs.Numbered.{numbers_of}
use Rattle.group_moves.specs.Moments.{Moment}
use Rattle.gdb_packets.specs.declared.ids.Which.{Which}
use Rattle.gdb_packets.specs.declared.ids.Which.TheVariants.{All, Any, Only}
use Rattle.gdb_packets.specs.declared.ids.ThreadId.{ThreadId}
use Rattle.gdb_packets.specs.declared.resumptions.Resumption.{Resumption}
use Rattle.debug_session.specs.Homes.{birth_of, birth_of_thread, image_of_process}
use Rattle.debug_session.specs.Actions.{thread_named}
use Rattle.kernel_calls.specs.declared.state.State.{State}

-- How many images were run. By their numbers, from 1: of each process that was born the number of
-- its image, 0 where it has none, and the thread that it was born with; of each thread the process
-- that it was born in. Whether nobody else is born in the run.
pub record BirthTables : Type 0 where
  pub images : ℕ
  pub image_numbers : List ℕ
  pub first_threads : List (Option ℕ)
  pub homes : List (Option ℕ)
  pub is_whole : Bool

abbrev pub no_births : (images : ℕ) → BirthTables
no_births images = record {
  images = images;
  image_numbers = [];
  first_threads = [];
  homes = [];
  is_whole = false;
}

-- ---- what is kept

abbrev pub process_of_thread : Option Thread → Option ℕ
process_of_thread thread = option_map (λ (known : Thread). known.process) thread

-- the image of a process, by its parent's
abbrev pub image_behind : (images : ℕ) → List Moment → ℕ → ℕ
image_behind images moments p = unwrap_or (image_of_process p images moments p) 0

-- The tables are those of these moments: each number that was there at one of them is in them with
-- what held at the first such moment, and no other is. A parent has a lower number.
pub record KnowsBirths (b : BirthTables) (moments : List Moment) : Type 0 where
  pub images : (p : ℕ) → numbered b.image_numbers p
      ≡ option_map (λ m. image_behind b.images moments p) (birth_of moments p)
  pub first_threads : (p : ℕ) → numbered b.first_threads p
      ≡ option_map (λ m. first_thread m.world p) (birth_of moments p)
  pub homes : (t : ℕ) → numbered b.homes t
      ≡ option_map (λ m. process_of_thread (thread_at m.world t)) (birth_of_thread moments t)
  pub parents : (p : ℕ) → IfSome (birth_of moments p) (λ m. parent_of m.world p < p)

-- The moments that were noted are a front of these; all of them, where the tables are whole.
pub record AreBirthsKnown (b : BirthTables) (moments : List Moment) : Type 0 where
  pub noted : List Moment
  pub later : List Moment
  pub front : moments ≡ noted ++ later
  pub known : KnowsBirths b noted
  pub whole : b.is_whole ≡ true → later ≡ []

-- Each number that is there in a state was noted.
pub record HasNoted (b : BirthTables) (s : State) : Type 0 where
  pub images : length s.table.processes ≤ length b.image_numbers
  pub first_threads : length s.table.processes ≤ length b.first_threads
  pub homes : length s.table.threads ≤ length b.homes

-- What was kept is kept.
pub record Grows (old new : BirthTables) : Type 0 where
  pub images : length old.image_numbers ≤ length new.image_numbers
  pub first_threads : length old.first_threads ≤ length new.first_threads
  pub homes : length old.homes ≤ length new.homes
  pub whole : old.is_whole ≡ true → new.is_whole ≡ true

-- ---- which numbers are known

abbrev pub has_process : BirthTables → ℕ → Bool
has_process b p = b.is_whole || nat_le p (length b.first_threads)

abbrev pub has_image : BirthTables → ℕ → Bool
has_image b p = b.is_whole || nat_le p (length b.image_numbers)

abbrev pub has_home : BirthTables → ℕ → Bool
has_home b t = b.is_whole || nat_le t (length b.homes)

-- the thread that a part of an id names
abbrev pub has_which : BirthTables → Which → Bool
has_which b All = true
has_which b Any = true
has_which b (Only t) = has_home b t

abbrev pub has_named : BirthTables → Option ℕ → Bool
has_named b None = true
has_named b (Some t) = has_home b t

-- the thread that an id names
abbrev pub knows_id : BirthTables → ThreadId → Bool
knows_id b id = has_named b (thread_named id)

-- the threads that resumptions name
abbrev pub knows_named : BirthTables → List Resumption → Bool
knows_named b rs = list_all (λ (r : Resumption). knows_id b r.threads) rs

-- these processes
abbrev pub has_processes : BirthTables → List ℕ → Bool
has_processes b ps = list_all (has_process b) ps

-- these threads
abbrev pub has_homes : BirthTables → List ℕ → Bool
has_homes b ts = list_all (has_home b) ts

-- ---- with what a state has more

-- what f makes of each element behind so many, by its number
abbrev pub rows_behind : {A B : Type 0} → (kept : ℕ) → (ℕ → A → B) → List A → List B
rows_behind kept f xs = map_from (1 + kept) f (drop kept xs)

abbrev pub homes_behind : (kept : ℕ) → List (Option Thread) → List (Option ℕ)
homes_behind kept threads = rows_behind kept (λ t thread. process_of_thread thread) threads

abbrev pub first_in : List (Option Thread) → ℕ → Option ℕ
first_in threads p = first_of (numbers_of (belongs_to p) threads)

abbrev pub firsts_behind : (kept : ℕ) → List Process → List (Option Thread) → List (Option ℕ)
firsts_behind kept processes threads = rows_behind kept (λ p process. first_in threads p) processes

-- the number of the image of a process, by those of processes with lower numbers
abbrev pub image_by : (images : ℕ) → (kept : List ℕ) → (p parent : ℕ) → ℕ
image_by images kept p parent = elim (nat_le p images) [
  | true ↦ p
  | false ↦ unwrap_or (numbered kept parent) 0
]

-- with those of more processes, in the order of their numbers
abbrev pub images_with : (images : ℕ) → (kept : List ℕ) → List Process → List ℕ
images_with images kept [] = kept
images_with images kept (process ∷ processes) =
    images_with images (kept ++ image_by images kept (length kept + 1) process.parent ∷ [])
    processes
