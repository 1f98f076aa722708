-- What holds of a lawful world beside the ranges of its parts: how the parts agree. This project's
-- own rules.
use Rattle.std.specs.Prelude.{ℕ, suc, ◌≡◌, ◌≢◌, ◌↔◌, ◌<◌, ◌≤◌, Bool, true, ◌&&◌, ◌||◌, List}
use Rattle.std.specs.Prelude.{[]}
use Rattle.std.specs.Prelude.{◌∷◌, length, map, All, AllPairs, IsTrue, IsFalse, IfSome, is_some}
use Rattle.std.specs.Prelude.{option_and_then, count_by, slice_index, slice_index_or, ◌==◌, nat_lt}
use Rattle.std.specs.Prelude.{if◌then◌else◌, Option, Some, not, nat_le, replicate}
use Rattle.std.specs.List.{list_all, list_any}
use Rattle.dos_world.specs.Numbered.{numbered}
use Rattle.dos_world.specs.World.{World, holdings_of, all_holdings, live_process}
use Rattle.dos_world.specs.World.{thread_at}
use Rattle.dos_world.specs.World.{threads_of, owner_of, is_free, is_state}
use Rattle.dos_world.specs.Counts.{is_mapped, is_open, reads_pipe, writes_pipe}
use Rattle.dos_world.specs.Lawful.{IsAlone, turns_asleep}
use Rattle.dos_world.specs.IsLawful.{same_truth}
use Rattle.dos_world.specs.declared.Entry.{Entry}
use Rattle.dos_world.specs.declared.Owner.{Owner}
use Rattle.dos_world.specs.declared.Owner.TheVariants.{Free}
use Rattle.dos_world.specs.declared.End.{End}
use Rattle.dos_world.specs.declared.ThreadState.TheVariants.{Asleep}
use Rattle.group_text.specs.declared.records.ProcessRecord.{ProcessRecord}
use Rattle.group_text.specs.declared.records.ThreadRecord.{ThreadRecord}
use Rattle.group_text.specs.Records.{process_of_record, thread_of_record, sleeper_of_record}
use Rattle.proc_table.specs.Spread.{spread}
use Rattle.lawful_groups.specs.Apart.{are_all_apart}
use Rattle.group_text.specs.declared.records.SleeperRecord.{SleeperRecord}

-- ---- the promise

-- Each field is one of `Lawful`'s, or follows from one.
pub record PartsAgree (w : World) : Type 0 where
  -- a frame is Free exactly where nothing maps it
  pub free : (frame : ℕ) → frame < length w.owners
      → (owner_of w frame ≡ Free) ↔ IsFalse (is_mapped w frame)
  -- no process has a frame twice
  pub apart : All (λ h. AllPairs (λ a b. a.1.frame ≢ b.1.frame) h.space) (all_holdings w.processes)
  -- a private entry is the only one of its frame
  pub private : All (λ h. All (IsAlone w) h.space) (all_holdings w.processes)
  -- a live process has a live thread
  pub populated : (p : ℕ) → IsTrue (is_some (live_process w p)) → threads_of w p ≢ []
  -- a parent's number is below its child's
  pub parents : (p : ℕ) → IfSome (numbered w.processes p) (λ process. process.parent < p)
  -- each process was made with a thread
  pub numbers : length w.processes ≤ length w.threads
  -- a live thread's process lives
  pub living : (t : ℕ) → IfSome (thread_at w t) (λ thread. IsTrue (is_some (live_process w
      thread.process)))
  -- who is asleep stands in the queue once, and nobody else does
  pub asleep : (t : ℕ) → count_by (λ s. s.thread == t) w.sleepers ≡ turns_asleep (thread_at w t)
  -- a pipe without ends is empty
  pub closed : (pipe : ℕ) → IsFalse (is_open w pipe) → slice_index_or w.pipes pipe [] ≡ []
  -- 32 live processes at most
  pub few : length (all_holdings w.processes) ≤ 32

-- ---- what is looked at

-- the world of these parts, as far as they go
abbrev pub world_of_parts : List Owner → List ProcessRecord → ℕ → List ThreadRecord
    → List (List ℕ) → List SleeperRecord → World
world_of_parts owners processes given threads pipes sleepers = record {
  bytes = [];
  owners = owners;
  processes = map process_of_record processes;
  threads = spread (map thread_of_record threads) given;
  pipes = pipes;
  sleepers = map sleeper_of_record sleepers;
  rounds = 0;
  quantum = 0;
  output = [];
  error = [];
}

-- ---- how each is tested

-- frames: whether each is Free exactly where it has no use
abbrev pub frees_match : List Owner → List ℕ → Bool
frees_match [] uses = true
frees_match (o ∷ owners) [] = true
frees_match (o ∷ owners) (u ∷ uses) = same_truth (is_free o) (u == 0) && frees_match owners uses

-- whether an entry is shared, or the only one of its frame
abbrev pub is_alone_by : List ℕ → ℕ × Entry → Bool
is_alone_by uses e = e.1.shared || (slice_index uses e.1.frame == 1)

abbrev pub are_alone : List ℕ → ProcessRecord → Bool
are_alone uses r = is_some r.status || list_all (is_alone_by uses) r.pages.items

-- how many processes live
abbrev pub living_processes : List ProcessRecord → ℕ
living_processes [] = 0
living_processes (r ∷ rs) =
    if is_some r.status then living_processes rs else suc (living_processes rs)

-- whether each parent's number is below its child's, the first of which has number p
abbrev pub parents_below : ℕ → List ProcessRecord → Bool
parents_below p [] = true
parents_below p (r ∷ rs) = nat_lt r.parent p && parents_below (suc p) rs

-- whether a thread is the process's
abbrev pub has_thread_in : List ThreadRecord → ℕ → Bool
has_thread_in threads p = list_any (λ t. t.pid == p) threads

-- whether each process that lives has a thread
abbrev pub all_populated : List ThreadRecord → ℕ → List ProcessRecord → Bool
all_populated threads p [] = true
all_populated threads p (r ∷ rs) =
    (is_some r.status || has_thread_in threads p) && all_populated threads (suc p) rs

-- whether the process of a number lives
abbrev pub lives_in : List ProcessRecord → ℕ → Bool
lives_in rs p = is_some (option_and_then holdings_of (numbered (map process_of_record rs) p))

-- whether a thread stands in the queue once where it is asleep, and else not
abbrev pub sleeps_once_in : List SleeperRecord → ThreadRecord → Bool
sleeps_once_in sleepers t = count_by (λ s. s.tid == t.tid) sleepers
    == (if is_state Asleep (Some (thread_of_record t).1) then 1 else 0)

-- whether who stands in the queue is a thread that lives
abbrev pub is_thread_in : List ThreadRecord → SleeperRecord → Bool
is_thread_in threads s = list_any (λ t. t.tid == s.tid) threads

-- whether a process that lives has an end of a pipe
abbrev pub is_end_of : ℕ → Option End → Bool
is_end_of pipe e = reads_pipe pipe e || writes_pipe pipe e

abbrev pub has_end_of : ℕ → ProcessRecord → Bool
has_end_of pipe r = not (is_some r.status) && list_any (is_end_of pipe) r.ends.items

-- whether each pipe is empty or has an end, the first of which has this number
abbrev pub pipes_match : List ProcessRecord → ℕ → List (List ℕ) → Bool
pipes_match rs pipe [] = true
pipes_match rs pipe (bytes ∷ pipes) =
    ((length bytes == 0) || list_any (has_end_of pipe) rs) && pipes_match rs (suc pipe) pipes

-- whether the parts agree, where uses are how often each frame is used
abbrev pub agree_test : List Owner → List ℕ → List ProcessRecord → ℕ → List ThreadRecord
    → List (List ℕ) → List SleeperRecord → Bool
agree_test owners uses processes given threads pipes sleepers =
    nat_le (length processes) given
    && (nat_le (living_processes processes) 32
    && (parents_below 1 processes
    && (all_populated threads 1 processes
    && (list_all (λ t. lives_in processes t.pid) threads
    && (list_all (sleeps_once_in sleepers) threads
    && (list_all (is_thread_in threads) sleepers
    && (are_all_apart (replicate (length owners) 0) 1 processes
    && (frees_match owners uses
    && (list_all (are_alone uses) processes
    && pipes_match processes 0 pipes)))))))))
