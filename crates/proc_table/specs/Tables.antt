-- What the table holds: the flat world's processes and threads, and the room of each space. This
-- project's own rules.
use Rattle.std.specs.Prelude.{◌≡◌, ◌⊎◌, ℕ, Bool, true, false, List, [], ◌∷◌, ◌++◌, map, find}
use Rattle.std.specs.Prelude.{replicate, Option, Some, None, IsSome, is_some, option_map}
use Rattle.std.specs.Prelude.{option_and_then, slice_get, unwrap_or, nat_lt}
use Rattle.dos_world.specs.Numbered.{numbered, changed, numbers_of}
pub use Rattle.dos_world.specs.World.{ran, with_budget}
use Rattle.dos_world.specs.World.{Process, Thread, Holdings, Registers, live, ended, flat}
use Rattle.dos_world.specs.World.{holdings_of, on_holdings}
use Rattle.dos_world.specs.Kernel.{unless_of, orphaned, ended_by}
use Rattle.dos_world.specs.SignalCalls.{restored}
use Rattle.dos_world.specs.declared.End.{End}
use Rattle.dos_world.specs.declared.Entry.{Entry}
use Rattle.space_map.specs.Mapping.{put_run, with_replaced, with_shared_run, without_run}

-- Processes and threads are numbered from 1. Each live process's space has room for so many
-- entries.
pub record Tables : Type 0 where
  pub processes : List Process
  pub threads : List (Option Thread)
  pub room : ℕ

-- no process and no thread
abbrev pub no_tables : ℕ → Tables
no_tables room = record { processes = []; threads = []; room = room }

-- the signals of a thread: those that are pending, its mask, and the saved registers and masks, the
-- last saved first
pub record Signals : Type 0 where
  pub pending : ℕ
  pub mask : ℕ
  pub saved : List (Registers × ℕ)

-- ---- looking up

-- the thread of this number, where it lives
abbrev pub thread_in : List (Option Thread) → ℕ → Option Thread
thread_in threads t = flat (numbered threads t)

abbrev pub IsLiveThread : List (Option Thread) → ℕ → Type 0
IsLiveThread threads t = IsSome (thread_in threads t)

-- what the process of this number has, where it lives
abbrev pub held_in : List Process → ℕ → Option Holdings
held_in processes p = option_and_then holdings_of (numbered processes p)

abbrev pub IsProcess : List Process → ℕ → Type 0
IsProcess processes p = IsSome (held_in processes p)

-- what a process may have as its parent: none, or one that lives
abbrev pub IsParent : List Process → ℕ → Type 0
IsParent processes p = (p ≡ 0) ⊎ IsProcess processes p

-- the status of a process that has ended
abbrev pub last_status : Process → Option ℕ
last_status process = elim process.life [ live h ↦ None | ended status collected ↦ Some status ]

-- what a descriptor names, where it is open
abbrev pub end_named : Holdings → ℕ → Option End
end_named h number = unwrap_or (slice_get h.descriptors number) None

-- the lowest live thread above a number
abbrev pub next_in : List (Option Thread) → ℕ → Option ℕ
next_in threads after = find (nat_lt after) (numbers_of is_some threads)

-- ---- changing

-- a process that begins: all actions default, no descriptor open, no page
abbrev pub new_process : ℕ → Process
new_process parent = record {
  parent = parent;
  life = live (record { actions = replicate 31 0; descriptors = replicate 32 None; space = [] });
}

-- a process that lives and has this
abbrev pub living_process : ℕ → Holdings → Process
living_process parent h = record { parent = parent; life = live h }

-- a process that has ended
abbrev pub ended_process : (parent : ℕ) → (status : ℕ) → (collected : Bool) → Process
ended_process parent status collected =
    record { parent = parent; life = ended status collected }

-- with one process more
abbrev pub process_restored : Tables → Process → Tables
process_restored t process = record t { processes = t.processes ++ process ∷ [] }

-- with one thread more
abbrev pub thread_added : Tables → Thread → Tables
thread_added t thread = record t { threads = t.threads ++ Some thread ∷ [] }

-- with one process more, and its first thread
abbrev pub process_added : Tables → Process → Thread → Tables
process_added t process thread =
    record t { processes = t.processes ++ process ∷ []; threads = t.threads ++ Some thread ∷ [] }

-- with a live thread changed by f
abbrev pub thread_by : (Thread → Thread) → Tables → ℕ → Tables
thread_by f t tid = record t { threads = changed (option_map f) t.threads tid }

-- whether anything is saved
abbrev pub are_any : List (Registers × ℕ) → Bool
are_any [] = false
are_any (last ∷ others) = true

-- with the last of what a live thread has saved come back, where anything is
abbrev pub restored_in : List (Registers × ℕ) → Tables → ℕ → Tables
restored_in [] t tid = t
restored_in (last ∷ others) t tid = thread_by (restored last others) t tid

-- with what a live process has changed by f
abbrev pub held_by : (Holdings → Holdings) → Tables → ℕ → Tables
held_by f t pid = record t { processes = changed (on_holdings f) t.processes pid }

-- The process has ended: its threads are gone, and its children have no parent.
abbrev pub with_ended : Tables → ℕ → ℕ → Tables
with_ended t pid status = record t {
  processes = map (orphaned pid) (changed (ended_by status) t.processes pid);
  threads = map (unless_of pid) t.threads;
}

-- what a process has, with no descriptor open
abbrev pub without_ends : Holdings → Holdings
without_ends h = record h { descriptors = replicate 32 None }

-- what a process has, with the actions and descriptors of another
abbrev pub held_as : Holdings → Holdings → Holdings
held_as other h = record other { space = h.space }

-- what a process has, with so many pages from this one on put, each with this entry
abbrev pub run_put : ℕ → ℕ → Entry → Holdings → Holdings
run_put page count entry h = record h { space = put_run page count entry h.space }

-- what a process has, with this entry in place of a page's
abbrev pub entry_replaced : ℕ → Entry → Holdings → Holdings
entry_replaced page entry h = record h { space = with_replaced page entry h.space }

-- what a process has, without so many pages from this one on
abbrev pub run_unmapped : ℕ → ℕ → Holdings → Holdings
run_unmapped page count h = record h { space = without_run page count h.space }

-- what a process has, with so many pages from this one on shared
abbrev pub run_shared : ℕ → ℕ → Holdings → Holdings
run_shared page count h = record h { space = with_shared_run page count h.space }
