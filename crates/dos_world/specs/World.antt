-- The flat world: a group of processes and threads as plain data. All rules here are this project's
-- own.
use Rattle.std.specs.Prelude.{ℕ, ◌-◌, ◌*◌, ◌/◌, Bool, true, false, not, ◌&&◌, List, [], ◌∷◌, take}
use Rattle.std.specs.Prelude.{drop, find, Option, Some, None, is_some, option_map, option_and_then}
use Rattle.std.specs.Prelude.{◌==◌, slice_get, slice_index_or, slice_index}
use Rattle.dos_world.specs.Numbered.{numbered, changed, numbers_of}
use Rattle.dos_world.specs.declared.Owner.{Owner}
use Rattle.dos_world.specs.declared.Owner.TheVariants.{Free, Shared, Of}
use Rattle.dos_world.specs.declared.ThreadState.{ThreadState}
use Rattle.dos_world.specs.declared.ThreadState.TheVariants.{Ready, Retry, Asleep}
use Rattle.dos_world.specs.declared.End.{End}
pub use Rattle.dos_world.specs.declared.Entry.{Entry}
pub use Rattle.dos_world.specs.Registers.{Registers, get, set, with_pc, with_held, blank, released}
pub use Rattle.dos_world.specs.Registers.{past}
pub use Rattle.dos_world.specs.SignalSet.{has_bit, with_bit, without_bit, allowed_mask}

-- ---- the parts

-- what a live process has: the actions of the signals 1 to 31, 32 descriptors, and its pages in
-- rising order
pub record Holdings : Type 0 where
  pub actions : List ℕ
  pub descriptors : List (Option End)
  pub space : List (ℕ × Entry)

-- Of a process that has ended its status stays, and whether its parent has collected it.
pub data Life : Type 0 where
  live : Holdings → Life
  ended : (status : ℕ) → (collected : Bool) → Life

-- a process; parent 0 is none
pub record Process : Type 0 where
  pub parent : ℕ
  pub life : Life

-- A thread. Pending and mask are sets of signals; of the saved registers and masks the last saved
-- stand first.
pub record Thread : Type 0 where
  pub process : ℕ
  pub registers : Registers
  pub budget : ℕ
  pub state : ThreadState
  pub pending : ℕ
  pub mask : ℕ
  pub saved : List (Registers × ℕ)

-- who sleeps on which word: a frame and an offset in it
pub record Sleeper : Type 0 where
  pub thread : ℕ
  pub frame : ℕ
  pub offset : ℕ

-- Frame f is the stretch of 4096 bytes from 4096 * f, and has one owner. Processes and threads are
-- numbered from 1; a thread that is gone is None.
-- Rounds counts those that were run; output and error are the bytes sent so far.
pub record World : Type 0 where
  pub bytes : List ℕ
  pub owners : List Owner
  pub processes : List Process
  pub threads : List (Option Thread)
  pub pipes : List (List ℕ)
  pub sleepers : List Sleeper
  pub rounds : ℕ
  pub quantum : ℕ
  pub output : List ℕ
  pub error : List ℕ

-- What the address of an instruction is a multiple of: IALIGN, in bytes, with the extension C.
-- RISC-V unprivileged manual, edition 20191213, section 1.5.
abbrev pub code_unit : ℕ
code_unit = 2

-- how many bytes a page and a frame have, and how many a pipe holds at most
abbrev pub page_size : ℕ
page_size = 4096

abbrev pub pipe_size : ℕ
pipe_size = 4096

-- ---- processes

-- the process of this number
abbrev pub process_at : World → ℕ → Option Process
process_at w p = numbered w.processes p

-- what a process has, where it lives
abbrev pub holdings_of : Process → Option Holdings
holdings_of process = elim process.life [ live h ↦ Some h | ended status collected ↦ None ]

-- what the process of this number has, where it lives
abbrev pub live_process : World → ℕ → Option Holdings
live_process w p = option_and_then holdings_of (process_at w p)

-- what the live processes have, in rising number
abbrev pub all_holdings : List Process → List Holdings
all_holdings [] = []
all_holdings (p ∷ ps) =
    elim (holdings_of p) [ None ↦ all_holdings ps | Some h ↦ h ∷ all_holdings ps ]

-- whether a process has ended
abbrev pub has_ended : Process → Bool
has_ended process = elim process.life [ live h ↦ false | ended status collected ↦ true ]

-- whether a process has ended and its parent has collected it
abbrev pub was_collected : Process → Bool
was_collected process = elim process.life [ live h ↦ false | ended status collected ↦ collected ]

-- A child is a process of this parent that wasn't collected.
abbrev pub is_child : ℕ → Process → Bool
is_child parent process = (process.parent == parent) && not (was_collected process)

-- the status of a process that has ended
abbrev pub status_of : Process → ℕ
status_of process = elim process.life [ live h ↦ 0 | ended status collected ↦ status ]

-- a process's number of its parent, 0 where it has none
abbrev pub parent_of : World → ℕ → ℕ
parent_of w p = elim (process_at w p) [ None ↦ 0 | Some process ↦ process.parent ]

-- the action of a signal from 1 to 31
abbrev pub action_of : World → ℕ → ℕ → ℕ
action_of w p signal =
    elim (live_process w p) [ None ↦ 0 | Some h ↦ slice_index h.actions (signal - 1) ]

-- ---- threads

-- an option in an option, as one
abbrev pub flat : {A : Type 0} → Option (Option A) → Option A
flat None = None
flat (Some x) = x

-- the thread of this number, where it lives
abbrev pub thread_at : World → ℕ → Option Thread
thread_at w t = flat (numbered w.threads t)

-- the numbers of the live threads, in rising order
abbrev pub live_threads : World → List ℕ
live_threads w = numbers_of is_some w.threads

-- whether a thread lives and is in this state
abbrev pub is_state : ThreadState → Option Thread → Bool
is_state state None = false
is_state state (Some thread) = same state thread.state
  where
    same : ThreadState → ThreadState → Bool
    same Ready Ready = true
    same Retry Retry = true
    same Asleep Asleep = true
    same _ _ = false

-- the numbers of the ready threads, in rising order
abbrev pub ready_threads : World → List ℕ
ready_threads w = numbers_of (is_state Ready) w.threads

-- whether a thread lives and is this process's
abbrev pub belongs_to : ℕ → Option Thread → Bool
belongs_to p None = false
belongs_to p (Some thread) = thread.process == p

-- the numbers of a process's live threads, in rising order
abbrev pub threads_of : World → ℕ → List ℕ
threads_of w p = numbers_of (belongs_to p) w.threads

-- the first of a list
abbrev pub first_of : {A : Type 0} → List A → Option A
first_of xs = slice_get xs 0

-- a process's lowest live thread
abbrev pub first_thread : World → ℕ → Option ℕ
first_thread w p = first_of (threads_of w p)

-- ---- pages and frames

-- the entry of a page in a space
abbrev pub look : List (ℕ × Entry) → ℕ → Option Entry
look space page = option_map (λ e. e.1) (find (λ e. e.0 == page) space)

-- the space of a live process
abbrev pub space_of : World → ℕ → List (ℕ × Entry)
space_of w p = elim (live_process w p) [ None ↦ [] | Some h ↦ h.space ]

-- t's entry of the page that an address lies in
abbrev pub entry_at : World → ℕ → ℕ → Option Entry
entry_at w t address =
    elim (thread_at w t)
    [ None ↦ None | Some thread ↦ look (space_of w thread.process) (address / page_size) ]

-- the owner of a frame
abbrev pub owner_of : World → ℕ → Owner
owner_of w frame = slice_index_or w.owners frame Free

-- whether an owner is none
abbrev pub is_free : Owner → Bool
is_free Free = true
is_free Shared = false
is_free (Of t) = false

-- the 4096 bytes of a frame
abbrev pub page_of : List ℕ → ℕ → List ℕ
page_of bytes frame = take page_size (drop (page_size * frame) bytes)

-- ---- changing

-- thread t changed by f
abbrev pub with_thread : World → ℕ → (Thread → Thread) → World
with_thread w t f = record w { threads = changed (option_map f) w.threads t }

-- nothing, whatever was there
abbrev pub none_of : {A : Type 0} → Option A → Option A
none_of x = None

-- thread t gone
abbrev pub without_thread : World → ℕ → World
without_thread w t = record w { threads = changed none_of w.threads t }

-- a thread with its registers changed by f
abbrev pub registers_by : (Registers → Registers) → Thread → Thread
registers_by f thread = record thread { registers = f thread.registers }

-- a thread with this budget
abbrev pub with_budget : ℕ → Thread → Thread
with_budget budget thread = record thread { budget = budget }

-- a thread with these registers and this budget, as its instructions have left it
abbrev pub ran : Registers → ℕ → Thread → Thread
ran registers budget thread = record thread { registers = registers; budget = budget }

-- t's registers changed by f
abbrev pub with_registers : World → ℕ → (Registers → Registers) → World
with_registers w t f = with_thread w t (registers_by f)

-- a thread in another state
abbrev pub in_state : ThreadState → Thread → Thread
in_state state thread = record thread { state = state }

-- a life with what it has changed by f, where it is one
abbrev pub live_changed : (Holdings → Holdings) → Life → Life
live_changed f (live h) = live (f h)
live_changed f (ended s c) = ended s c

-- a process with what it has changed by f
abbrev pub on_holdings : (Holdings → Holdings) → Process → Process
on_holdings f process = record process { life = live_changed f process.life }

-- what process p has changed by f
abbrev pub with_holdings : World → ℕ → (Holdings → Holdings) → World
with_holdings w p f = record w { processes = changed (on_holdings f) w.processes p }
