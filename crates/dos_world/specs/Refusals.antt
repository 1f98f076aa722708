-- Which calls are refused, with which number, and what is left of them. This project's own rules;
-- error numbers are chosen after Linux's.
use Rattle.std.specs.Prelude.{ℕ, ◌%◌, Bool, true, false, not, ◌&&◌, ◌||◌, List, [], ◌∷◌, find}
use Rattle.std.specs.Prelude.{Option, Some, None, is_some, is_none, ◌==◌, nat_lt, nat_le}
use Rattle.std.specs.Prelude.{if◌then◌else◌}
use Rattle.dos_world.specs.Errors.{eagain, ebadf, echild, efault, einval, emfile, enomem, enosys}
use Rattle.dos_world.specs.Errors.{epipe, esrch}
use Rattle.dos_world.specs.World.{World, Thread, Registers, code_unit, first_of, entry_at}
use Rattle.dos_world.specs.World.{live_process, thread_at, space_of, with_registers, get}
use Rattle.dos_world.specs.Kernel.{minus, answered, has_reader, free_frames, all_reach, opened}
use Rattle.dos_world.specs.Calls.{Call, call_of}
use Rattle.dos_world.specs.ThreadCalls.{are_threads_full}
use Rattle.dos_world.specs.ProcessCalls.{are_processes_full, private_entries, children_where}
use Rattle.dos_world.specs.ProcessCalls.{any_process}
use Rattle.dos_world.specs.DescriptorCalls.{descriptor, free_descriptors, second_of, lowest_pipe}
use Rattle.dos_world.specs.DescriptorCalls.{count_of}
use Rattle.dos_world.specs.FutexCalls.{futex_word, is_off_word}
use Rattle.dos_world.specs.MemoryCalls.{is_range, is_no_range, maps_page, lacks_page, all_rights}
use Rattle.dos_world.specs.SignalCalls.{is_signal, is_action, saved_of, refused_in_place}
use Rattle.dos_world.specs.Services.{services}
use Rattle.dos_world.specs.declared.Access.{Access}
use Rattle.dos_world.specs.declared.Access.TheVariants.{Load, Store}
use Rattle.dos_world.specs.declared.End.{End}
use Rattle.dos_world.specs.declared.End.TheVariants.{Input, Output, Error, PipeRead, PipeWrite}

-- ---- conditions

-- whether no bytes can be read from what a descriptor names
abbrev pub is_unreadable : Option End → Bool
is_unreadable (Some Input) = false
is_unreadable (Some (PipeRead pipe)) = false
is_unreadable _ = true

-- whether none can be written to it
abbrev pub is_unwritable : Option End → Bool
is_unwritable (Some Output) = false
is_unwritable (Some Error) = false
is_unwritable (Some (PipeWrite pipe)) = false
is_unwritable _ = true

-- whether it is the writing end of a pipe that nobody reads
abbrev pub is_unread : World → Option End → Bool
is_unread w (Some (PipeWrite pipe)) = not (has_reader w pipe)
is_unread w _ = false

-- whether bytes are asked for
abbrev pub wants_bytes : Call → Bool
wants_bytes c = not (count_of c == 0)

-- whether one of them can't be reached so
abbrev pub lacks_byte : Access → Call → Bool
lacks_byte access c = wants_bytes c && not (all_reach c.world c.thread c.a1 (count_of c) access)

-- whether nobody reads what is to be written
abbrev pub lacks_reader : Call → Bool
lacks_reader c = wants_bytes c && is_unread c.world (descriptor c)

-- whether a0 names nothing that is open
abbrev pub is_closed : Call → Bool
is_closed c = is_none (descriptor c)

-- whether no descriptor is free
abbrev pub lacks_descriptor : Call → Bool
lacks_descriptor c = is_none (first_of (free_descriptors c))

-- whether fewer than two descriptors are free, or no pipe is
abbrev pub lacks_pipe : Call → Bool
lacks_pipe c = is_none (second_of (free_descriptors c)) || is_none (lowest_pipe c.world)

-- whether no process or no thread can be made
abbrev pub lacks_process : Call → Bool
lacks_process c = are_processes_full c.world.processes c.world.threads

-- whether there is no child that a0 names
abbrev pub lacks_child : Call → Bool
lacks_child c = is_none (first_of (children_where any_process c))

-- whether fewer frames are free than the space has private entries
abbrev pub lacks_frames : Call → Bool
lacks_frames c = nat_lt (free_frames c.world) (private_entries (space_of c.world c.process))

-- whether the page at a0 isn't mapped
abbrev pub is_unmapped : Call → Bool
is_unmapped c = is_none (entry_at c.world c.thread c.a0)

-- whether it is, and the word at a0 isn't a1
abbrev pub is_other_word : Call → Bool
is_other_word c =
    elim (entry_at c.world c.thread c.a0) [ None ↦ false | Some e ↦ not (futex_word e c == c.a1) ]

-- whether there is no range, or there are no such rights
abbrev pub is_no_map : Call → Bool
is_no_map c = not (is_range c && nat_le c.a2 all_rights)

-- whether no registers are saved
abbrev pub lacks_saved : Call → Bool
lacks_saved c = is_none (first_of (saved_of c))

-- whether there is no such signal or no such action
abbrev pub is_no_action : Call → Bool
is_no_action c = not (is_signal c.a0) || (c.a0 == 9) || not (is_action c.a1)

-- ---- the table

-- when a call is refused, with the error's number
abbrev pub Condition : Type 0
Condition = ℕ × (Call → Bool)

-- what unmap and share refuse
abbrev pub range_conditions : List Condition
range_conditions = (einval, is_no_range) ∷ (einval, lacks_page) ∷ []

-- the services that refuse, each with its conditions in the order in which they are tested
unfoldable pub refusals : List (ℕ × List Condition)
refusals = (
  3,
  (einval, λ c. not (c.a0 % code_unit == 0))
      ∷ (eagain, λ c. are_threads_full c.world.threads) ∷ [],
) ∷
    (4, (eagain, lacks_process) ∷ (enomem, lacks_frames) ∷ []) ∷
    (5, (echild, lacks_child) ∷ []) ∷ (6, (emfile, lacks_pipe) ∷ []) ∷
    (7, (ebadf, λ c. is_unreadable (descriptor c)) ∷ (efault, lacks_byte Store) ∷ []) ∷ (
      8,
      (ebadf, λ c. is_unwritable (descriptor c)) ∷ (efault, lacks_byte Load)
          ∷ (epipe, lacks_reader) ∷ [],
    ) ∷
    (9, (ebadf, is_closed) ∷ []) ∷ (10, (ebadf, is_closed) ∷ (emfile, lacks_descriptor) ∷ []) ∷
    (11, (einval, is_off_word) ∷ (efault, is_unmapped) ∷ (eagain, is_other_word) ∷ []) ∷
    (12, (einval, is_off_word) ∷ (efault, is_unmapped) ∷ []) ∷ (
      13,
      (einval, is_no_map) ∷ (einval, maps_page)
          ∷ (enomem, λ c. nat_lt (free_frames c.world) c.a1) ∷ [],
    ) ∷
    (14, range_conditions) ∷ (15, range_conditions) ∷
    (16, (einval, is_no_action) ∷ []) ∷ (18, (einval, lacks_saved) ∷ []) ∷
    (19, (einval, λ c. nat_lt 31 c.a1) ∷ (esrch, λ c. is_none (live_process c.world c.a0)) ∷ []) ∷
    []

-- the conditions of a row
abbrev pub conditions_by : Option (ℕ × List Condition) → List Condition
conditions_by None = []
conditions_by (Some row) = row.1

-- the conditions of a service, none where it has no row
abbrev pub conditions_of : ℕ → List Condition
conditions_of service = conditions_by (find (λ row. row.0 == service) refusals)

-- ---- the refusal of a call

-- the number of the first condition that holds
abbrev pub first_that_holds : List Condition → Call → Option ℕ
first_that_holds [] c = None
first_that_holds (row ∷ rows) c =
    let later : Option ℕ = first_that_holds rows c in if row.1 c then Some row.0 else later

-- whether there is a service of this number
abbrev pub is_service : ℕ → Bool
is_service number = is_some (find (λ row. row.0 == number) services)

-- the number with which a call of this service is refused, where it is: 38 where there is no such
-- service
abbrev pub refusal_of : ℕ → Call → Option ℕ
refusal_of service c =
    if is_service service then first_that_holds (conditions_of service) c else Some enosys

-- the same for a thread that lives
abbrev pub refusal_for : World → ℕ → Option Thread → Option ℕ
refusal_for w t None = None
refusal_for w t (Some thread) = refusal_of (get thread.registers 17) (call_of w t thread)

-- the number with which t's call would be refused now
abbrev pub call_refusal : World → ℕ → Option ℕ
call_refusal w t = refusal_for w t (thread_at w t)

-- ---- what is left of it

-- Before futex_wait's 11 the page of the word is granted. All other refusals come before anything
-- is granted.
abbrev pub granted_before : ℕ → ℕ → Call → World
granted_before service number c =
    if (number == 11) && (service == 11) then opened c.world c.thread c.a0 Load else c.world

-- a0 is minus the number, and pc is past the ecall, but for sig_return's 22, which leaves pc where
-- it is
abbrev pub refused_registers : ℕ → ℕ → Registers → Registers
refused_registers service number =
    if (number == 22) && (service == 18) then refused_in_place else answered (minus number)

-- the world in which a call of this service has been refused with this number
abbrev pub refused : ℕ → ℕ → Call → World
refused service number c =
    with_registers (granted_before service number c) c.thread (refused_registers service number)
