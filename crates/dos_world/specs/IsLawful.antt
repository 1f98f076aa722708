-- Whether a world is lawful, as a test that can be computed: so an opening and a worked example can
-- be shown to be. What it passes is lawful.
use Rattle.std.specs.Prelude.{ℕ, ◌+◌, ◌*◌, ◌%◌, ◌^◌, Bool, true, false, not, ◌&&◌, List, [], ◌∷◌}
use Rattle.std.specs.Prelude.{length, map, take, drop, Option, Some, None, option_and_then, is_some}
use Rattle.std.specs.Prelude.{◌==◌}
use Rattle.std.specs.Prelude.{nat_lt, nat_le, count_by, slice_index_or}
use Rattle.std.specs.List.{list_all}
use Rattle.dos_world.specs.Numbered.{numbered, run_of}
use Rattle.dos_world.specs.World.{World, Process, status_of, Holdings, Thread, Sleeper, Registers}
use Rattle.dos_world.specs.World.{holdings_of, all_holdings, live_process, thread_at, live_threads}
use Rattle.dos_world.specs.World.{threads_of, owner_of, is_free, is_state, has_bit, get, page_size}
use Rattle.dos_world.specs.World.{pipe_size}
use Rattle.dos_world.specs.Counts.{is_mapped, is_open, uses_of}
use Rattle.dos_world.specs.SignalCalls.{is_action}
use Rattle.dos_world.specs.Lawful.{turns_asleep}
use Rattle.dos_world.specs.declared.Entry.{Entry}
use Rattle.dos_world.specs.declared.Owner.{Owner}
use Rattle.dos_world.specs.declared.Owner.TheVariants.{Free, Shared, Of}
use Rattle.dos_world.specs.declared.End.{End}
use Rattle.dos_world.specs.declared.End.TheVariants.{Input, Output, Error, PipeRead, PipeWrite}
use Rattle.dos_world.specs.declared.ThreadState.TheVariants.{Asleep}

-- ---- lists

-- whether the test passes on each element and each later one
abbrev pub pairs_pass : {A : Type 0} → (A → A → Bool) → List A → Bool
pairs_pass test [] = true
pairs_pass test (x ∷ xs) = list_all (test x) xs && pairs_pass test xs

-- whether the test passes on each number below n
abbrev pub passes_below : ℕ → (ℕ → Bool) → Bool
passes_below n test = list_all test (run_of 0 n)

-- whether an option is none or passes
abbrev pub none_or : {A : Type 0} → (A → Bool) → Option A → Bool
none_or test None = true
none_or test (Some x) = test x

-- whether a list has nothing
abbrev pub is_empty : {A : Type 0} → List A → Bool
is_empty [] = true
is_empty (x ∷ xs) = false

-- whether both are true or both false
abbrev pub same_truth : Bool → Bool → Bool
same_truth true b = b
same_truth false b = not b

-- whether the first is false or the second true
abbrev pub if_then : Bool → Bool → Bool
if_then true b = b
if_then false b = true

-- ---- ranges

-- whether a number has 32 bits
abbrev pub is_word : ℕ → Bool
is_word n = nat_lt n (2 ^ 32)

-- whether a number has 8 bits
abbrev pub is_byte : ℕ → Bool
is_byte n = nat_lt n 256

-- whether signals may be pending: any but 0, which is no signal
abbrev pub is_pending : ℕ → Bool
is_pending set = is_word set && not (has_bit set 0)

-- whether a mask may hold these signals: any but 0 and 9
abbrev pub is_mask : ℕ → Bool
is_mask set = is_word set && (not (has_bit set 0) && not (has_bit set 9))

-- whether a descriptor's pipe, where it has one, is one of 64
abbrev pub is_end : Option End → Bool
is_end (Some (PipeRead pipe)) = nat_lt pipe 64
is_end (Some (PipeWrite pipe)) = nat_lt pipe 64
is_end (Some Input) = true
is_end (Some Output) = true
is_end (Some Error) = true
is_end None = true

-- whether an entry is of a page from 0x1000 to 0xEFFFFFFF, and its frame one of so many
abbrev pub is_page : ℕ → (ℕ × Entry) → Bool
is_page frames e = nat_le 0x1 e.0 && (nat_le e.0 0xEFFFF && nat_lt e.1.frame frames)

-- whether there are 32 registers of 32 bits, the first of which is 0, and pc and the reservation
-- have 32 bits
abbrev pub are_registers : Registers → Bool
are_registers r =
    is_word r.pc
    && ((length r.numbers == 32)
    && (list_all is_word r.numbers && ((get r 0 == 0) && none_or is_word r.held)))

-- whether a handler may have saved these registers and this mask
abbrev pub is_saved : (Registers × ℕ) → Bool
is_saved s = are_registers s.0 && is_mask s.1

-- whether a thread is in range, and one of these processes that lives
abbrev pub is_thread : List Process → Thread → Bool
is_thread processes thread =
    is_some (option_and_then holdings_of (numbered processes thread.process))
    && (are_registers thread.registers
    && (is_pending thread.pending
    && (is_mask thread.mask
    && (nat_le (length thread.saved) 4 && list_all is_saved thread.saved))))

-- whether what a process has is in range, where there are so many frames: no page twice and no
-- frame twice
abbrev pub are_holdings : ℕ → Holdings → Bool
are_holdings frames h =
    ((length h.actions == 31) && list_all is_action h.actions)
    && (((length h.descriptors == 32) && list_all is_end h.descriptors)
    && (pairs_pass nat_lt (map (λ e. e.0) h.space)
    && (list_all (is_page frames) h.space
    && pairs_pass (λ a b. not (a.1.frame == b.1.frame)) h.space)))

-- whether an entry, where it is private, is the only one of its frame
abbrev pub is_alone : World → (ℕ × Entry) → Bool
is_alone w e = if_then (not e.1.shared) (uses_of w e.1.frame == 1)

-- whether somebody sleeps on a word of one of so many frames
abbrev pub is_sleeper : ℕ → Sleeper → Bool
is_sleeper frames s = nat_lt s.frame frames && ((s.offset % 4 == 0) && nat_lt s.offset page_size)

-- whether a pipe may hold these bytes: at most 4096
abbrev pub is_pipe : List ℕ → Bool
is_pipe bytes = nat_le (length bytes) pipe_size && list_all is_byte bytes

-- ---- the world, topic by topic

-- whether each frame has its 4096 bytes
abbrev pub has_bytes : World → Bool
has_bytes w = (length w.bytes == page_size * length w.owners) && list_all is_byte w.bytes

-- whether a frame is Free exactly where nothing maps it
abbrev pub frees_unmapped : World → ℕ → Bool
frees_unmapped w frame = same_truth (is_free (owner_of w frame)) (not (is_mapped w frame))

-- whether each frame is zero where it is Free: those with these owners and bytes
abbrev pub are_zero_if_free : List Owner → List ℕ → Bool
are_zero_if_free [] bytes = true
are_zero_if_free (owner ∷ owners) bytes =
    if_then (is_free owner) (list_all (λ byte. byte == 0) (take page_size bytes))
    && are_zero_if_free owners (drop page_size bytes)

-- whether an owner's number was given, where so many were
abbrev pub is_owner : ℕ → Owner → Bool
is_owner threads Free = true
is_owner threads Shared = true
is_owner threads (Of t) = nat_le 1 t && nat_le t threads

-- whether a process, where it lives, has a live thread
abbrev pub has_thread : World → ℕ → Bool
has_thread w p = if_then (is_some (live_process w p)) (not (is_empty (threads_of w p)))

-- whether a process's parent has a lower number than it
abbrev pub has_lower_parent : World → ℕ → Bool
has_lower_parent w p = none_or (λ process. nat_lt process.parent p) (numbered w.processes p)

-- whether a thread stands in the queue once where it is asleep, and else not
abbrev pub sleeps_once : World → ℕ → Bool
sleeps_once w t = count_by (λ s. s.thread == t) w.sleepers == turns_asleep (thread_at w t)

-- whether who stands in the queue is a thread that is asleep
abbrev pub is_asleep : World → Sleeper → Bool
is_asleep w s = is_state Asleep (thread_at w s.thread)

-- whether a pipe is empty where it has no ends
abbrev pub is_empty_if_closed : World → ℕ → Bool
is_empty_if_closed w pipe =
    if_then (not (is_open w pipe)) (is_empty (slice_index_or w.pipes pipe []))

-- whether a status has 8 bits
abbrev pub has_status : Process → Bool
has_status process = nat_lt (status_of process) 256

-- frames
abbrev pub frames_are_lawful : World → Bool
frames_are_lawful w =
    has_bytes w
    && (passes_below (length w.owners) (frees_unmapped w)
    && (are_zero_if_free w.owners w.bytes
    && list_all (is_owner (length w.threads)) w.owners))

-- processes; numbers count from 1, so they are below their count and one more
abbrev pub processes_are_lawful : World → Bool
processes_are_lawful w =
    list_all (are_holdings (length w.owners)) (all_holdings w.processes)
    && (list_all (λ h. list_all (is_alone w) h.space) (all_holdings w.processes)
    && (passes_below (length w.processes + 1) (has_thread w)
    && (passes_below (length w.processes + 1) (has_lower_parent w)
    && ((nat_lt 0 (length w.processes) && nat_le (length w.processes) (length w.threads))
    && list_all has_status w.processes))))

-- threads
abbrev pub threads_are_lawful : World → Bool
threads_are_lawful w =
    passes_below (length w.threads + 1) (λ t. none_or (is_thread w.processes) (thread_at w t))
    && (passes_below (length w.threads + 1) (sleeps_once w)
    && (list_all (is_asleep w) w.sleepers && list_all (is_sleeper (length w.owners)) w.sleepers))

-- pipes
abbrev pub pipes_are_lawful : World → Bool
pipes_are_lawful w =
    ((length w.pipes == 64) && list_all is_pipe w.pipes) && passes_below 64 (is_empty_if_closed w)

-- the limits of a group
abbrev pub is_within_limits : World → Bool
is_within_limits w =
    (nat_le (length (live_threads w)) 64 && nat_le (length w.threads) 65535)
    && (nat_le (length (all_holdings w.processes)) 32
    && (nat_le 16 (length w.owners) && nat_le (length w.owners) 16384))

-- the limits of a run
abbrev pub is_within_run : ℕ → ℕ → Bool
is_within_run quantum rounds = (nat_le 16 quantum && nat_le quantum 65536) && nat_le rounds 1000000

-- all but the frames
abbrev pub is_lawful_but_for_frames : World → Bool
is_lawful_but_for_frames w =
    processes_are_lawful w
    && (threads_are_lawful w
    && (pipes_are_lawful w
    && (is_within_limits w && is_within_run w.quantum w.rounds)))

-- whether a world is lawful
abbrev pub is_lawful : World → Bool
is_lawful w = frames_are_lawful w && is_lawful_but_for_frames w
