-- The services of a thread that sleeps on a word: futex_wait and futex_wake. This project's own,
-- after Linux's.
use Rattle.std.specs.Prelude.{ℕ, ◌+◌, ◌*◌, ◌%◌, Bool, not, ◌&&◌, List, [], ◌∷◌, ◌++◌, length, map}
use Rattle.std.specs.Prelude.{filter, take, Option, Some, None, ◌==◌, if◌then◌else◌}
use Rattle.dos_world.specs.Errors.{eagain, efault, einval}
use Rattle.dos_world.specs.World.{World, Entry, Sleeper, entry_at, with_thread, in_state, page_size}
use Rattle.dos_world.specs.Bytes.{loaded}
use Rattle.dos_world.specs.Kernel.{woken, opened}
use Rattle.dos_world.specs.Play.{done}
use Rattle.dos_world.specs.Calls.{Service, Call, waits, returns_in, refuses, refuses_in}
use Rattle.dos_world.specs.declared.Access.TheVariants.{Load}
use Rattle.dos_world.specs.declared.ThreadState.TheVariants.{Asleep}

-- whether a0 is no place of a word
abbrev pub is_off_word : Call → Bool
is_off_word c = not (c.a0 % 4 == 0)

-- what a service of the word at a0 does by the entry of its page: refusal 14 where it isn't mapped
abbrev pub by_entry : (Entry → Service) → Option Entry → Service
by_entry service None c = refuses efault c
by_entry service (Some e) c = service e c

-- a service of the word at a0: refusal 22 where there is none
abbrev pub at_word : (Entry → Service) → Service
at_word service c =
    if is_off_word c then refuses einval c else by_entry service (entry_at c.world c.thread c.a0) c

-- t sleeps, last in the queue, on the word at a0
abbrev pub asleep_at : World → Entry → Call → World
asleep_at w e c =
    let place : ℕ = c.a0 % page_size in
    let sleeper : Sleeper = record { thread = c.thread; frame = e.frame; offset = place } in
    record (with_thread w c.thread (in_state Asleep)) { sleepers = w.sleepers ++ sleeper ∷ [] }

-- the word at a0
abbrev pub futex_word : Entry → Call → ℕ
futex_word e c = loaded c.world (page_size * e.frame + c.a0 % page_size) 4

-- The word is read, its page granted for Load. Refusal 11 where it isn't a1; else the thread
-- sleeps.
abbrev pub futex_wait_at : Entry → Service
futex_wait_at e c =
    let w : World = opened c.world c.thread c.a0 Load in
    if futex_word e c == c.a1 then done (waits (asleep_at w e c)) else refuses_in w eagain c

-- 11: The thread sleeps on the word at a0 as long as it is a1.
abbrev pub futex_wait : Service
futex_wait c = at_word futex_wait_at c

-- whether somebody sleeps on the word at an address of this page
abbrev pub sleeps_at : Entry → ℕ → Sleeper → Bool
sleeps_at e address s = (s.frame == e.frame) && (s.offset == address % page_size)

-- the world in which these threads wake, each with 0
abbrev pub all_woken : World → List ℕ → World
all_woken w [] = w
all_woken w (t ∷ ts) = all_woken (woken w t 0) ts

-- who sleeps on the word at a0, at most a1 of them, in the order of the queue
abbrev pub sleepers_at : Entry → Call → List ℕ
sleepers_at e c = take c.a1 (map (λ s. s.thread) (filter (sleeps_at e c.a0) c.world.sleepers))

-- Those wake; their number. Nothing is granted.
abbrev pub futex_wake_at : Entry → Service
futex_wake_at e c = returns_in (all_woken c.world (sleepers_at e c)) (length (sleepers_at e c)) c

-- 12: At most a1 of the threads that sleep on the word at a0 wake.
abbrev pub futex_wake : Service
futex_wake c = at_word futex_wake_at c
