-- The signal point of a round, and which waiting threads go on. This project's own rules; signal
-- numbers are chosen after Linux's.
use Rattle.std.specs.Prelude.{ℕ, ◌+◌, Bool, true, false, not, ◌&&◌, ◌||◌, List, [], ◌∷◌, length}
use Rattle.std.specs.Prelude.{filter, find, Option, Some, None, ◌==◌, nat_le, if◌then◌else◌}
use Rattle.dos_world.specs.Errors.{eintr}
use Rattle.dos_world.specs.Numbered.{numbers_of, run_of}
use Rattle.dos_world.specs.World.{World, Thread, live_threads, thread_at, action_of, is_state}
use Rattle.dos_world.specs.World.{in_state, with_thread, has_bit, with_bit, without_bit, set}
use Rattle.dos_world.specs.World.{with_pc}
use Rattle.dos_world.specs.Kernel.{minus, woken, posted, process_ended}
use Rattle.dos_world.specs.Play.{Play, done, ask}
use Rattle.dos_world.specs.Calls.{Served, went, waits, yields, gone}
use Rattle.dos_world.specs.Services.{service}
use Rattle.dos_world.specs.declared.Post.{Post}
use Rattle.dos_world.specs.declared.ThreadState.TheVariants.{Ready, Retry}

-- ---- posts

-- Each post goes to the lowest live thread of its process; where that doesn't live it is passed
-- over.
abbrev pub all_posted : World → List Post → World
all_posted w [] = w
all_posted w (post ∷ posts) = all_posted (posted w post.pid post.signal) posts

-- ---- one thread's turn

-- whether a signal is pending and not masked
abbrev pub may_come : Thread → ℕ → Bool
may_come thread signal = has_bit thread.pending signal && not (has_bit thread.mask signal)

-- 9 where it is pending, else the lowest pending signal that isn't masked
abbrev pub chosen : Thread → Option ℕ
chosen thread = if has_bit thread.pending 9 then Some 9 else find (may_come thread) (run_of 1 31)

-- a thread at which a signal isn't pending any more
abbrev pub cleared : ℕ → Thread → Thread
cleared signal thread = record thread { pending = without_bit thread.pending signal }

-- Registers and mask are saved, the signal is masked, and the handler begins with the signal in a0;
-- all other registers stay.
abbrev pub handling : ℕ → ℕ → Thread → Thread
handling signal handler thread = record (cleared signal thread) {
  saved = (thread.registers, thread.mask) ∷ thread.saved;
  mask = with_bit thread.mask signal;
  registers = with_pc (set thread.registers 10 signal) handler;
}

-- A thread that waits or sleeps first gets -4 in a0, and is ready.
abbrev pub interrupted : World → ℕ → Thread → World
interrupted w t thread = if is_state Ready (Some thread) then w else woken w t (minus eintr)

-- The default action: 17 is dropped; any other signal ends the process with status 128 plus its
-- number.
abbrev pub default_action : World → ℕ → Thread → ℕ → World
default_action w t thread signal =
    if signal == 17 then with_thread w t (cleared 17)
    else process_ended w thread.process (128 + signal)

-- A handler: where four are saved already, the signal stays pending.
abbrev pub handler_action : World → ℕ → Thread → ℕ → ℕ → World
handler_action w t thread signal handler =
    if nat_le 4 (length thread.saved) then w
    else with_thread (interrupted w t thread) t (handling signal handler)

-- A signal comes to t. Signal 9 has the default action, whatever was set; action 1 drops the
-- signal, and a wait goes on.
abbrev pub delivered : World → ℕ → Thread → ℕ → World
delivered w t thread signal =
    let action : ℕ = action_of w thread.process signal in
    if (action == 0) || (signal == 9) then default_action w t thread signal
    else (if action == 1 then with_thread w t (cleared signal)
    else handler_action w t thread signal action)

-- t's turn by the thread that it is now, and by the signal that it chooses: without one nothing
-- happens
abbrev pub turn_by : World → ℕ → Option Thread → World
turn_by w t None = w
turn_by w t (Some thread) =
    elim (chosen thread) [ None ↦ w | Some signal ↦ delivered w t thread signal ]

-- t's turn, with what is pending as it comes
abbrev pub signal_turn : World → ℕ → World
signal_turn w t = turn_by w t (thread_at w t)

-- the turns of these threads, one after another
abbrev pub signal_turns : World → List ℕ → World
signal_turns w [] = w
signal_turns w (t ∷ ts) = signal_turns (signal_turn w t) ts

-- The signal point: first the posts, then the live threads in rising number.
abbrev pub signalled : World → List Post → World
signalled w posts =
    let after_posts : World = all_posted w posts in
    signal_turns after_posts (live_threads after_posts)

-- ---- waiting threads

-- whether a service left its thread waiting
abbrev pub is_wait : Served → Bool
is_wait (went w) = false
is_wait (waits w) = true
is_wait (yields w) = false
is_wait (gone w) = false

-- whether what may ask the shim waits; to ask isn't to wait
abbrev pub play_waits : Play Served → Bool
play_waits (done served) = is_wait served
play_waits (ask question output error next) = false

-- whether t's service would wait now
abbrev pub would_wait : World → ℕ → Bool
would_wait w t = play_waits (service w t)

-- the world in which these threads are ready
abbrev pub made_ready : World → List ℕ → World
made_ready w [] = w
made_ready w (t ∷ ts) = made_ready (with_thread w t (in_state Ready)) ts

-- Each thread in Retry whose service would not wait becomes ready. All of them look at this one
-- world.
abbrev pub ripen : World → World
ripen w = made_ready w (filter (λ t. not (would_wait w t)) (numbers_of (is_state Retry) w.threads))
