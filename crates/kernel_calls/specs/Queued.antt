-- Who sleeps on a word, and how they wake. This project's own rules.
use Rattle.std.specs.Prelude.{◌≡◌, ◌≤◌, ℕ, List, length, map, filter, take, Option, All, count_by}
use Rattle.std.specs.Prelude.{◌==◌}
use Rattle.dos_world.specs.FutexCalls.{all_woken}
use Rattle.dos_world.specs.World.{World, Thread, Sleeper}
use Rattle.kernel_objects.specs.Queue.{sleeps_on}
use Rattle.proc_table.specs.Tables.{Tables, IsLiveThread}

-- who sleeps on a word, in the order of the queue
abbrev pub threads_on : ℕ → ℕ → List Sleeper → List ℕ
threads_on frame offset queue = map (λ s. s.thread) (filter (sleeps_on frame offset) queue)

-- Who sleeps lives, and stands in the queue once.
pub record AreQueued (threads : List (Option Thread)) (queue : List Sleeper) : Type 0 where
  pub live : All (λ s. IsLiveThread threads s.thread) queue
  pub once : (t : ℕ) → count_by (λ s. s.thread == t) queue ≤ 1

-- the world with the processes and threads of this table, and these sleepers
abbrev pub queued : World → Tables → List Sleeper → World
queued w table queue = record w {
  processes = table.processes;
  threads = table.threads;
  sleepers = queue;
}

-- The first of those that sleep on a word wake, at most so many of them; the number is how many.
pub record AreWoken (frame offset most : ℕ) (old : Tables) (old_queue : List Sleeper)
    (number : ℕ) (new : Tables) (new_queue : List Sleeper) : Type 0 where
  pub wakes : (w : World)
      → all_woken (queued w old old_queue) (take most (threads_on frame offset old_queue))
      ≡ queued w new new_queue
  pub count : number ≡ length (take most (threads_on frame offset old_queue))
  pub lives : (t : ℕ) → IsLiveThread old.threads t → IsLiveThread new.threads t
  pub processes : new.processes ≡ old.processes
  pub room : new.room ≡ old.room
