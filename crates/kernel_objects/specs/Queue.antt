-- Who sleeps on which word, in the order in which they came. This project's own rules.
use Rattle.std.specs.Prelude.{◌≤◌, ℕ, Bool, ◌&&◌, List, length, find, Option, option_map, ◌==◌}
use Rattle.dos_world.specs.World.{Sleeper}

-- whether somebody sleeps on this word
abbrev pub sleeps_on : ℕ → ℕ → Sleeper → Bool
sleeps_on frame offset s = (s.frame == frame) && (s.offset == offset)

-- the first that sleeps on this word
abbrev pub first_on : List Sleeper → ℕ → ℕ → Option ℕ
first_on sleepers frame offset = option_map (λ s. s.thread) (find (sleeps_on frame offset) sleepers)

-- the sleeper of a thread, a frame and an offset in it
abbrev pub sleeper_of : ℕ × ℕ × ℕ → Sleeper
sleeper_of e = record { thread = e.0; frame = e.1; offset = e.2 }

-- at most 64 sleep, and their memory was taken
pub record IsQueueTaken (sleepers : List Sleeper) (capacity : ℕ) : Type 0 where
  pub few : length sleepers ≤ 64
  pub taken : 64 ≤ capacity
