-- What stays the same of a process and a thread at all moments of a history: which thread a process
-- was born with, whose a thread is, and from which image a process comes. This project's own rule.
use Rattle.std.specs.Prelude.{ℕ, zero, suc, ◌==◌, Bool, false, List, Option, Some, None}
use Rattle.std.specs.Prelude.{find, is_some, option_and_then, option_map, nat_le, if◌then◌else◌}
use Rattle.dos_world.specs.Numbered.{numbered}
use Rattle.dos_world.specs.World.{Thread, process_at, thread_at, parent_of, first_thread}
use Rattle.group_moves.specs.Moments.{Moment}

-- whether this number is there
abbrev pub is_some_number : ℕ → Option ℕ → Bool
is_some_number n None = false
is_some_number n (Some k) = n == k

-- the first of these moments at which there is a process of this number, whether it lives or not
abbrev pub birth_of : List Moment → ℕ → Option Moment
birth_of moments p = find (λ m. is_some (process_at m.world p)) moments

-- The thread that a process was born with: its only one then.
abbrev pub birth_thread : List Moment → ℕ → Option ℕ
birth_thread moments p = option_and_then (λ m. first_thread m.world p) (birth_of moments p)

-- the first of these moments at which there is a thread of this number, whether it lives or not
abbrev pub birth_of_thread : List Moment → ℕ → Option Moment
birth_of_thread moments t = find (λ m. is_some (numbered m.world.threads t)) moments

-- The process of a thread: that in which it lives then.
abbrev pub home_of : List Moment → ℕ → Option ℕ
home_of moments t = option_and_then
    (λ m. option_map (λ (thread : Thread). thread.process) (thread_at m.world t))
    (birth_of_thread moments t)

-- The number of the image of a process, with so many images: a process that was forked has that of
-- its parent, whose number is lower, as it was born.
abbrev pub image_of_process : (most images : ℕ) → List Moment → ℕ → Option ℕ
image_of_process zero images moments p = None
image_of_process (suc most) images moments p =
    if nat_le p images then Some p
    else option_and_then (λ m. image_of_process most images moments (parent_of m.world p))
    (birth_of moments p)
