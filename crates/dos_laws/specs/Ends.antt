-- What the end of a process leaves, before frames and pipes are looked at. This project's own rule.
use Rattle.std.specs.Prelude.{ℕ, List, map, filter}
use Rattle.dos_world.specs.Numbered.{changed}
use Rattle.dos_world.specs.World.{World, Process, threads_of}
use Rattle.dos_world.specs.Kernel.{orphaned, ended_by, unless_of, is_none_of_these}

-- the processes after the end of p with this status
abbrev pub ended_processes : List Process → ℕ → ℕ → List Process
ended_processes processes p status = map (orphaned p) (changed (ended_by status) processes p)

-- the world without a process and its threads, whose frames it still owns
abbrev pub without_process : World → ℕ → ℕ → World
without_process w p status = record w {
  processes = ended_processes w.processes p status;
  threads = map (unless_of p) w.threads;
  sleepers = filter (is_none_of_these (threads_of w p)) w.sleepers;
}
