-- The children of a process, and what a wait for them comes to. This project's own rules.
use Rattle.std.specs.Prelude.{ℕ, Bool, ◌&&◌, ◌||◌, List, filter, Option, Some, None, ◌==◌}
use Rattle.dos_world.specs.Numbered.{numbered, changed, numbers_of}
use Rattle.dos_world.specs.World.{Process, first_of, has_ended, is_child, status_of}
use Rattle.dos_world.specs.ProcessCalls.{any_process, collected_by}
use Rattle.proc_table.specs.declared.collected.Collected.{Collected}
use Rattle.proc_table.specs.declared.collected.Collected.TheVariants.{Got, Wait, NoChild}

-- The children of a process that a number names (0 names all) and that pass the test, in rising
-- number.
abbrev pub children_in : (Process → Bool) → List Process → ℕ → ℕ → List ℕ
children_in test processes parent which =
    filter (λ p. (which == 0) || (which == p))
    (numbers_of (λ process. is_child parent process && test process) processes)

-- the status of a process that has ended
abbrev pub status_of_ended : List Process → ℕ → ℕ
status_of_ended processes p =
    elim (numbered processes p) [ None ↦ 0 | Some process ↦ status_of process ]

abbrev pub outcome_by : Option ℕ → Option ℕ → List Process → Collected
outcome_by None _ processes = NoChild
outcome_by (Some any) None processes = Wait
outcome_by (Some any) (Some p) processes = Got p (status_of_ended processes p)

-- What a wait comes to: by the first child, and by the first that has ended.
abbrev pub outcome : List Process → ℕ → ℕ → Collected
outcome processes parent which =
    outcome_by (first_of (children_in any_process processes parent which))
    (first_of (children_in has_ended processes parent which)) processes

-- with the child collected that was got
abbrev pub after_wait : Collected → List Process → List Process
after_wait (Got p status) processes = changed collected_by processes p
after_wait Wait processes = processes
after_wait NoChild processes = processes
