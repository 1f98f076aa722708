-- The report of a run. This project's own texts.
use Rattle.std.specs.Prelude.{ℕ, List, map}
use Rattle.dos_world.specs.declared.Ending.{Ending}
use Rattle.dos_world.specs.World.{World}
use Rattle.dos_texts.specs.Report.{report_of}
use Rattle.flat_machine.specs.Machine.{Seen, status_in}

-- the report of the processes of a world, in which a run has ended so
abbrev pub report_in : World → Ending → List ℕ
report_in w ending = report_of (map status_in w.processes) w.rounds ending

-- the report of a run
abbrev pub report : Seen → List ℕ
report s = report_of s.statuses s.rounds s.ending
