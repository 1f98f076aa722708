use Rattle.dos_world.specs.Lawful.{IsThread}
use Rattle.dos_laws.proofs.Mapped.{of_thread}
use Rattle.dos_laws.proofs.laws.threads_have_processes.Goals as goal

pub returns : goal.returns
returns c = λ w t thread l is.
    (of_thread (IsThread w.processes) w t thread l.threads.ranges is).process
