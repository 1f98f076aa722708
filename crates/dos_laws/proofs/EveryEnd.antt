-- The end of a process, and of a thread that is ready, leaves every lawful world lawful: such a
-- world stands where nobody has a part left.
use Rattle.std.proofs.Common.{ℕ, ◌<◌, ◌≡◌, ap, [], Some}
use Rattle.dos_world.specs.World.{World, Thread, thread_at}
use Rattle.dos_world.specs.Kernel.{process_ended, thread_ended}
use Rattle.dos_world.specs.Lawful.{Lawful, turns_asleep}
use Rattle.dos_world.specs.declared.ThreadState.TheVariants.{Ready}
use Rattle.dos_laws.specs.Standing.{LawfulWith}
use Rattle.dos_laws.proofs.StandsEnds.{stands-process_ended, stands-thread_ended}

stands_alone : (w : World) → Lawful w → LawfulWith [] w
stands_alone w l = record { lawful = l; awake = tt; apart = tt }

pub lawful-process_ended : (w : World) (p status : ℕ) → status < 256 → Lawful w
    → Lawful (process_ended w p status)
lawful-process_ended w p status small l =
    (stands-process_ended [] w p status small (stands_alone w l)).lawful

-- one that is ready, as each is that is served
pub lawful-thread_ended : (w : World) (t : ℕ) (thread : Thread) → thread_at w t ≡ Some thread
    → thread.state ≡ Ready → Lawful w → Lawful (thread_ended w thread.process t)
lawful-thread_ended w t thread is ready l =
    (stands-thread_ended [] w t thread is
    (ap (λ s. turns_asleep (Some (record thread { state = s }))) ready)
    (stands_alone w l)).lawful
