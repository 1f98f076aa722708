use Rattle.std.proofs.Common.{◌≡◌, drop, true}
use Rattle.std.specs.Prelude.{find}
use Rattle.debug_session.specs.Positions.{Position, all_moments}
use Rattle.debug_session.specs.Recordings.{Recording}
use Rattle.debug_session.specs.Homes.{is_some_number}
use Rattle.debug_session.specs.Sessions.{home_in}
use Rattle.debug_client.specs.Births.{AreBirthsKnown, has_homes}
use Rattle.debug_client.specs.Clients.{session_of}
use Rattle.debug_client.proofs.client.Client.lowest_of_process.Given as goal

abbrev pub invariant-loop-thread : goal.invariant-loop-thread
invariant-loop-thread l = (r : Recording) (at : Position) → AreBirthsKnown l.births (all_moments at)
    → has_homes l.births l.listed ≡ true
    → find (λ t. is_some_number l.self.process (home_in (session_of l.self r at) t))
    (drop l.thread-index l.listed)
    ≡ find (λ t. is_some_number l.self.process (home_in (session_of l.self r at) t)) l.listed
