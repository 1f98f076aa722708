use Rattle.std.proofs.Common.{◌≡◌, ◌++◌, drop, map, true}
use Rattle.debug_session.specs.Positions.{Position, all_moments}
use Rattle.debug_session.specs.Recordings.{Recording}
use Rattle.debug_session.specs.Sessions.{home_pair}
use Rattle.debug_client.specs.Births.{AreBirthsKnown, has_homes}
use Rattle.debug_client.specs.Clients.{session_of}
use Rattle.debug_client.proofs.client.Client.pairs.Given as goal

abbrev pub invariant-loop-number : goal.invariant-loop-number
invariant-loop-number l = (r : Recording) (at : Position) → AreBirthsKnown l.births (all_moments at)
    → has_homes l.births l.numbers ≡ true
    → l.pairs.items ++ map (home_pair (session_of l.self r at)) (drop l.number-index l.numbers)
    ≡ map (home_pair (session_of l.self r at)) l.numbers
