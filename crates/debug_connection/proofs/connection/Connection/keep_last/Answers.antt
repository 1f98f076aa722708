use Rattle.debug_connection.proofs.Spoken.{last_is}
use Rattle.debug_connection.proofs.connection.Connection.keep_last.Goals as goal

pub returns-in-Some-clause-last : goal.returns-in-Some-clause-last
returns-in-Some-clause-last c = last_is _ _ _ _ c.in-Some.ensures.items
