use Rattle.dos_io.proofs.GivenLaws.{given_once}
use Rattle.dos_io.proofs.laws.given_is_determined.Goals as goal

pub returns : goal.returns
returns c = given_once
