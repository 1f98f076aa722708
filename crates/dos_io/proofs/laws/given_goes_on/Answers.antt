use Rattle.dos_io.proofs.GivenLaws.{given_then}
use Rattle.dos_io.proofs.laws.given_goes_on.Goals as goal

pub returns : goal.returns
returns c = given_then
