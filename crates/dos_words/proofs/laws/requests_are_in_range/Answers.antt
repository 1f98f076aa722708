use Rattle.dos_words.proofs.RangeLaws.{request_fits}
use Rattle.dos_words.proofs.laws.requests_are_in_range.Goals as goal

pub returns : goal.returns
returns c = request_fits
