use Rattle.log_text.proofs.LogLaws.{log_again}
use Rattle.log_text.proofs.laws.versions_are_one_log.Goals as goal

pub returns : goal.returns
returns c = λ log v fits.
    log_again (record log { version = v })
    (record { header = fits.header; entries = fits.entries; few = fits.few; rounds = fits.rounds })
