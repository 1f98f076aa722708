use Rattle.std.proofs.Common.{subst}
use Rattle.log_text.specs.EntriesText.{EntriesState}
use Rattle.log_text.specs.Ranges.{AreEntries}
use Rattle.log_text.proofs.EntriesTextLaws.{kept_fits, kept_few}
use Rattle.log_text.proofs.entries.Entries.len.Goals as goal

pub returns-clause-fits : goal.returns-clause-fits
returns-clause-fits c =
    subst (λ (s : EntriesState). AreEntries s.list) c.self.view_is
    (kept_fits _ _ _ c.self.invariant)

pub returns-clause-few : goal.returns-clause-few
returns-clause-few c = kept_few _ _ _ c.self.invariant
