use Rattle.std.proofs.Common.{◌∙◌, ap}
use Rattle.log_text.specs.EntriesText.{EntriesState}
use Rattle.log_text.specs.LogText.{entries_text}
use Rattle.log_text.proofs.EntriesTextLaws.{kept_text}
use Rattle.log_text.proofs.entries.Entries.text.Goals as goal

pub returns : goal.returns
returns c =
    c.as_slice.ensures.value
    ∙ kept_text _ _ _ c.self.invariant
    ∙ ap (λ (s : EntriesState). entries_text s.version s.list) c.self.view_is
