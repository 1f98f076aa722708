use Rattle.std.proofs.Common.{◌∙◌, ap}
use Rattle.log_text.specs.EntriesText.{GrowingState}
use Rattle.log_text.proofs.GrowingLaws.{closed}
use Rattle.log_text.proofs.growing.GrowingEntries.close.Goals as goal

pub of-requires : goal.of-requires
of-requires c =
    (closed _ _ _ c.self.invariant.0 c.put_stretch.new.text.items c.put_stretch.ensures.items).0

pub returns-clause-list : goal.returns-clause-list
returns-clause-list c =
    c.of.ensures.list
    ∙ (closed _ _ _ c.self.invariant.0 c.put_stretch.new.text.items
    c.put_stretch.ensures.items).1
    ∙ ap (λ (s : GrowingState). s.list) c.self.view_is
