use Rattle.std.proofs.Common.{sym, ap, ◌∙◌}
use Rattle.twin_shims.specs.Notes.{LineState}
use Rattle.twin_shims.proofs.Lines.{whole}
use Rattle.twin_shims.proofs.pushed.Sent.compare.Goals as goal

pub returns : goal.returns
returns c =
    sym (ap (λ (s : LineState). s.notes) c.taken.view_is)
    ∙ whole _ _ c.compare.ensures.0 c.self.invariant.2 c.taken.invariant.2 c.compare.ensures.1
    ∙ ap (λ (s : LineState). s.notes) c.self.view_is
