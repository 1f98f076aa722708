use Rattle.std.proofs.Common.{[], ◌∷◌, ap, ◌∙◌}
use Rattle.std.proofs.lemmas.List.{append-nil}
use Rattle.crossbeam_queue.specs.Passes.{view}
use Rattle.twin_shims.specs.declared.note.Note.TheVariants.{Stopped}
use Rattle.twin_shims.specs.Leader.{TellerState}
use Rattle.twin_shims.specs.Notes.{LineState, exchanges_in}
use Rattle.twin_shims.proofs.Lines.{exchanges_append, writes}
use Rattle.twin_shims.proofs.teller.Teller.finish.Goals as goal

pub returns-clause-told : goal.returns-clause-told
returns-clause-told g c =
    let wrote = writes _ _ _ c.self.invariant.1 c.push.ensures.pushed in
    ap (λ (s : LineState). exchanges_in s.notes) c.of-2.ensures
    ∙ ap exchanges_in wrote.pushed_is
    ∙ exchanges_append (view c.self.inside.pass).pushed (Stopped ∷ [])
    ∙ append-nil (exchanges_in (view c.self.inside.pass).pushed)
    ∙ ap (λ (t : TellerState). t.told) c.self.view_is
