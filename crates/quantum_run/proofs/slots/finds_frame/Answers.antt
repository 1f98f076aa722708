use Rattle.std.proofs.Common.{◌∙◌, ap, sym, false}
use Rattle.std.specs.Prelude.{slice_index_or}
use Rattle.quantum_run.proofs.Apart.{none-marked}
use Rattle.quantum_run.proofs.slots.finds_frame.Goals as goal

pub returns-else-marks-mark_place : goal.returns-else-marks-mark_place
returns-else-marks-mark_place c = λ none.
    none-marked c.args.slots.now c.args.marks.now c.args.frame c.requires
    (ap (λ k. slice_index_or c.args.marks.now k false) (sym c.mark_place.ensures.place) ∙ none)
