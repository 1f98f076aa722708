use Rattle.std.proofs.Common.{ℕ, List, [], ◌∷◌, ◌++◌, ap, sym, ◌∙◌}
use Rattle.dos_world.specs.declared.Entry.{Entry}
use Rattle.group_parts.proofs.Taken.{taken_more}
use Rattle.group_parts.proofs.reading.record_space.Goals as goal

pub loop-place-preserved : goal.loop-place-preserved
loop-place-preserved c =
    c.in_ok-push.ensures.items
    ∙ ap (λ (xs : List (ℕ × Entry)). xs ++ c.at.result ∷ []) c.loop-place.invariant
    ∙ sym (taken_more c.args.space.now.entries c.loop-place.place c.at.result c.at.ensures)
