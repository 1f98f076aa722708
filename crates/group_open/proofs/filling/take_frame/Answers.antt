use Rattle.std.proofs.Common.{IsSome, sym, ◌∙◌, subst}
use Rattle.std.proofs.lemmas.Bool.{false≢true}
use Rattle.group_open.proofs.FillingLaws.{has_lowest}
use Rattle.group_open.proofs.filling.take_frame.Goals as goal

pub unreachable-requires : goal.unreachable-requires
unreachable-requires c = false≢true
    (subst IsSome (sym c.fresh.ensures.found ∙ c.in-None.is)
    (has_lowest c.args.frames.now c.requires))
