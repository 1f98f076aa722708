use Rattle.std.proofs.Common.{sym, subst}
use Rattle.kernel_calls.specs.StateWorld.{HaveParts}
use Rattle.group_rounds.specs.Phases.{AreLive}
use Rattle.group_rounds.proofs.Sound.{parts_begin}
use Rattle.group_rounds.proofs.Starters.{ready_live}
use Rattle.group_walk.proofs.moving.begun.Goals as goal

pub set_budgets-requires-clause-live : goal.set_budgets-requires-clause-live
set_budgets-requires-clause-live c =
    subst (AreLive c.args.state.now.table.threads) (sym c.requires.ready)
    (ready_live c.args.state.now.table.threads)

pub pass_parts-requires-clause-parts : goal.pass_parts-requires-clause-parts
pass_parts-requires-clause-parts c =
    c.set_budgets.ensures.parts c.args.starters.now
    (subst (λ ts. HaveParts ts c.args.state.now) (sym c.requires.ready)
    (parts_begin c.args.state.now c.requires.sound))
