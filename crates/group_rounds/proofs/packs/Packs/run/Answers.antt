use Rattle.std.proofs.Common.{sym, subst}
use Rattle.group_rounds.specs.Phases.{AreLive}
use Rattle.group_rounds.proofs.PacksRan.{ready-apart}
use Rattle.group_rounds.proofs.Starters.{ready_live}
use Rattle.group_rounds.proofs.packs.Packs.run.Goals as goal

pub run_owning-requires-clause-live : goal.run_owning-requires-clause-live
run_owning-requires-clause-live g c κs within =
    subst (AreLive c.args.state.now.table.threads) (sym c.requires.ready)
    (ready_live c.args.state.now.table.threads)

pub run_owning-requires-clause-apart : goal.run_owning-requires-clause-apart
run_owning-requires-clause-apart g c κs within =
    ready-apart c.args.state.now.table.threads c.args.starters.now c.requires.ready

pub run_writing-requires-clause-live : goal.run_writing-requires-clause-live
run_writing-requires-clause-live g c κs within =
    subst (AreLive c.args.state.now.table.threads) (sym c.requires.ready)
    (ready_live c.args.state.now.table.threads)

pub run_writing-requires-clause-apart : goal.run_writing-requires-clause-apart
run_writing-requires-clause-apart g c κs within =
    ready-apart c.args.state.now.table.threads c.args.starters.now c.requires.ready
