use Rattle.std.proofs.Common.{sym, subst}
use Rattle.dos_world.specs.World.{registers_by}
use Rattle.dos_world.specs.Kernel.{answered_two}
use Rattle.kernel_calls.specs.StateWorld.{IsCounted}
use Rattle.kernel_calls.proofs.Counted.{counted-thread_by}
use Rattle.kernel_calls.proofs.answering.reply_two.Goals as goal

pub returns-clause-counted : goal.returns-clause-counted
returns-clause-counted c counted =
    subst (λ t. IsCounted (record c.args.state.now { table = t })) (sym c.answer_two_in.ensures)
    (counted-thread_by c.args.state.now c.args.tid
    (registers_by (answered_two c.args.first c.args.second)) counted)
