use Rattle.std.proofs.Common.{sym, ◌∙◌}
use Rattle.kernel_calls.specs.StateWorld.{sent, world_of}
use Rattle.group_walk.proofs.Turned.{rest_over_gone, rest_over_live}
use Rattle.group_walk.proofs.passing.is_rest_over.Goals as goal

pub returns-then-not-is_thread : goal.returns-then-not-is_thread
returns-then-not-is_thread c = λ q o e.
    rest_over_gone (sent o e (world_of q c.args.state.now)) c.args.tid
    (sym c.if-not-is_thread.true ∙ c.is_thread.ensures)

pub returns : goal.returns
returns c = λ q o e.
    rest_over_live (sent o e (world_of q c.args.state.now)) c.args.tid c.budget.result
    (sym c.if-not-is_thread.false ∙ c.is_thread.ensures) c.budget.ensures
