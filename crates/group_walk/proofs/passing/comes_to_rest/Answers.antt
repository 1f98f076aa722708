use Rattle.std.proofs.Common.{◌∷◌, sym, ◌∙◌}
use Rattle.kernel_calls.specs.StateWorld.{sent, world_of}
use Rattle.group_walk.proofs.Passed.{not_true, rests_begin}
use Rattle.group_walk.proofs.passing.comes_to_rest.Goals as goal

pub returns-clause-comes : goal.returns-clause-comes
returns-clause-comes c = λ q o e starters ts.
    rests_begin (sent o e (world_of q c.args.state.now)) c.args.tid starters ts
    (sent o e (world_of q c.begin.new.state)) c.is_rest_over.result
    (sym c.if-not-is_thread.false ∙ c.is_thread.ensures) (c.begin.ensures.empties q o e)
    (c.is_rest_over.ensures q o e)

pub returns-clause-there : goal.returns-clause-there
returns-clause-there c = λ on starters ts parts. (
  c.begin.ensures.live,
  c.begin.ensures.parts (c.args.tid ∷ ts) parts,
  λ q o e. c.is_rest_over.ensures q o e ∙ not_true c.is_rest_over.result on,
)
