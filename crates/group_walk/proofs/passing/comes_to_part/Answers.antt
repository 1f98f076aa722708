use Rattle.std.proofs.Common.{[], ◌∙◌}
use Rattle.kernel_calls.specs.StateWorld.{sent, world_of}
use Rattle.group_walk.proofs.Passed.{begun-lives, not_true, parts_begun}
use Rattle.group_walk.proofs.passing.comes_to_part.Goals as goal

pub returns-clause-comes : goal.returns-clause-comes
returns-clause-comes c = λ q o e starters ts.
    parts_begun (sent o e (world_of q c.args.state.now)) c.args.tid starters ts
    (sent o e (world_of q c.begin.new.state)) c.is_part_over.result
    (c.begin.ensures.empties q o e) (c.is_part_over.ensures q o e)

pub returns-clause-there : goal.returns-clause-there
returns-clause-there c = λ on q o e.
    c.is_part_over.ensures q o e ∙ not_true c.is_part_over.result on

pub returns-clause-live : goal.returns-clause-live
returns-clause-live c =
    begun-lives c.args.state.now c.begin.new.state c.args.tid (c.begin.ensures.empties 0 [] [])
