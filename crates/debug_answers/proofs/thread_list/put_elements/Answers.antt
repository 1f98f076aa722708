use Rattle.std.proofs.Common.{arith}
use Rattle.std.proofs.lemmas.Option.{slice_get-get_or}
use Rattle.kernel_calls.specs.StateWorld.{world_of}
use Rattle.debug_session.specs.Lists.{thread_element}
use Rattle.debug_answers.proofs.Rows.{some_added}
use Rattle.debug_answers.proofs.thread_list.put_elements.Goals as goal

pub loop-i-preserved : goal.loop-i-preserved
loop-i-preserved c q =
    some_added (thread_element (world_of q c.args.state.now)) c.args.pairs.now c.loop-i.i
    c.loop-i.out.items _ (c.loop-i.invariant q) _ c.put_element.new.out.items
    (slice_get-get_or c.args.pairs.now c.loop-i.i _ (omega (arith, c.loop-i-test.true)))
    (c.in_ok-put_element.ensures q)
