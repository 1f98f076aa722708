use Rattle.std.proofs.Common.{◌∙◌, refl}
use Rattle.dos_world.specs.World.{in_state}
use Rattle.dos_world.specs.declared.ThreadState.TheVariants.{Ready}
use Rattle.group_rounds.proofs.RipenLaws.{ready_next, ready_out, ready_live}
use Rattle.group_rounds.proofs.SignalLaws.{thread_counted}
use Rattle.group_rounds.proofs.ripening.set_ready.Goals as goal

pub loop-tid-preserved : goal.loop-tid-preserved
loop-tid-preserved c = record {
  sets = λ q o e. c.loop-tid.invariant.sets q o e
      ∙ ready_next c.loop-tid.state c.set_state.new.self _ c.set_state.ensures
      c.args.threads.now c.loop-tid.tid-index c.loop-tid-test.true refl q o e;
  counted = λ counted.
      thread_counted c.loop-tid.state c.loop-tid.state.futexes c.set_state.new.self _
      (in_state Ready) c.set_state.ensures (c.loop-tid.invariant.counted counted);
  round = record {
    round = c.loop-tid.invariant.round.round;
    marked = c.loop-tid.invariant.round.marked;
  };
  count = c.loop-tid.invariant.count;
  live = ready_live c.loop-tid.state c.set_state.new.self _ c.set_state.ensures
      c.args.threads.now c.loop-tid.invariant.live;
}

pub returns-clause-sets : goal.returns-clause-sets
returns-clause-sets c = λ q o e. c.loop-tid.invariant.sets q o e
    ∙ ready_out c.loop-tid.state c.args.threads.now c.loop-tid.tid-index c.loop-tid-test.false
    q o e
