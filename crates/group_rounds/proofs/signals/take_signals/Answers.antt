use Rattle.std.proofs.Common.{◌∙◌, refl}
use Rattle.kernel_calls.proofs.Staying.{stays-then}
use Rattle.group_rounds.proofs.SignalLaws.{turns_next, turns_out}
use Rattle.group_rounds.proofs.signals.take_signals.Goals as goal

pub loop-tid-preserved : goal.loop-tid-preserved
loop-tid-preserved c = record {
  takes = λ q o e. c.loop-tid.invariant.takes q o e
      ∙ turns_next c.loop-tid.state c.take_signal.new.state _ c.take_signal.ensures.takes
      c.args.threads.now c.loop-tid.tid-index c.loop-tid-test.true refl q o e;
  sound = c.take_signal.ensures.sound;
  round = stays-then c.take_signal.ensures.round c.loop-tid.invariant.round;
  count = c.take_signal.ensures.count ∙ c.loop-tid.invariant.count;
}

pub returns-clause-takes : goal.returns-clause-takes
returns-clause-takes c = λ q o e. c.loop-tid.invariant.takes q o e
    ∙ turns_out c.loop-tid.state c.args.threads.now c.loop-tid.tid-index c.loop-tid-test.false
    q o e
