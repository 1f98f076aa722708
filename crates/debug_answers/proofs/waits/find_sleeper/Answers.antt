use Rattle.std.proofs.Common.{◌∙◌, sym, eq-eqb}
use Rattle.kernel_objects.specs.Queue.{sleeper_of}
use Rattle.debug_answers.proofs.Sleeping.{found_here, not_here, differs}
use Rattle.debug_answers.proofs.waits.find_sleeper.Goals as goal

pub returns-then-sleeper-thread : goal.returns-then-sleeper-thread
returns-then-sleeper-thread c =
    sym (found_here c.args.queue.now c.loop-place.place (sleeper_of c.at-sleeper.result)
    c.args.thread c.at-sleeper.ensures
    (eq-eqb c.at-sleeper.result.0 c.args.thread c.if-sleeper-thread.true))
    ∙ c.loop-place.invariant

pub loop-place-preserved : goal.loop-place-preserved
loop-place-preserved c =
    sym (not_here c.args.queue.now c.loop-place.place (sleeper_of c.at-sleeper.result)
    c.args.thread c.at-sleeper.ensures
    (differs c.at-sleeper.result.0 c.args.thread c.if-sleeper-thread.false))
    ∙ c.loop-place.invariant
