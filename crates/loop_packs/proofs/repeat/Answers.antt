use Rattle.std.proofs.Common.{◌∙◌, subst, sym}
use Rattle.quantum_run.specs.Packs.{seen_in}
use Rattle.quantum_run.specs.declared.pack.Shared.{Shared}
use Rattle.worker_pool.specs.Ran.{AllCanRun}
use Rattle.loop_packs.proofs.CanLoop.{all-can}
use Rattle.loop_packs.proofs.Ran.{loops-after}
use Rattle.loop_packs.proofs.repeat.Goals as goal

pub run_all-shared-requires-clause-can : goal.run_all-shared-requires-clause-can
run_all-shared-requires-clause-can g c κs within =
    subst (λ (s : Shared). AllCanRun (seen_in s) c.refill.new.packs.items)
    (sym c.loop.invariant.2)
    (all-can c.args.shared.frames c.args.shared.table c.refill.new.packs.items c.requires.frames
    c.requires.table c.refill.ensures.loops)

pub loop-preserved : goal.loop-preserved
loop-preserved g c =
    let inv = c.loop.invariant in let ran = c.run_all-shared.ensures in (
      ran.number ∙ c.refill.ensures.count ∙ inv.0,
      loops-after (seen_in c.loop.shared) _ _ ran.runs c.refill.ensures.loops,
      ran.shared ∙ inv.2,
    )
