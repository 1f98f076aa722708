use Rattle.std.proofs.Common.{◌≡◌, ap, ap₂, ◌∙◌, sym}
use Rattle.dos_world.specs.World.{World}
use Rattle.flat_machine.specs.Buffered.{part, with_part}
use Rattle.quantum_run.specs.Shows.{Pack}
use Rattle.kernel_calls.specs.StateWorld.{sent, world_of}
use Rattle.group_rounds.specs.Buffers.{part_in}
use Rattle.group_rounds.proofs.buffers.put_part.Goals as goal

pub returns-clause-puts : goal.returns-clause-puts
returns-clause-puts c = λ q o e.
    let w : World = sent o e (world_of q c.args.state.now) in
    let p : Pack = c.args.pack.now in
    let same : part c.regs.result.now c.budget.result c.words.result.now ≡ part_in p =
    ap (λ r. part r c.budget.result c.words.result.now) c.regs.ensures
    ∙ ap (λ b. part p.registers b c.words.result.now) c.budget.ensures
    ∙ ap (part p.registers p.budget) c.words.ensures in
    sym (ap₂ (λ t x. with_part w t x) c.tid.ensures same) ∙ c.commit.ensures.commits q o e
