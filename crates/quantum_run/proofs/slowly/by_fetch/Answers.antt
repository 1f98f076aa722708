use Rattle.std.proofs.Common.{subst, sym}
use Rattle.dos_world.specs.World.{Registers, with_pc}
use Rattle.flat_machine.specs.Over.{one_in}
use Rattle.rv_exec.specs.Follows.{Follows}
use Rattle.rv_exec.specs.declared.Went.TheVariants.{Step, Stop}
use Rattle.quantum_run.proofs.Stopping.{stop-there}
use Rattle.quantum_run.proofs.slowly.by_fetch.Goals as goal

pub returns-in-Step : goal.returns-in-Step
returns-in-Step g c = λ f m shown.
    let shows = g.M.Memory.shows c.one.new.memory f in
    let answers = g.M.Memory.answers f in
    let at = with_pc c.args.regs.now c.args.pc in
    subst (λ p. Follows shows m at (with_pc c.one.new.regs p) Step (one_in answers at m))
    (sym c.pc.ensures)
    (subst (λ (r : Registers). Follows shows m r c.one.new.regs Step (one_in answers r m))
    c.set_pc.ensures (c.in-Step.ensures f m shown))

pub returns-in-Stop : goal.returns-in-Stop
returns-in-Stop g c = λ f m shown.
    let shows = g.M.Memory.shows c.one.new.memory f in
    let answers = g.M.Memory.answers f in
    let at = with_pc c.args.regs.now c.args.pc in
    stop-there shows m c.args.regs.now c.one.new.regs c.args.pc c.in-Stop.reason
    (one_in answers at m)
    (subst (λ (r : Registers). Follows shows m r c.one.new.regs (Stop c.in-Stop.reason)
    (one_in answers r m)) c.set_pc.ensures (c.in-Stop.ensures f m shown))
