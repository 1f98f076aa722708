use Rattle.quantum_run.specs.Showing.{beside_name}
use Rattle.quantum_run.specs.Answering.{still}
use Rattle.quantum_run.specs.Showing.{ShowsKnown, answers_of}
use Rattle.quantum_run.proofs.Flying.{loaded}
use Rattle.quantum_run.proofs.lines.load_quickly.Goals as goal

pub returns-in-Some : goal.returns-in-Some
returns-in-Some g c =
    let m = c.args.memory.now in
    loaded (answers_of (beside_name g.P.Pages.places))
    (ShowsKnown (still m.tid (g.P.Pages.owners m.pages) m.space.now.entries)
    (g.P.Pages.fixed m.pages, m.compared.ghost_name) (g.P.Pages.state m.pages)
    (g.P.Pages.pages m.pages) m.compared.now.slots m.compared.now.blocks) c.args.op
    c.args.form.now.rd c.args.form.now.rs1 c.args.form.now.imm c.address_of-address.result
    c.in-Some.number
    c.load_result.result c.load_size.result c.args.regs.now c.write.new.regs
    c.address_of-address.ensures c.load_size.ensures
    c.in-Some.ensures.number c.load_result.ensures c.write.ensures
