use Rattle.quantum_run.specs.Showing.{beside_name}
use Rattle.quantum_run.specs.Answering.{still}
use Rattle.quantum_run.specs.Showing.{ShowsKnown, answers_of}
use Rattle.quantum_run.proofs.Flying.{stored}
use Rattle.quantum_run.proofs.lines.store_quickly.Goals as goal

pub returns-then-quick_store-clause-done : goal.returns-then-quick_store-clause-done
returns-then-quick_store-clause-done g c =
    let m = c.args.memory.now in
    let n = c.quick_store.new.self in
    stored (answers_of (beside_name g.P.Pages.places))
    (ShowsKnown (still m.tid (g.P.Pages.owners m.pages) m.space.now.entries)
    (g.P.Pages.fixed m.pages, m.compared.ghost_name) (g.P.Pages.state m.pages)
    (g.P.Pages.pages m.pages) m.compared.now.slots m.compared.now.blocks)
    (ShowsKnown (still n.tid (g.P.Pages.owners n.pages) n.space.now.entries)
    (g.P.Pages.fixed n.pages, n.compared.ghost_name) (g.P.Pages.state n.pages)
    (g.P.Pages.pages n.pages) n.compared.now.slots n.compared.now.blocks) c.args.op
    c.args.form.now.rs1 c.args.form.now.rs2 c.args.form.now.imm c.address_of-address.result
    c.second-value.result c.store_size.result c.args.regs.now c.quick_store.result
    c.address_of-address.ensures c.store_size.ensures c.second-value.ensures
    c.if-quick_store.true c.quick_store.ensures.stored
