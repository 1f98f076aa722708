use Rattle.code_pages.specs.Lines.{bytes_of_pages}
use Rattle.quantum_run.specs.Answering.{still}
use Rattle.quantum_run.proofs.Reaching.{shows-learnt}
use Rattle.quantum_run.proofs.slowly.learns.Goals as goal

pub returns-then-is_wanted-clause-shows : goal.returns-then-is_wanted-clause-shows
returns-then-is_wanted-clause-shows g c = λ f u shows.
    let m = c.args.memory.now in
    let n = c.line_to_perform.new.self in
    let e = c.line_to_perform.ensures in
    shows-learnt g.P.Pages.fixed g.P.Pages.state g.P.Pages.pages m.pages n.pages
    m.compared.ghost_name n.compared.ghost_name
    (still m.tid (g.P.Pages.owners m.pages) m.space.now.entries)
    (still n.tid (g.P.Pages.owners n.pages) n.space.now.entries) m.compared.now.slots
    n.compared.now.slots m.compared.now.blocks n.compared.now.blocks f
    (bytes_of_pages c.args.code.now) (bytes_of_pages c.line_to_perform.new.code) u
    e.still e.pages e.name e.right shows
