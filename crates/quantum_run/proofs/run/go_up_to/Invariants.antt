use Rattle.std.specs.Borrow.{GName}
use Rattle.std.proofs.Common.{◌-◌, ◌≤◌}
use Rattle.dos_world.specs.World.{with_pc}
use Rattle.code_pages.specs.Lines.{bytes_of_pages}
use Rattle.quantum_run.specs.ThreadRuns.{AreElsewhere, Reaches}
use Rattle.quantum_run.specs.Answering.{Still, run_answers, still}
use Rattle.quantum_run.specs.Showing.{ShowsKnown}
use Rattle.quantum_run.proofs.run.go_up_to.Given as goal

abbrev pub invariant-loop-left : goal.invariant-loop-left
invariant-loop-left g l =
    (l.left ≤ l.fn.budget) × ((f : Still × (g.P.Pages.Fixed × GName)) (u : g.P.Pages.State)
    → ShowsKnown
    (still l.fn.memory.tid (g.P.Pages.owners l.fn.memory.pages) l.fn.memory.space.now.entries)
    (g.P.Pages.fixed l.fn.memory.pages, l.fn.memory.compared.ghost_name)
    (g.P.Pages.state l.fn.memory.pages) (g.P.Pages.pages l.fn.memory.pages)
    l.fn.memory.compared.now.slots l.fn.memory.compared.now.blocks (f, bytes_of_pages l.fn.code) u
    → Reaches (run_answers f.0 (g.P.Pages.places f.1.0)) (ShowsKnown
    (still l.memory.tid (g.P.Pages.owners l.memory.pages) l.memory.space.now.entries)
    (g.P.Pages.fixed l.memory.pages, l.memory.compared.ghost_name) (g.P.Pages.state l.memory.pages)
    (g.P.Pages.pages l.memory.pages) l.memory.compared.now.slots l.memory.compared.now.blocks
    (f, bytes_of_pages l.code)) l.fn.regs u (with_pc l.regs l.pc) (l.fn.budget - l.left)
    × AreElsewhere (run_answers f.0 (g.P.Pages.places f.1.0)) l.stops (l.fn.budget - l.left)
    l.fn.regs u)

abbrev pub decreases-loop-left : goal.decreases-loop-left
decreases-loop-left g l = l.left
