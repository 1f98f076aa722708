use Rattle.std.specs.Borrow.{GName}
use Rattle.std.proofs.Common.{◌+◌, ◌-◌, ◌*◌, ◌≤◌}
use Rattle.std.specs.Prelude.{if◌then◌else◌}
use Rattle.dos_world.specs.World.{with_pc}
use Rattle.code_pages.specs.Lines.{bytes_of_pages}
use Rattle.quantum_run.specs.ThreadRuns.{Reaches}
use Rattle.quantum_run.specs.Answering.{Still, run_answers, still}
use Rattle.quantum_run.specs.Showing.{ShowsKnown}
use Rattle.quantum_run.proofs.run.go.Given as goal

abbrev pub invariant-loop-left : goal.invariant-loop-left
invariant-loop-left g l =
    (l.floor + l.left ≤ l.fn.budget) × ((f : Still × (g.P.Pages.Fixed × GName))
    (u : g.P.Pages.State)
    → ShowsKnown
    (still l.fn.memory.tid (g.P.Pages.owners l.fn.memory.pages) l.fn.memory.space.now.entries)
    (g.P.Pages.fixed l.fn.memory.pages, l.fn.memory.compared.ghost_name)
    (g.P.Pages.state l.fn.memory.pages) (g.P.Pages.pages l.fn.memory.pages)
    l.fn.memory.compared.now.slots l.fn.memory.compared.now.blocks (f, bytes_of_pages l.fn.code) u
    → Reaches (run_answers f.0 (g.P.Pages.places f.1.0)) (ShowsKnown
    (still l.memory.tid (g.P.Pages.owners l.memory.pages) l.memory.space.now.entries)
    (g.P.Pages.fixed l.memory.pages, l.memory.compared.ghost_name) (g.P.Pages.state l.memory.pages)
    (g.P.Pages.pages l.memory.pages) l.memory.compared.now.slots l.memory.compared.now.blocks
    (f, bytes_of_pages l.code)) l.fn.regs u (with_pc l.regs l.pc)
    (l.fn.budget - (l.floor + l.left)))

abbrev pub decreases-loop-left : goal.decreases-loop-left
decreases-loop-left g l = 2 * l.left + (if l.has_learnt then 0 else 1)
