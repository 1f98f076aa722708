use Rattle.std.specs.Borrow.{GName}
use Rattle.std.proofs.Common.{ℕ, List, ◌-◌, ◌+◌, ◌<◌, ◌≤◌, ◌≡◌, ◌%◌, ◌^◌}
use Rattle.dos_world.specs.World.{with_pc}
use Rattle.code_pages.specs.Lines.{bytes_of_pages}
use Rattle.quantum_run.specs.ThreadRuns.{AreElsewhere, AreOutside, Reaches}
use Rattle.quantum_run.specs.Answering.{Still, run_answers, still}
use Rattle.quantum_run.specs.Showing.{ShowsKnown}
use Rattle.quantum_run.proofs.flight.fly_in_page.Given as goal

abbrev pub invariant-loop-starts : goal.invariant-loop-starts
invariant-loop-starts g l =
    (l.left ≤ l.budget)
    × (l.memory.shown ≡ l.fn.memory.shown) × (l.memory.compared ≡ l.fn.memory.compared)
    × ((f : Still × (g.P.Pages.Fixed × GName)) (u : g.P.Pages.State)
    → ShowsKnown
    (still l.fn.memory.tid (g.P.Pages.owners l.fn.memory.pages) l.fn.memory.space.now.entries)
    (g.P.Pages.fixed l.fn.memory.pages, l.fn.memory.compared.ghost_name)
    (g.P.Pages.state l.fn.memory.pages) (g.P.Pages.pages l.fn.memory.pages)
    l.fn.memory.compared.now.slots l.fn.memory.compared.now.blocks
    (f, bytes_of_pages l.code) u
    → Reaches (run_answers f.0 (g.P.Pages.places f.1.0)) (ShowsKnown
    (still l.memory.tid (g.P.Pages.owners l.memory.pages) l.memory.space.now.entries)
    (g.P.Pages.fixed l.memory.pages, l.memory.compared.ghost_name) (g.P.Pages.state l.memory.pages)
    (g.P.Pages.pages l.memory.pages) l.memory.compared.now.slots l.memory.compared.now.blocks
    (f, bytes_of_pages l.code)) (with_pc l.fn.regs l.pc) u
    (with_pc l.regs ((l.base + l.to) % 2 ^ 32)) (l.budget - l.left)
    × ((stops : List ℕ) → AreOutside stops l.base
    → AreElsewhere (run_answers f.0 (g.P.Pages.places f.1.0)) stops (l.budget - l.left)
    (with_pc l.fn.regs l.pc) u))
    × (l.to < 4096) × (l.to % 2 ≡ 0)

abbrev pub decreases-loop-starts : goal.decreases-loop-starts
decreases-loop-starts g l = l.left
