use Rattle.std.specs.Borrow.{GName}
use Rattle.std.proofs.Common.{ℕ, List, length, true, ◌+◌, ◌-◌, ◌<◌, ◌≤◌, ◌≡◌, ◌⊎◌, ◌%◌, ◌^◌}
use Rattle.dos_world.specs.World.{with_pc}
use Rattle.code_pages.specs.Lines.{Known, bytes_of_pages}
use Rattle.code_pages.specs.declared.kind.Kind.TheVariants.{End}
use Rattle.quantum_run.specs.Flying.{HasLine, IsLineOf}
use Rattle.quantum_run.specs.ThreadRuns.{AreElsewhere, AreOutside, Reaches}
use Rattle.quantum_run.specs.Answering.{Still, run_answers, still}
use Rattle.quantum_run.specs.Showing.{ShowsKnown}
use Rattle.quantum_run.proofs.lines.follow.Given as goal

abbrev pub invariant-loop-line : goal.invariant-loop-line
invariant-loop-line g l =
    (here : HasLine l.lines l.at)
    × (g.E.Extent.whole ≡ true → here.line.run < l.end - l.at)
    × (0 < l.at) × (l.from ≤ l.at) × (l.at ≤ l.end) × (l.at < length l.lines)
    × (l.end ≡ l.from + l.budget)
    × (l.memory.shown ≡ l.fn.memory.shown) × (l.memory.compared ≡ l.fn.memory.compared)
    × ((known : Known) (address : ℕ) (f : Still × (g.P.Pages.Fixed × GName)) (u : g.P.Pages.State)
    → IsLineOf l.fn.memory.shown l.fn.memory.compared.now.blocks known l.lines l.base address l.from
    → ShowsKnown
    (still l.fn.memory.tid (g.P.Pages.owners l.fn.memory.pages) l.fn.memory.space.now.entries)
    (g.P.Pages.fixed l.fn.memory.pages, l.fn.memory.compared.ghost_name)
    (g.P.Pages.state l.fn.memory.pages) (g.P.Pages.pages l.fn.memory.pages)
    l.fn.memory.compared.now.slots l.fn.memory.compared.now.blocks
    (f, bytes_of_pages known) u
    → Reaches (run_answers f.0 (g.P.Pages.places f.1.0)) (ShowsKnown
    (still l.memory.tid (g.P.Pages.owners l.memory.pages) l.memory.space.now.entries)
    (g.P.Pages.fixed l.memory.pages, l.memory.compared.ghost_name) (g.P.Pages.state l.memory.pages)
    (g.P.Pages.pages l.memory.pages) l.memory.compared.now.slots l.memory.compared.now.blocks
    (f, bytes_of_pages known)) (with_pc l.fn.regs address) u
    (with_pc l.regs ((l.base + here.line.offset) % 2 ^ 32)) (l.at - l.from)
    × ((here.line.kind ≡ End) ⊎ IsLineOf l.fn.memory.shown l.fn.memory.compared.now.blocks known
    l.lines l.base ((l.base + here.line.offset) % 2 ^ 32) l.at)
    × ((stops : List ℕ) → AreOutside stops l.base
    → AreElsewhere (run_answers f.0 (g.P.Pages.places f.1.0)) stops (l.at - l.from)
    (with_pc l.fn.regs address) u))

abbrev pub decreases-loop-line : goal.decreases-loop-line
decreases-loop-line g l = l.end - l.at
