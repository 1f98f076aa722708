use Rattle.quantum_run.specs.Showing.{beside_name}
use Rattle.std.specs.Borrow.{GName}
use Rattle.std.proofs.Common.{ℕ, List, Option, subst, sym}
use Rattle.dos_world.specs.World.{Registers, with_pc}
use Rattle.flat_machine.specs.Over.{MemoryAnswers, one_in}
use Rattle.rv_exec.specs.Arrivals.{arrived}
use Rattle.rv_exec.specs.Follows.{Follows}
use Rattle.rv_exec.specs.declared.Went.{Went}
use Rattle.code_pages.specs.Lines.{bytes_of_pages}
use Rattle.quantum_run.specs.Finding.{page_start}
use Rattle.quantum_run.specs.Flying.{went_on}
use Rattle.quantum_run.specs.Answering.{Still, run_answers, still}
use Rattle.quantum_run.specs.Showing.{ShowsKnown}
use Rattle.quantum_run.specs.declared.thread_memory.Running.{Running}
use Rattle.quantum_run.proofs.Reaching.{shows-learnt}
use Rattle.quantum_run.proofs.Walking.{fetched-at, got-within, line-of, live-at}
use Rattle.quantum_run.proofs.Walking.{not-left, not-none, placed}
use Rattle.quantum_run.proofs.slowly.slowly.Given as given
use Rattle.quantum_run.proofs.slowly.slowly.Goals as goal

-- what a memory shows
abbrev shown : (g : given.Over) → Running g.row.P.Denot g.P.Pages
    → (Still × (g.P.Pages.Fixed × GName)) × List (Option (List ℕ)) → g.P.Pages.State → Type 0
shown g m = ShowsKnown (still m.tid (g.P.Pages.owners m.pages) m.space.now.entries)
    (g.P.Pages.fixed m.pages, m.compared.ghost_name) (g.P.Pages.state m.pages)
    (g.P.Pages.pages m.pages) m.compared.now.slots m.compared.now.blocks

-- and what it answers
abbrev answers : (g : given.Over) → Still × (g.P.Pages.Fixed × GName)
    → MemoryAnswers g.P.Pages.State
answers g f = run_answers f.0 (g.P.Pages.places f.1.0)

pub line_in-line-requires : goal.line_in-line-requires
line_in-line-requires g c =
    let n = c.line_here-at.new.memory in
    let at = c.line_here-at.result in
    let some = not-none at c.if-at-eq0.false in
    let here = placed n.shown n.compared.now.blocks c.line_here-at.new.code c.lines.result.now
    (page_start c.args.pc) c.args.pc at some
    (line-of n.shown n.compared.now.blocks c.line_here-at.new.code c.lines.result.now c.args.pc at
    some c.line_here-at.ensures.line c.line_here-at.ensures.even c.ranges.pc.fits
    c.lines.ensures.lines c.lines.ensures.known) in
    got-within c.lines.result.now at here.0 here.1

pub returns-then-at-eq0 : goal.returns-then-at-eq0
returns-then-at-eq0 g c = λ f u shows.
    let m = c.args.memory.now in
    let n = c.line_here-at.new.memory in
    let e = c.line_here-at.ensures in
    c.by_fetch.ensures (f, bytes_of_pages c.line_here-at.new.code) u
    (shows-learnt g.P.Pages.fixed g.P.Pages.state g.P.Pages.pages m.pages n.pages
    m.compared.ghost_name n.compared.ghost_name
    (still m.tid (g.P.Pages.owners m.pages) m.space.now.entries)
    (still n.tid (g.P.Pages.owners n.pages) n.space.now.entries) m.compared.now.slots
    n.compared.now.slots m.compared.now.blocks n.compared.now.blocks f
    (bytes_of_pages c.args.code.now) (bytes_of_pages c.line_here-at.new.code) u e.still
    e.pages e.name e.right shows)

pub returns : goal.returns
returns g c = λ f u shows.
    let m = c.args.memory.now in
    let n = c.line_here-at.new.memory in
    let e = c.line_here-at.ensures in
    let known = c.line_here-at.new.code in
    let at = c.line_here-at.result in
    let lines = c.lines.result.now in
    let line = c.line_in-line.result.now in
    let some = not-none at c.if-at-eq0.false in
    let now = still n.tid (g.P.Pages.owners n.pages) n.space.now.entries in
    let learnt = shows-learnt g.P.Pages.fixed g.P.Pages.state g.P.Pages.pages m.pages n.pages
    m.compared.ghost_name n.compared.ghost_name
    (still m.tid (g.P.Pages.owners m.pages) m.space.now.entries) now m.compared.now.slots
    n.compared.now.slots m.compared.now.blocks n.compared.now.blocks f
    (bytes_of_pages c.args.code.now) (bytes_of_pages known) u e.still e.pages e.name e.right
    shows in
    let of = line-of n.shown n.compared.now.blocks known lines c.args.pc at some e.line e.even
    c.ranges.pc.fits c.lines.ensures.lines c.lines.ensures.known in
    let live = live-at lines known.lines at line c.lines.ensures.lines
    (not-left at e.live c.if-at-eq0.false) c.line_in-line.ensures in
    let found = fetched-at (beside_name g.P.Pages.places) now
    (g.P.Pages.fixed n.pages, n.compared.ghost_name) (g.P.Pages.state n.pages)
    (g.P.Pages.pages n.pages) n.compared.now.slots n.shown n.compared.now.blocks known lines
    (page_start c.args.pc) c.args.pc at line f u some (g.P.Pages.bytes_are n.pages) n.shown_are
    n.kept of c.line_in-line.ensures live learnt in
    let k = c.one_known-next.new in
    let all : (Still × (g.P.Pages.Fixed × GName)) × List (Option (List ℕ)) =
    (f, bytes_of_pages known) in
    let at_pc = with_pc c.args.regs.now c.args.pc in
    let came = one_in (answers g f) at_pc u in
    subst (λ (r : Registers). Follows (shown g k.memory all) u at_pc r
    (went_on c.behind.result k.why)
    came) (sym (c.behind.ensures.registers k.regs))
    (subst (λ (x : Went). Follows (shown g k.memory all) u at_pc
    (arrived k.regs c.args.pc c.one_known-next.result) x came) (sym (c.behind.ensures.went k.why))
    (c.one_known-next.ensures all u found.0 found.1 found.2 learnt))
