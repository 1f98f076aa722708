use Rattle.std.specs.Borrow.{GName}
use Rattle.std.proofs.Common.{ℕ, ◌-◌, ◌≤◌, List, Option, arith}
use Rattle.dos_world.specs.World.{Registers, with_pc}
use Rattle.code_pages.specs.Lines.{Known, bytes_of_pages}
use Rattle.flat_machine.specs.Over.{MemoryAnswers}
use Rattle.quantum_run.specs.Answering.{Still, run_answers, still}
use Rattle.quantum_run.specs.Showing.{ShowsKnown}
use Rattle.quantum_run.specs.ThreadRuns.{Reaches}
use Rattle.quantum_run.specs.declared.thread_memory.Running.{Running}
use Rattle.quantum_run.proofs.RunSteps.{reaches-none, reaches-then}
use Rattle.quantum_run.proofs.flight.fly.Given as given
use Rattle.quantum_run.proofs.flight.fly.Goals as goal

-- what a memory shows
abbrev shown : (g : given.Over) → Running g.row.P.Denot g.P.Pages
    → (Still × (g.P.Pages.Fixed × GName)) × List (Option (List ℕ)) → g.P.Pages.State → Type 0
shown g m = ShowsKnown (still m.tid (g.P.Pages.owners m.pages) m.space.now.entries)
    (g.P.Pages.fixed m.pages, m.compared.ghost_name) (g.P.Pages.state m.pages)
    (g.P.Pages.pages m.pages) m.compared.now.slots m.compared.now.blocks

-- and what it answers
abbrev answers : (g : given.Over) → Still × (g.P.Pages.Fixed × GName)
    → MemoryAnswers g.P.Pages.State
answers g f = run_answers f.0 (g.P.Pages.places f.1.0)

pub loop-leg-init : goal.loop-leg-init
loop-leg-init g c = (
  omega arith,
  λ f u shows.
      reaches-none (answers g f) (with_pc c.args.regs.now c.args.pc) u _
      (c.args.budget - c.args.budget) (omega arith) shows,
)

-- one leg more
leg-more : (g : given.Over) (before after : Running g.row.P.Denot g.P.Pages) (r r' : Registers)
    (code : Known) (pc to budget left more : ℕ) → more ≤ left → left ≤ budget
    → ((f : Still × (g.P.Pages.Fixed × GName)) (u : g.P.Pages.State)
    → shown g before (f, bytes_of_pages code) u
    → Reaches (answers g f) (shown g after (f, bytes_of_pages code)) (with_pc r pc) u
    (with_pc r' to)
    (left - more))
    → (f : Still × (g.P.Pages.Fixed × GName)) (r0 : Registers) (u : g.P.Pages.State)
    → Reaches (answers g f) (shown g before (f, bytes_of_pages code)) r0 u (with_pc r pc)
    (budget - left)
    → Reaches (answers g f) (shown g after (f, bytes_of_pages code)) r0 u (with_pc r' to)
    (budget - more)
leg-more g before after r r' code pc to budget left more less within leg f r0 u reached =
    reaches-then (answers g f) r0 u (shown g before (f, bytes_of_pages code))
    (shown g after (f, bytes_of_pages code)) (with_pc r pc) (with_pc r' to) (budget - left)
    (left - more) (budget - more) (omega (arith, less, within)) (λ v s. leg f v s) reached

pub loop-leg-preserved : goal.loop-leg-preserved
loop-leg-preserved g c =
    let i = c.loop-leg.invariant in
    let e = c.fly_in_page-leg.ensures in (
      omega (arith, i.0, e.within),
      λ f u shows.
          leg-more g c.loop-leg.memory c.fly_in_page-leg.new.memory c.loop-leg.regs
          c.fly_in_page-leg.new.regs c.args.code.now c.loop-leg.pc c.fly_in_page-leg.result.pc
          c.args.budget c.loop-leg.left c.fly_in_page-leg.result.left e.within i.0
          (λ h v s. (e.reaches h v s).reaches) f (with_pc c.args.regs.now c.args.pc) u
          (i.1 f u shows),
    )

pub returns-then-not-leg-clause-reaches : goal.returns-then-not-leg-clause-reaches
returns-then-not-leg-clause-reaches g c = λ f u shows.
    let i = c.loop-leg.invariant in
    let e = c.fly_in_page-leg.ensures in
    leg-more g c.loop-leg.memory c.fly_in_page-leg.new.memory c.loop-leg.regs
    c.fly_in_page-leg.new.regs c.args.code.now c.loop-leg.pc c.fly_in_page-leg.result.pc
    c.args.budget c.loop-leg.left c.fly_in_page-leg.result.left e.within i.0
    (λ h v s. (e.reaches h v s).reaches) f (with_pc c.args.regs.now c.args.pc) u (i.1 f u shows)
