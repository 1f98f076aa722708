use Rattle.std.specs.Borrow.{GName}
use Rattle.std.proofs.Common.{ℕ, ◌+◌, ◌-◌, ◌≡◌, ◌≤◌, ◌∙◌, List, Option, arith, sym}
use Rattle.dos_world.specs.World.{Registers, with_pc}
use Rattle.code_pages.specs.Lines.{Known, bytes_of_pages}
use Rattle.quantum_run.specs.Finding.{page_start}
use Rattle.flat_machine.specs.Over.{MemoryAnswers}
use Rattle.quantum_run.specs.Answering.{Still, run_answers, still}
use Rattle.quantum_run.specs.Showing.{ShowsKnown}
use Rattle.quantum_run.specs.ThreadRuns.{AreElsewhere, AreOutside, Reaches, ReachesIn}
use Rattle.quantum_run.specs.declared.thread_memory.Running.{Running}
use Rattle.quantum_run.proofs.Elsewhere.{none-made, outside-page, then-elsewhere}
use Rattle.quantum_run.proofs.RunSteps.{reaches-none, reaches-then}
use Rattle.quantum_run.proofs.flight.fly_between.Given as given
use Rattle.quantum_run.proofs.flight.fly_between.Goals as goal

-- what a memory shows
abbrev shown : (g : given.Over) → Running g.row.P.Denot g.P.Pages
    → (Still × (g.P.Pages.Fixed × GName)) × List (Option (List ℕ)) → g.P.Pages.State → Type 0
shown g m = ShowsKnown (still m.tid (g.P.Pages.owners m.pages) m.space.now.entries)
    (g.P.Pages.fixed m.pages, m.compared.ghost_name) (g.P.Pages.state m.pages)
    (g.P.Pages.pages m.pages) m.compared.now.slots m.compared.now.blocks

-- and what it answers
abbrev answers : (g : given.Over) → Still × (g.P.Pages.Fixed × GName)
    → MemoryAnswers g.P.Pages.State
answers g f = run_answers f.0 (g.P.Pages.places f.1.0)

-- one leg more, in a page of none of these addresses
leg-between : (g : given.Over) (before after : Running g.row.P.Denot g.P.Pages)
    (r r' : Registers) (code : Known) (stops : List ℕ) (pc to budget left more : ℕ) → more ≤ left
    → left ≤ budget → AreOutside stops (page_start pc)
    → ((f : Still × (g.P.Pages.Fixed × GName)) (u : g.P.Pages.State)
    → shown g before (f, bytes_of_pages code) u
    → ReachesIn (page_start pc) (answers g f) (shown g after (f, bytes_of_pages code))
    (with_pc r pc)
    u (with_pc r' to) (left - more))
    → (f : Still × (g.P.Pages.Fixed × GName)) (r0 : Registers) (u : g.P.Pages.State)
    → Reaches (answers g f) (shown g before (f, bytes_of_pages code)) r0 u (with_pc r pc)
    (budget - left) × AreElsewhere (answers g f) stops (budget - left) r0 u
    → Reaches (answers g f) (shown g after (f, bytes_of_pages code)) r0 u (with_pc r' to)
    (budget - more) × AreElsewhere (answers g f) stops (budget - more) r0 u
leg-between g before after r r' code stops pc to budget left more less within out leg f r0 u reached
    =
    let count : budget - more ≡ (budget - left) + (left - more) = omega (arith, less, within) in
    let old = shown g before (f, bytes_of_pages code) in (
      reaches-then (answers g f) r0 u old (shown g after (f, bytes_of_pages code)) (with_pc r pc)
          (with_pc r' to) (budget - left) (left - more) (budget - more) count
          (λ v s. (leg f v s).reaches) reached.0,
      then-elsewhere (answers g f) stops r0 u old (with_pc r pc) (budget - left) (left - more)
          (budget - more) count reached.0
          ((leg f reached.0.now reached.0.shown).outside stops out) reached.1,
    )

pub loop-left-init : goal.loop-left-init
loop-left-init g c = (
  omega arith,
  λ f u shows.
      let begun = with_pc c.args.regs.now c.args.pc in (
        reaches-none (answers g f) begun u _ (c.args.budget - c.args.budget) (omega arith) shows,
        none-made (answers g f) c.args.stops.now begun u (c.args.budget - c.args.budget)
            (omega arith),
      ),
)

pub loop-left-preserved : goal.loop-left-preserved
loop-left-preserved g c =
    let i = c.loop-left.invariant in
    let e = c.fly_in_page-leg.ensures in (
      omega (arith, i.0, e.within),
      λ f u shows.
          leg-between g c.loop-left.memory c.fly_in_page-leg.new.memory c.loop-left.regs
          c.fly_in_page-leg.new.regs c.args.code.now c.args.stops.now c.loop-left.pc
          c.fly_in_page-leg.result.pc c.args.budget c.loop-left.left c.fly_in_page-leg.result.left
          e.within i.0
          (outside-page c.args.stops.now c.loop-left.pc
          (sym c.has_stop_in_page.ensures ∙ c.if-not-has_stop_in_page.true))
          e.reaches f (with_pc c.args.regs.now c.args.pc) u (i.1 f u shows),
    )

pub returns-then-not-leg-clause-reaches : goal.returns-then-not-leg-clause-reaches
returns-then-not-leg-clause-reaches g c = λ f u shows.
    let i = c.loop-left.invariant in
    let e = c.fly_in_page-leg.ensures in
    let x = leg-between g c.loop-left.memory c.fly_in_page-leg.new.memory c.loop-left.regs
    c.fly_in_page-leg.new.regs c.args.code.now c.args.stops.now c.loop-left.pc
    c.fly_in_page-leg.result.pc c.args.budget c.loop-left.left c.fly_in_page-leg.result.left
    e.within i.0
    (outside-page c.args.stops.now c.loop-left.pc
    (sym c.has_stop_in_page.ensures ∙ c.if-not-has_stop_in_page.true))
    e.reaches f (with_pc c.args.regs.now c.args.pc) u (i.1 f u shows) in
    x.0

pub returns-then-not-leg-clause-elsewhere : goal.returns-then-not-leg-clause-elsewhere
returns-then-not-leg-clause-elsewhere g c = λ f u shows.
    let i = c.loop-left.invariant in
    let e = c.fly_in_page-leg.ensures in
    let x = leg-between g c.loop-left.memory c.fly_in_page-leg.new.memory c.loop-left.regs
    c.fly_in_page-leg.new.regs c.args.code.now c.args.stops.now c.loop-left.pc
    c.fly_in_page-leg.result.pc c.args.budget c.loop-left.left c.fly_in_page-leg.result.left
    e.within i.0
    (outside-page c.args.stops.now c.loop-left.pc
    (sym c.has_stop_in_page.ensures ∙ c.if-not-has_stop_in_page.true))
    e.reaches f (with_pc c.args.regs.now c.args.pc) u (i.1 f u shows) in
    x.1

pub returns-else-not-has_stop_in_page-clause-elsewhere :
    goal.returns-else-not-has_stop_in_page-clause-elsewhere
returns-else-not-has_stop_in_page-clause-elsewhere g c = λ f u shows.
    (c.loop-left.invariant.1 f u shows).1

pub returns-after-loop-left-clause-elsewhere : goal.returns-after-loop-left-clause-elsewhere
returns-after-loop-left-clause-elsewhere g c = λ f u shows.
    (c.loop-left.invariant.1 f u shows).1

pub returns-else-not-has_stop_in_page-clause-reaches :
    goal.returns-else-not-has_stop_in_page-clause-reaches
returns-else-not-has_stop_in_page-clause-reaches g c = λ f u shows.
    (c.loop-left.invariant.1 f u shows).0

pub returns-after-loop-left-clause-reaches : goal.returns-after-loop-left-clause-reaches
returns-after-loop-left-clause-reaches g c = λ f u shows.
    (c.loop-left.invariant.1 f u shows).0
