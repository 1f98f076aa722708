use Rattle.std.specs.Borrow.{GName}
use Rattle.std.proofs.Common.{ℕ, zero, suc, ◌+◌, ◌-◌, ◌≡◌, ◌<◌, ◌≤◌, ◌⊎◌, ◌∙◌, List, Option, Some}
use Rattle.std.proofs.Common.{None, arith, inl, inr, refl, subst, sym}
use Rattle.dos_world.specs.World.{Registers, with_pc}
use Rattle.code_pages.specs.Lines.{Known, bytes_of_pages}
use Rattle.quantum_run.specs.Finding.{page_start}
use Rattle.quantum_run.specs.Flying.{IsLineOf}
use Rattle.flat_machine.specs.Over.{MemoryAnswers}
use Rattle.quantum_run.specs.Answering.{Still, run_answers, still}
use Rattle.quantum_run.specs.Showing.{ShowsKnown}
use Rattle.quantum_run.specs.ThreadRuns.{Goes, Reaches}
use Rattle.quantum_run.specs.declared.thread_memory.Running.{Running}
use Rattle.quantum_run.proofs.RunSteps.{goes-stopped, reaches-more, reaches-none}
use Rattle.quantum_run.proofs.RunSteps.{reaches-shown, reaches-then}
use Rattle.quantum_run.proofs.Walking.{not-none}
use Rattle.quantum_run.proofs.run.go.Given as given
use Rattle.quantum_run.proofs.run.go.Goals as goal
use Rattle.quantum_run.proofs.run.go.Goals.{else-loop-left-test}
use Rattle.quantum_run.proofs.run.go.Goals.{then-loop-left-test+then-left-eq0}

-- what a memory shows
abbrev shown : (g : given.Over) → Running g.row.P.Denot g.P.Pages
    → (Still × (g.P.Pages.Fixed × GName)) × List (Option (List ℕ)) → g.P.Pages.State → Type 0
shown g m = ShowsKnown (still m.tid (g.P.Pages.owners m.pages) m.space.now.entries)
    (g.P.Pages.fixed m.pages, m.compared.ghost_name) (g.P.Pages.state m.pages)
    (g.P.Pages.pages m.pages) m.compared.now.slots m.compared.now.blocks

-- and what it answers
abbrev answers : (g : given.Over) → Still × (g.P.Pages.Fixed × GName)
    → MemoryAnswers g.P.Pages.State
answers g f = run_answers f.0 (g.P.Pages.places f.1.0)

pub loop-left-init : goal.loop-left-init
loop-left-init g c =
    let m = c.args.memory.now in
    let budget = c.args.budget.now in
    let made = budget - (c.args.floor + (budget - c.args.floor)) in (
      omega (arith, c.requires.floor),
      λ f u shows.
          let all = shown g m (f, bytes_of_pages c.args.code.now) in
          subst (λ p. Reaches (answers g f) all c.args.regs.now u (with_pc c.args.regs.now p) made)
          (sym c.pc-pc.ensures)
          (reaches-none (answers g f) c.args.regs.now u all made (omega (arith, c.requires.floor))
          shows),
    )

-- what lines led to
flown-on : (g : given.Over) (before after : Running g.row.P.Denot g.P.Pages) (r r' : Registers)
    (code : Known) (pc to floor budget left more : ℕ) → more ≤ left → floor + left ≤ budget
    → ((f : Still × (g.P.Pages.Fixed × GName)) (u : g.P.Pages.State)
    → shown g before (f, bytes_of_pages code) u
    → Reaches (answers g f) (shown g after (f, bytes_of_pages code)) (with_pc r pc) u
    (with_pc r' to)
    (left - more))
    → (f : Still × (g.P.Pages.Fixed × GName)) (r0 : Registers) (u : g.P.Pages.State)
    → Reaches (answers g f) (shown g before (f, bytes_of_pages code)) r0 u (with_pc r pc)
    (budget - (floor + left))
    → Reaches (answers g f) (shown g after (f, bytes_of_pages code)) r0 u (with_pc r' to)
    (budget - (floor + more))
flown-on g before after r r' code pc to floor budget left more less within flies f r0 u reached =
    reaches-then (answers g f) r0 u (shown g before (f, bytes_of_pages code))
    (shown g after (f, bytes_of_pages code)) (with_pc r pc) (with_pc r' to)
    (budget - (floor + left)) (left - more) (budget - (floor + more)) (omega (arith, less, within))
    (λ v s. flies f v s) reached

-- the same, and a line that is learnt there
flown-learnt : (g : given.Over) (before after last : Running g.row.P.Denot g.P.Pages)
    (r r' : Registers) (code known : Known) (pc to floor budget left more : ℕ) → more ≤ left
    → floor + left ≤ budget
    → ((f : Still × (g.P.Pages.Fixed × GName)) (u : g.P.Pages.State)
    → shown g before (f, bytes_of_pages code) u
    → Reaches (answers g f) (shown g after (f, bytes_of_pages code)) (with_pc r pc) u
    (with_pc r' to)
    (left - more))
    → ((f : Still × (g.P.Pages.Fixed × GName)) (u : g.P.Pages.State)
    → shown g after (f, bytes_of_pages code) u → shown g last (f, bytes_of_pages known) u)
    → (f : Still × (g.P.Pages.Fixed × GName)) (r0 : Registers) (u : g.P.Pages.State)
    → Reaches (answers g f) (shown g before (f, bytes_of_pages code)) r0 u (with_pc r pc)
    (budget - (floor + left))
    → Reaches (answers g f) (shown g last (f, bytes_of_pages known)) r0 u (with_pc r' to)
    (budget - (floor + more))
flown-learnt g before after last r r' code known pc to floor budget left more less within flies
    learns f r0 u reached =
    reaches-shown (answers g f) r0 u (shown g after (f, bytes_of_pages code))
    (shown g last (f, bytes_of_pages known)) (with_pc r' to) (budget - (floor + more))
    (λ v s. learns f v s)
    (flown-on g before after r r' code pc to floor budget left more less within flies f r0 u
    reached)

-- a run that comes down to the floor
comes-down : (g : given.Over) (m : Running g.row.P.Denot g.P.Pages) (code : Known)
    (regs own : Registers) (pc floor budget left : ℕ) → left ≡ 0 → own ≡ with_pc regs pc
    → (f : Still × (g.P.Pages.Fixed × GName)) (r0 : Registers) (u : g.P.Pages.State)
    → Reaches (answers g f) (shown g m (f, bytes_of_pages code)) r0 u (with_pc regs pc)
    (budget - (floor + left))
    → Goes (answers g f) (shown g m (f, bytes_of_pages code)) r0 u own (budget - floor) None
comes-down g m code regs own pc floor budget left none is f r0 u reached =
    let all = shown g m (f, bytes_of_pages code) in
    let done : budget - (floor + left) ≡ budget - floor = omega (arith, none) in
    subst (λ (r : Registers). Goes (answers g f) all r0 u r (budget - floor) None) (sym is)
    (record {
      reaches = subst (λ k. Reaches (answers g f) all r0 u (with_pc regs pc) k) done reached;
      stops = tt;
    })

pub loop-left-preserved-then-has_learnt : goal.loop-left-preserved-then-has_learnt
loop-left-preserved-then-has_learnt g c =
    let i = c.loop-left.invariant in
    let e = c.fly-flown.ensures in (
      omega (arith, i.0, e.within),
      λ f u shows.
          flown-learnt g c.loop-left.memory c.fly-flown.new.memory c.learns-has_learnt.new.memory
          c.loop-left.regs c.fly-flown.new.regs c.loop-left.code c.learns-has_learnt.new.code
          c.loop-left.pc c.fly-flown.result.pc c.args.floor c.args.budget.now c.loop-left.left
          c.fly-flown.result.left e.within i.0 e.reaches c.learns-has_learnt.ensures.shows f
          c.args.regs.now u (i.1 f u shows),
    )

pub loop-left-preserved : goal.loop-left-preserved
loop-left-preserved g c =
    let i = c.loop-left.invariant in
    let e = c.fly-flown.ensures in
    let budget = c.args.budget.now in
    let left = c.fly-flown.result.left in
    let some : 0 < left = not-none left c.if-left-eq0.false in
    let count : budget - (c.args.floor + (left - 1)) ≡ budget - (c.args.floor + left) + 1 =
    omega (arith, some, i.0, e.within) in (
      omega (arith, i.0, e.within),
      λ f u shows.
          let mid = shown g c.learns-has_learnt.new.memory
          (f, bytes_of_pages c.learns-has_learnt.new.code) in
          let new = shown g c.slowly.new.memory (f, bytes_of_pages c.slowly.new.code) in
          reaches-more (answers g f) c.args.regs.now u mid new
          (with_pc c.fly-flown.new.regs c.fly-flown.result.pc)
          (with_pc c.slowly.new.regs c.in-Some.next) (budget - (c.args.floor + left))
          (budget - (c.args.floor + (left - 1))) count (λ v s. c.in-Some.ensures f v s)
          (flown-learnt g c.loop-left.memory c.fly-flown.new.memory c.learns-has_learnt.new.memory
          c.loop-left.regs c.fly-flown.new.regs c.loop-left.code c.learns-has_learnt.new.code
          c.loop-left.pc c.fly-flown.result.pc c.args.floor budget c.loop-left.left left
          e.within i.0 e.reaches c.learns-has_learnt.ensures.shows f c.args.regs.now u
          (i.1 f u shows)),
    )

pub returns-in-None-clause-runs : goal.returns-in-None-clause-runs
returns-in-None-clause-runs g c = λ f u shows.
    let i = c.loop-left.invariant in
    let e = c.fly-flown.ensures in
    let left = c.fly-flown.result.left in
    let made = c.args.budget.now - (c.args.floor + left) in
    let r0 = c.args.regs.now in
    let before = with_pc c.fly-flown.new.regs c.fly-flown.result.pc in
    let mid = shown g c.learns-has_learnt.new.memory
    (f, bytes_of_pages c.learns-has_learnt.new.code) in
    let new = shown g c.slowly.new.memory (f, bytes_of_pages c.slowly.new.code) in
    let at = with_pc c.slowly.new.regs c.fly-flown.result.pc in
    let stopped : Goes (answers g f) new r0 u at made (Some c.slowly.new.why) =
    goes-stopped (answers g f) r0 u mid new before at made c.slowly.new.why
    (λ v s. c.in-None.ensures f v s)
    (flown-learnt g c.loop-left.memory c.fly-flown.new.memory c.learns-has_learnt.new.memory
    c.loop-left.regs c.fly-flown.new.regs c.loop-left.code c.learns-has_learnt.new.code
    c.loop-left.pc c.fly-flown.result.pc c.args.floor c.args.budget.now c.loop-left.left left
    e.within i.0 e.reaches c.learns-has_learnt.ensures.shows f r0 u (i.1 f u shows)) in
    subst (λ (r : Registers). Goes (answers g f) new r0 u r made (Some c.slowly.new.why))
    (sym c.set_pc.ensures) stopped

-- a line that is there is there still, where none is learnt
still-line : (g : given.Over) (m n : Running g.row.P.Denot g.P.Pages) (code known : Known)
    (pc at : ℕ)
    → (at ≡ 0) ⊎ IsLineOf m.shown m.compared.now.blocks code code.lines (page_start pc) pc at
    → (0 < at → (n ≡ m) × (known ≡ code))
    → (at ≡ 0) ⊎ IsLineOf n.shown n.compared.now.blocks known known.lines (page_start pc) pc at
still-line g m n code known pc zero line same = inl refl
still-line g m n code known pc (suc at) (inl none) same = inl none
still-line g m n code known pc (suc at) (inr line) same =
    let s = same (omega arith) in
    inr (subst (λ (x : Running g.row.P.Denot g.P.Pages). IsLineOf x.shown x.compared.now.blocks
    known known.lines (page_start pc) pc (suc at)) (sym s.0)
    (subst (λ (k : Known). IsLineOf m.shown m.compared.now.blocks k k.lines (page_start pc) pc
    (suc at)) (sym s.1) line))

pub slowly-requires : goal.slowly-requires
slowly-requires g c =
    still-line g c.fly-flown.new.memory c.learns-has_learnt.new.memory c.loop-left.code
    c.learns-has_learnt.new.code c.fly-flown.result.pc c.fly-flown.result.at
    c.fly-flown.ensures.line c.learns-has_learnt.ensures.known

-- where a run is, by other names
moved : (g : given.Over) (m m' : Running g.row.P.Denot g.P.Pages) (r r' : Registers)
    (pc pc' left left' budget floor : ℕ) (code : Known) → m' ≡ m → r' ≡ r → pc' ≡ pc
    → left' ≡ left → (f : Still × (g.P.Pages.Fixed × GName)) (r0 : Registers) (u : g.P.Pages.State)
    → Reaches (answers g f) (shown g m (f, bytes_of_pages code)) r0 u (with_pc r pc)
    (budget - (floor + left))
    → Reaches (answers g f) (shown g m' (f, bytes_of_pages code)) r0 u (with_pc r' pc')
    (budget - (floor + left'))
moved g m m' r r' pc pc' left left' budget floor code same-m same-r same-pc same-left f r0 u reached
    =
    let made = budget - (floor + left) in
    subst (λ k. Reaches (answers g f) (shown g m' (f, bytes_of_pages code)) r0 u (with_pc r' pc')
    (budget - (floor + k))) (sym same-left)
    (subst (λ k. Reaches (answers g f) (shown g m' (f, bytes_of_pages code)) r0 u (with_pc r' k)
    made) (sym same-pc)
    (subst (λ (x : Registers). Reaches (answers g f) (shown g m' (f, bytes_of_pages code)) r0 u
    (with_pc x pc) made) (sym same-r)
    (subst (λ (x : Running g.row.P.Denot g.P.Pages). Reaches (answers g f)
    (shown g x (f, bytes_of_pages code)) r0 u (with_pc r pc) made) (sym same-m) reached)))

pub returns-clause-runs : goal.returns-clause-runs
returns-clause-runs g c = λ f u shows.
    let i = c.loop-left.invariant in
    let last = c.loop-left-test in
    let budget = c.args.budget.now in
    let code = c.loop-left.code in
    let r0 = c.args.regs.now in
    let reached : (last.left ≡ 0)
    × Reaches (answers g f) (shown g last.memory (f, bytes_of_pages code)) r0 u
    (with_pc last.regs last.pc) (budget - (c.args.floor + last.left)) =
    elim last.branch [
      | else-loop-left-test b ↦ (
        omega (arith, b.left-is, b.loop-left-test.false),
        moved g c.loop-left.memory last.memory c.loop-left.regs last.regs c.loop-left.pc last.pc
            c.loop-left.left last.left budget c.args.floor code b.memory-is b.regs-is b.pc-is
            b.left-is f r0 u (i.1 f u shows),
      )
      | then-loop-left-test+then-left-eq0 b ↦ (
        b.left-is ∙ b.if-left-eq0.true,
        moved g b.fly-flown.new.memory last.memory b.fly-flown.new.regs last.regs
            b.fly-flown.result.pc last.pc b.fly-flown.result.left last.left budget c.args.floor
            code b.memory-is b.regs-is b.pc-is b.left-is f r0 u
            (flown-on g c.loop-left.memory b.fly-flown.new.memory c.loop-left.regs
            b.fly-flown.new.regs code c.loop-left.pc b.fly-flown.result.pc c.args.floor budget
            c.loop-left.left b.fly-flown.result.left b.fly-flown.ensures.within i.0
            b.fly-flown.ensures.reaches f r0 u (i.1 f u shows)),
      )
    ] in
    comes-down g last.memory code last.regs c.set_pc-2.new.self last.pc c.args.floor budget
    last.left reached.0 c.set_pc-2.ensures f r0 u reached.1
