use Rattle.std.specs.Borrow.{GName}
use Rattle.std.proofs.Common.{ℕ, ◌+◌, ◌-◌, ◌<◌, ◌≤◌, ◌≡◌, ◌∙◌, inl, inr, List, Option, Some}
use Rattle.std.proofs.Common.{None, ap, arith}
use Rattle.std.proofs.Common.{refl, subst, sym}
use Rattle.dos_world.specs.World.{Registers, with_pc}
use Rattle.code_pages.specs.Lines.{Known, bytes_of_pages}
use Rattle.flat_machine.specs.Over.{MemoryAnswers}
use Rattle.quantum_run.specs.Answering.{Still, run_answers, still}
use Rattle.quantum_run.specs.Showing.{ShowsKnown}
use Rattle.quantum_run.specs.ThreadRuns.{Goes, Reaches}
use Rattle.quantum_run.specs.declared.thread_memory.Running.{Running}
use Rattle.quantum_run.specs.ThreadRuns.{AreElsewhere, is_stop_at}
use Rattle.quantum_run.proofs.Elsewhere.{none-made, one-elsewhere, then-elsewhere}
use Rattle.quantum_run.proofs.RunSteps.{goes-stopped, reaches-more, reaches-none}
use Rattle.quantum_run.proofs.RunSteps.{reaches-then}
use Rattle.quantum_run.proofs.Walking.{not-none}
use Rattle.quantum_run.proofs.run.go_up_to.Given as given
use Rattle.quantum_run.proofs.run.go_up_to.Goals as goal
use Rattle.quantum_run.proofs.run.go_up_to.Goals.{else-loop-left-test}
use Rattle.quantum_run.proofs.run.go_up_to.Goals.{then-loop-left-test+then-left-eq0}

-- what a memory shows
abbrev shown : (g : given.Over) → Running g.row.P.Denot g.P.Pages
    → (Still × (g.P.Pages.Fixed × GName)) × List (Option (List ℕ)) → g.P.Pages.State → Type 0
shown g m = ShowsKnown (still m.tid (g.P.Pages.owners m.pages) m.space.now.entries)
    (g.P.Pages.fixed m.pages, m.compared.ghost_name) (g.P.Pages.state m.pages)
    (g.P.Pages.pages m.pages) m.compared.now.slots m.compared.now.blocks

-- and what it answers
abbrev answers : (g : given.Over) → Still × (g.P.Pages.Fixed × GName)
    → MemoryAnswers g.P.Pages.State
answers g f = run_answers f.0 (g.P.Pages.places f.1.0)

pub loop-left-init : goal.loop-left-init
loop-left-init g c =
    let m = c.args.memory.now in
    let budget = c.args.budget.now in
    let made = budget - budget in (
      omega arith,
      λ f u shows.
          let all = shown g m (f, bytes_of_pages c.args.code.now) in (
            subst (λ p. Reaches (answers g f) all c.args.regs.now u (with_pc c.args.regs.now p)
                made) (sym c.pc-pc.ensures)
                (reaches-none (answers g f) c.args.regs.now u all made (omega arith) shows),
            none-made (answers g f) c.args.stops.now c.args.regs.now u made (omega arith),
          ),
    )

-- what lines led to
flown-between : (g : given.Over) (before after : Running g.row.P.Denot g.P.Pages)
    (r r' : Registers) (code : Known) (stops : List ℕ) (pc to budget left more : ℕ) → more ≤ left
    → left ≤ budget
    → ((f : Still × (g.P.Pages.Fixed × GName)) (u : g.P.Pages.State)
    → shown g before (f, bytes_of_pages code) u
    → Reaches (answers g f) (shown g after (f, bytes_of_pages code)) (with_pc r pc) u
    (with_pc r' to)
    (left - more))
    → ((f : Still × (g.P.Pages.Fixed × GName)) (u : g.P.Pages.State)
    → shown g before (f, bytes_of_pages code) u
    → AreElsewhere (answers g f) stops (left - more) (with_pc r pc) u)
    → (f : Still × (g.P.Pages.Fixed × GName)) (r0 : Registers) (u : g.P.Pages.State)
    → Reaches (answers g f) (shown g before (f, bytes_of_pages code)) r0 u (with_pc r pc)
    (budget - left) × AreElsewhere (answers g f) stops (budget - left) r0 u
    → Reaches (answers g f) (shown g after (f, bytes_of_pages code)) r0 u (with_pc r' to)
    (budget - more) × AreElsewhere (answers g f) stops (budget - more) r0 u
flown-between g before after r r' code stops pc to budget left more less within flies elsewhere f r0
    u reached =
    let count : budget - more ≡ (budget - left) + (left - more) = omega (arith, less, within) in
    let old = shown g before (f, bytes_of_pages code) in (
      reaches-then (answers g f) r0 u old (shown g after (f, bytes_of_pages code)) (with_pc r pc)
          (with_pc r' to) (budget - left) (left - more) (budget - more) count
          (λ v s. flies f v s) reached.0,
      then-elsewhere (answers g f) stops r0 u old (with_pc r pc) (budget - left) (left - more)
          (budget - more) count reached.0 (elsewhere f reached.0.now reached.0.shown) reached.1,
    )

-- where a run is, by other names
moved : (g : given.Over) (m m' : Running g.row.P.Denot g.P.Pages) (r r' : Registers)
    (pc pc' left left' budget : ℕ) (code : Known) → m' ≡ m → r' ≡ r → pc' ≡ pc
    → left' ≡ left → (f : Still × (g.P.Pages.Fixed × GName)) (r0 : Registers) (u : g.P.Pages.State)
    → Reaches (answers g f) (shown g m (f, bytes_of_pages code)) r0 u (with_pc r pc) (budget - left)
    → Reaches (answers g f) (shown g m' (f, bytes_of_pages code)) r0 u (with_pc r' pc')
    (budget - left')
moved g m m' r r' pc pc' left left' budget code same-m same-r same-pc same-left f r0 u reached =
    subst (λ k. Reaches (answers g f) (shown g m' (f, bytes_of_pages code)) r0 u (with_pc r' pc')
    (budget - k)) (sym same-left)
    (subst (λ k. Reaches (answers g f) (shown g m' (f, bytes_of_pages code)) r0 u (with_pc r' k)
    (budget - left)) (sym same-pc)
    (subst (λ (x : Registers). Reaches (answers g f) (shown g m' (f, bytes_of_pages code)) r0 u
    (with_pc x pc) (budget - left)) (sym same-r)
    (subst (λ (x : Running g.row.P.Denot g.P.Pages). Reaches (answers g f)
    (shown g x (f, bytes_of_pages code)) r0 u (with_pc r pc) (budget - left)) (sym same-m)
    reached)))

pub loop-left-preserved : goal.loop-left-preserved
loop-left-preserved g c =
    let i = c.loop-left.invariant in
    let e = c.fly_between-flown.ensures in
    let left = c.fly_between-flown.result.left in
    let budget = c.args.budget.now in
    let some : 0 < left = not-none left c.if-left-eq0.false in
    let count : budget - (left - 1) ≡ budget - left + 1 = omega (arith, some, i.0, e.within) in
    let before = with_pc c.fly_between-flown.new.regs c.fly_between-flown.result.pc in (
      omega (arith, i.0, e.within),
      λ f u shows.
          let r0 = c.args.regs.now in
          let old = shown g c.fly_between-flown.new.memory (f, bytes_of_pages c.loop-left.code) in
          let new = shown g c.slowly.new.memory (f, bytes_of_pages c.slowly.new.code) in
          let r = flown-between g c.loop-left.memory c.fly_between-flown.new.memory
          c.loop-left.regs c.fly_between-flown.new.regs c.loop-left.code c.args.stops.now
          c.loop-left.pc c.fly_between-flown.result.pc budget c.loop-left.left left e.within i.0
          e.reaches e.elsewhere f r0 u (i.1 f u shows) in (
            reaches-more (answers g f) r0 u old new before
                (with_pc c.slowly.new.regs c.in-Some.next) (budget - left) (budget - (left - 1))
                count (λ v s. c.in-Some.ensures f v s) r.0,
            one-elsewhere (answers g f) c.args.stops.now r0 u old before (budget - left)
                (budget - (left - 1)) count (sym c.is_stop_at.ensures ∙ c.if-is_stop_at.false) r.0
                r.1,
          ),
    )

pub returns-then-is_stop_at-clause-runs : goal.returns-then-is_stop_at-clause-runs
returns-then-is_stop_at-clause-runs g c = λ f u shows.
    let m = c.fly_between-flown.new.memory in
    let made = c.args.budget.now - c.fly_between-flown.result.left in
    let all = shown g m (f, bytes_of_pages c.loop-left.code) in
    let r = flown-between g c.loop-left.memory c.fly_between-flown.new.memory
    c.loop-left.regs c.fly_between-flown.new.regs c.loop-left.code c.args.stops.now
    c.loop-left.pc c.fly_between-flown.result.pc c.args.budget.now c.loop-left.left
    c.fly_between-flown.result.left c.fly_between-flown.ensures.within c.loop-left.invariant.0
    c.fly_between-flown.ensures.reaches c.fly_between-flown.ensures.elsewhere f c.args.regs.now u
    (c.loop-left.invariant.1 f u shows) in
    subst (λ (x : Registers). Goes (answers g f) all c.args.regs.now u x made None)
    (sym c.set_pc.ensures)
    (record {
      reaches = r.0;
      stops = tt;
    })

pub returns-then-is_stop_at-clause-stop : goal.returns-then-is_stop_at-clause-stop
returns-then-is_stop_at-clause-stop g c =
    inr (ap (λ (r : Registers). is_stop_at c.args.stops.now r.pc) c.set_pc.ensures
    ∙ sym c.is_stop_at.ensures ∙ c.if-is_stop_at.true)

pub returns-then-is_stop_at-clause-within : goal.returns-then-is_stop_at-clause-within
returns-then-is_stop_at-clause-within g c =
    omega (arith, c.loop-left.invariant.0, c.fly_between-flown.ensures.within)

pub returns-then-is_stop_at-clause-elsewhere : goal.returns-then-is_stop_at-clause-elsewhere
returns-then-is_stop_at-clause-elsewhere g c = λ f u shows.
    let r = flown-between g c.loop-left.memory c.fly_between-flown.new.memory
    c.loop-left.regs c.fly_between-flown.new.regs c.loop-left.code c.args.stops.now
    c.loop-left.pc c.fly_between-flown.result.pc c.args.budget.now c.loop-left.left
    c.fly_between-flown.result.left c.fly_between-flown.ensures.within c.loop-left.invariant.0
    c.fly_between-flown.ensures.reaches c.fly_between-flown.ensures.elsewhere f c.args.regs.now u
    (c.loop-left.invariant.1 f u shows) in
    r.1

pub returns-in-None-clause-runs : goal.returns-in-None-clause-runs
returns-in-None-clause-runs g c = λ f u shows.
    let made = c.args.budget.now - c.fly_between-flown.result.left in
    let r0 = c.args.regs.now in
    let before = with_pc c.fly_between-flown.new.regs c.fly_between-flown.result.pc in
    let old = shown g c.fly_between-flown.new.memory (f, bytes_of_pages c.loop-left.code) in
    let n = c.slowly.new.memory in
    let new = shown g n (f, bytes_of_pages c.slowly.new.code) in
    let after = with_pc c.slowly.new.regs c.fly_between-flown.result.pc in
    let r = flown-between g c.loop-left.memory c.fly_between-flown.new.memory
    c.loop-left.regs c.fly_between-flown.new.regs c.loop-left.code c.args.stops.now
    c.loop-left.pc c.fly_between-flown.result.pc c.args.budget.now c.loop-left.left
    c.fly_between-flown.result.left c.fly_between-flown.ensures.within c.loop-left.invariant.0
    c.fly_between-flown.ensures.reaches c.fly_between-flown.ensures.elsewhere f c.args.regs.now u
    (c.loop-left.invariant.1 f u shows) in
    subst (λ (x : Registers). Goes (answers g f) new r0 u x made (Some c.slowly.new.why))
    (sym c.set_pc-in-None.ensures)
    (goes-stopped (answers g f) r0 u old new before after made c.slowly.new.why
    (λ v s. c.in-None.ensures f v s) r.0)

pub returns-in-None-clause-stop : goal.returns-in-None-clause-stop
returns-in-None-clause-stop g c = not-none c.fly_between-flown.result.left c.if-left-eq0.false

pub returns-in-None-clause-within : goal.returns-in-None-clause-within
returns-in-None-clause-within g c =
    omega (arith, c.loop-left.invariant.0, c.fly_between-flown.ensures.within)

pub returns-in-None-clause-elsewhere : goal.returns-in-None-clause-elsewhere
returns-in-None-clause-elsewhere g c = λ f u shows.
    let r = flown-between g c.loop-left.memory c.fly_between-flown.new.memory
    c.loop-left.regs c.fly_between-flown.new.regs c.loop-left.code c.args.stops.now
    c.loop-left.pc c.fly_between-flown.result.pc c.args.budget.now c.loop-left.left
    c.fly_between-flown.result.left c.fly_between-flown.ensures.within c.loop-left.invariant.0
    c.fly_between-flown.ensures.reaches c.fly_between-flown.ensures.elsewhere f c.args.regs.now u
    (c.loop-left.invariant.1 f u shows) in
    r.1

pub returns-clause-runs : goal.returns-clause-runs
returns-clause-runs g c = λ f u shows.
    let last = c.loop-left-test in
    let budget = c.args.budget.now in
    let code = c.loop-left.code in
    let r0 = c.args.regs.now in
    let reached : (last.left ≡ 0)
    × Reaches (answers g f) (shown g last.memory (f, bytes_of_pages code)) r0 u
    (with_pc last.regs last.pc) (budget - last.left)
    × AreElsewhere (answers g f) c.args.stops.now (budget - last.left) r0 u =
    elim last.branch [
      | else-loop-left-test b ↦
          let r = c.loop-left.invariant.1 f u shows in (
            omega (arith, b.left-is, b.loop-left-test.false),
            moved g c.loop-left.memory last.memory c.loop-left.regs last.regs c.loop-left.pc
                last.pc c.loop-left.left last.left budget code b.memory-is b.regs-is b.pc-is
                b.left-is f r0 u r.0,
            subst (λ k. AreElsewhere (answers g f) c.args.stops.now (budget - k) r0 u)
                (sym b.left-is) r.1,
          )
      | then-loop-left-test+then-left-eq0 b ↦
          let r = flown-between g c.loop-left.memory b.fly_between-flown.new.memory
          c.loop-left.regs b.fly_between-flown.new.regs c.loop-left.code c.args.stops.now
          c.loop-left.pc b.fly_between-flown.result.pc c.args.budget.now c.loop-left.left
          b.fly_between-flown.result.left b.fly_between-flown.ensures.within c.loop-left.invariant.0
          b.fly_between-flown.ensures.reaches b.fly_between-flown.ensures.elsewhere f r0 u
          (c.loop-left.invariant.1 f u shows) in (
            b.left-is ∙ b.if-left-eq0.true,
            moved g b.fly_between-flown.new.memory last.memory b.fly_between-flown.new.regs
                last.regs b.fly_between-flown.result.pc last.pc b.fly_between-flown.result.left
                last.left budget code b.memory-is b.regs-is b.pc-is b.left-is f r0 u r.0,
            subst (λ k. AreElsewhere (answers g f) c.args.stops.now (budget - k) r0 u)
                (sym b.left-is) r.1,
          )
    ] in
    subst (λ (x : Registers). Goes (answers g f)
    (shown g last.memory (f, bytes_of_pages code)) r0 u x (budget - 0) None)
    (sym c.set_pc-2.ensures)
    (record {
      reaches = subst (λ k. Reaches (answers g f) (shown g last.memory (f, bytes_of_pages code)) r0
          u (with_pc last.regs last.pc) (budget - k)) reached.0 reached.1;
      stops = tt;
    })

pub returns-clause-stop : goal.returns-clause-stop
returns-clause-stop g c = inl refl

pub returns-clause-elsewhere : goal.returns-clause-elsewhere
returns-clause-elsewhere g c = λ f u shows.
    let last = c.loop-left-test in
    let budget = c.args.budget.now in
    let code = c.loop-left.code in
    let r0 = c.args.regs.now in
    let reached : (last.left ≡ 0)
    × Reaches (answers g f) (shown g last.memory (f, bytes_of_pages code)) r0 u
    (with_pc last.regs last.pc) (budget - last.left)
    × AreElsewhere (answers g f) c.args.stops.now (budget - last.left) r0 u =
    elim last.branch [
      | else-loop-left-test b ↦
          let r = c.loop-left.invariant.1 f u shows in (
            omega (arith, b.left-is, b.loop-left-test.false),
            moved g c.loop-left.memory last.memory c.loop-left.regs last.regs c.loop-left.pc
                last.pc c.loop-left.left last.left budget code b.memory-is b.regs-is b.pc-is
                b.left-is f r0 u r.0,
            subst (λ k. AreElsewhere (answers g f) c.args.stops.now (budget - k) r0 u)
                (sym b.left-is) r.1,
          )
      | then-loop-left-test+then-left-eq0 b ↦
          let r = flown-between g c.loop-left.memory b.fly_between-flown.new.memory
          c.loop-left.regs b.fly_between-flown.new.regs c.loop-left.code c.args.stops.now
          c.loop-left.pc b.fly_between-flown.result.pc c.args.budget.now c.loop-left.left
          b.fly_between-flown.result.left b.fly_between-flown.ensures.within c.loop-left.invariant.0
          b.fly_between-flown.ensures.reaches b.fly_between-flown.ensures.elsewhere f r0 u
          (c.loop-left.invariant.1 f u shows) in (
            b.left-is ∙ b.if-left-eq0.true,
            moved g b.fly_between-flown.new.memory last.memory b.fly_between-flown.new.regs
                last.regs b.fly_between-flown.result.pc last.pc b.fly_between-flown.result.left
                last.left budget code b.memory-is b.regs-is b.pc-is b.left-is f r0 u r.0,
            subst (λ k. AreElsewhere (answers g f) c.args.stops.now (budget - k) r0 u)
                (sym b.left-is) r.1,
          )
    ] in
    subst (λ k. AreElsewhere (answers g f) c.args.stops.now (budget - k) r0 u) reached.0 reached.2
