use Rattle.std.specs.Borrow.{GName}
use Rattle.std.proofs.Common.{ℕ, ◌+◌, ◌≡◌, ◌/◌, ◌%◌, ◌*◌, ◌^◌, ◌∙◌, List, Option, ap, arith, refl}
use Rattle.std.proofs.Common.{Bool, inr, length, subst, sym, ◌-◌, ◌<◌, ◌≤◌, ◌⊎◌}
use Rattle.dos_world.specs.World.{Registers, with_pc}
use Rattle.code_pages.specs.Lines.{AreRuns, AreStartsOf, Known, bytes_of_pages}
use Rattle.code_pages.specs.declared.line.Line.{Line}
use Rattle.quantum_run.specs.Flying.{IsLineOf}
use Rattle.quantum_run.specs.Knowing.{slot_of}
use Rattle.flat_machine.specs.Over.{MemoryAnswers}
use Rattle.quantum_run.specs.Answering.{Still, run_answers, still}
use Rattle.quantum_run.specs.Showing.{ShowsKnown}
use Rattle.quantum_run.specs.ThreadRuns.{AreElsewhere, AreOutside, Reaches, ReachesIn}
use Rattle.quantum_run.proofs.Elsewhere.{none-made, then-elsewhere}
use Rattle.page_store.specs.declared.compared.Slot.{Slot}
use Rattle.quantum_run.specs.declared.thread_memory.Running.{Running}
use Rattle.quantum_run.specs.Knowing.{empty_slot}
use Rattle.std.specs.Prelude.{slice_index_or}
use Rattle.quantum_run.proofs.RunSteps.{reaches-none, reaches-then}
use Rattle.quantum_run.proofs.Walking.{got-within, not-left, not-none, placed, stays-there}
use Rattle.quantum_run.proofs.flight.fly_in_page.Given as given
use Rattle.quantum_run.proofs.flight.fly_in_page.Goals as goal

-- the line that was landed at
landed-in : (shown : List Slot) (compared : List Bool) (known : Known)
    (lines : List Line) (base address at : ℕ) → lines ≡ known.lines
    → (at ≡ 0) ⊎ IsLineOf shown compared known known.lines base address at → (at ≡ 0 → ⊥)
    → IsLineOf shown compared known lines base address at
landed-in shown compared known lines base address at are landed some =
    subst (λ (xs : List Line). IsLineOf shown compared known xs base address at) (sym are)
    (not-left at landed some)

-- where lines begin in a page, which is at its own place
own-starts : {known : Known} {place own : ℕ} {starts : List ℕ} → place ≡ own
    → AreStartsOf known place starts → AreStartsOf known own starts
own-starts {known} {place} {own} {starts} same are =
    subst (λ k. AreStartsOf known k starts) same are

-- what a memory shows
abbrev shown : (g : given.Over) → Running g.row.P.Denot g.P.Pages
    → (Still × (g.P.Pages.Fixed × GName)) × List (Option (List ℕ)) → g.P.Pages.State → Type 0
shown g m = ShowsKnown (still m.tid (g.P.Pages.owners m.pages) m.space.now.entries)
    (g.P.Pages.fixed m.pages, m.compared.ghost_name) (g.P.Pages.state m.pages)
    (g.P.Pages.pages m.pages) m.compared.now.slots m.compared.now.blocks

-- and what it answers
abbrev answers : (g : given.Over) → Still × (g.P.Pages.Fixed × GName)
    → MemoryAnswers g.P.Pages.State
answers g f = run_answers f.0 (g.P.Pages.places f.1.0)

-- what the lines of a run led to, behind what came before
run-more : (g : given.Over) (before after : Running g.row.P.Denot g.P.Pages) (r r' : Registers)
    (code : Known) (base pc to budget left more : ℕ) → more ≤ left → left ≤ budget
    → ((f : Still × (g.P.Pages.Fixed × GName)) (u : g.P.Pages.State)
    → shown g before (f, bytes_of_pages code) u
    → ReachesIn base (answers g f) (shown g after (f, bytes_of_pages code)) (with_pc r pc) u
    (with_pc r' to) (left - more))
    → (f : Still × (g.P.Pages.Fixed × GName)) (r0 : Registers) (u : g.P.Pages.State)
    → Reaches (answers g f) (shown g before (f, bytes_of_pages code)) r0 u (with_pc r pc)
    (budget - left) × ((stops : List ℕ) → AreOutside stops base
    → AreElsewhere (answers g f) stops (budget - left) r0 u)
    → ReachesIn base (answers g f) (shown g after (f, bytes_of_pages code)) r0 u (with_pc r' to)
    (budget - more)
run-more g before after r r' code base pc to budget left more less within goes f r0 u reached =
    let count : budget - more ≡ (budget - left) + (left - more) = omega (arith, less, within) in
    let old = shown g before (f, bytes_of_pages code) in
    record {
      reaches =
          reaches-then (answers g f) r0 u old (shown g after (f, bytes_of_pages code))
          (with_pc r pc)
          (with_pc r' to) (budget - left) (left - more) (budget - more) count
          (λ v s. (goes f v s).reaches) reached.0;
      outside = λ stops out.
          then-elsewhere (answers g f) stops r0 u old (with_pc r pc) (budget - left) (left - more)
          (budget - more) count reached.0
          ((goes f reached.0.now reached.0.shown).outside stops out) (reached.1 stops out);
    }

pub returns-then-not-is_shown_at-clause-reaches : goal.returns-then-not-is_shown_at-clause-reaches
returns-then-not-is_shown_at-clause-reaches g c = λ f u shows.
    let begun = with_pc c.args.regs.now c.args.pc in
    record {
      reaches = reaches-none (answers g f) begun u _ (c.args.budget - c.args.budget) (omega arith)
          shows;
      outside = λ stops out. none-made (answers g f) stops begun u (c.args.budget - c.args.budget)
          (omega arith);
    }

pub returns-in_default-clause-reaches : goal.returns-in_default-clause-reaches
returns-in_default-clause-reaches g c = λ f u shows.
    let begun = with_pc c.args.regs.now c.args.pc in
    record {
      reaches = reaches-none (answers g f) begun u _ (c.args.budget - c.args.budget) (omega arith)
          shows;
      outside = λ stops out. none-made (answers g f) stops begun u (c.args.budget - c.args.budget)
          (omega arith);
    }

pub loop-starts-init : goal.loop-starts-init
loop-starts-init g c =
    let even = c.is_shown_at.ensures.even c.if-not-is_shown_at.false in
    let here : c.args.pc ≡ (c.args.pc / 4096 * 4096 + c.args.pc % 4096) % 2 ^ 32 =
    omega (arith, c.ranges.pc.fits) in (
      omega arith,
      refl,
      refl,
      λ f u shows.
          let begun = with_pc c.args.regs.now c.args.pc in (
            subst (λ k. Reaches (answers g f)
                (shown g c.args.memory.now (f, bytes_of_pages c.args.code.now)) begun u
                (with_pc c.args.regs.now k) (c.args.budget - c.args.budget)) here
                (reaches-none (answers g f) begun u _ (c.args.budget - c.args.budget) (omega arith)
                shows),
            λ stops out. none-made (answers g f) stops begun u (c.args.budget - c.args.budget)
                (omega arith),
          ),
      omega arith,
      omega (arith, even),
    )

pub landing-at-requires : goal.landing-at-requires
landing-at-requires g c =
    let i = c.loop-starts.invariant in
    let base : ℕ = c.args.pc / 4096 * 4096 in
    let number : base / 4096 ≡ c.args.pc / 4096 = omega arith in
    record {
      found = ap (λ (s : List Slot). (slot_of s base).start) i.1
          ∙ ap (λ k. (slice_index_or c.args.memory.now.shown (k % 64) empty_slot).start) number
          ∙ c.is_shown_at.ensures.found c.if-not-is_shown_at.false;
      base = omega arith;
      inside = i.4;
      even = i.5;
    }

pub line_in-requires : goal.line_in-requires
line_in-requires g c =
    let m = c.loop-starts.memory in
    let k = c.args.code.now in
    let a = (c.args.pc / 4096 * 4096 + c.loop-starts.to) % 2 ^ 32 in
    let here = placed m.shown m.compared.now.blocks k k.lines (c.args.pc / 4096 * 4096) a
    c.landing-at.result (not-none c.landing-at.result c.if-at-eq0.false)
    (not-left c.landing-at.result (c.landing-at.ensures c.args.code.now c.lines-lines.ensures.known
    (own-starts c.code_place.ensures.place c.in-Some.ensures)) c.if-at-eq0.false) in
    subst (λ (xs : List Line). c.landing-at.result < length xs) (sym c.lines-lines.ensures.lines)
    (got-within k.lines c.landing-at.result here.0 here.1)

pub follow-gone-requires : goal.follow-gone-requires
follow-gone-requires g c = record {
  runs = subst AreRuns (sym c.lines-lines.ensures.lines) c.lines-lines.ensures.known.runs;
  some = not-none c.landing-at.result c.if-at-eq0.false;
  there = record { line = c.line_in.result.now; is = c.line_in.ensures };
  enough = λ e. record {
    line = c.line_in.result.now;
    is = c.line_in.ensures;
    run = omega (arith, c.if-left-from.false, c.from.ensures);
  };
}

pub part_of_run-gone-requires : goal.part_of_run-gone-requires
part_of_run-gone-requires g c = record {
  runs = subst AreRuns (sym c.lines-lines.ensures.lines) c.lines-lines.ensures.known.runs;
  some = not-none c.landing-at.result c.if-at-eq0.false;
  there = record { line = c.line_in.result.now; is = c.line_in.ensures };
}

pub loop-starts-preserved : goal.loop-starts-preserved
loop-starts-preserved g c =
    let i = c.loop-starts.invariant in
    let m = c.loop-starts.memory in
    let n = c.follow-gone.new.memory in
    let a = (c.args.pc / 4096 * 4096 + c.loop-starts.to) % 2 ^ 32 in
    let landed = landed-in m.shown m.compared.now.blocks c.args.code.now c.lines-lines.result.now
    (c.args.pc / 4096 * 4096) a c.landing-at.result c.lines-lines.ensures.lines
    (c.landing-at.ensures c.args.code.now c.lines-lines.ensures.known
    (own-starts c.code_place.ensures.place c.in-Some.ensures)) c.if-at-eq0.false in (
      omega (arith, i.0, c.follow-gone.ensures.within),
      c.follow-gone.ensures.same.0 ∙ i.1,
      c.follow-gone.ensures.same.1 ∙ i.2,
      λ f u shows.
          let x = run-more g m n c.loop-starts.regs c.follow-gone.new.regs c.args.code.now
          (c.args.pc / 4096 * 4096) a ((c.args.pc / 4096 * 4096 + c.follow-gone.result.to) % 2 ^ 32)
          c.args.budget c.loop-starts.left c.follow-gone.result.left c.follow-gone.ensures.within
          i.0 (λ h v x. c.follow-gone.ensures.reaches c.args.code.now a h v landed x) f
          (with_pc c.args.regs.now c.args.pc) u (i.3 f u shows) in (x.reaches, x.outside),
      (c.is_place.ensures c.if-not-is_place.false).0,
      (c.is_place.ensures c.if-not-is_place.false).1,
    )

pub returns-then-at-eq0-clause-reaches : goal.returns-then-at-eq0-clause-reaches
returns-then-at-eq0-clause-reaches g c = λ f u shows.
    let r = c.loop-starts.invariant.3 f u shows in
    record { reaches = r.0; outside = r.1 }

pub returns-then-left-from-clause-reaches : goal.returns-then-left-from-clause-reaches
returns-then-left-from-clause-reaches g c = λ f u shows.
    let i = c.loop-starts.invariant in
    let m = c.loop-starts.memory in
    let n = c.part_of_run-gone.new.memory in
    let a = (c.args.pc / 4096 * 4096 + c.loop-starts.to) % 2 ^ 32 in
    let landed = landed-in m.shown m.compared.now.blocks c.args.code.now c.lines-lines.result.now
    (c.args.pc / 4096 * 4096) a c.landing-at.result c.lines-lines.ensures.lines
    (c.landing-at.ensures c.args.code.now c.lines-lines.ensures.known
    (own-starts c.code_place.ensures.place c.in-Some.ensures)) c.if-at-eq0.false in
    run-more g m n c.loop-starts.regs c.part_of_run-gone.new.regs c.args.code.now
    (c.args.pc / 4096 * 4096) a ((c.args.pc / 4096 * 4096 + c.part_of_run-gone.result.to) % 2 ^ 32)
    c.args.budget c.loop-starts.left c.part_of_run-gone.result.left
    c.part_of_run-gone.ensures.within i.0
    (λ h v x. c.part_of_run-gone.ensures.reaches c.args.code.now a h v landed x) f
    (with_pc c.args.regs.now c.args.pc) u (i.3 f u shows)

pub returns-then-gone-left-clause-reaches : goal.returns-then-gone-left-clause-reaches
returns-then-gone-left-clause-reaches g c = λ f u shows.
    let i = c.loop-starts.invariant in
    let m = c.loop-starts.memory in
    let n = c.part_of_run-gone.new.memory in
    let a = (c.args.pc / 4096 * 4096 + c.loop-starts.to) % 2 ^ 32 in
    let to = (c.args.pc / 4096 * 4096 + c.part_of_run-gone.result.to) % 2 ^ 32 in
    let landed = landed-in m.shown m.compared.now.blocks c.args.code.now c.lines-lines.result.now
    (c.args.pc / 4096 * 4096) a c.landing-at.result c.lines-lines.ensures.lines
    (c.landing-at.ensures c.args.code.now c.lines-lines.ensures.known
    (own-starts c.code_place.ensures.place c.in-Some.ensures)) c.if-at-eq0.false in
    subst (λ k. ReachesIn (c.args.pc / 4096 * 4096) (answers g f)
    (shown g n (f, bytes_of_pages c.args.code.now)) (with_pc c.args.regs.now c.args.pc) u
    (with_pc c.part_of_run-gone.new.regs to) (c.args.budget - k)) c.if-gone-left.true
    (run-more g m n c.loop-starts.regs c.part_of_run-gone.new.regs c.args.code.now
    (c.args.pc / 4096 * 4096) a to c.args.budget c.loop-starts.left c.part_of_run-gone.result.left
    c.part_of_run-gone.ensures.within i.0
    (λ h v x. c.part_of_run-gone.ensures.reaches c.args.code.now a h v landed x) f
    (with_pc c.args.regs.now c.args.pc) u (i.3 f u shows))

pub returns-then-gone-left-clause-line : goal.returns-then-gone-left-clause-line
returns-then-gone-left-clause-line g c =
    let m = c.loop-starts.memory in
    let e = c.part_of_run-gone.ensures in
    let n = c.part_of_run-gone.new.memory in
    inr (stays-there m.shown n.shown m.compared.now.blocks n.compared.now.blocks c.args.code.now
    c.lines-lines.result.now (c.args.pc / 4096 * 4096) c.loop-starts.to c.part_of_run-gone.result.to
    _ c.landing-at.result c.line_in.result.now (not-none c.landing-at.result c.if-at-eq0.false)
    e.same.0 (ap (λ x. x.now.blocks) e.same.1) c.lines-lines.ensures.lines
    (not-left c.landing-at.result (c.landing-at.ensures c.args.code.now c.lines-lines.ensures.known
    (own-starts c.code_place.ensures.place c.in-Some.ensures)) c.if-at-eq0.false) c.line_in.ensures
    (e.stays c.line_in.result.now c.line_in.ensures c.if-gone-left.true) refl)

pub returns-then-gone-left-2-clause-line : goal.returns-then-gone-left-2-clause-line
returns-then-gone-left-2-clause-line g c =
    let m = c.loop-starts.memory in
    let e = c.follow-gone.ensures in
    let n = c.follow-gone.new.memory in
    inr (stays-there m.shown n.shown m.compared.now.blocks n.compared.now.blocks c.args.code.now
    c.lines-lines.result.now (c.args.pc / 4096 * 4096) c.loop-starts.to c.follow-gone.result.to _
    c.landing-at.result c.line_in.result.now (not-none c.landing-at.result c.if-at-eq0.false)
    e.same.0 (ap (λ x. x.now.blocks) e.same.1) c.lines-lines.ensures.lines
    (not-left c.landing-at.result (c.landing-at.ensures c.args.code.now c.lines-lines.ensures.known
    (own-starts c.code_place.ensures.place c.in-Some.ensures)) c.if-at-eq0.false) c.line_in.ensures
    (e.stays c.line_in.result.now c.line_in.ensures c.if-gone-left-2.true) refl)

pub returns-then-gone-left-2-clause-reaches : goal.returns-then-gone-left-2-clause-reaches
returns-then-gone-left-2-clause-reaches g c = λ f u shows.
    let i = c.loop-starts.invariant in
    let m = c.loop-starts.memory in
    let n = c.follow-gone.new.memory in
    let a = (c.args.pc / 4096 * 4096 + c.loop-starts.to) % 2 ^ 32 in
    let to = (c.args.pc / 4096 * 4096 + c.follow-gone.result.to) % 2 ^ 32 in
    let landed = landed-in m.shown m.compared.now.blocks c.args.code.now c.lines-lines.result.now
    (c.args.pc / 4096 * 4096) a c.landing-at.result c.lines-lines.ensures.lines
    (c.landing-at.ensures c.args.code.now c.lines-lines.ensures.known
    (own-starts c.code_place.ensures.place c.in-Some.ensures)) c.if-at-eq0.false in
    subst (λ k. ReachesIn (c.args.pc / 4096 * 4096) (answers g f)
    (shown g n (f, bytes_of_pages c.args.code.now)) (with_pc c.args.regs.now c.args.pc) u
    (with_pc c.follow-gone.new.regs to) (c.args.budget - k)) c.if-gone-left-2.true
    (run-more g m n c.loop-starts.regs c.follow-gone.new.regs c.args.code.now
    (c.args.pc / 4096 * 4096) a to c.args.budget c.loop-starts.left c.follow-gone.result.left
    c.follow-gone.ensures.within i.0
    (λ h v x. c.follow-gone.ensures.reaches c.args.code.now a h v landed x) f
    (with_pc c.args.regs.now c.args.pc) u (i.3 f u shows))

pub returns-then-not-is_place-clause-reaches : goal.returns-then-not-is_place-clause-reaches
returns-then-not-is_place-clause-reaches g c = λ f u shows.
    let i = c.loop-starts.invariant in
    let m = c.loop-starts.memory in
    let n = c.follow-gone.new.memory in
    let a = (c.args.pc / 4096 * 4096 + c.loop-starts.to) % 2 ^ 32 in
    let landed = landed-in m.shown m.compared.now.blocks c.args.code.now c.lines-lines.result.now
    (c.args.pc / 4096 * 4096) a c.landing-at.result c.lines-lines.ensures.lines
    (c.landing-at.ensures c.args.code.now c.lines-lines.ensures.known
    (own-starts c.code_place.ensures.place c.in-Some.ensures)) c.if-at-eq0.false in
    run-more g m n c.loop-starts.regs c.follow-gone.new.regs c.args.code.now
    (c.args.pc / 4096 * 4096) a ((c.args.pc / 4096 * 4096 + c.follow-gone.result.to) % 2 ^ 32)
    c.args.budget c.loop-starts.left c.follow-gone.result.left c.follow-gone.ensures.within i.0
    (λ h v x. c.follow-gone.ensures.reaches c.args.code.now a h v landed x) f
    (with_pc c.args.regs.now c.args.pc) u (i.3 f u shows)
