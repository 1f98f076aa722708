use Rattle.quantum_run.specs.Showing.{beside_name}
use Rattle.std.specs.Borrow.{GName}
use Rattle.std.proofs.Common.{ℕ, Bool, ◌<◌, ◌⊎◌, Some, false, add-one, ◌+◌, ◌-◌, ◌≡◌, ◌≢◌, ◌%◌}
use Rattle.std.proofs.Common.{◌^◌}
use Rattle.std.proofs.Common.{◌∙◌, List, Option, refl, sym, ap, subst, arith, inl, inr}
use Rattle.std.specs.Prelude.{slice_get}
use Rattle.dos_world.specs.World.{Registers, with_pc}
use Rattle.rv_exec.specs.Arrivals.{arrived_by}
use Rattle.rv_exec.specs.Instruction.{effect_of_form}
use Rattle.rv_exec.specs.declared.next.Next.{Next}
use Rattle.rv_exec.specs.declared.next.Next.TheVariants.{On, Short, To, Not}
use Rattle.code_pages.specs.Kinds.{ends}
use Rattle.code_pages.specs.Lines.{HasNextLine, Known, bytes_of_pages}
use Rattle.code_pages.specs.declared.kind.Kind.TheVariants.{End}
use Rattle.code_pages.specs.declared.line.Line.{Line}
use Rattle.code_pages.proofs.KnownLaws.{live-line}
use Rattle.quantum_run.specs.Flying.{DoneOrNot, IsLineOf}
use Rattle.flat_machine.specs.Over.{MemoryAnswers}
use Rattle.quantum_run.specs.Answering.{Still, run_answers, still}
use Rattle.quantum_run.specs.Showing.{ShowsKnown, answers_of}
use Rattle.quantum_run.specs.ThreadRuns.{AreElsewhere, Reaches}
use Rattle.quantum_run.proofs.Elsewhere.{none-made, one-elsewhere}
use Rattle.page_store.specs.declared.compared.Slot.{Slot}
use Rattle.quantum_run.specs.declared.thread_memory.Running.{Running}
use Rattle.quantum_run.proofs.RunSteps.{reaches-none}
use Rattle.quantum_run.proofs.Walking.{Some-line, got-line, got-within, goes-behind, line-done}
use Rattle.quantum_run.proofs.Walking.{line-not-done}
use Rattle.quantum_run.proofs.Walking.{On≢Not, Short≢Not, To≢Not, live-unless-end, stands}
use Rattle.quantum_run.proofs.lines.follow.Given as given
use Rattle.quantum_run.proofs.lines.follow.Goals as goal

-- what a memory shows
abbrev shown : (g : given.Over) → Running g.row.P.Denot g.P.Pages
    → (Still × (g.P.Pages.Fixed × GName)) × List (Option (List ℕ)) → g.P.Pages.State → Type 0
shown g m = ShowsKnown (still m.tid (g.P.Pages.owners m.pages) m.space.now.entries)
    (g.P.Pages.fixed m.pages, m.compared.ghost_name) (g.P.Pages.state m.pages)
    (g.P.Pages.pages m.pages) m.compared.now.slots m.compared.now.blocks

-- and what it answers
abbrev answers : (g : given.Over) → Still × (g.P.Pages.Fixed × GName)
    → MemoryAnswers g.P.Pages.State
answers g f = run_answers f.0 (g.P.Pages.places f.1.0)

-- what came of a line is what came of the one that is known to be there
done-here : (g : given.Over) (m n : Running g.row.P.Denot g.P.Pages) (base : ℕ) (got line : Line)
    (pc : ℕ) (r r' : Registers) (next : Next) → got ≡ line → (base + got.offset) % 2 ^ 32 ≡ pc
    → DoneOrNot (answers_of (beside_name g.P.Pages.places)) (shown g m) (shown g n) got.size
    ((base + got.offset) % 2 ^ 32) r r' next (effect_of_form got.form)
    → DoneOrNot (answers_of (beside_name g.P.Pages.places)) (shown g m) (shown g n) line.size pc r
    r' next (effect_of_form line.form)
done-here g m n base got line pc r r' next same pc-is done =
    subst (λ (x : Line). DoneOrNot (answers_of (beside_name g.P.Pages.places)) (shown g m)
    (shown g n) x.size pc r r' next (effect_of_form x.form)) same
    (subst (λ p. DoneOrNot (answers_of (beside_name g.P.Pages.places)) (shown g m) (shown g n)
    got.size p r r' next (effect_of_form got.form)) pc-is done)

-- a run by the line that is done
walked-on : (g : given.Over) (m n : Running g.row.P.Denot g.P.Pages) (first_shown : List Slot)
    (first_compared : List Bool) (known : Known) (lines : List Line) (base pc at : ℕ) (line : Line)
    (r r' : Registers) (next : Next) (made all : ℕ)
    → DoneOrNot (answers_of (beside_name g.P.Pages.places)) (shown g m) (shown g n) line.size pc r
    r' next (effect_of_form line.form)
    → next ≢ Not → 0 < at → slice_get lines at ≡ Some line → 0 < line.size
    → m.shown ≡ first_shown → m.compared.now.blocks ≡ first_compared → all ≡ made + 1
    → (f : Still × (g.P.Pages.Fixed × GName)) (r0 : Registers) (u : g.P.Pages.State)
    → IsLineOf first_shown first_compared known lines base pc at
    → Reaches (answers g f) (shown g m (f, bytes_of_pages known)) r0 u (with_pc r pc) made
    → Reaches (answers g f) (shown g n (f, bytes_of_pages known)) r0 u
    (arrived_by line.size r' pc next) all
walked-on g m n first_shown first_compared known lines base pc at line r r' next made all done other
    some is live same_shown same_compared count f r0 u of reached =
    line-done (beside_name g.P.Pages.places) (still m.tid (g.P.Pages.owners m.pages)
    m.space.now.entries) (still n.tid (g.P.Pages.owners n.pages) n.space.now.entries)
    (g.P.Pages.fixed m.pages, m.compared.ghost_name) (
      g.P.Pages.fixed n.pages,
      n.compared.ghost_name,
    ) (g.P.Pages.state m.pages) (g.P.Pages.state n.pages)
    (g.P.Pages.pages m.pages) (g.P.Pages.pages n.pages) m.compared.now.slots n.compared.now.slots
    m.shown first_shown m.compared.now.blocks n.compared.now.blocks first_compared known lines base
    pc at line r r' next made all (g.P.Pages.bytes_are m.pages) m.shown_are m.kept done other some
    is live same_shown same_compared count f r0 u of reached

pub loop-line-init : goal.loop-line-init
loop-line-init g c =
    let q = c.requires.there in (
      q,
      λ e.
          let first = c.requires.enough e in
          let same : first.line ≡ q.line =
          Some-line first.line q.line (sym first.is ∙ q.is) in
          omega (arith, first.run, ap (λ (x : Line). x.run) same),
      c.requires.some,
      omega arith,
      omega arith,
      got-within c.args.lines.now c.args.from q.line q.is,
      refl,
      refl,
      refl,
      λ known address f u of shows.
          let e : address ≡ c.args.base + q.line.offset =
          stands c.args.memory.now.shown c.args.memory.now.compared.now.blocks known
          c.args.lines.now c.args.base address c.args.from q.line c.requires.some of q.is in
          let p : address ≡ (c.args.base + q.line.offset) % 2 ^ 32 = omega (arith, e, of.small) in
          let all = shown g c.args.memory.now (f, bytes_of_pages known) in
          let begun = with_pc c.args.regs.now address in (
            subst (λ k. Reaches (answers g f) all begun u (with_pc c.args.regs.now k)
                (c.args.from - c.args.from)) p
                (reaches-none (answers g f) begun u all (c.args.from - c.args.from) (omega arith)
                shows),
            inr (subst (λ k. IsLineOf c.args.memory.now.shown c.args.memory.now.compared.now.blocks
                known c.args.lines.now c.args.base k c.args.from) p of),
            λ stops out. none-made (answers g f) stops begun u (c.args.from - c.args.from)
                (omega arith),
          ),
    )

pub loop-line-preserved : goal.loop-line-preserved
loop-line-preserved g c =
    let i = c.loop-line.invariant in
    let here = i.0 in
    let lines = c.args.lines.now in
    let m = c.loop-line.memory in
    let n = c.perform_line.new.memory in
    let r' = c.perform_line.new.regs in
    let base = c.args.base in
    let at = c.loop-line.at in
    let more-left : at < c.args.from + c.args.budget =
    omega (arith, i.6, c.is_over.ensures.more c.if-is_over.false) in
    let pc : ℕ = (base + here.line.offset) % 2 ^ 32 in
    let same : c.index-lines-at.result ≡ here.line =
    got-line lines at here.line c.index-lines-at.result here.is c.index-lines-at.is in
    let pc-is : (base + c.index-lines-at.result.offset) % 2 ^ 32 ≡ pc =
    ap (λ (x : Line). (base + x.offset) % 2 ^ 32) same in
    let done = done-here g m n base c.index-lines-at.result here.line pc c.loop-line.regs r' On same
    pc-is c.in-On.ensures.done in
    let goes : ends here.line.kind ≡ false =
    ap (λ (x : Line). ends x.kind) (sym same) ∙ c.in-On.ensures.on refl in
    let next : HasNextLine lines at here.line = c.requires.runs at here.line here.is goes in
    let there = subst (λ k. slice_get lines k ≡ Some next.next) (sym (add-one at)) next.is in
    let count : at + 1 - c.args.from ≡ at - c.args.from + 1 = omega (arith, i.3) in (
      record { line = next.next; is = there },
      λ e. omega (arith, next.run, i.1 e),
      omega arith,
      omega (arith, i.3),
      omega (arith, more-left),
      got-within lines (at + 1) next.next there,
      refl,
      c.in-On.ensures.same.0 ∙ i.7,
      c.in-On.ensures.same.1 ∙ i.8,
      λ known address f u of shows.
          let r = i.9 known address f u of shows in
          let begun = with_pc c.args.regs.now address in
          let line-of : IsLineOf c.args.memory.now.shown c.args.memory.now.compared.now.blocks known
          lines base pc at = elim r.1 as (λ _. IsLineOf c.args.memory.now.shown
          c.args.memory.now.compared.now.blocks known lines base pc at) [
            | inl e ↦ absurd (On≢Not (c.in-On.ensures.end (ap (λ (x : Line). x.kind) same ∙ e)))
            | inr x ↦ x
          ] in
          let reached = walked-on g m n c.args.memory.now.shown
          c.args.memory.now.compared.now.blocks known lines base pc at here.line c.loop-line.regs r'
          On (at - c.args.from) (at + 1 - c.args.from) done (λ q. cc) i.2 here.is
          (live-line here.line goes) i.7 (ap (λ x. x.now.blocks) i.8) count
          f begun u line-of r.0 in
          let on = goes-behind c.args.memory.now.shown c.args.memory.now.compared.now.blocks known
          lines base pc at here.line next.next i.2 line-of here.is goes next.is in
          let to : (pc + here.line.size) % 2 ^ 32 ≡ (base + next.next.offset) % 2 ^ 32 =
          omega (arith, on.0) in (
            subst (λ k. Reaches (answers g f) (shown g n (f, bytes_of_pages known)) begun u
                (with_pc r' k) (at + 1 - c.args.from)) to reached,
            subst (λ k. (next.next.kind ≡ End) ⊎ IsLineOf c.args.memory.now.shown
                c.args.memory.now.compared.now.blocks known lines base
                ((base + next.next.offset) % 2 ^ 32) k) (sym (add-one at)) on.1,
            λ stops out.
                one-elsewhere (answers g f) stops begun u (shown g m (f, bytes_of_pages known))
                (with_pc c.loop-line.regs pc) (at - c.args.from) (at + 1 - c.args.from) count
                (out pc line-of.page) r.0 (r.2 stops out),
          ),
    )

pub returns-then-is_over-clause-reaches : goal.returns-then-is_over-clause-reaches
returns-then-is_over-clause-reaches g c = λ known address f u of shows.
    let i = c.loop-line.invariant in
    let here = i.0 in
    let base = c.args.base in
    let at = c.loop-line.at in
    let same : c.index-lines-at.result ≡ here.line =
    got-line c.args.lines.now at here.line c.index-lines-at.result here.is c.index-lines-at.is in
    let pc-is : (base + here.line.offset) % 2 ^ 32 ≡ (base + c.from.result) % 2 ^ 32 =
    sym (ap (λ k. (base + k) % 2 ^ 32) c.from.ensures
    ∙ ap (λ (x : Line). (base + x.offset) % 2 ^ 32) same) in
    let count : at - c.args.from ≡ c.args.budget - 0 =
    omega (arith, i.6, c.is_over.ensures.over c.if-is_over.true) in
    let r = i.9 known address f u of shows in
    let begun = with_pc c.args.regs.now address in
    record {
      reaches =
          subst (λ k. Reaches (answers g f) (shown g c.loop-line.memory (f, bytes_of_pages known))
          begun u (with_pc c.loop-line.regs k) (c.args.budget - 0)) pc-is
          (subst (λ k. Reaches (answers g f) (shown g c.loop-line.memory (f, bytes_of_pages known))
          begun u (with_pc c.loop-line.regs ((base + here.line.offset) % 2 ^ 32)) k) count r.0);
      outside = λ stops out. subst (λ k. AreElsewhere (answers g f) stops k begun u) count
          (r.2 stops out);
    }

pub returns-in-Short-clause-reaches : goal.returns-in-Short-clause-reaches
returns-in-Short-clause-reaches g c = λ known address f u of shows.
    let i = c.loop-line.invariant in
    let here = i.0 in
    let lines = c.args.lines.now in
    let m = c.loop-line.memory in
    let n = c.perform_line.new.memory in
    let r' = c.perform_line.new.regs in
    let base = c.args.base in
    let at = c.loop-line.at in
    let more = c.args.from + c.args.budget - at in
    let more-left : at < c.args.from + c.args.budget =
    omega (arith, i.6, c.is_over.ensures.more c.if-is_over.false) in
    let pc : ℕ = (base + here.line.offset) % 2 ^ 32 in
    let same : c.index-lines-at.result ≡ here.line =
    got-line lines at here.line c.index-lines-at.result here.is c.index-lines-at.is in
    let pc-is : (base + c.index-lines-at.result.offset) % 2 ^ 32 ≡ pc =
    ap (λ (x : Line). (base + x.offset) % 2 ^ 32) same in
    let done = done-here g m n base c.index-lines-at.result here.line pc c.loop-line.regs r' Short
    same pc-is c.in-Short.ensures.done in
    let count : c.args.budget - (more - 1) ≡ at - c.args.from + 1 = omega (arith, i.3, more-left) in
    let r = i.9 known address f u of shows in
    let begun = with_pc c.args.regs.now address in
    let live : 0 < here.line.size =
    live-unless-end here.line (λ e. Short≢Not (c.in-Short.ensures.end
    (ap (λ (x : Line). x.kind) same ∙ e))) in
    let line-of : IsLineOf c.args.memory.now.shown c.args.memory.now.compared.now.blocks known lines
    base pc at = elim r.1 as (λ _. IsLineOf c.args.memory.now.shown
    c.args.memory.now.compared.now.blocks known lines base pc at) [
      | inl e ↦ absurd (Short≢Not (c.in-Short.ensures.end (ap (λ (x : Line). x.kind) same ∙ e)))
      | inr x ↦ x
    ] in
    let reached = walked-on g m n c.args.memory.now.shown c.args.memory.now.compared.now.blocks
    known lines base pc at here.line c.loop-line.regs r' Short (at - c.args.from)
    (c.args.budget - (more - 1))
    done (λ q. cc) i.2 here.is live i.7
    (ap (λ x. x.now.blocks) i.8) count f begun u line-of r.0 in
    let to : (pc + 2) % 2 ^ 32 ≡ (base + (c.from-in-Short.result + 2) % 2 ^ 32) % 2 ^ 32 =
    omega (arith, pc-is, c.from-in-Short.ensures) in
    record {
      reaches = subst (λ k. Reaches (answers g f) (shown g n (f, bytes_of_pages known)) begun u
          (with_pc r' k) (c.args.budget - (more - 1))) to reached;
      outside = λ stops out.
          one-elsewhere (answers g f) stops begun u (shown g m (f, bytes_of_pages known))
          (with_pc c.loop-line.regs pc) (at - c.args.from) (c.args.budget - (more - 1)) count
          (out pc line-of.page) r.0 (r.2 stops out);
    }

pub returns-in-To-clause-reaches : goal.returns-in-To-clause-reaches
returns-in-To-clause-reaches g c = λ known address f u of shows.
    let i = c.loop-line.invariant in
    let here = i.0 in
    let lines = c.args.lines.now in
    let m = c.loop-line.memory in
    let n = c.perform_line.new.memory in
    let r' = c.perform_line.new.regs in
    let base = c.args.base in
    let at = c.loop-line.at in
    let more = c.args.from + c.args.budget - at in
    let more-left : at < c.args.from + c.args.budget =
    omega (arith, i.6, c.is_over.ensures.more c.if-is_over.false) in
    let pc : ℕ = (base + here.line.offset) % 2 ^ 32 in
    let same : c.index-lines-at.result ≡ here.line =
    got-line lines at here.line c.index-lines-at.result here.is c.index-lines-at.is in
    let pc-is : (base + c.index-lines-at.result.offset) % 2 ^ 32 ≡ pc =
    ap (λ (x : Line). (base + x.offset) % 2 ^ 32) same in
    let done = done-here g m n base c.index-lines-at.result here.line pc c.loop-line.regs r'
    (To c.in-To.target) same pc-is c.in-To.ensures.done in
    let count : c.args.budget - (more - 1) ≡ at - c.args.from + 1 = omega (arith, i.3, more-left) in
    let r = i.9 known address f u of shows in
    let begun = with_pc c.args.regs.now address in
    let live : 0 < here.line.size =
    live-unless-end here.line (λ e. To≢Not c.in-To.target (c.in-To.ensures.end
    (ap (λ (x : Line). x.kind) same ∙ e))) in
    let line-of : IsLineOf c.args.memory.now.shown c.args.memory.now.compared.now.blocks known lines
    base pc at = elim r.1 as (λ _. IsLineOf c.args.memory.now.shown
    c.args.memory.now.compared.now.blocks known lines base pc at) [
      | inl e ↦ absurd (To≢Not c.in-To.target (c.in-To.ensures.end
          (ap (λ (x : Line). x.kind) same ∙ e)))
      | inr x ↦ x
    ] in
    let reached = walked-on g m n c.args.memory.now.shown c.args.memory.now.compared.now.blocks
    known lines base pc at here.line c.loop-line.regs r' (To c.in-To.target) (at - c.args.from)
    (c.args.budget - (more - 1)) done (λ q. cc) i.2 here.is live i.7
    (ap (λ x. x.now.blocks) i.8) count f begun u line-of r.0
    in
    record {
      reaches = subst (λ k. Reaches (answers g f) (shown g n (f, bytes_of_pages known)) begun u
          (with_pc r' k) (c.args.budget - (more - 1))) (sym c.distance.ensures) reached;
      outside = λ stops out.
          one-elsewhere (answers g f) stops begun u (shown g m (f, bytes_of_pages known))
          (with_pc c.loop-line.regs pc) (at - c.args.from) (c.args.budget - (more - 1)) count
          (out pc line-of.page) r.0 (r.2 stops out);
    }

pub returns-in-Not-clause-reaches : goal.returns-in-Not-clause-reaches
returns-in-Not-clause-reaches g c = λ known address f u of shows.
    let i = c.loop-line.invariant in
    let here = i.0 in
    let lines = c.args.lines.now in
    let m = c.loop-line.memory in
    let n = c.perform_line.new.memory in
    let r' = c.perform_line.new.regs in
    let base = c.args.base in
    let at = c.loop-line.at in
    let more = c.args.from + c.args.budget - at in
    let more-left : at < c.args.from + c.args.budget =
    omega (arith, i.6, c.is_over.ensures.more c.if-is_over.false) in
    let pc : ℕ = (base + here.line.offset) % 2 ^ 32 in
    let same : c.index-lines-at.result ≡ here.line =
    got-line lines at here.line c.index-lines-at.result here.is c.index-lines-at.is in
    let pc-is : (base + c.index-lines-at.result.offset) % 2 ^ 32 ≡ pc =
    ap (λ (x : Line). (base + x.offset) % 2 ^ 32) same in
    let done = done-here g m n base c.index-lines-at.result here.line pc c.loop-line.regs r' Not
    same pc-is c.in-Not.ensures.done in
    let count : at - c.args.from ≡ c.args.budget - more = omega (arith, i.3, more-left) in
    let r = i.9 known address f u of shows in
    let begun = with_pc c.args.regs.now address in
    let reached = line-not-done (answers_of (beside_name g.P.Pages.places)) (shown g m) (shown g n)
    here.line.size pc c.loop-line.regs r' (effect_of_form here.line.form) (at - c.args.from) done
    (f, bytes_of_pages known) begun u r.0 in
    record {
      reaches =
          subst (λ k. Reaches (answers g f) (shown g n (f, bytes_of_pages known)) begun u
          (with_pc r' k) (c.args.budget - more)) (sym (ap (λ k. (base + k) % 2 ^ 32)
          c.from-in-Not.ensures ∙ pc-is))
          (subst (λ k. Reaches (answers g f) (shown g n (f, bytes_of_pages known)) begun u
          (with_pc r' pc) k) count reached);
      outside = λ stops out. subst (λ k. AreElsewhere (answers g f) stops k begun u) count
          (r.2 stops out);
    }
