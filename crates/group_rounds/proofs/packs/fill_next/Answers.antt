use Rattle.std.proofs.Common.{◌≡◌, ◌++◌, ◌∷◌, [], ◌∙◌, ap, refl, sym, subst, List, Some, None, inl}
use Rattle.std.proofs.Common.{length, length-append}
use Rattle.dos_world.specs.World.{Thread}
use Rattle.quantum_run.specs.Shows.{Pack}
use Rattle.quantum_run.specs.Packs.{with_thread_of}
use Rattle.proc_table.specs.Tables.{thread_in}
use Rattle.group_rounds.specs.Handing.{In}
use Rattle.group_rounds.proofs.HandingLaws.{filled-alike, in-left, in-right, spare-last, spare-less}
use Rattle.group_rounds.proofs.ThreadRunLaws.{some_of, of_some}
use Rattle.group_rounds.proofs.packs.fill_next.Goals as goal

pub fill-requires : goal.fill-requires
fill-requires c = c.requires.empty c.in-Some.pack
    (subst (λ (ps : List Pack). In ps c.in-Some.pack) (sym c.in-Some.ensures.items)
    (in-right c.pop.new.self.items (c.in-Some.pack ∷ []) c.in-Some.pack (inl refl)))

pub returns-clause-fills : goal.returns-clause-fills
returns-clause-fills c = λ first spare.
    let t = c.args.tid in
    let pack : Pack = c.in-Some.pack in
    let threads = c.args.table.now.threads in
    let found = some_of (thread_in threads t) c.requires.live in
    let x = found.0 in
    let process = of_some (λ (y : Thread). c.process_of.result ≡ y.process)
    (thread_in threads t) x found.1 c.process_of.ensures in
    let registers = of_some (λ (y : Thread). c.regs.result.now ≡ y.registers)
    (thread_in threads t) x found.1 c.regs.ensures in
    let budget = of_some (λ (y : Thread). c.budget.result ≡ y.budget)
    (thread_in threads t) x found.1 c.budget.ensures in
    let filled : c.fill.new.self ≡ with_thread_of first t x.process x.registers x.budget =
    c.fill.ensures ∙ ap (λ p. with_thread_of pack t p c.regs.result.now c.budget.result) process
    ∙ ap (λ r. with_thread_of pack t x.process r c.budget.result) registers
    ∙ ap (λ b. with_thread_of pack t x.process x.registers b) budget
    ∙ filled-alike pack t x.process x.registers x.budget
    ∙ ap (λ (p : Pack). with_thread_of p t x.process x.registers x.budget)
    (spare-last first c.pop.new.self.items c.args.spare.now.items pack c.in-Some.ensures.items
    spare) in
    c.keep.ensures.items ∙ ap (λ p. c.args.packs.now.items ++ p ∷ [])
    (filled ∙ sym
    (ap (λ o.
    elim o as (λ _. Pack) [
      | None ↦ first
      | Some y ↦
          with_thread_of first t y.process y.registers y.budget
    ])
    found.1))

pub returns-clause-spare : goal.returns-clause-spare
returns-clause-spare c = λ first spare.
    spare-less first c.pop.new.self.items c.args.spare.now.items c.in-Some.pack
    c.in-Some.ensures.items spare

pub returns-clause-empty : goal.returns-clause-empty
returns-clause-empty c = λ p h.
    c.requires.empty p
    (subst (λ (ps : List Pack). In ps p) (sym c.in-Some.ensures.items)
    (in-left c.pop.new.self.items (c.in-Some.pack ∷ []) p h))

pub returns-clause-count : goal.returns-clause-count
returns-clause-count c =
    ap length c.keep.ensures.items
    ∙ length-append c.args.packs.now.items (c.fill.new.self ∷ [])
