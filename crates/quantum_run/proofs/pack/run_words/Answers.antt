use Rattle.std.proofs.Common.{◌≡◌, ◌≢◌, ◌⊎◌, inl, inr, ◌∙◌, sym, ap, true, false, eqb-true, is_some}
use Rattle.std.proofs.Common.{arith, length, subst, ℕ, IfSome}
use Rattle.std.proofs.lemmas.Bool.{eqb-false}
use Rattle.dos_world.specs.World.{Holdings}
use Rattle.proc_table.specs.Tables.{held_in}
use Rattle.quantum_run.specs.Packs.{paired}
use Rattle.quantum_run.specs.Shows.{Pack, has_words}
use Rattle.quantum_run.proofs.Ready.{floor-left}
use Rattle.quantum_run.proofs.Writing.{ready-home, ready-mapped, written-lead, written-out}
use Rattle.quantum_run.proofs.Writing.{written-part}
use Rattle.quantum_run.proofs.pack.run_words.Goals as goal
use Rattle.quantum_run.proofs.pack.run_words.Goals.{then-is_some, else-is_some}

pub run_over-why-requires-clause-words : goal.run_over-why-requires-clause-words
run_over-why-requires-clause-words c = ap has_words c.pack.view_is ∙ c.requires.scheme

pub run_over-why-requires-clause-home : goal.run_over-why-requires-clause-home
run_over-why-requires-clause-home c =
    let v = c.args.view.now in
    ready-home v.frames.now v.table.now c.space-space.result.now.entries c.args.pack.now
    (subst (λ (n : ℕ). IfSome (held_in v.table.now.processes n)
    (λ (h : Holdings). c.space-space.result.now.entries ≡ h.space))
    (ap (λ (p : Pack). p.process) c.pack.view_is) c.space-space.ensures.entries)
    (c.requires.can.writing c.requires.scheme) c.requires.each

pub run_over-why-requires-clause-mapped : goal.run_over-why-requires-clause-mapped
run_over-why-requires-clause-mapped c =
    let v = c.args.view.now in
    ready-mapped v.frames.now v.table.now c.space-space.result.now.entries c.args.pack.now
    (subst (λ (n : ℕ). IfSome (held_in v.table.now.processes n)
    (λ (h : Holdings). c.space-space.result.now.entries ≡ h.space))
    (ap (λ (p : Pack). p.process) c.pack.view_is) c.space-space.ensures.entries)
    (c.requires.can.writing c.requires.scheme) c.requires.each

pub returns-clause-out : goal.returns-clause-out
returns-clause-out c = λ out.
    let k = c.pack.inside in
    let v = c.args.view.now in
    let n = c.run_over-why.new in
    let stop = c.run_over-why.result in
    let floor = c.saturating_sub-end.result in
    let ended : (is_some stop ≡ true) ⊎ (floor ≡ 0) =
    elim c.if-is_some.branch as (λ _. (is_some stop ≡ true) ⊎ (floor ≡ 0)) [
      | then-is_some b ↦ inl (sym c.is_some.ensures ∙ b.if-is_some.true)
      | else-is_some b ↦ inr (eqb-true floor 0 (sym b.result-is ∙ out))
    ] in
    written-out k.tid k.pid k.regs.value k.left (paired k.held.items k.own) (length k.own)
    k.words v.frames.now v.table.now c.space-space.result.now.entries
    c.space-space.ensures.entries c.args.pack.now c.pack.view_is
    (c.requires.can.writing c.requires.scheme) c.requires.each c.deref.result.now c.deref.ensures
    n.regs n.words n.budget floor stop c.run_over-why.ensures ended

never : true ≡ false → ⊥
never q = cc

pub returns-clause-more : goal.returns-clause-more
returns-clause-more c = λ on.
    let k = c.pack.inside in
    let v = c.args.view.now in
    let n = c.run_over-why.new in
    let stop = c.run_over-why.result in
    let floor = c.saturating_sub-end.result in
    let goes : (is_some stop ≡ false) × (floor ≢ 0) =
    elim c.if-is_some.branch as (λ _. (is_some stop ≡ false) × (floor ≢ 0)) [
      | then-is_some b ↦ absurd (never (sym b.if-is_some.true ∙ sym b.result-is ∙ on))
      | else-is_some b ↦ (
        sym c.is_some.ensures ∙ b.if-is_some.false,
        eqb-false floor 0 (sym b.result-is ∙ on),
      )
    ] in
    let at : n.budget ≡ floor =
    floor-left _ stop n.budget floor goes.0 c.run_over-why.ensures.over.stops in
    let whole : k.left ≡ c.args.pack.now.budget = ap (λ (p : Pack). p.budget) c.pack.view_is in
    let less = c.saturating_sub-end.ensures in (
      written-lead k.tid k.pid k.regs.value k.left (paired k.held.items k.own) (length k.own)
          k.words v.frames.now v.table.now c.space-space.result.now.entries
          c.space-space.ensures.entries c.args.pack.now c.pack.view_is
          (c.requires.can.writing c.requires.scheme) c.requires.each c.deref.result.now
          c.deref.ensures n.regs n.words n.budget floor stop c.run_over-why.ensures,
      omega (arith, at, goes.1),
      omega (arith, at, goes.1, less, whole),
    )

pub returns-clause-part : goal.returns-clause-part
returns-clause-part c = λ on.
    let k = c.pack.inside in
    let v = c.args.view.now in
    let n = c.run_over-why.new in
    let stop = c.run_over-why.result in
    let floor = c.saturating_sub-end.result in
    let goes : (is_some stop ≡ false) × (floor ≢ 0) =
    elim c.if-is_some.branch as (λ _. (is_some stop ≡ false) × (floor ≢ 0)) [
      | then-is_some b ↦ absurd (never (sym b.if-is_some.true ∙ sym b.result-is ∙ on))
      | else-is_some b ↦ (
        sym c.is_some.ensures ∙ b.if-is_some.false,
        eqb-false floor 0 (sym b.result-is ∙ on),
      )
    ] in
    let at : n.budget ≡ floor =
    floor-left _ stop n.budget floor goes.0 c.run_over-why.ensures.over.stops in
    let less = c.saturating_sub-end.ensures in
    written-part k.tid k.pid k.regs.value k.left (paired k.held.items k.own) (length k.own)
    k.words v.frames.now v.table.now c.space-space.result.now.entries
    c.space-space.ensures.entries c.args.pack.now c.pack.view_is
    (c.requires.can.writing c.requires.scheme) c.requires.each c.deref.result.now c.deref.ensures
    n.regs n.words n.budget floor stop c.run_over-why.ensures
    c.args.most (omega (arith, at, goes.1, less))
