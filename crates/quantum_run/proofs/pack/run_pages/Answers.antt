use Rattle.std.proofs.Common.{◌≡◌, ◌≢◌, ◌⊎◌, inl, inr, ◌∙◌, sym, ap, true, false, eqb-true, is_some}
use Rattle.std.proofs.Common.{arith}
use Rattle.std.proofs.lemmas.Bool.{eqb-false}
use Rattle.quantum_run.specs.Shows.{Pack, frames_of, has_words}
use Rattle.quantum_run.proofs.Packing.{frames-paired, packed-kept, same-length}
use Rattle.quantum_run.proofs.Ready.{floor-left, ready-reached, ready-own, ready-within}
use Rattle.quantum_run.proofs.Ready.{slice-leads, slice-out, slice-part}
use Rattle.quantum_run.proofs.Slices.{owning-for, owning-leads, owning-out}
use Rattle.quantum_run.proofs.pack.run_pages.Goals as goal
use Rattle.quantum_run.proofs.pack.run_pages.Goals.{then-is_some, else-is_some}

pub invariant_of-pack : goal.invariant_of-pack
invariant_of-pack c = packed-kept c.pack.inside.held.items c.pack.inside.own
    c.run_lent-stop.new.own _ c.run_lent-stop.ensures.here c.pack.invariant

pub returns-clause-frames : goal.returns-clause-frames
returns-clause-frames c =
    frames-paired c.pack.inside.held.items c.run_lent-stop.new.own
    ∙ sym (frames-paired c.pack.inside.held.items c.pack.inside.own)
    ∙ ap (λ (p : Pack). frames_of p.pages) c.pack.view_is

pub returns-clause-room : goal.returns-clause-room
returns-clause-room c = same-length c.pack.inside.own c.run_lent-stop.new.own
    c.run_lent-stop.ensures.here ∙ ap (λ (p : Pack). p.room) c.pack.view_is

pub run_lent-stop-requires-clause-reached : goal.run_lent-stop-requires-clause-reached
run_lent-stop-requires-clause-reached c =
    let k = c.pack.inside in
    let v = c.args.view.now in
    ready-reached k.tid k.pid k.regs.value k.left k.words k.held.items k.own _ c.pack.invariant
    v.frames.now v.table.now c.space-space.result.now.entries c.space-space.ensures.entries
    c.args.pack.now c.pack.view_is (c.requires.can.owning c.requires.scheme)

pub run_lent-stop-requires-clause-own : goal.run_lent-stop-requires-clause-own
run_lent-stop-requires-clause-own c =
    let k = c.pack.inside in
    let v = c.args.view.now in
    ready-own k.tid k.pid k.regs.value k.left k.words k.held.items k.own _ c.pack.invariant
    v.frames.now v.table.now c.space-space.result.now.entries c.space-space.ensures.entries
    c.args.pack.now c.pack.view_is (c.requires.can.owning c.requires.scheme)

pub run_lent-stop-requires-clause-within : goal.run_lent-stop-requires-clause-within
run_lent-stop-requires-clause-within c =
    let k = c.pack.inside in
    let v = c.args.view.now in
    ready-within k.tid k.pid k.regs.value k.left k.words k.held.items k.own _ c.pack.invariant
    v.frames.now v.table.now c.space-space.result.now.entries c.space-space.ensures.entries
    c.args.pack.now c.pack.view_is (c.requires.can.owning c.requires.scheme)

pub returns-clause-out : goal.returns-clause-out
returns-clause-out c = λ out.
    let k = c.pack.inside in
    let v = c.args.view.now in
    let n = c.run_lent-stop.new in
    let e = c.run_lent-stop.ensures in
    let stop = c.run_lent-stop.result in
    let floor = c.saturating_sub-floor.result in
    let ended : (is_some stop ≡ true) ⊎ (floor ≡ 0) =
    elim c.if-is_some.branch as (λ _. (is_some stop ≡ true) ⊎ (floor ≡ 0)) [
      | then-is_some b ↦ inl (sym c.is_some.ensures ∙ b.if-is_some.true)
      | else-is_some b ↦ inr (eqb-true floor 0 (sym b.result-is ∙ out))
    ] in
    owning-out c.args.pack.now _ _ c.requires.scheme
    (ap has_words c.pack.view_is ∙ c.requires.scheme)
    (slice-out k.tid k.pid k.regs.value k.left k.words k.held.items k.own _ c.pack.invariant
    v.frames.now v.table.now c.space-space.result.now.entries c.space-space.ensures.entries
    c.args.pack.now c.pack.view_is (c.requires.can.owning c.requires.scheme)
    c.requires.each
    c.deref.result.now c.deref.ensures n.own n.regs n.budget floor stop e.here e.within
    e.runs e.stop ended)

never : true ≡ false → ⊥
never q = cc

pub returns-clause-more : goal.returns-clause-more
returns-clause-more c = λ on.
    let k = c.pack.inside in
    let v = c.args.view.now in
    let n = c.run_lent-stop.new in
    let e = c.run_lent-stop.ensures in
    let stop = c.run_lent-stop.result in
    let floor = c.saturating_sub-floor.result in
    let goes : (is_some stop ≡ false) × (floor ≢ 0) =
    elim c.if-is_some.branch as (λ _. (is_some stop ≡ false) × (floor ≢ 0)) [
      | then-is_some b ↦ absurd (never (sym b.if-is_some.true ∙ sym b.result-is ∙ on))
      | else-is_some b ↦ (
        sym c.is_some.ensures ∙ b.if-is_some.false,
        eqb-false floor 0 (sym b.result-is ∙ on),
      )
    ] in
    let at : n.budget ≡ floor = floor-left _ stop n.budget floor goes.0 e.stop in
    let whole : k.left ≡ c.args.pack.now.budget = ap (λ (p : Pack). p.budget) c.pack.view_is in
    let less = c.saturating_sub-floor.ensures in (
      owning-leads c.args.pack.now _ _ c.requires.scheme
          (ap has_words c.pack.view_is ∙ c.requires.scheme)
          (slice-leads k.tid k.pid k.regs.value k.left k.words k.held.items k.own _ c.pack.invariant
          v.frames.now v.table.now c.space-space.result.now.entries c.space-space.ensures.entries
          c.args.pack.now c.pack.view_is (c.requires.can.owning c.requires.scheme)
          c.requires.each
          c.deref.result.now c.deref.ensures n.own n.regs n.budget floor stop e.here e.within
          e.runs e.stop),
      omega (arith, at, goes.1),
      omega (arith, at, goes.1, less, whole),
    )

pub returns-clause-part : goal.returns-clause-part
returns-clause-part c = λ on.
    let k = c.pack.inside in
    let v = c.args.view.now in
    let n = c.run_lent-stop.new in
    let e = c.run_lent-stop.ensures in
    let stop = c.run_lent-stop.result in
    let floor = c.saturating_sub-floor.result in
    let goes : (is_some stop ≡ false) × (floor ≢ 0) =
    elim c.if-is_some.branch as (λ _. (is_some stop ≡ false) × (floor ≢ 0)) [
      | then-is_some b ↦ absurd (never (sym b.if-is_some.true ∙ sym b.result-is ∙ on))
      | else-is_some b ↦ (
        sym c.is_some.ensures ∙ b.if-is_some.false,
        eqb-false floor 0 (sym b.result-is ∙ on),
      )
    ] in
    let at : n.budget ≡ floor = floor-left _ stop n.budget floor goes.0 e.stop in
    let less = c.saturating_sub-floor.ensures in
    owning-for c.args.most c.args.pack.now _ _ c.requires.scheme
    (slice-part k.tid k.pid k.regs.value k.left k.words k.held.items k.own _ c.pack.invariant
    v.frames.now v.table.now c.space-space.result.now.entries c.space-space.ensures.entries
    c.args.pack.now c.pack.view_is (c.requires.can.owning c.requires.scheme)
    c.requires.each
    c.deref.result.now c.deref.ensures n.own n.regs n.budget floor stop e.here e.within
    e.runs e.stop c.args.most (omega (arith, at, goes.1, less)))
