use Rattle.std.proofs.Common.{◌≡◌, ◌∙◌, inr, refl, sym, ap, subst, is_some, length, ℕ, IfSome}
use Rattle.dos_world.specs.World.{Holdings}
use Rattle.proc_table.specs.Tables.{held_in}
use Rattle.quantum_run.specs.Packs.{paired, view_of}
use Rattle.quantum_run.specs.Shows.{Pack, begun_pack}
use Rattle.quantum_run.proofs.Slices.{begun-can, begun-runs}
use Rattle.quantum_run.proofs.Writing.{ready-home, ready-mapped, written-out}
use Rattle.quantum_run.proofs.pack.run_pack_through.Goals as goal

pub run_through-stop-requires-clause-home : goal.run_through-stop-requires-clause-home
run_through-stop-requires-clause-home c =
    let v = view_of c.args.frames.now c.args.table.now in
    let p = begun_pack c.args.pack.now in
    ready-home c.args.frames.now c.args.table.now c.space-space.result.now.entries p
    (subst (λ (n : ℕ). IfSome (held_in c.args.table.now.processes n)
    (λ (h : Holdings). c.space-space.result.now.entries ≡ h.space))
    (ap (λ (q : Pack). q.process) (c.pack.view_is ∙ c.begin.ensures)) c.space-space.ensures.entries)
    ((begun-can c.args.pack.now v c.requires.can).writing (ap is_some c.requires.words))
    (sym c.count-count.ensures.owners ∙ c.count-count.ensures.pages)

pub run_through-stop-requires-clause-mapped : goal.run_through-stop-requires-clause-mapped
run_through-stop-requires-clause-mapped c =
    let v = view_of c.args.frames.now c.args.table.now in
    let p = begun_pack c.args.pack.now in
    ready-mapped c.args.frames.now c.args.table.now c.space-space.result.now.entries p
    (subst (λ (n : ℕ). IfSome (held_in c.args.table.now.processes n)
    (λ (h : Holdings). c.space-space.result.now.entries ≡ h.space))
    (ap (λ (q : Pack). q.process) (c.pack.view_is ∙ c.begin.ensures)) c.space-space.ensures.entries)
    ((begun-can c.args.pack.now v c.requires.can).writing (ap is_some c.requires.words))
    (sym c.count-count.ensures.owners ∙ c.count-count.ensures.pages)

pub returns-clause-finished : goal.returns-clause-finished
returns-clause-finished c =
    let k = c.pack.inside in
    let s = c.args.frames.now in
    let v = view_of s c.args.table.now in
    let p = begun_pack c.args.pack.now in
    let n = c.run_through-stop.new in
    begun-runs c.args.pack.now v _
    (written-out k.tid k.pid k.regs.value k.left (paired k.held.items k.own) (length k.own)
    k.words s c.args.table.now c.space-space.result.now.entries c.space-space.ensures.entries p
    (c.pack.view_is ∙ c.begin.ensures)
    ((begun-can c.args.pack.now v c.requires.can).writing (ap is_some c.requires.words))
    (sym c.count-count.ensures.owners ∙ c.count-count.ensures.pages) c.deref.result.now
    c.deref.ensures n.regs n.words n.budget 0 c.run_through-stop.result
    c.run_through-stop.ensures.written (inr refl))
