use Rattle.std.proofs.Common.{◌≡◌, ◌∙◌, ap, sym, subst, [], ◌∷◌}
use Rattle.proc_table.specs.Tables.{Tables, thread_by, ran}
use Rattle.quantum_run.specs.Shows.{Pack}
use Rattle.group_rounds.specs.Handing.{AreSet}
use Rattle.group_rounds.proofs.HandingLaws.{set-one}
use Rattle.group_rounds.proofs.packs.take_back.Goals as goal

pub returns-clause-set : goal.returns-clause-set
returns-clause-set c =
    let p : Pack = c.args.pack.now in
    let is : c.set_run.new.self
    ≡ thread_by (ran p.registers p.budget) c.args.state.now.table p.thread =
    c.set_run.ensures ∙ ap (λ r.
    thread_by (ran r c.budget.result) c.args.state.now.table c.tid.result)
    c.regs.ensures
    ∙ ap (λ b. thread_by (ran p.registers b) c.args.state.now.table c.tid.result)
    c.budget.ensures
    ∙ ap (λ t. thread_by (ran p.registers p.budget) c.args.state.now.table t) c.tid.ensures in
    subst (λ (t : Tables). AreSet (p ∷ []) c.args.state.now.table t) (sym is)
    (set-one c.args.state.now.table p c.requires.live)
