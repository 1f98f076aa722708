use Rattle.std.proofs.Common.{sym, ap, ◌∙◌, subst}
use Rattle.dos_world.specs.World.{with_pc, get}
use Rattle.flat_machine.specs.Effect.{Effect, combined, onward, exchange, link, conditional}
use Rattle.flat_machine.specs.Effect.{is_held}
use Rattle.flat_machine.specs.Effect.{atomic}
use Rattle.flat_machine.specs.Over.{effect_in}
use Rattle.rv_exec.specs.Follows.{Follows}
use Rattle.rv_exec.specs.Arrivals.{arrived, went}
use Rattle.rv_exec.proofs.Atomics.{by_new_word}
use Rattle.rv_exec.proofs.on_memory.atomic.Goals as goal

pub returns-in_default : goal.returns-in_default
returns-in_default g c = λ pc f m shows.
    subst (λ (e : Effect). Follows (g.M.Memory.shows c.exchange.new.memory f) m (with_pc
    c.args.regs.now pc) (arrived c.exchange.new.regs pc c.exchange.result)
    (went c.exchange.result c.exchange.new.why) (effect_in (g.M.Memory.answers f) m e))
    (ap (λ x. exchange c.args.form.now.rd x (λ old. combined c.args.op old c.second-value.result)
    (onward 4 (with_pc c.args.regs.now pc))) c.first-address.ensures
    ∙ ap (λ x. exchange c.args.form.now.rd (get c.args.regs.now c.args.form.now.rs1) (λ old.
    combined c.args.op old x) (onward 4 (with_pc c.args.regs.now pc))) c.second-value.ensures
    ∙ sym (by_new_word c.args.op c.in_default.not-LrW c.in_default.not-ScW c.args.form.now.rd _ _
    _))
    (c.exchange.ensures pc f m shows)

pub returns-in-LrW : goal.returns-in-LrW
returns-in-LrW g c = λ pc f m shows.
    subst (λ (e : Effect). Follows (g.M.Memory.shows c.load_reserved.new.memory f) m (with_pc
    c.args.regs.now pc) (arrived c.load_reserved.new.regs pc c.load_reserved.result)
    (went c.load_reserved.result c.load_reserved.new.why) (effect_in (g.M.Memory.answers f) m e))
    (ap (λ x. link c.args.form.now.rd x (onward 4 (with_pc c.args.regs.now pc)))
    c.first-address.ensures
    ∙ ap (λ o. atomic o c.args.form.now.rd (get c.args.regs.now c.args.form.now.rs1) (get
    c.args.regs.now c.args.form.now.rs2) (onward 4 (with_pc c.args.regs.now pc))) (sym
    c.in-LrW.is))
    (c.load_reserved.ensures pc f m shows)

pub returns-in-ScW : goal.returns-in-ScW
returns-in-ScW g c = λ pc f m shows.
    let r = onward 4 (with_pc c.args.regs.now pc) in
    subst (λ (e : Effect). Follows (g.M.Memory.shows c.store_conditional.new.memory f) m (with_pc
    c.args.regs.now pc) (arrived c.store_conditional.new.regs pc c.store_conditional.result)
    (went c.store_conditional.result c.store_conditional.new.why) (effect_in (g.M.Memory.answers f)
    m e))
    (ap (λ x. conditional c.args.form.now.rd x c.second-value.result (is_held r.held x) r)
    c.first-address.ensures
    ∙ ap (λ x. conditional c.args.form.now.rd (get c.args.regs.now c.args.form.now.rs1) x (is_held
    r.held (get c.args.regs.now c.args.form.now.rs1)) r) c.second-value.ensures
    ∙ ap (λ o. atomic o c.args.form.now.rd (get c.args.regs.now c.args.form.now.rs1) (get
    c.args.regs.now c.args.form.now.rs2) r) (sym c.in-ScW.is))
    (c.store_conditional.ensures pc f m shows)
