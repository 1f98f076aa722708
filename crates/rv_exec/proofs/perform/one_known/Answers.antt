use Rattle.std.proofs.Common.{sym, subst}
use Rattle.std.specs.Prelude.{Result}
use Rattle.dos_world.specs.World.{Registers, with_pc}
use Rattle.dos_world.specs.declared.Reason.{Reason}
use Rattle.rv_exec.specs.Follows.{Follows}
use Rattle.rv_exec.specs.Arrivals.{arrived, went}
use Rattle.rv_exec.proofs.Whole.{one_word}
use Rattle.rv_exec.proofs.ByForm.{of_form}
use Rattle.rv_exec.proofs.perform.one_known.Goals as goal

pub returns : goal.returns
returns g c = λ f m word of is shown.
    let at = with_pc c.args.regs.now c.args.pc in
    let after = arrived c.perform_form.new.regs c.args.pc c.perform_form.result in
    let answer = went c.perform_form.result c.perform_form.new.why in
    let shows = g.M.Memory.shows c.perform_form.new.memory f in
    subst (λ (o : Result (Registers × g.M.Memory.State) Reason). Follows shows m at after answer o)
    (sym (one_word (g.M.Memory.answers f) m at word (sym is)))
    (of_form (g.M.Memory.answers f) shows m at after word c.args.form.now answer of
    (c.perform_form.ensures f m shown))
