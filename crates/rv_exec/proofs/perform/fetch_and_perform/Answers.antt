use Rattle.std.proofs.Common.{sym, subst}
use Rattle.std.specs.Prelude.{Result}
use Rattle.dos_world.specs.World.{Registers, with_pc}
use Rattle.dos_world.specs.declared.Reason.{Reason}
use Rattle.rv_exec.specs.Follows.{Follows}
use Rattle.rv_exec.specs.Arrivals.{arrived, went}
use Rattle.rv_exec.proofs.Whole.{follows_err, one_err, one_word}
use Rattle.rv_exec.proofs.ByForm.{of_form}
use Rattle.rv_exec.proofs.perform.fetch_and_perform.Goals as goal

pub returns-in-Ok : goal.returns-in-Ok
returns-in-Ok g c = λ f m shows.
    let fetched = c.in-Ok.ensures f m shows in
    let at = with_pc c.args.regs.now c.args.pc in
    let after = arrived c.perform_form.new.regs c.args.pc c.perform_form.result in
    let answer = went c.perform_form.result c.perform_form.new.why in
    subst (λ (o : Result (Registers × g.M.Memory.State) Reason). Follows
    (g.M.Memory.shows c.perform_form.new.memory f) m at after answer o)
    (sym (one_word (g.M.Memory.answers f) m at c.in-Ok.word fetched.1))
    (of_form (g.M.Memory.answers f) (g.M.Memory.shows c.perform_form.new.memory f) m at after
    c.in-Ok.word c.form_of-form.result answer c.form_of-form.ensures
    (c.perform_form.ensures f m fetched.0))

pub returns-in-Err : goal.returns-in-Err
returns-in-Err g c = λ f m shows.
    let fetched = c.in-Err.ensures f m shows in
    follows_err _ m _ _ _
    (one_err (g.M.Memory.answers f) m (with_pc c.args.regs.now c.args.pc) c.in-Err.reason fetched.1)
    fetched.0
