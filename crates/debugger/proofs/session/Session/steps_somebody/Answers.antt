use Rattle.std.proofs.Common.{ap, sym, ◌∙◌, Bool, true, false, refl, ◌≡◌}
use Rattle.std.specs.Prelude.{not, ◌||◌}
use Rattle.debug_session.specs.Forwards.{steps_nobody}
use Rattle.debugger.specs.Standing.{here}
use Rattle.debugger.proofs.session.Session.steps_somebody.Goals as goal

twice : (b : Bool) → not (not b) ≡ b
twice true = refl
twice false = refl

pub returns-then-is_stepping : goal.returns-then-is_stepping
returns-then-is_stepping c start is_start =
    let nobody = steps_nobody (here c.args.self.now start).moment.world c.args.resumption.now in
    twice c.steps_nobody.result ∙ c.steps_nobody.ensures start is_start
    ∙ ap (λ (b : Bool). not b || nobody) (sym (sym c.is_stepping.ensures ∙ c.if-is_stepping.true))

pub returns : goal.returns
returns c start is_start =
    let nobody = steps_nobody (here c.args.self.now start).moment.world c.args.resumption.now in
    ap (λ (b : Bool). not b || nobody) (sym (sym c.is_stepping.ensures ∙ c.if-is_stepping.false))
