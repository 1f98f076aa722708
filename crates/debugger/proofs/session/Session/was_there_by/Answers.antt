use Rattle.std.proofs.Common.{◌≡◌, Bool, true, false, refl, ap, sym, ◌∙◌}
use Rattle.std.specs.Prelude.{◌||◌}
use Rattle.debug_session.specs.Backwards.{is_there}
use Rattle.debugger.specs.Standing.{here}
use Rattle.debugger.proofs.session.Session.was_there_by.Goals as goal

or_true : (b : Bool) → true ≡ (b || true)
or_true true = refl
or_true false = refl

or_false : (b : Bool) → b ≡ (b || false)
or_false true = refl
or_false false = refl

pub returns-then-was_there : goal.returns-then-was_there
returns-then-was_there c start s is_start asked =
    let there : Bool = is_there s c.args.resumptions.now c.args.stepped
    (here c.args.self.now start).moment.world in
    or_true there ∙ ap (λ (b : Bool). there || b) (sym c.if-was_there.true)

pub returns : goal.returns
returns c start s is_start asked =
    let there : Bool = is_there s c.args.resumptions.now c.args.stepped
    (here c.args.self.now start).moment.world in
    c.is_there.ensures start s is_start asked ∙ or_false there
    ∙ ap (λ (b : Bool). there || b) (sym c.if-was_there.false)
