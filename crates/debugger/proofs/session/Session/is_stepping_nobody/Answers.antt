use Rattle.std.proofs.Common.{ap, sym, ◌∙◌, Bool, true, false, refl, ◌≡◌, arith, ◌+◌, drop}
use Rattle.std.specs.Prelude.{not, ◌||◌, ◌&&◌}
use Rattle.std.specs.List.{list_all}
use Rattle.std.proofs.lemmas.Option.{slice_get-get_or}
use Rattle.gdb_packets.specs.declared.resumptions.Resumption.{Resumption}
use Rattle.dos_world.specs.World.{World}
use Rattle.debug_session.specs.Actions.{is_stepping}
use Rattle.debug_session.specs.Forwards.{steps_nobody}
use Rattle.debugger.proofs.Passed.{all_end, all_not, all_on}
use Rattle.debugger.specs.Standing.{here}
use Rattle.debugger.proofs.session.Session.is_stepping_nobody.Goals as goal

abbrev gone : World → Resumption → Bool
gone w r = not (is_stepping r.action) || steps_nobody w r

pub returns-then-not-is_any_stepping : goal.returns-then-not-is_any_stepping
returns-then-not-is_any_stepping c start is_start =
    let w = (here c.args.self.now start).moment.world in
    ap (λ (b : Bool). b && list_all (gone w) c.args.resumptions.now)
    (sym c.if-not-is_any_stepping.true ∙ c.is_any_stepping.ensures)

pub returns-then-steps_somebody : goal.returns-then-steps_somebody
returns-then-steps_somebody c start is_start =
    let w = (here c.args.self.now start).moment.world in
    let rs = c.args.resumptions.now in
    let i = c.loop-resumption.resumption-index in
    let none = sym (all_not (gone w) rs i _
    (slice_get-get_or rs i _ (omega (arith, c.loop-resumption-test.true)))
    (sym (c.steps_somebody.ensures start is_start) ∙ ap not c.if-steps_somebody.true))
    ∙ c.loop-resumption.invariant start is_start in
    none
    ∙ ap (λ (b : Bool). b && list_all (gone w) rs)
    (sym c.if-not-is_any_stepping.false ∙ c.is_any_stepping.ensures)

pub loop-resumption-preserved : goal.loop-resumption-preserved
loop-resumption-preserved c start is_start =
    let w = (here c.args.self.now start).moment.world in
    let rs = c.args.resumptions.now in
    let i = c.loop-resumption.resumption-index in
    sym (all_on (gone w) rs i _
    (slice_get-get_or rs i _ (omega (arith, c.loop-resumption-test.true)))
    (sym (c.steps_somebody.ensures start is_start) ∙ ap not c.if-steps_somebody.false))
    ∙ c.loop-resumption.invariant start is_start

pub returns : goal.returns
returns c start is_start =
    let w = (here c.args.self.now start).moment.world in
    let rs = c.args.resumptions.now in
    let i = c.loop-resumption.resumption-index in
    sym (all_end (gone w) rs i (omega (arith, c.loop-resumption-test.false)))
    ∙ c.loop-resumption.invariant start is_start
    ∙ ap (λ (b : Bool). b && list_all (gone w) rs)
    (sym c.if-not-is_any_stepping.false ∙ c.is_any_stepping.ensures)
