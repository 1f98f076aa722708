use Rattle.std.proofs.Common.{ap, sym, ◌∙◌, ◌≡◌, List, [], subst}
use Rattle.debug_session.specs.Halts.{puts_from}
use Rattle.debug_session.specs.Positions.{Position, position_after}
use Rattle.debugger.specs.declared.forwards.Put.{Put}
use Rattle.debugger.specs.declared.resuming.Direction.{Direction}
use Rattle.debugger.specs.Halting.{goes, puts_before}
use Rattle.debugger.proofs.Pathway.{puts_back}
use Rattle.debugger.proofs.session.Session.halt_by.Goals as goal

pub returns-in_ok-forwards-in-Forwards-clause-halt :
    goal.returns-in_ok-forwards-in-Forwards-clause-halt
returns-in_ok-forwards-in-Forwards-clause-halt c start s is_start asked there =
    let e = c.in_ok-forwards-in-Forwards.ensures.halt start s is_start asked there in
    (ap (λ (d : Direction). goes s c.args.resumptions.now d) c.in-Forwards.is ∙ e.0, e.1)

pub returns-in_ok-backwards-in-Backwards-clause-halt :
    goal.returns-in_ok-backwards-in-Backwards-clause-halt
returns-in_ok-backwards-in-Backwards-clause-halt c start s is_start asked there =
    let n = c.in_ok-backwards-in-Backwards.field-0.moves in (
      ap (λ (d : Direction). goes s c.args.resumptions.now d) c.in-Backwards.is
          ∙ c.in_ok-backwards-in-Backwards.ensures.halt start s is_start asked there,
      ap (λ (ps : List Put). puts_before n ps) c.requires.none
          ∙ sym (ap (λ (p : Position). puts_from p (position_after n start)) there
          ∙ puts_back n c.args.self.now.playback.moves start
          c.in_ok-backwards-in-Backwards.ensures.back),
    )
