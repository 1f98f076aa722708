use Rattle.std.proofs.Common.{subst, sym, ◌∙◌}
use Rattle.dos_io.specs.Shims.{HasNoEnd}
use Rattle.twin_shims.specs.Leader.{TellerState}
use Rattle.twin_shims.proofs.Lines.{writes}
use Rattle.twin_shims.proofs.Tellers.{teller_goes, shows_told}
use Rattle.twin_shims.proofs.teller.Teller.tell.Goals as goal

pub invariant_of-self : goal.invariant_of-self
invariant_of-self g c =
    let wrote = writes _ _ _ c.self.invariant.1 c.push.ensures.pushed in (
      (c.push.ensures.pass.0 ∙ c.self.invariant.0.0, c.push.ensures.pass.2 ∙ c.self.invariant.0.1),
      wrote.hand_is,
      teller_goes _ _ _ _ _ c.args.exchange c.self.invariant.2
          (subst (λ (t : TellerState). HasNoEnd t.told) (sym c.self.view_is) c.requires.running)
          c.closes-closed.ensures wrote.pushed_is,
    )

pub returns : goal.returns
returns g c =
    let wrote = writes _ _ _ c.self.invariant.1 c.push.ensures.pushed in
    shows_told c.args.self.now _ _ _ _ _ _ _ c.args.exchange c.self.view_is
    c.push.ensures.pass.0 wrote.pushed_is
