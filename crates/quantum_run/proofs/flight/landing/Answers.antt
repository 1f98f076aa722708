use Rattle.std.proofs.Common.{◌+◌, ◌%◌, ◌^◌, ◌≡◌, ◌⊎◌, inl, inr, refl}
use Rattle.quantum_run.specs.Flying.{IsLineOf}
use Rattle.quantum_run.specs.Knowing.{code_place}
use Rattle.quantum_run.proofs.Walking.{lands}
use Rattle.quantum_run.proofs.flight.landing.Goals as goal

pub returns : goal.returns
returns g c = λ code known starts.
    let m = c.args.memory.now in
    elim (c.line_from.ensures code (code_place c.args.base) starts) as
    (λ _. (c.line_from.result ≡ 0)
    ⊎ IsLineOf m.shown m.compared.now.blocks code code.lines c.args.base
    ((c.args.base + c.args.to) % 2 ^ 32) c.line_from.result) [
      | inl none ↦ inl none
      | inr start ↦ inr (lands m.shown m.compared.now.blocks code code.lines c.args.base c.args.to
          c.line_from.result c.slot_place.result (code_place c.args.base) refl known
          c.requires.found c.requires.base c.requires.inside c.requires.even c.ranges.base.fits
          c.slot_place.ensures.place (c.is_compared.ensures c.if-not-is_compared.false)
          refl start)
    ]
