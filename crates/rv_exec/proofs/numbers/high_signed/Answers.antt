use Rattle.std.proofs.Common.{◌∙◌}
use Rattle.rv_exec.proofs.High.{factor, signed_by_signed}
use Rattle.rv_exec.proofs.numbers.high_signed.Goals as goal

pub returns : goal.returns
returns c =
    c.cast_unsigned.ensures
    ∙ signed_by_signed c.args.a c.args.b c.from.result c.from-2.result c.ranges.a.fits
    c.ranges.b.fits
    (factor c.args.a c.cast_signed.result c.from.result c.ranges.a.fits c.cast_signed.ensures
    c.from.ensures)
    (factor c.args.b c.cast_signed-2.result c.from-2.result c.ranges.b.fits c.cast_signed-2.ensures
    c.from-2.ensures)
