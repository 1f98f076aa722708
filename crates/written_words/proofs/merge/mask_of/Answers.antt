use Rattle.std.proofs.Common.{◌≡◌, ◌*◌, ◌^◌, ◌-◌, ap, ◌∙◌, sym, arith}
use Rattle.dos_world.specs.Reach.{width}
use Rattle.written_words.proofs.Indexing.{three}
use Rattle.written_words.proofs.merge.mask_of.Goals as goal

pub returns-in-Half : goal.returns-in-Half
returns-in-Half c =
    let two : width c.args.size ≡ 2 = ap width c.in-Half.is in
    three c.args.first (omega (arith, c.requires, two))
    ∙ ap (λ n. (2 ^ n - 1) * 2 ^ c.args.first) (sym two)
