use Rattle.std.proofs.Common.{◌≡◌, ◌*◌, ◌^◌, ◌-◌, ap, ◌∙◌, sym, arith}
use Rattle.std.specs.Prelude.{bit_or}
use Rattle.dos_world.specs.Reach.{width}
use Rattle.written_words.proofs.Storing.{or-whole}
use Rattle.written_words.proofs.merge.mask_with.Goals as goal

pub returns-in-Word : goal.returns-in-Word
returns-in-Word c =
    let four : width c.args.size ≡ 4 = ap width c.in-Word.is in
    let first : c.args.first ≡ 0 = omega (arith, c.requires.within, four) in
    sym (ap (λ n. bit_or c.args.mask ((2 ^ n - 1) * 2 ^ c.args.first)) four
    ∙ ap (λ k. bit_or c.args.mask (15 * 2 ^ k)) first ∙ or-whole c.args.mask c.requires.mask)
