use Rattle.std.proofs.Common.{arith, ◌∙◌, ℕ, ◌<◌, length, refl, sym}
use Rattle.std.specs.Int.{w32, to_le_bytes}
use Rattle.std.proofs.lemmas.List.{get_or_default}
use Rattle.text_fields.specs.Formats.{many, u32_in, any}
use Rattle.group_writer.proofs.TextLaws.{goes_on, nothing_left}
use Rattle.group_writer.proofs.threads.put_numbers.Goals as goal

pub loop-index-preserved : goal.loop-index-preserved
loop-index-preserved c =
    let i = c.loop-index.index in
    let numbers = c.args.regs.numbers in
    let within : i < length numbers = omega (arith, c.loop-index-test.true, c.requires) in (
      goes_on (λ (n : ℕ). to_le_bytes w32 n) (many 31 (u32_in any)).text (λ x xs. refl) numbers i
          c.get.result c.loop-index.out.items c.put_u32.new.out.items _ within
          (get_or_default numbers i c.get.result 0 within ∙ sym c.get.ensures)
          c.loop-index.invariant.0 c.in_ok-put_u32.ensures,
      omega arith,
    )

pub returns : goal.returns
returns c =
    nothing_left (many 31 (u32_in any)).text refl c.args.regs.numbers c.loop-index.index
    c.loop-index.out.items _ (omega (arith, c.loop-index-test.false, c.requires))
    c.loop-index.invariant.0
