use Rattle.std.proofs.Common.{arith, ◌∙◌, ◌≡◌, refl, sym, subst, reverse, get_or}
use Rattle.std.proofs.lemmas.List.{get_or-reverse, length-reverse}
use Rattle.std.proofs.lemmas.List.Elements.{All-get_or}
use Rattle.text_fields.specs.Formats.{many}
use Rattle.group_text.specs.GroupText.{saved_row}
use Rattle.group_writer.specs.Lengths.{HasAllNumbers}
use Rattle.group_writer.proofs.TextLaws.{goes_on}
use Rattle.group_writer.proofs.threads.put_saved_in_order.Goals as goal

pub put_saved_one-requires : goal.put_saved_one-requires
put_saved_one-requires c =
    let saved = c.args.saved.now in
    let i = c.loop-i.i in
    let x = c.index-saved-depth.result in
    let is : get_or (reverse saved) i x ≡ x =
    get_or-reverse saved i x (omega (arith, c.loop-i-test.true))
    ∙ sym c.index-saved-depth.is in
    subst (λ s. HasAllNumbers s.0) is
    (All-get_or (λ s. HasAllNumbers s.0) (reverse saved) i x
    (omega (arith, c.loop-i-test.true, length-reverse saved)) c.requires)

pub loop-i-preserved : goal.loop-i-preserved
loop-i-preserved c =
    let saved = c.args.saved.now in
    let i = c.loop-i.i in
    let x = c.index-saved-depth.result in
    let is : get_or (reverse saved) i x ≡ x =
    get_or-reverse saved i x (omega (arith, c.loop-i-test.true))
    ∙ sym c.index-saved-depth.is in
    goes_on saved_row.text (many 0 saved_row).text (λ x xs. refl) (reverse saved) i x
    c.loop-i.out.items c.put_saved_one.new.out.items _
    (omega (arith, c.loop-i-test.true, length-reverse saved)) is c.loop-i.invariant
    c.in_ok-put_saved_one.ensures
