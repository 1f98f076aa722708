use Rattle.std.proofs.Common.{◌+◌, ◌*◌, List, sym, ap, ◌∙◌, subst}
use Rattle.std.specs.Prelude.{AllPairs}
use Rattle.elf_image.specs.declared.part.Part.{Part}
use Rattle.elf_image.specs.Image.{IsApart}
use Rattle.group_open.specs.Pages.{laid_over}
use Rattle.group_open.proofs.PageLaws.{first_bytes, byte_more, all_bytes}
use Rattle.group_open.proofs.pages.fill_page.Goals as goal

pub loop-part-init : goal.loop-part-init
loop-part-init c = first_bytes _ c.requires.zero

pub loop-part-preserved : goal.loop-part-preserved
loop-part-preserved c =
    let parts = c.parts-part-items.result.now in
    let part = c.part-item.result in
    let apart : AllPairs IsApart parts =
    subst (λ (ps : List Part). AllPairs IsApart ps)
    (sym c.parts-part-items.ensures.parts) c.parts-part-items.ensures.sound.apart in
    λ k lt. c.fill_part.ensures k lt
    ∙ ap (laid_over part (4096 * c.args.page + k)) (c.loop-part.invariant k lt)
    ∙ byte_more parts c.loop-part.part-index
    (4096 * c.args.page + k) part apart c.loop-part-test.true c.part-item.is

pub returns : goal.returns
returns c = all_bytes c.args.image.now c.args.page c.loop-part.part-index c.loop-part.target
    c.parts-part-items.result.now c.parts-part-items.ensures.parts c.loop-part-test.false
    c.loop-part.invariant
