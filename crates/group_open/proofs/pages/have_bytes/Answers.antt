use Rattle.std.proofs.Common.{All, List, subst}
use Rattle.std.proofs.lemmas.List.{take_all}
use Rattle.std.proofs.lemmas.List.Elements.{All-more}
use Rattle.elf_image.specs.declared.part.Part.{Part}
use Rattle.group_open.specs.Laws.{HasBytes}
use Rattle.group_open.proofs.pages.have_bytes.Goals as goal

pub loop-part-preserved : goal.loop-part-preserved
loop-part-preserved c = All-more HasBytes c.args.parts.now c.loop-part.part-index c.part-item.result
    c.loop-part-test.true c.loop-part.invariant
    (subst HasBytes c.part-item.is c.has_bytes.ensures)

pub returns : goal.returns
returns c = subst (λ (ps : List Part). All HasBytes ps)
    (take_all c.loop-part.part-index c.args.parts.now c.loop-part-test.false)
    c.loop-part.invariant
