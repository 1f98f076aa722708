use Rattle.std.proofs.Common.{All, List, sym, ap, ◌∙◌, arith, length, subst}
use Rattle.elf_image.specs.declared.part.Part.{Part}
use Rattle.group_open.specs.Laws.{HasBytes}
use Rattle.std.proofs.lemmas.List.{length_push}
use Rattle.group_open.proofs.PageLaws.{pages_below, pages_none, pages_more, pages_all}
use Rattle.group_open.proofs.pages.page_count.Goals as goal

pub loop-page-init : goal.loop-page-init
loop-page-init c = record {
  counted = omega (arith, pages_none c.args.image.now);
  few = omega arith;
  within = omega arith;
}

pub loop-page-preserved : goal.loop-page-preserved
loop-page-preserved c =
    let image = c.args.image.now in
    let more = pages_more image c.loop-page.from c.in-Some.page c.next_page.ensures.sound
    (sym c.next_page.ensures.page ∙ c.in-Some.is) in
    let within = c.in-Some.ensures.within in
    record {
      counted = omega (
        arith,
        ap length more,
        length_push (pages_below image c.loop-page.from) c.in-Some.page,
        c.loop-page.invariant.counted,
      );
      few = omega arith;
      within = omega arith;
    }

pub returns-clause-count : goal.returns-clause-count
returns-clause-count c =
    omega (
      arith,
      c.loop-page.invariant.counted,
      ap length (pages_all c.args.image.now c.loop-page.from c.next_page.ensures.sound
          (sym c.next_page.ensures.page ∙ c.in_default.is)),
    )

pub returns-clause-accepted : goal.returns-clause-accepted
returns-clause-accepted c = record {
  sound = c.next_page.ensures.sound;
  bytes = subst (λ (ps : List Part). All HasBytes ps) c.parts.ensures.parts c.have_bytes.ensures;
}
