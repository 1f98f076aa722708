use Rattle.std.proofs.Common.{sym, ap, ◌∙◌}
use Rattle.std.specs.Prelude.{slice_get}
use Rattle.page_store.specs.Store.{Store}
use Rattle.group_open.proofs.FillingLaws.{taken_is_home, zero_shown}
use Rattle.group_open.proofs.filling.take_filled.Goals as goal

pub lend_mut-requires : goal.lend_mut-requires
lend_mut-requires c =
    let frame = c.take_frame-frame.result in
    let home = taken_is_home c.args.frames.now frame c.requires.room
    c.take_frame-frame.ensures.lowest in (
      home.0,
      ap (λ (s : Store). slice_get s.pages frame) c.take_frame-frame.ensures.becomes ∙ home.1,
    )

pub fill_page-requires-clause-zero : goal.fill_page-requires-clause-zero
fill_page-requires-clause-zero c =
    let frame = c.take_frame-frame.result in
    zero_shown c.lend_mut.result.now c.args.frames.now frame c.requires.room
    c.take_frame-frame.ensures.lowest
    (sym (ap (λ (s : Store). slice_get s.pages frame) c.take_frame-frame.ensures.becomes)
    ∙ c.lend_mut.ensures.page)
