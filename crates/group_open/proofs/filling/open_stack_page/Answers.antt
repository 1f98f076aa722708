use Rattle.std.proofs.Common.{refl}
use Rattle.flat_machine.specs.Opening.{stack_entry}
use Rattle.group_open.proofs.FillingLaws.{takes_zero}
use Rattle.group_open.proofs.HeldLaws.{place_unmapped}
use Rattle.group_open.proofs.OpensLaws.{opens_one}
use Rattle.group_open.proofs.filling.open_stack_page.Goals as goal

pub put_entry-requires-clause-unmapped : goal.put_entry-requires-clause-unmapped
put_entry-requires-clause-unmapped c =
    place_unmapped c.args.table.now c.args.opened.pid c.args.page 1 c.requires.place

pub returns : goal.returns
returns c =
    opens_one c.args.frames.now c.take_frame-frame.new.frames c.args.table.now c.put_entry.new.self
    c.args.opened.pid c.args.opened.tid c.args.page c.take_frame-frame.result 1
    _ (λ n. stack_entry n c.args.page) _
    (takes_zero c.args.frames.now c.take_frame-frame.new.frames c.args.opened.tid
    c.take_frame-frame.result c.requires.room c.take_frame-frame.ensures.lowest
    c.take_frame-frame.ensures.becomes)
    c.requires.place c.put_entry.ensures refl
