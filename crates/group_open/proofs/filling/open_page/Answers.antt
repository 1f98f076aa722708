use Rattle.flat_machine.specs.Opening.{part_entry}
use Rattle.group_open.proofs.HeldLaws.{place_unmapped}
use Rattle.group_open.proofs.OpensLaws.{opens_one}
use Rattle.group_open.proofs.filling.open_page.Goals as goal

pub put_entry-requires-clause-unmapped : goal.put_entry-requires-clause-unmapped
put_entry-requires-clause-unmapped c =
    place_unmapped c.args.table.now c.args.opened.pid c.args.page 1 c.requires.place

pub returns : goal.returns
returns c =
    opens_one c.args.frames.now c.take_filled-frame.new.frames c.args.table.now c.put_entry.new.self
    c.args.opened.pid c.args.opened.tid c.args.page c.take_filled-frame.result 1
    c.entry_of.result (λ n. part_entry c.args.image.now n c.args.page) _ c.take_filled-frame.ensures
    c.requires.place c.put_entry.ensures c.entry_of.ensures
