use Rattle.std.proofs.Common.{ℕ, sym, ap, subst}
use Rattle.proc_table.specs.Tables.{Tables}
use Rattle.flat_machine.specs.Opening.{page_count}
use Rattle.group_open.specs.Filling.{HasPlace}
use Rattle.group_open.specs.Group.{with_process_opened}
use Rattle.group_open.specs.declared.filling.Opened.{Opened}
use Rattle.group_open.proofs.GroupLaws.{not_full, more_room, next_opened, opened_place}
use Rattle.group_open.proofs.group.open_image.Goals as goal

pub open_process-opened-requires : goal.open_process-opened-requires
open_process-opened-requires c = let more = c.requires in
    not_full more.count c.args.frames.now c.args.table.now more.images c.args.image.now more.opened
    more.few

pub open_pages-requires-clause-room : goal.open_pages-requires-clause-room
open_pages-requires-clause-room c = let more = c.requires in
    more_room more.count c.args.frames.now c.args.table.now more.images c.args.image.now more.opened
    more.fits

pub open_pages-requires-clause-place : goal.open_pages-requires-clause-place
open_pages-requires-clause-place c =
    let more = c.requires in
    let image = c.args.image.now in
    let opened = c.open_process-opened.ensures in
    subst (λ (t : Tables). HasPlace t c.open_process-opened.result.pid 0 (page_count image))
    (sym opened.opens)
    (subst (λ (p : ℕ). HasPlace (with_process_opened c.args.table.now image) p 0 (page_count image))
    (sym (ap (λ (o : Opened). o.pid) opened.numbers))
    (opened_place more.count c.args.frames.now c.args.table.now more.images image
    more.opened more.fits))

pub returns : goal.returns
returns c = λ count images before.
    let opened = c.open_process-opened.ensures in
    next_opened count c.args.frames.now c.args.table.now images c.args.image.now before
    c.open_pages.new.frames c.open_process-opened.new.table c.open_pages.new.table
    c.open_process-opened.result.pid c.open_process-opened.result.tid
    opened.opens (ap (λ (o : Opened). o.pid) opened.numbers)
    (ap (λ (o : Opened). o.tid) opened.numbers) c.open_pages.ensures
