use Rattle.std.proofs.Common.{◌+◌, ◌*◌, ◌++◌, length, replicate, refl, ap, arith}
use Rattle.std.specs.Prelude.{flat_map}
use Rattle.std.proofs.lemmas.List.{length-replicate, replicate-append-replicate}
use Rattle.dos_world.specs.Numbered.{map_from}
use Rattle.dos_world.specs.declared.Owner.TheVariants.{Of}
use Rattle.flat_machine.specs.Opening.{page_bytes, part_entry, part_pages, stack_entry, stack_pages}
use Rattle.flat_machine.specs.Opening.{image_bytes, page_count, space_from}
use Rattle.group_open.proofs.HeldLaws.{less_place, place_after}
use Rattle.group_open.proofs.OpensLaws.{less_room, entries_below, opens_as, opens_more, room_after}
use Rattle.dos_laws.proofs.Ends.{length-map_from}
use Rattle.group_open.proofs.filling.open_pages.Goals as goal

pub open_parts-requires-clause-room : goal.open_parts-requires-clause-room
open_parts-requires-clause-room c =
    less_room c.args.frames.now (page_count c.args.image.now)
    (length (part_pages c.args.image.now)) c.requires.room (omega arith)

pub open_parts-requires-clause-place : goal.open_parts-requires-clause-place
open_parts-requires-clause-place c =
    less_place c.args.table.now c.args.opened.pid 0 (page_count c.args.image.now)
    (length (part_pages c.args.image.now)) c.requires.place (omega arith)

pub open_stack-requires-clause-room : goal.open_stack-requires-clause-room
open_stack-requires-clause-room c =
    room_after c.args.frames.now c.open_parts.new.frames c.args.table.now c.open_parts.new.table
    c.args.opened.pid
    (page_count c.args.image.now) 16 _ _ _ c.requires.room c.open_parts.ensures.opens
    (omega (arith, length-replicate (length (part_pages c.args.image.now)) (Of c.args.opened.tid)))

pub open_stack-requires-clause-place : goal.open_stack-requires-clause-place
open_stack-requires-clause-place c =
    let room = c.requires.room in
    let pages = part_pages c.args.image.now in
    place_after c.args.table.now c.open_parts.new.table c.args.opened.pid 0 0xEFFF0
    (page_count c.args.image.now) 16 _ c.requires.place
    (c.open_parts.ensures.opens.maps room.bytes room.owners room.filled)
    (entries_below (part_entry c.args.image.now) 0xEFFF0 (λ n p. refl)
    (length room.owners) pages c.open_parts.ensures.below)
    (omega arith)
    (omega (arith, length-map_from (length room.owners) (part_entry c.args.image.now) pages))

pub returns : goal.returns
returns c =
    let image = c.args.image.now in
    let pages = part_pages image in
    let owner = Of c.args.opened.tid in
    opens_as c.args.frames.now c.open_stack.new.frames c.args.table.now c.open_stack.new.table
    c.args.opened.pid _ (space_from image) _ (image_bytes image) _
    (replicate (page_count image) owner)
    (λ n. ap (λ k. map_from n (part_entry image) pages ++ map_from (n + k) stack_entry stack_pages)
    (length-replicate (length pages) owner))
    refl
    (replicate-append-replicate (length pages) 16 owner)
    (opens_more c.args.frames.now c.open_parts.new.frames c.open_stack.new.frames c.args.table.now
    c.open_parts.new.table c.open_stack.new.table c.args.opened.pid
    (λ n. map_from n (part_entry image) pages) (λ n. map_from n stack_entry stack_pages)
    (flat_map (page_bytes image) pages) (replicate (4096 * 16) 0)
    (replicate (length pages) owner) (replicate 16 owner)
    c.open_parts.ensures.opens c.open_stack.ensures)
