use Rattle.std.proofs.Common.{◌<◌, All, List, ℕ, length, refl, sym, ◌∙◌, arith, subst}
use Rattle.std.proofs.lemmas.List.{length-replicate, nil_from_length}
use Rattle.dos_world.specs.declared.Owner.TheVariants.{Of}
use Rattle.flat_machine.specs.Opening.{part_entry, part_pages}
use Rattle.group_open.specs.Filling.{OpensParts}
use Rattle.group_open.proofs.HeldLaws.{place_after}
use Rattle.group_open.proofs.OpensLaws.{entries_below, parts_none, parts_more, room_after}
use Rattle.dos_laws.proofs.Ends.{length-map_from}
use Rattle.group_open.proofs.PageLaws.{all_below, fewer_below, pages_all, pages_below, pages_more}
use Rattle.group_open.proofs.PageLaws.{pages_none}
use Rattle.group_open.proofs.filling.open_parts.Goals as goal

pub loop-page-init : goal.loop-page-init
loop-page-init c = record {
  opens = parts_none c.args.frames.now c.args.table.now c.args.opened.pid c.args.opened.tid
      c.args.image.now (pages_below c.args.image.now 0)
      (nil_from_length (pages_below c.args.image.now 0) (pages_none c.args.image.now));
  within = omega arith;
}

pub open_page-requires-clause-room : goal.open_page-requires-clause-room
open_page-requires-clause-room c =
    let image = c.args.image.now in
    let fewer = fewer_below image c.loop-page.from c.in-Some.page c.next_page.ensures.sound
    (sym c.next_page.ensures.page ∙ c.in-Some.is) in
    room_after c.args.frames.now c.loop-page.frames c.args.table.now c.loop-page.table
    c.args.opened.pid
    (length (part_pages image)) 1 _ _ _ c.requires.room c.loop-page.invariant.opens
    (omega (
      arith,
      fewer,
      length-replicate (length (pages_below image c.loop-page.from))
          (Of c.args.opened.tid),
    ))

pub open_page-requires-clause-place : goal.open_page-requires-clause-place
open_page-requires-clause-place c =
    let image = c.args.image.now in
    let room = c.requires.room in
    let fewer = fewer_below image c.loop-page.from c.in-Some.page c.next_page.ensures.sound
    (sym c.next_page.ensures.page ∙ c.in-Some.is) in
    let below = all_below image c.loop-page.from c.in-Some.page c.in-Some.ensures.within.0 in
    place_after c.args.table.now c.loop-page.table c.args.opened.pid 0 c.in-Some.page
    (length (part_pages image)) 1 _ c.requires.place
    (c.loop-page.invariant.opens.maps room.bytes room.owners room.filled)
    (entries_below (part_entry image) c.in-Some.page (λ n p. refl) (length room.owners)
    (pages_below image c.loop-page.from) below)
    (omega arith)
    (omega (
      arith,
      fewer,
      length-map_from (length room.owners) (part_entry image)
          (pages_below image c.loop-page.from),
    ))

pub loop-page-preserved : goal.loop-page-preserved
loop-page-preserved c =
    let image = c.args.image.now in
    let pid = c.args.opened.pid in
    let tid = c.args.opened.tid in
    let more = pages_more image c.loop-page.from c.in-Some.page c.next_page.ensures.sound
    (sym c.next_page.ensures.page ∙ c.in-Some.is) in
    let within = c.in-Some.ensures.within in
    record {
      opens = subst (λ (ps : List ℕ). OpensParts c.args.frames.now c.open_page.new.frames
          c.args.table.now c.open_page.new.table pid tid image ps) (sym more)
          (parts_more c.args.frames.now c.loop-page.frames c.open_page.new.frames c.args.table.now
          c.loop-page.table c.open_page.new.table pid tid c.in-Some.page image
          (pages_below image c.loop-page.from) c.loop-page.invariant.opens
          c.open_page.ensures);
      within = omega arith;
    }

pub returns-clause-opens : goal.returns-clause-opens
returns-clause-opens c =
    subst (λ (ps : List ℕ). OpensParts c.args.frames.now c.loop-page.frames c.args.table.now
    c.loop-page.table c.args.opened.pid c.args.opened.tid c.args.image.now ps)
    (pages_all c.args.image.now c.loop-page.from c.next_page.ensures.sound
    (sym c.next_page.ensures.page ∙ c.in_default.is)) c.loop-page.invariant.opens

pub returns-clause-below : goal.returns-clause-below
returns-clause-below c =
    subst (λ (ps : List ℕ). All (λ page. page < 0xEFFF0) ps)
    (pages_all c.args.image.now c.loop-page.from c.next_page.ensures.sound
    (sym c.next_page.ensures.page ∙ c.in_default.is))
    (all_below c.args.image.now c.loop-page.from 0xEFFF0 c.loop-page.invariant.within)
