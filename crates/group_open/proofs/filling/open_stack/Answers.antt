use Rattle.std.proofs.Common.{◌≡◌, ◌-◌, ◌<◌, List, ℕ, length, refl, arith, subst}
use Rattle.std.proofs.lemmas.List.{length-replicate}
use Rattle.dos_world.specs.Numbered.{run_of}
use Rattle.dos_world.specs.declared.Owner.TheVariants.{Of}
use Rattle.flat_machine.specs.Opening.{stack_entry}
use Rattle.group_open.specs.Filling.{OpensStack}
use Rattle.group_open.proofs.HeldLaws.{place_after}
use Rattle.group_open.proofs.OpensLaws.{entries_below, room_after, stack_none, stack_more}
use Rattle.dos_laws.proofs.Ends.{length-map_from}
use Rattle.group_open.proofs.Runs.{length_run, run_push, within_run}
use Rattle.group_open.proofs.filling.open_stack.Goals as goal

pub loop-page-init : goal.loop-page-init
loop-page-init c = stack_none c.args.frames.now c.args.table.now c.args.opened.pid c.args.opened.tid

pub open_stack_page-requires-clause-room : goal.open_stack_page-requires-clause-room
open_stack_page-requires-clause-room c =
    room_after c.args.frames.now c.loop-page.frames c.args.table.now c.loop-page.table
    c.args.opened.pid 16 1 _ _ _ c.requires.room c.loop-page.invariant
    (omega (
      arith,
      length_run 0xEFFF0 (c.loop-page.page - 0xEFFF0),
      length-replicate (length (run_of 0xEFFF0 (c.loop-page.page - 0xEFFF0)))
          (Of c.args.opened.tid),
    ))

pub open_stack_page-requires-clause-place : goal.open_stack_page-requires-clause-place
open_stack_page-requires-clause-place c =
    let room = c.requires.room in
    let page = c.loop-page.page in
    let pages = run_of 0xEFFF0 (page - 0xEFFF0) in
    place_after c.args.table.now c.loop-page.table c.args.opened.pid 0xEFFF0 page 16 1 _
    c.requires.place (c.loop-page.invariant.maps room.bytes room.owners room.filled)
    (entries_below stack_entry page (λ n p. refl) (length room.owners) pages
    (within_run (λ p. p < page) 0xEFFF0 (page - 0xEFFF0) (λ k le lt. omega arith)))
    (omega arith)
    (omega (
      arith,
      length-map_from (length room.owners) stack_entry pages,
      length_run 0xEFFF0 (page - 0xEFFF0),
    ))

pub loop-page-preserved : goal.loop-page-preserved
loop-page-preserved c =
    let pid = c.args.opened.pid in
    let tid = c.args.opened.tid in
    let page = c.loop-page.page in
    subst (λ (ps : List ℕ). OpensStack c.args.frames.now c.open_stack_page.new.frames
    c.args.table.now c.open_stack_page.new.table pid tid ps)
    (run_push 0xEFFF0 page (omega arith))
    (stack_more c.args.frames.now c.loop-page.frames c.open_stack_page.new.frames c.args.table.now
    c.loop-page.table c.open_stack_page.new.table pid tid page
    (run_of 0xEFFF0 (page - 0xEFFF0)) c.loop-page.invariant c.open_stack_page.ensures)

pub returns : goal.returns
returns c =
    let all : c.loop-page.page - 0xEFFF0 ≡ 16 = omega arith in
    subst (λ n. OpensStack c.args.frames.now c.loop-page.frames c.args.table.now c.loop-page.table
    c.args.opened.pid c.args.opened.tid (run_of 0xEFFF0 n)) all c.loop-page.invariant
