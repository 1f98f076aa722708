use Rattle.std.proofs.Common.{◌≡◌, ℕ, ◌<◌, length, None, ap, arith}
use Rattle.std.specs.Prelude.{◌==◌}
use Rattle.std.proofs.lemmas.List.Sums.{count_by-le-length}
use Rattle.dos_world.specs.declared.Entry.{Entry}
use Rattle.dos_world.specs.World.{look}
use Rattle.proc_table.specs.Tables.{Tables}
use Rattle.kernel_mem.specs.MemoryWorld.{space_in}
use Rattle.kernel_mem.specs.Forking.{with_space}
use Rattle.kernel_mem.proofs.Copies.{private-left}
use Rattle.kernel_mem.proofs.Loops.{copying-more, copying-none, lent-space, look-above, next_entry}
use Rattle.kernel_mem.proofs.Loops.{of-space, other-live, pages-below, space-is, still-live}
use Rattle.kernel_mem.proofs.forking.copy_space.Goals as goal

pub loop-index-init : goal.loop-index-init
loop-index-init c = copying-none c.args.frames.now c.args.table.now c.args.pid c.args.child
    c.args.tid c.requires.home c.requires.empty

pub space-requires-in-loop-index : goal.space-requires-in-loop-index
space-requires-in-loop-index c =
    other-live (with_space (space_in c.loop-index.table c.args.child)) c.loop-index.table
    c.args.table.now c.args.pid c.args.child c.loop-index.invariant.table c.requires.apart
    c.requires.live

pub at-page-requires : goal.at-page-requires
at-page-requires c =
    let first = space-is c.args.table.now c.args.pid c.space.result.now.entries c.requires.live
    c.space.ensures.entries in
    let now = lent-space (with_space (space_in c.loop-index.table c.args.child))
    c.loop-index.table c.args.table.now c.args.pid c.args.child
    c.space-in-loop-index.result.now.entries c.loop-index.invariant.table c.requires.apart
    c.requires.live c.space-in-loop-index.ensures.entries in
    omega (arith, c.len-index-end.ensures.count, ap length first, ap length now)

pub copy_entry-copy-requires : goal.copy_entry-copy-requires
copy_entry-copy-requires c =
    let next = next_entry c.loop-index.invariant c.space.result.now.entries
    c.space-in-loop-index.result.now.entries c.requires.apart c.requires.live
    c.space.ensures.entries c.len-index-end.ensures.rising
    (omega (arith, c.len-index-end.ensures.count)) c.space-in-loop-index.ensures.entries
    c.at-page.ensures in
    record {
      home = c.loop-index.invariant.home;
      taken = c.loop-index.invariant.taken c.at-page.result.1.frame
          (c.requires.taken c.loop-index.index c.at-page.result next.found);
      few = omega (
        arith,
        c.requires.few c.at-page.result.1.frame,
        c.loop-index.invariant.uses c.at-page.result.1.frame,
        c.loop-index.invariant.length_is,
        next.within,
        count_by-le-length (λ (e : ℕ × Entry). e.1.frame == c.at-page.result.1.frame)
            (space_in c.loop-index.table c.args.child),
      );
      free = omega (
        arith,
        private-left (space_in c.args.table.now c.args.pid) c.loop-index.index
            c.at-page.result next.within next.here,
        c.requires.free,
        c.loop-index.invariant.free,
      );
    }

pub put_entry-requires : goal.put_entry-requires
put_entry-requires c =
    let next = next_entry c.loop-index.invariant c.space.result.now.entries
    c.space-in-loop-index.result.now.entries c.requires.apart c.requires.live
    c.space.ensures.entries c.len-index-end.ensures.rising
    (omega (arith, c.len-index-end.ensures.count)) c.space-in-loop-index.ensures.entries
    c.at-page.ensures in
    record {
      live = still-live (with_space (space_in c.loop-index.table c.args.child))
          c.loop-index.table c.args.table.now c.args.child c.loop-index.invariant.table
          c.requires.child;
      unmapped = of-space (λ es. look es c.at-page.result.0 ≡ None) c.loop-index.table
          c.args.child
          (look-above (space_in c.loop-index.table c.args.child) c.at-page.result.0
          (pages-below c.loop-index.invariant next c.requires.child));
      room = of-space (λ es. length es < c.loop-index.table.room) c.loop-index.table c.args.child
          (omega (
            arith,
            c.loop-index.invariant.length_is,
            c.len-index-end.ensures.count,
            c.len-index-end.ensures.room,
            c.space.ensures.room,
            ap (λ (T : Tables). T.room) c.loop-index.invariant.table,
          ));
    }

pub loop-index-preserved : goal.loop-index-preserved
loop-index-preserved c =
    let next = next_entry c.loop-index.invariant c.space.result.now.entries
    c.space-in-loop-index.result.now.entries c.requires.apart c.requires.live
    c.space.ensures.entries c.len-index-end.ensures.rising
    (omega (arith, c.len-index-end.ensures.count)) c.space-in-loop-index.ensures.entries
    c.at-page.ensures in
    copying-more c.loop-index.invariant next c.requires.child c.copy_entry-copy.result
    c.put_entry.ensures c.copy_entry-copy.ensures.copies c.copy_entry-copy.ensures.more
    c.copy_entry-copy.ensures.free
