use Rattle.std.proofs.Common.{◌≡◌, ◌-◌, ◌≤◌, true}
use Rattle.dos_world.specs.World.{World}
use Rattle.dos_world.specs.Kernel.{all_reach}
use Rattle.page_store.specs.Store.{Store as Held}
use Rattle.kernel_mem.specs.MemoryWorld.{in_world}
use Rattle.kernel_mem.proofs.copy.check.Given as goal

-- each of the bytes so far is reached
abbrev pub invariant-pages : goal.invariant-pages
invariant-pages l = record {
  low : l.address ≤ l.next;
  high : l.next ≤ l.end;
  reached : (w : World) (s : Held)
      → all_reach (in_world w s l.table) l.tid l.address (l.next - l.address) l.access ≡ true;
}

abbrev pub decreases-pages : goal.decreases-pages
decreases-pages l = l.end - l.next
