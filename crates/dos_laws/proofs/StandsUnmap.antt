-- The service unmap keeps a world standing: less is mapped, and what nothing maps any more is free.
-- 14.
use Rattle.std.proofs.Common.{ℕ, List, length}
use Rattle.std.specs.Prelude.{filter}
use Rattle.dos_world.specs.World.{World, Holdings}
use Rattle.dos_world.specs.World.{with_holdings}
use Rattle.dos_world.specs.Counts.{tidied}
use Rattle.dos_world.specs.Calls.{Call}
use Rattle.dos_world.specs.MemoryCalls.{unmap, without_pages, stays_mapped}
use Rattle.dos_world.specs.Lawful.{IsAlone, IsPage}
use Rattle.dos_laws.proofs.Spaces.{Below, OtherFrame, pairs_from, pairs_to, pairs-filtered}
use Rattle.dos_laws.proofs.Spaces.{rising_from, rising_to, uses-filtered}
use Rattle.dos_laws.proofs.StandsSignals.{all-filtered}
use Rattle.dos_laws.proofs.Fewer.{less_held}
use Rattle.dos_laws.proofs.StandsTidy.{IsLess, lawful-tidied}
use Rattle.dos_laws.proofs.StandsHeld.{h, alone, where_mapped_stands}
use Rattle.dos_laws.proofs.StandsCalls.{StandsCall, Leaves, law, held, held_is}

module _ (ts : List ℕ) (c : Call) (call : StandsCall ts c) where
  abbrev left : World
  left = with_holdings c.world c.process (without_pages c)

  abbrev was : Holdings
  was = h ts c call

  less_mapped : IsLess c.world left
  less_mapped =
      let is = held_is ts c call in
      less_held c.world c.process (without_pages c) was (held ts c call).1
      (λ frame. uses-filtered frame (stays_mapped c) was.space)
      (record {
        actions = is.actions;
        descriptors = is.descriptors;
        rising =
            rising_to (filter (stays_mapped c) was.space)
            (pairs-filtered Below (stays_mapped c) was.space
            (rising_from was.space is.rising));
        pages = all-filtered (IsPage (length c.world.owners)) (stays_mapped c) was.space is.pages;
        apart =
            pairs_to OtherFrame (filter (stays_mapped c) was.space)
            (pairs-filtered OtherFrame (stays_mapped c) was.space
            (pairs_from OtherFrame was.space is.apart));
      })
      (all-filtered (IsAlone c.world) (stays_mapped c) was.space (alone ts c call)) (law ts c call)

  pub unmap_stands : Leaves ts c call (unmap c)
  unmap_stands = where_mapped_stands ts c call (tidied left) (record {
    lawful = lawful-tidied c.world left less_mapped (law ts c call);
    awake = call.stands.awake;
    apart = call.stands.apart;
  })
