use Rattle.std.proofs.Common.{◌≡◌, ◌++◌, take, drop, map}
use Rattle.space_map.specs.Mapping.{shared_in_run}
use Rattle.space_map.proofs.space.share_each.Given as goal

abbrev pub invariant-loop-entry : goal.invariant-loop-entry
invariant-loop-entry l = l.entries ≡ map (shared_in_run l.page l.count)
    (take l.entry-index l.initial.entries) ++ drop l.entry-index l.initial.entries
