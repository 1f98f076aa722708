use Rattle.std.proofs.Common.{◌≡◌, List, drop, true}
use Rattle.std.specs.List.{list_any}
use Rattle.group_moves.specs.Moments.{Moment}
use Rattle.gdb_packets.specs.declared.resumptions.Resumption.{Resumption}
use Rattle.debug_session.specs.Actions.{id_names}
use Rattle.debug_client.specs.Births.{AreBirthsKnown, knows_named}
use Rattle.debug_client.proofs.actions.are_for.Given as goal

abbrev pub invariant-loop-resumption : goal.invariant-loop-resumption
invariant-loop-resumption l = record {
  named : knows_named l.births (drop l.resumption-index l.resumptions) ≡ true;
  found : (moments : List Moment) → AreBirthsKnown l.births moments
      → list_any (λ (r : Resumption). id_names moments r.threads l.process)
      (drop l.resumption-index l.resumptions)
      ≡ list_any (λ (r : Resumption). id_names moments r.threads l.process) l.resumptions;
}
