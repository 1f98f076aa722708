use Rattle.std.proofs.Common.{◌≡◌, drop}
use Rattle.std.specs.Prelude.{find}
use Rattle.gdb_packets.specs.declared.resumptions.Resumption.{Resumption}
use Rattle.debug_session.specs.Actions.{is_range_action}
use Rattle.debug_client.proofs.actions.first_range.Given as goal

abbrev pub invariant-loop-resumption : goal.invariant-loop-resumption
invariant-loop-resumption l =
    find (λ (r : Resumption). is_range_action r.action) (drop l.resumption-index l.resumptions)
    ≡ find (λ (r : Resumption). is_range_action r.action) l.resumptions
