use Rattle.std.proofs.Common.{◌≡◌, drop}
use Rattle.std.specs.Prelude.{find}
use Rattle.gdb_packets.specs.declared.resumptions.Resumption.{Resumption}
use Rattle.debug_session.specs.Actions.{id_fits}
use Rattle.debug_client.proofs.actions.action_of_thread.Given as goal

abbrev pub invariant-loop-resumption : goal.invariant-loop-resumption
invariant-loop-resumption l =
    find (λ (r : Resumption). id_fits r.threads l.process l.thread)
    (drop l.resumption-index l.resumptions)
    ≡ find (λ (r : Resumption). id_fits r.threads l.process l.thread) l.resumptions
