use Rattle.shim_log.specs.Ledger.{recorder_state}
use Rattle.dos_world.specs.declared.Ending.TheVariants.{Done}
use Rattle.log_tests.proofs.NoEnd.{after_end}
use Rattle.log_tests.proofs.recorders.finished.Goals as goal

pub into_parts-log-requires : goal.into_parts-log-requires
into_parts-log-requires c = record {
  ended = after_end (recorder_state c.args.shim.ledger) (recorder_state c.end.new.self.ledger) Done
      c.args.rounds c.in_ok-end.ensures.ok;
}
