use Rattle.std.proofs.Common.{[], ◌∷◌, subst}
use Rattle.dos_world.specs.declared.Ending.TheVariants.{Done}
use Rattle.dos_io.specs.declared.exchange.Exchange.TheVariants.{End}
use Rattle.dos_io.specs.Shims.{ShimState, HasNoEnd}
use Rattle.shim_log.specs.Ledger.{recorder_state}
use Rattle.log_bench.proofs.NoEnd.{second}
use Rattle.log_bench.proofs.recording.finished.Goals as goal

pub into_parts-log-requires : goal.into_parts-log-requires
into_parts-log-requires c = record {
  ended = λ none. second (recorder_state c.args.shim.ledger).told (End Done 1 ∷ [])
      (subst (λ (s : ShimState). HasNoEnd s.told) c.in_ok-end.ensures.ok none);
}
