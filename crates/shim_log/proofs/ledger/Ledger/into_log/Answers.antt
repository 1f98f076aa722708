use Rattle.std.proofs.Common.{◌≤◌, length, sym, subst}
use Rattle.dos_io.specs.Shims.{HasNoEnd}
use Rattle.log_text.specs.LogText.{Log, logtext}
use Rattle.shim_log.specs.Ledger.{LedgerState, recorder_state}
use Rattle.shim_log.proofs.LedgerLaws.{has_end, small_text}
use Rattle.shim_log.proofs.ledger.Ledger.into_log.Goals as goal

pub unreachable-requires : goal.unreachable-requires
unreachable-requires c = has_end _ c.self.invariant.0 c.in-None.is
    (subst (λ (b : LedgerState). HasNoEnd (recorder_state b).told → ⊥) (sym c.self.view_is)
    c.requires)

pub returns-clause-small : goal.returns-clause-small
returns-clause-small c =
    subst (λ (log : Log). length (logtext log) ≤ 67108864) (sym c.into_log.ensures)
    (small_text _ _ _ c.self.invariant.0)
