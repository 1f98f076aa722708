use Rattle.dos_texts.specs.declared.refusal.Refusal.TheVariants.{Sink}
use Rattle.dos_texts.proofs.Statuses.{refusal_is_status}
use Rattle.dos_texts.proofs.refusal.put_refusal.Goals as goal

pub returns-then-eq-clause-statuses : goal.returns-then-eq-clause-statuses
returns-then-eq-clause-statuses g c = refusal_is_status _ Sink c.status.ensures

pub returns-in-Err-clause-statuses : goal.returns-in-Err-clause-statuses
returns-in-Err-clause-statuses g c = refusal_is_status _ Sink c.status-in-Err.ensures
