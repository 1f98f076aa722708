use Rattle.std.proofs.Common.{ap, refl, sym}
use Rattle.std.proofs.lemmas.List.{append-nil}
use Rattle.shim_log.specs.Ledger.{LedgerState}
use Rattle.shim_log.proofs.AskingCalls.{answer_asks}
use Rattle.shim_log.proofs.RecorderLaws.{closes_ok, closes_follow}
use Rattle.shim_log.proofs.recorder.RecorderShim.end.Goals as goal

pub returns-clause-ok : goal.returns-clause-ok
returns-clause-ok g c = closes_ok c.args.self.now.ledger c.close.new.self c.args.ending
    c.args.rounds c.requires c.close.ensures

pub returns-clause-follows : goal.returns-clause-follows
returns-clause-follows g c = (
  refl,
  closes_follow c.args.self.now.ledger c.close.new.self c.args.ending c.args.rounds _ _
      c.requires c.close.ensures,
  answer_asks _ _ _ _ _ _ _ (ap (λ (b : LedgerState). b.clock) c.close.ensures)
      (closes_ok c.args.self.now.ledger c.close.new.self c.args.ending c.args.rounds c.requires
      c.close.ensures) (sym (append-nil _)) refl,
)
