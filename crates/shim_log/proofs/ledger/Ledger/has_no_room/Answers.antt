use Rattle.shim_log.proofs.LedgerLaws.{no_room, is_free}
use Rattle.shim_log.proofs.ledger.Ledger.has_no_room.Goals as goal

pub returns : goal.returns
returns c = (
  λ full. no_room _ _ _ _ _ c.requires.adds c.requires.grows (c.is_full.ensures.full full),
  λ none. c.is_full.ensures.free (is_free _ _ _ _ _ c.requires.grows none),
)
