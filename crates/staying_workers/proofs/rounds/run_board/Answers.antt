use Rattle.staying_workers.proofs.RanPacks.{still_ready}
use Rattle.staying_workers.proofs.rounds.run_board.Goals as goal

pub share-seat-requires-clause-ready : goal.share-seat-requires-clause-ready
share-seat-requires-clause-ready g c =
    still_ready c.send_all-lender.ensures.seat.1 c.requires.ready
