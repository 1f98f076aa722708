use Rattle.std.proofs.Common.{ap}
use Rattle.hand_board.specs.Seating.{Seating}
use Rattle.staying_workers.specs.declared.held.Held.{Held}
use Rattle.staying_workers.proofs.RanPacks.{still_ready}
use Rattle.staying_workers.proofs.rounds.run_each.Goals as goal

pub run_board-requires-clause-ready : goal.run_board-requires-clause-ready
run_board-requires-clause-ready g c =
    λ κs κ. still_ready (ap (λ (s : Seating Held). s.opened) c.in_ok-board.ensures.seat)
    c.requires.ready

pub run_swept-requires-clause-ready : goal.run_swept-requires-clause-ready
run_swept-requires-clause-ready g c =
    still_ready (ap (λ (s : Seating Held). s.opened) c.in_ok-board.ensures.seat) c.requires.ready
