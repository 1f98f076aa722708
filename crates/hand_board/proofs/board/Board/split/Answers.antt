use Rattle.std.proofs.Common.{◌≤◌, sym, subst, arith}
use Rattle.hand_board.proofs.Steps.{splits}
use Rattle.hand_board.proofs.Sitting.{at_table}
use Rattle.hand_board.proofs.board.Board.split.Goals as goal

pub split_seat-other-requires : goal.split_seat-other-requires
split_seat-other-requires g c =
    let s = c.seat.invariant in
    let q = s.share_is in
    let w = c.self.invariant.sized.0 in
    let two = subst (λ z. 2 ≤ z.share) (sym c.seat.view_is) c.requires.share in (
      at_table c.seat.view_is c.requires.board c.self.view_is,
      omega arith,
      splits _ _ c.self.inside.table.shared.key.value.items _ _
          (omega arith),
    )
