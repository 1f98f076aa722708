use Rattle.std.proofs.Common.{sym, ap, ◌∙◌, arith}
use Rattle.hand_board.specs.Placed.{blanks}
use Rattle.hand_board.proofs.Steps.{joins, weighs}
use Rattle.hand_board.proofs.Sitting.{at_table, sits_joined}
use Rattle.hand_board.proofs.board.Board.join.Goals as goal

pub join_seat-requires : goal.join_seat-requires
join_seat-requires g c =
    let s = c.left.invariant in
    let q = s.share_is in
    let w = c.self.invariant.sized.0 in
    let p = s.positive.0 in
    let r = c.right.invariant in
    let empty = ap (λ z. z.hand) c.right.view_is ∙ c.requires.hands.1 in (
      at_table c.left.view_is c.requires.left c.self.view_is,
      at_table c.right.view_is c.requires.right c.self.view_is,
      r.slots ∙ ap blanks empty,
      omega arith,
      joins _ _ c.self.inside.table.shared.key.value.items _ _ _ _
          (omega arith) empty,
    )

pub load-requires : goal.load-requires
load-requires g c =
    let w = c.self.invariant.sized.0 in (
      c.join_seat.ensures.0 ∙ at_table c.left.view_is c.requires.left c.self.view_is,
      omega arith,
      weighs _ _ c.self.inside.table.shared.key.value.items _ _ _,
    )

pub invariant_of-result : goal.invariant_of-result
invariant_of-result g c =
    let empty = ap (λ z. z.hand) c.right.view_is ∙ c.requires.hands.1 in
    let same = ap (λ z. z.board) c.left.view_is ∙ c.requires.left
    ∙ sym (ap (λ z. z.board) c.right.view_is ∙ c.requires.right) in
    sits_joined _ _ _ _ _ _ _ _ _ _ _ _ _ _ _ c.left.invariant c.right.invariant same empty
    c.join_seat.ensures.2 c.load.ensures.2
    (c.load.ensures.0 ∙ c.join_seat.ensures.0) c.later.ensures c.one_of.ensures
