use Rattle.std.proofs.Common.{◌≤◌, ◌+◌, List, [], length, false, sym, subst, ap, ap₂, ◌∙◌, arith}
use Rattle.atomic_table.specs.Seated.{TableId}
use Rattle.hand_board.specs.Placed.{whole_share, first_view}
use Rattle.hand_board.specs.Seating.{Seating}
use Rattle.hand_board.proofs.board.Board.new.Goals as goal

abbrev first_seat : {T : Type 0} → TableId → List T → Seating T
first_seat id opened = record {
  board = id;
  opened = opened;
  share = whole_share;
  found = [];
  hand = [];
  next = 0;
  ended = false;
}

pub overflow_cast-count : goal.overflow_cast-count
overflow_cast-count g c = omega arith

pub table_of-requires : goal.table_of-requires
table_of-requires g c = c.requires

pub board_of-requires-clause-sized : goal.board_of-requires-clause-sized
board_of-requires-clause-sized g c =
    let s = c.in-Some.ensures.some in
    let n = sym (c.len-count.ensures ∙ c.args.packs.ok.0) in
    (s.0 ∙ ap (λ z. z + 1) n, s.1 ∙ n)

pub board_of-requires-clause-all : goal.board_of-requires-clause-all
board_of-requires-clause-all g c = ap length c.in-Some.ensures.some.2
    ∙ sym c.args.packs.ok.0 ∙ sym c.len-count.ensures

pub board_of-requires-clause-roomy : goal.board_of-requires-clause-roomy
board_of-requires-clause-roomy g c = (
  c.in-Some.ensures.some.5,
  subst (λ z. c.len-count.result ≤ z) (sym c.table_of.ensures.capacity)
      (subst (λ z. z ≤ c.args.packs.cap) (sym c.len-count.ensures) c.args.packs.ok.1),
)

pub board_of-requires-clause-seat : goal.board_of-requires-clause-seat
board_of-requires-clause-seat g c =
    let s = c.in-Some.ensures.some in
    (s.3, s.4 ∙ ap (λ l. (first_view l, [])) (sym s.2))

pub returns-in-Some-clause-seat : goal.returns-in-Some-clause-seat
returns-in-Some-clause-seat g c = c.board_of.ensures.seat
    ∙ ap₂ first_seat (sym c.board_of.ensures.board.0) c.in-Some.ensures.some.2

pub returns-in-Some-clause-board : goal.returns-in-Some-clause-board
returns-in-Some-clause-board g c =
    let b = c.board_of.ensures.board in
    (b.1 ∙ c.in-Some.ensures.some.2, b.2 ∙ c.table_of.ensures.capacity)

pub returns-in-None-clause-err : goal.returns-in-None-clause-err
returns-in-None-clause-err g c = (c.in-None.ensures.none, c.table_of.ensures.capacity)
