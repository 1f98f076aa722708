use Rattle.std.proofs.Common.{ap, sym, ◌∙◌}
use Rattle.hand_board.specs.Seating.{Seating, Standing}
use Rattle.staying_workers.specs.declared.held.Held.{Held}
use Rattle.staying_workers.proofs.RanPacks.{still_ready}
use Rattle.staying_workers.proofs.rounds.halved.Goals as goal

pub invariant_of-order : goal.invariant_of-order
invariant_of-order g c =
    let s = c.split-ours.ensures.second in record {
      seated = (
        ap (λ (z : Seating Held). z.board) s ∙ c.requires.board
            ∙ ap (λ (z : Standing Held). z.id) (sym c.requires.same),
        ap (λ (z : Seating Held). z.hand) s,
        still_ready (ap (λ (z : Seating Held). z.opened) s) c.requires.ready,
      );
    }
