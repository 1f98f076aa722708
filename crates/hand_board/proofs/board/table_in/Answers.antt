-- The table's opening keeps the rule; no memory puts each pack where it was.
use Rattle.std.proofs.Common.{◌≤◌, ◌+◌, Some, length, sym, subst, ap, ◌∙◌}
use Rattle.std.proofs.lemmas.List.{length-replicate, length-map}
use Rattle.std.specs.Prelude.{slice_index}
use Rattle.hand_board.specs.Seating.{values}
use Rattle.hand_board.proofs.Steps.{opens}
use Rattle.hand_board.proofs.Values.{values_map, all_zero}
use Rattle.hand_board.proofs.board.table_in.Goals as goal

pub new-requires : goal.new-requires
new-requires g c =
    opens _ _ c.args.opened.now.value.items c.args.words.now
    (ap length c.requires.words
    ∙ length-replicate (length c.args.opened.now.value.items + 1) 0)
    (λ i. ap (λ l. slice_index l i) c.requires.words ∙ all_zero _ i) _ c.requires.slots

pub returns-in-Ok-clause-some : goal.returns-in-Ok-clause-some
returns-in-Ok-clause-some g c =
    let o = c.in-Ok.ensures.ok in (
      o.0 ∙ ap length c.requires.words
          ∙ length-replicate (length c.args.opened.now.value.items + 1) 0,
      o.1 ∙ ap length c.requires.slots ∙ length-map c.args.opened.now.value.items Some,
      ap (λ k. k.value.items) o.5,
      o.2,
      o.4,
      c.requires.packs.0,
    )

pub empty-requires : goal.empty-requires
empty-requires g c =
    let as_many = c.in-Err.field-0.slots.ok.0
    ∙ ap length (c.in-Err.ensures.err ∙ c.requires.slots)
    ∙ length-map c.args.opened.now.value.items Some in
    (c.requires.packs.0, subst (λ z. z ≤ c.args.packs.now.cap) (sym as_many) c.requires.packs.1)

pub returns-in-Err-clause-none : goal.returns-in-Err-clause-none
returns-in-Err-clause-none g c = c.empty.ensures.items
    ∙ ap values (c.in-Err.ensures.err ∙ c.requires.slots) ∙ values_map _

pub returns-in-Err-clause-capacity : goal.returns-in-Err-clause-capacity
returns-in-Err-clause-capacity g c = c.empty.ensures.capacity
