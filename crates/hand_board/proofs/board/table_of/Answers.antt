use Rattle.std.proofs.Common.{◌≡◌, ◌≤◌, ◌<◌, ◌+◌, [], length, map, Some, replicate, sym, subst}
use Rattle.std.proofs.Common.{ap, ◌∙◌}
use Rattle.std.specs.Prelude.{IfSome, IfNone, vec_len}
use Rattle.hand_board.specs.Placed.{first_view}
use Rattle.hand_board.proofs.board.table_of.Goals as goal

pub room_for-requires : goal.room_for-requires
room_for-requires g c = subst (λ z. z < 4294967296) (sym c.len.ensures) c.requires

pub fill-requires : goal.fill-requires
fill-requires g c =
    let s = c.in-Some.ensures.slots in
    (s.0, subst (λ z. z ≤ c.in-Some.slots.cap) c.len.ensures s.1)

pub table_in-requires-clause-words : goal.table_in-requires-clause-words
table_in-requires-clause-words g c = c.as_slice.ensures.value ∙ c.in-Some.ensures.words
    ∙ ap (λ n. replicate (n + 1) 0)
    (c.len.ensures ∙ c.args.packs.now.ok.0 ∙ sym (ap (λ v. length v.items) c.of-opened.ensures))

pub table_in-requires-clause-slots : goal.table_in-requires-clause-slots
table_in-requires-clause-slots g c =
    c.fill.ensures.items ∙ ap (λ v. map Some v.items) (sym c.of-opened.ensures)

pub table_in-requires-clause-packs : goal.table_in-requires-clause-packs
table_in-requires-clause-packs g c = (
  c.fill.ensures.empty,
  subst (λ z. z ≤ c.fill.new.packs.cap)
      (c.args.packs.now.ok.0 ∙ sym (ap (λ v. length v.items) c.of-opened.ensures))
      (subst (λ z. c.args.packs.now.len ≤ z) (sym c.fill.ensures.capacity)
      c.args.packs.now.ok.1),
)

-- the packs as the table opened are those of the vector
pub returns-clause-some : goal.returns-clause-some
returns-clause-some g c = subst
    (λ v. IfSome c.table_in.result (λ r. (r.0.shared.table_id.words ≡ length v.items + 1)
    × (r.0.shared.table_id.slots ≡ length v.items) × (r.0.shared.key.value.items ≡ v.items)
    × (r.1.table_id ≡ r.0.shared.table_id) × (r.1.me ≡ (first_view v.items, []))
    × (vec_len c.table_in.new.packs ≡ 0)))
    c.of-opened.ensures c.table_in.ensures.some

pub returns-clause-none : goal.returns-clause-none
returns-clause-none g c =
    subst (λ v. IfNone c.table_in.result (c.table_in.new.packs.items ≡ v.items))
    c.of-opened.ensures c.table_in.ensures.none

pub returns-clause-capacity : goal.returns-clause-capacity
returns-clause-capacity g c = c.table_in.ensures.capacity ∙ c.fill.ensures.capacity
