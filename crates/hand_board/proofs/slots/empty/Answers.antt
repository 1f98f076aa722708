-- The packs come back from the last slot on.
use Rattle.std.proofs.Common.{◌≡◌, List, [], ◌∷◌, ◌++◌, Option, Some, None, refl, sym, ap, ◌∙◌}
use Rattle.std.proofs.Common.{arith, append_assoc}
use Rattle.std.proofs.lemmas.List.{reverse-append, reverse-reverse, nil_from_length}
use Rattle.std.specs.Prelude.{reverse}
use Rattle.hand_board.specs.Seating.{values}
use Rattle.hand_board.proofs.slots.empty.Goals as goal

module _ {T : Type 0} where
  last_left : (left left2 : List (Option T)) (s : Option T) → left ≡ left2 ++ s ∷ []
      → reverse left ≡ s ∷ reverse left2
  last_left left left2 s e = ap reverse e ∙ reverse-append left2 (s ∷ [])

  one_back : (room room2 all : List T) (left left2 : List (Option T)) (x : T)
      → room ++ values (reverse left) ≡ all → left ≡ left2 ++ Some x ∷ []
      → room2 ≡ room ++ x ∷ [] → room2 ++ values (reverse left2) ≡ all
  one_back room room2 all left left2 x e l r =
      ap (λ z. z ++ values (reverse left2)) r
      ∙ append_assoc room (x ∷ []) (values (reverse left2))
      ∙ ap (λ z. room ++ values z) (sym (last_left left left2 (Some x) l)) ∙ e

  none_back : (room all : List T) (left left2 : List (Option T))
      → room ++ values (reverse left) ≡ all → left ≡ left2 ++ None ∷ []
      → room ++ values (reverse left2) ≡ all
  none_back room all left left2 e l =
      ap (λ z. room ++ values z) (sym (last_left left left2 None l)) ∙ e

pub loop-slot-init : goal.loop-slot-init
loop-slot-init g c = (
  ap (λ z. z ++ values (reverse c.reverse.new.self.items))
      (nil_from_length c.args.room.now.items (sym c.args.room.now.ok.0 ∙ c.requires.0))
      ∙ ap (λ z. values (reverse z)) c.reverse.ensures.items
      ∙ ap values (reverse-reverse c.args.slots.items),
  omega arith,
  refl,
)

pub loop-slot-preserved-in-Some-slot : goal.loop-slot-preserved-in-Some-slot
loop-slot-preserved-in-Some-slot g c = (
  one_back _ _ _ _ _ c.in-Some-slot.pack c.loop-slot.invariant.0
      (c.in-Some.ensures.items ∙ ap (λ z. c.pop.new.self.items ++ z ∷ []) c.in-Some-slot.is)
      c.push_reserved.ensures.items,
  omega (arith, c.in-Some.ensures.cases),
  c.push_reserved.ensures.capacity ∙ c.loop-slot.invariant.2,
)

pub loop-slot-preserved : goal.loop-slot-preserved
loop-slot-preserved g c = (
  none_back _ _ _ _ c.loop-slot.invariant.0
      (c.in-Some.ensures.items ∙ ap (λ z. c.pop.new.self.items ++ z ∷ []) c.in-None.is),
  omega arith,
  c.loop-slot.invariant.2,
)
