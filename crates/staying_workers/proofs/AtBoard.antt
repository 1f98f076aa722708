-- A worker with an order at a board.
use Rattle.std.proofs.Common.{◌≡◌, ℕ, ◌+◌, List, [], ◌∷◌, length, map, refl, sym, ap, ◌∙◌, arith}
use Rattle.std.proofs.Common.{subst}
use Rattle.std.specs.List.{sum_by}
use Rattle.atomic_table.specs.Seated.{TableId}
use Rattle.order_place.specs.Rule.{giver, lent}
use Rattle.order_place.specs.declared.worker.Worker.{Worker}
use Rattle.staying_workers.specs.declared.held.Held.{Held}
use Rattle.staying_workers.specs.declared.orders.PackOrder.{PackOrder}
use Rattle.staying_workers.specs.Busy.{IsWorkerAt, share_out}

abbrev head_or : {A : Type 0} → A → List A → A
head_or d [] = d
head_or d (x ∷ xs) = x

single : {A B : Type 0} (f : A → B) (l : List A) (b : B) → map f l ≡ b ∷ []
    → (x : A) × (l ≡ x ∷ [])
single f [] b e = absurd (let n = ap length e in omega arith)
single f (x ∷ []) b e = (x, refl)
single f (x ∷ y ∷ ys) b e = absurd (let n = ap length e in omega arith)

module _ {G : Type 0} (term : ℕ) (board : TableId) (opened : List Held) (w : Worker (PackOrder G))
  where
    pub order_at : IsWorkerAt term board opened w → (x : PackOrder G) × (w.seat.me ≡ lent x)
    order_at at =
        let s = single (λ (x : PackOrder G). x.board.term) w.seat.me.0.out term at.1 in
        (s.0, at.0 ∙ ap (λ (l : List (PackOrder G)). (giver l, [])) s.1)

    pub order_is : IsWorkerAt term board opened w → (x : PackOrder G) → w.seat.me ≡ lent x
        → (x.board.term ≡ term) × (x.seat.board ≡ board) × (x.seat.opened ≡ opened)
        × (share_out w ≡ x.seat.share)
    order_is at x e =
        let out : w.seat.me.0.out ≡ x ∷ [] = ap (λ m. m.0.out) e in
        let share : share_out w ≡ 0 + x.seat.share =
        ap (λ (l : List (PackOrder G)). sum_by (λ (z : PackOrder G). z.seat.share) l) out in (
          ap (λ l. head_or term l)
              (sym (ap (λ (l : List (PackOrder G)). map (λ (z : PackOrder G). z.board.term) l) out)
              ∙ at.1),
          ap (λ l. head_or board l)
              (sym (ap (λ (l : List (PackOrder G)). map (λ (z : PackOrder G). z.seat.board) l) out)
              ∙ at.2),
          ap (λ l. head_or opened l)
              (sym (ap (λ (l : List (PackOrder G)). map (λ (z : PackOrder G). z.seat.opened) l) out)
              ∙ at.3),
          omega (arith, share),
        )

module _ {G : Type 0} (w : Worker (PackOrder G)) where
  pub at_board : (x : PackOrder G) → w.seat.me ≡ lent x
      → IsWorkerAt x.board.term x.seat.board x.seat.opened w × (share_out w ≡ x.seat.share)
  at_board x e =
      let share : share_out w ≡ 0 + x.seat.share =
      ap (λ m. sum_by (λ (z : PackOrder G). z.seat.share) m.0.out) e in (
        subst (λ m. (m ≡ (giver m.0.out, []))
            × (map (λ (z : PackOrder G). z.board.term) m.0.out ≡ x.board.term ∷ [])
            × (map (λ (z : PackOrder G). z.seat.board) m.0.out ≡ x.seat.board ∷ [])
            × (map (λ (z : PackOrder G). z.seat.opened) m.0.out ≡ x.seat.opened ∷ []))
            (sym e) (refl, refl, refl, refl),
        omega (arith, share),
      )
