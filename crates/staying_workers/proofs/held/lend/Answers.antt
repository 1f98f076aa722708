use Rattle.std.proofs.Common.{◌≡◌, ◌++◌, ◌∷◌, [], sym, ap, ◌∙◌, subst, arith, List}
use Rattle.std.specs.Prelude.{reverse}
use Rattle.std.proofs.lemmas.List.{reverse-append, map-append, append_assoc}
use Rattle.std.proofs.lemmas.List.Elements.{All-push}
use Rattle.quantum_run.specs.Shows.{Pack}
use Rattle.staying_workers.specs.declared.held.Held.{Held}
use Rattle.staying_workers.specs.Lending.{AreOfTerm, packs_held, Share}
use Rattle.staying_workers.proofs.held.lend.Goals as goal

-- the last of those that are left goes behind those that are out
goes_out : (out : List Held) (one : Held) (left : List Pack)
    → packs_held (out ++ one ∷ []) ++ reverse left ≡ packs_held out
    ++ reverse (left ++ one.pack ∷ [])
goes_out out one left =
    ap (λ ps. ps ++ reverse left) (map-append (λ (h : Held). h.pack) out (one ∷ []))
    ∙ append_assoc (packs_held out) (one.pack ∷ []) (reverse left)
    ∙ ap (λ ps. packs_held out ++ ps) (sym (reverse-append left (one.pack ∷ [])))

pub loop-pack-preserved : goal.loop-pack-preserved
loop-pack-preserved c =
    let lender = c.args.lender in
    let out : List Held = c.loop-pack.held.items in
    let lent = c.lend-rest.ensures in
    let one : Held = record { pack = c.in-Some.pack; shared = c.lend-rest.result.1 } in
    let left : List Pack = c.pop.new.self.items in
    let popped = c.in-Some.ensures in
    let pushed = c.push_reserved.ensures in
    let inv = c.loop-pack.invariant in
    let more = ap (λ l. l.out) lent.0 in (
      ap (λ (hs : List Held). packs_held hs ++ reverse left) pushed.items
          ∙ goes_out out one left
          ∙ ap (λ ps. packs_held out ++ reverse ps) (sym popped.items)
          ∙ inv.0,
      subst (λ (hs : List Held). Share lender.value hs) (sym pushed.items)
          (All-push (λ (h : Held). h.shared.value ≡ lender.value) out one inv.1 (lent.1 ∙ inv.3)),
      subst (λ (hs : List Held). AreOfTerm lender.term hs) (sym pushed.items)
          (All-push (λ (h : Held). h.shared.term ≡ lender.term) out one inv.2 (lent.2 ∙ inv.4)),
      ap (λ l. l.value) lent.0 ∙ inv.3,
      ap (λ l. l.term) lent.0 ∙ inv.4,
      omega (arith, more, pushed.len, inv.5),
      omega (arith, pushed.len, popped.len, inv.6),
      omega (arith, pushed.capacity, inv.7),
      omega (arith, popped.capacity, inv.8),
    )
