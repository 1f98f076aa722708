use Rattle.std.proofs.Common.{◌≡◌, ◌++◌, ◌∷◌, [], length, refl, sym, ap, ◌∙◌, subst, arith, List}
use Rattle.std.proofs.Common.{Some}
use Rattle.std.specs.Prelude.{reverse}
use Rattle.std.proofs.lemmas.List.{reverse-append, reverse-reverse, append_assoc}
use Rattle.std.proofs.lemmas.List.Elements.{All-pop}
use Rattle.std.proofs.lemmas.List.Sorted.{All-permutation, IsPermutation-reverse}
use Rattle.quantum_run.specs.Shows.{Pack}
use Rattle.staying_workers.specs.declared.held.Held.{Held}
use Rattle.staying_workers.specs.Lending.{AreOfTerm, packs_held}
use Rattle.staying_workers.proofs.held.take_back.Goals as goal

none : (ps : List Pack) → length ps ≡ 0 → ps ≡ []
none [] e = refl
none (p ∷ ps) e = absurd (omega arith)

-- the last of those that are out goes behind those that are home
comes_home : (home : List Pack) (left : List Held) (one : Held)
    → (home ++ one.pack ∷ []) ++ packs_held (reverse left)
    ≡ home ++ packs_held (reverse (left ++ one ∷ []))
comes_home home left one = append_assoc home (one.pack ∷ []) (packs_held (reverse left))
    ∙ ap (λ hs. home ++ packs_held hs) (sym (reverse-append left (one ∷ [])))

pub loop-one-init : goal.loop-one-init
loop-one-init c =
    let term = c.args.lender.term in
    let items = c.args.held.items in
    let turned = c.reverse.ensures.items in
    let len = c.reverse.ensures.len in
    let empty : length c.args.packs.now.items ≡ 0 =
    let ok = c.args.packs.now.ok in let e = c.requires.room.0 in omega arith in (
      ap (λ (ps : List Pack). ps ++ packs_held (reverse c.reverse.new.self.items))
          (none c.args.packs.now.items empty)
          ∙ ap packs_held (ap reverse turned ∙ reverse-reverse items),
      subst (λ (hs : List Held). AreOfTerm term hs) (sym turned)
          (All-permutation (λ (h : Held). h.shared.term ≡ term) items (reverse items)
          (IsPermutation-reverse items) c.requires.term),
      refl,
      refl,
      omega (arith, len, c.requires.out.0),
      omega (arith, len, c.requires.out.1),
      omega (arith, len, c.requires.room),
      refl,
    )

pub take_back-lender-requires : goal.take_back-lender-requires
take_back-lender-requires c =
    let inv = c.loop-one.invariant in
    let len = c.in-Some.ensures.len in
    let term = c.args.lender.term in
    let popped = All-pop (λ (h : Held). h.shared.term ≡ term) c.loop-one.held.items
    c.pop.new.self.items (Some c.in-Some.one) c.in-Some.ensures.items inv.1 in
    (popped.1 ∙ sym inv.3, omega (arith, len, inv.4), omega (arith, inv.4, inv.5))

pub loop-one-preserved : goal.loop-one-preserved
loop-one-preserved c =
    let inv = c.loop-one.invariant in
    let one = c.in-Some.one in
    let left = c.pop.new.self.items in
    let popped = c.in-Some.ensures in
    let pushed = c.push_reserved.ensures in
    let term = c.args.lender.term in
    let back = c.take_back-lender.ensures in
    let out = ap (λ l. l.out) back in (
      ap (λ (ps : List Pack). ps ++ packs_held (reverse left)) pushed.items
          ∙ comes_home c.loop-one.packs.items left one
          ∙ ap (λ (hs : List Held). c.loop-one.packs.items ++ packs_held (reverse hs))
          (sym popped.items)
          ∙ inv.0,
      (All-pop (λ (h : Held). h.shared.term ≡ term) c.loop-one.held.items left (Some one)
          popped.items inv.1).0,
      ap (λ l. l.value) back ∙ inv.2,
      ap (λ l. l.term) back ∙ inv.3,
      omega (arith, out, popped.len, inv.4),
      omega (arith, popped.len, inv.5),
      omega (arith, popped.len, pushed.len, pushed.capacity, inv.6),
      omega (arith, pushed.capacity, inv.7),
    )
