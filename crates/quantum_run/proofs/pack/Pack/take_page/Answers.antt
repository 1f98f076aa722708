use Rattle.std.proofs.Common.{◌≡◌, ◌∙◌, ◌++◌, ◌∷◌, [], sym, ap, subst, length, length-set, ℕ, List}
use Rattle.std.proofs.Common.{Option, None, vec_capacity, arith}
use Rattle.page_store.specs.Store.{whole}
use Rattle.quantum_run.specs.Packs.{IsPacked, paired}
use Rattle.quantum_run.proofs.Keeping.{packed-less, paired-without, packed-view}
use Rattle.quantum_run.proofs.pack.Pack.take_page.Goals as goal

pub invariant_of-self-2 : goal.invariant_of-self-2
invariant_of-self-2 c =
    let k = c.self.inside in
    let a = c.in_ok-frame.ensures in
    let f = c.in_ok-frame.frame in
    let own = k.own in
    let new = c.pop.new.self.items in
    let packed : IsPacked (new ++ f ∷ []) own (vec_capacity k.held) =
    subst (λ (xs : List ℕ). IsPacked xs own (vec_capacity k.held)) a.items c.self.invariant in
    let capacity = a.capacity in
    subst (λ (rest : List (Option (List ℕ))). IsPacked new rest (vec_capacity c.pop.new.self))
    (sym c.take.ensures.rest)
    (packed-less new own (vec_capacity k.held) f packed (vec_capacity c.pop.new.self)
    (omega (arith, capacity)))

pub returns : goal.returns
returns c =
    let k = c.self.inside in
    let a = c.in_ok-frame.ensures in
    let f = c.in_ok-frame.frame in
    let own = k.own in
    let new = c.pop.new.self.items in
    let packed : IsPacked (new ++ f ∷ []) own (vec_capacity k.held) =
    subst (λ (xs : List ℕ). IsPacked xs own (vec_capacity k.held)) a.items c.self.invariant in
    let rest = c.take.new.self in
    let same : paired k.held.items own ≡ paired new rest ++ (f, whole c.in-Some.page) ∷ [] =
    ap (λ xs. paired xs own) a.items
    ∙ paired-without new own (vec_capacity k.held) f packed c.in-Some.page c.in-Some.ensures.page
    ∙ ap (λ other. paired new other ++ (f, whole c.in-Some.page) ∷ []) (sym c.take.ensures.rest) in
    sym c.self.view_is ∙ packed-view k.tid k.pid k.regs.value k.left k.words
    (paired new rest ++ (f, whole c.in-Some.page) ∷ []) (paired k.held.items own)
    (length rest) (length own) same
    (sym (ap (λ (other : List (Option (List ℕ))). length other) c.take.ensures.rest
    ∙ length-set own f None))
