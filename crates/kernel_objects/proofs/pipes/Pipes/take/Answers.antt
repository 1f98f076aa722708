use Rattle.std.proofs.Common.{rules, ◌≡◌, ◌<◌, ℕ, List, [], length, drop, refl, ap, sym, ◌∙◌, arith}
use Rattle.circular_buffer.specs.Buffer.{Buffer}
use Rattle.kernel_objects.specs.Pipework.{Pipework, bytes_at}
use Rattle.kernel_objects.proofs.Pipeworks.{held-at, room-at, written, kept-at}
use Rattle.kernel_objects.proofs.pipes.Pipes.take.Goals as goal

pub invariant_of-self : goal.invariant_of-self
invariant_of-self c =
    let here : c.args.pipe < length c.self.inside.buffers.items =
    omega (arith, c.self.invariant.count) in
    kept-at c.self.inside.buffers.items c.self.inside.readers c.self.inside.writers
    c.self.inside.readers c.self.inside.writers c.args.pipe c.read_into.new.self
    c.self.invariant c.requires
    (ap (λ (b : Buffer ℕ). b.capacity) c.read_into.ensures.items
    ∙ room-at c.self.inside.buffers.items c.args.pipe c.index_mut.result.now
    c.self.invariant.rooms here c.index_mut.ensures.value)
    (λ j other. refl) (λ j other. refl)
    (λ r w. ap (λ (b : Buffer ℕ). b.items) c.read_into.ensures.items
    ∙ none c.read_into.result c.index_mut.result.now.items
    (sym (held-at c.self.inside.buffers.items c.args.pipe c.index_mut.result.now here
    c.index_mut.ensures.value) ∙ c.self.invariant.closed c.args.pipe r w))
  where
    none : (n : ℕ) (xs : List ℕ) → xs ≡ [] → drop n xs ≡ []
    none n xs e = ap (drop n) e ∙ nothing n
      where
        nothing : (n : ℕ) → drop {A = ℕ} n [] ≡ []
        nothing n = search rules

pub returns-clause-left : goal.returns-clause-left
returns-clause-left c =
    let here : c.args.pipe < length c.self.inside.buffers.items =
    omega (arith, c.self.invariant.count) in
    written c.self.inside.buffers.items c.self.inside.readers c.self.inside.writers c.args.self.now
    c.args.pipe c.read_into.new.self _ c.self.view_is
    (ap (λ (b : Buffer ℕ). b.items) c.read_into.ensures.items
    ∙ ap (drop c.read_into.result)
    (sym (held-at c.self.inside.buffers.items c.args.pipe c.index_mut.result.now here
    c.index_mut.ensures.value)
    ∙ ap (λ (s : Pipework). bytes_at s c.args.pipe) c.self.view_is))
