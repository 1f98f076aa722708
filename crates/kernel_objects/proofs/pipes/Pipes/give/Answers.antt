use Rattle.std.proofs.Common.{◌≡◌, ◌++◌, ◌<◌, ℕ, true, List, length, take, get_or, refl, ap, sym}
use Rattle.std.proofs.Common.{subst, ◌∙◌, arith}
use Rattle.circular_buffer.specs.Buffer.{Buffer}
use Rattle.kernel_objects.specs.Pipework.{Pipework, bytes_at, is_open_at}
use Rattle.kernel_objects.proofs.Pipeworks.{held-at, room-at, written, kept-at, not-closed}
use Rattle.kernel_objects.proofs.pipes.Pipes.give.Goals as goal

pub invariant_of-self : goal.invariant_of-self
invariant_of-self c =
    let here : c.args.pipe < length c.self.inside.buffers.items =
    omega (arith, c.self.invariant.count) in
    let open_now = subst (λ (s : Pipework). is_open_at s c.args.pipe ≡ true)
    (sym c.self.view_is) c.requires.open in
    kept-at c.self.inside.buffers.items c.self.inside.readers c.self.inside.writers
    c.self.inside.readers c.self.inside.writers c.args.pipe c.fill_from_slice.new.self
    c.self.invariant c.requires.pipe
    (ap (λ (b : Buffer ℕ). b.capacity) c.fill_from_slice.ensures.items
    ∙ room-at c.self.inside.buffers.items c.args.pipe c.index_mut.result.now
    c.self.invariant.rooms here c.index_mut.ensures.value)
    (λ j other. refl) (λ j other. refl)
    (λ r w. absurd
    (not-closed (get_or c.self.inside.readers c.args.pipe 0)
    (get_or c.self.inside.writers c.args.pipe 0) open_now r w))

pub returns-clause-put : goal.returns-clause-put
returns-clause-put c =
    let here : c.args.pipe < length c.self.inside.buffers.items =
    omega (arith, c.self.invariant.count) in
    written c.self.inside.buffers.items c.self.inside.readers c.self.inside.writers c.args.self.now
    c.args.pipe c.fill_from_slice.new.self _ c.self.view_is
    (ap (λ (b : Buffer ℕ). b.items) c.fill_from_slice.ensures.items
    ∙ ap (λ (xs : List ℕ). xs ++ take c.fill_from_slice.result c.args.bytes.now)
    (sym (held-at c.self.inside.buffers.items c.args.pipe c.index_mut.result.now here
    c.index_mut.ensures.value)
    ∙ ap (λ (s : Pipework). bytes_at s c.args.pipe) c.self.view_is))
