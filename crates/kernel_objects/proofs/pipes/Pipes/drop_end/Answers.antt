use Rattle.std.proofs.Common.{◌≡◌, ◌<◌, ℕ, List, length, get_or, refl, sym, ap, subst, ◌∙◌, arith}
use Rattle.circular_buffer.specs.Buffer.{Buffer}
use Rattle.kernel_objects.specs.declared.pipes.Pipes.TheInside.{Inside}
use Rattle.kernel_objects.proofs.Pipeworks.{IsLess, less-writer, less-reader, room-at, kept-at}
use Rattle.kernel_objects.proofs.Pipeworks.{dropped-last}
use Rattle.kernel_objects.proofs.pipes.Pipes.drop_end.Goals as goal
use Rattle.kernel_objects.proofs.pipes.Pipes.drop_end.Goals.{then-writer, else-writer}

less : (c : goal.After-self-then-self-place-eq0-2-1)
    → IsLess c.self.inside.buffers.items c.self.inside.readers c.self.inside.writers c.args.self.now
    c.args.pipe c.args.writer c.if-writer.self-inside.buffers.items
    c.if-writer.self-inside.readers c.if-writer.self-inside.writers
less c = elim c.if-writer.branch [
  | then-writer w ↦ subst (λ (x : Inside). IsLess c.self.inside.buffers.items c.self.inside.readers
      c.self.inside.writers c.args.self.now c.args.pipe c.args.writer x.buffers.items x.readers
      x.writers) (sym w.self-inside-is)
      (less-writer c.self.inside.buffers.items c.self.inside.readers c.self.inside.writers
      c.args.self.now c.args.pipe c.args.writer c.self.view_is w.if-writer.true)
  | else-writer w ↦ subst (λ (x : Inside). IsLess c.self.inside.buffers.items c.self.inside.readers
      c.self.inside.writers c.args.self.now c.args.pipe c.args.writer x.buffers.items x.readers
      x.writers) (sym w.self-inside-is)
      (less-reader c.self.inside.buffers.items c.self.inside.readers c.self.inside.writers
      c.args.self.now c.args.pipe c.args.writer c.self.view_is w.if-writer.false)
]

pub invariant_of-self : goal.invariant_of-self
invariant_of-self c =
    let l = less c in
    let here : c.args.pipe < length c.self.inside.buffers.items =
    omega (arith, c.self.invariant.count) in
    let value : c.index_mut.result.now
    ≡ get_or c.self.inside.buffers.items c.args.pipe c.index_mut.result.now =
    c.index_mut.ensures.value
    ∙ ap (λ (xs : List (Buffer ℕ)). get_or xs c.args.pipe c.index_mut.result.now) l.buffers in
    rw l.buffers (kept-at c.self.inside.buffers.items c.self.inside.readers c.self.inside.writers
    c.if-writer.self-inside.readers c.if-writer.self-inside.writers c.args.pipe
    c.clear.new.self c.self.invariant c.requires.pipe
    (ap (λ (b : Buffer ℕ). b.capacity) c.clear.ensures
    ∙ room-at c.self.inside.buffers.items c.args.pipe c.index_mut.result.now
    c.self.invariant.rooms here value)
    l.readers l.writers (λ r w. ap (λ (b : Buffer ℕ). b.items) c.clear.ensures))

pub returns-then-self-place-eq0-2 : goal.returns-then-self-place-eq0-2
returns-then-self-place-eq0-2 c =
    let l = less c in
    dropped-last c.args.self.now _ c.if-writer.self-inside.buffers.items c.args.pipe
    c.clear.new.self c.args.writer l.left refl
    (ap (λ (b : Buffer ℕ). b.items) c.clear.ensures) c.if-self-place-eq0.true
    c.if-self-place-eq0-2.true
