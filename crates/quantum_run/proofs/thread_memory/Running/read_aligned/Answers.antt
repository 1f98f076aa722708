use Rattle.std.proofs.Common.{ℕ, ◌+◌, ◌*◌, ◌%◌, ◌≡◌, ◌≤◌, ◌∙◌, ap, subst, sym}
use Rattle.dos_world.specs.Reach.{width}
use Rattle.page_store.specs.Store.{joined, number_at}
use Rattle.quantum_run.proofs.Places.{aligned-offset, aligned-within}
use Rattle.quantum_run.proofs.thread_memory.Running.read_aligned.Goals as goal

pub read-requires-clause-within : goal.read-requires-clause-within
read-requires-clause-within g c =
    subst (λ (offset : ℕ). offset + width c.args.size ≤ 4096) (sym c.aligned_offset-offset.ensures)
    (aligned-within c.args.address c.args.size c.requires.aligned)

pub read-requires-clause-aligned : goal.read-requires-clause-aligned
read-requires-clause-aligned g c =
    subst (λ (offset : ℕ). offset % width c.args.size ≡ 0) (sym c.aligned_offset-offset.ensures)
    (aligned-offset c.args.address c.args.size c.requires.aligned)

pub returns-clause-value : goal.returns-clause-value
returns-clause-value g c =
    c.read.ensures.value
    ∙ ap (λ (offset : ℕ). number_at (joined (g.P.Pages.pages c.args.self.now.pages))
    (4096 * c.args.frame + offset) c.args.size) c.aligned_offset-offset.ensures
