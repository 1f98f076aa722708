use Rattle.std.proofs.Common.{ℕ, List, ap, ◌∙◌}
use Rattle.kernel_objects.specs.Pipework.{Pipework, held_bytes}
use Rattle.kernel_objects.proofs.Pipeworks.{held-filled, kept-filled}
use Rattle.kernel_objects.proofs.pipes.Pipes.restore.Goals as goal

pub invariant_of-result : goal.invariant_of-result
invariant_of-result c =
    kept-filled c.args.bytes.now c.in_ok-filled_buffers.ensures c.requires.count c.requires.closed

pub returns : goal.returns
returns c = ap (λ (xs : List (List ℕ)). let p : Pipework = record {
  bytes = xs;
  readers = c.args.readers;
  writers =
      c.args.writers;
} in p) (ap held_bytes c.in_ok-filled_buffers.ensures ∙ held-filled c.args.bytes.now)
