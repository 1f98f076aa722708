use Rattle.std.proofs.Common.{[], get_or, sym, ap, ◌∙◌, arith}
use Rattle.kernel_objects.specs.Pipework.{Pipework, bytes_at}
use Rattle.kernel_objects.proofs.Pipeworks.{kept-ends, still-zero, lowest-closed, no-ends}
use Rattle.kernel_objects.proofs.pipes.Pipes.open.Goals as goal

pub invariant_of-self : goal.invariant_of-self
invariant_of-self c =
    kept-ends c.self.inside.buffers.items c.self.inside.readers c.self.inside.writers _ _
    c.self.invariant
    (λ j r w. (
      still-zero c.self.inside.readers c.in_ok-pipe.pipe j 1
          (omega (arith, c.self.told, c.in_ok-pipe.ensures.within)) (omega arith) r,
      still-zero c.self.inside.writers c.in_ok-pipe.pipe j 1
          (omega (arith, c.self.told, c.in_ok-pipe.ensures.within)) (omega arith) w,
    ))

pub returns-clause-empty : goal.returns-clause-empty
returns-clause-empty c =
    let none = no-ends (get_or c.self.inside.readers c.in_ok-pipe.pipe 0)
    (get_or c.self.inside.writers c.in_ok-pipe.pipe 0)
    (lowest-closed
    (record {
      bytes = [];
      readers = c.self.inside.readers;
      writers =
          c.self.inside.writers;
    }) c.in_ok-pipe.pipe c.in_ok-pipe.ensures.found) in
    sym (ap (λ (s : Pipework). bytes_at s c.in_ok-pipe.pipe) c.self.view_is)
    ∙ c.self.invariant.closed c.in_ok-pipe.pipe none.0 none.1
