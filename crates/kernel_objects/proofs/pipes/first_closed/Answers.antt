use Rattle.std.proofs.Common.{[], get_or, arith}
use Rattle.kernel_objects.specs.Pipework.{Pipework}
use Rattle.kernel_objects.proofs.Pipeworks.{lowest-is, lowest-none, both-closed}
use Rattle.kernel_objects.proofs.pipes.first_closed.Goals as goal

pub returns-then-writers-pipe-eq0-clause-found : goal.returns-then-writers-pipe-eq0-clause-found
returns-then-writers-pipe-eq0-clause-found c =
    let s : Pipework = record {
      bytes = [];
      readers = c.args.readers.now;
      writers =
          c.args.writers.now;
    } in
    lowest-is s c.loop-pipe.pipe (omega (arith, c.told-readers)) c.loop-pipe.invariant
    (both-closed (get_or c.args.readers.now c.loop-pipe.pipe 0)
    (get_or c.args.writers.now c.loop-pipe.pipe 0) c.if-readers-pipe-eq0.true
    c.if-writers-pipe-eq0.true)

pub returns-clause-found : goal.returns-clause-found
returns-clause-found c =
    let s : Pipework = record {
      bytes = [];
      readers = c.args.readers.now;
      writers =
          c.args.writers.now;
    } in
    lowest-none s (λ j below. c.loop-pipe.invariant j (omega (arith, c.told-readers)))
