use Rattle.std.proofs.Common.{◌≡◌}
use Rattle.crossbeam_queue.specs.Passes.{view, IsSamePass}
use Rattle.twin_shims.proofs.line.Line.push.Given as goal

abbrev pub invariant-loop : goal.invariant-loop
invariant-loop g l =
    IsSamePass l.fn.pass l.pass × (view l.pass ≡ view l.fn.pass) × (l.note ≡ l.fn.note)
