use Rattle.std.proofs.Common.{◌≡◌, ◌≤◌, take, length}
use Rattle.dos_io.specs.Given.{posts_in}
use Rattle.shim_log.proofs.ledger.posts_of.Given as goal

abbrev pub invariant-loop-i : goal.invariant-loop-i
invariant-loop-i l = (l.list ≡ posts_in (take l.i l.posts) l.round) × (length l.list ≤ l.i)
