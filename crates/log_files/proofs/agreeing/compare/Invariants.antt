use Rattle.std.proofs.Common.{◌≡◌, ◌+◌, drop}
use Rattle.log_files.specs.Judging.{first_other}
use Rattle.log_files.proofs.agreeing.compare.Given as goal

abbrev pub invariant-loop-i : goal.invariant-loop-i
invariant-loop-i l = first_other 1 l.given l.logged
    ≡ first_other (l.i + 1) (drop l.i l.given) (drop l.i l.logged)
