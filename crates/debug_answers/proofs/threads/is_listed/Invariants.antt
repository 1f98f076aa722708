use Rattle.std.proofs.Common.{◌≡◌, drop, map}
use Rattle.debug_session.specs.Sessions.{is_among}
use Rattle.debug_answers.proofs.threads.is_listed.Given as goal

abbrev pub invariant-loop-pair : goal.invariant-loop-pair
invariant-loop-pair l =
    is_among l.thread (map (λ pair. pair.1) (drop l.pair-index l.pairs))
    ≡ is_among l.thread (map (λ pair. pair.1) l.pairs)
