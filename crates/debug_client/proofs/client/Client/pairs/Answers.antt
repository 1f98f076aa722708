use Rattle.std.proofs.Common.{◌+◌, ℕ, List, ◌∷◌, drop, map, arith, ap, sym, ◌∙◌}
use Rattle.std.proofs.lemmas.Option.{slice_get-get_or}
use Rattle.debug_session.specs.Sessions.{home_pair, Pair}
use Rattle.debug_client.specs.Births.{has_home}
use Rattle.debug_client.specs.Clients.{session_of}
use Rattle.debug_client.proofs.Walked.{one_put, drop_at}
use Rattle.debug_client.proofs.Listed.{all_at}
use Rattle.debug_client.proofs.client.Client.pairs.Goals as goal

pub loop-number-preserved : goal.loop-number-preserved
loop-number-preserved c r at a known =
    let numbers : List ℕ = c.args.numbers.now in
    let i = c.loop-number.number-index in
    let pair : ℕ → Pair = home_pair (session_of c.args.self.now r at) in
    let here = slice_get-get_or numbers i 0 (omega (arith, c.loop-number-test.true)) in
    one_put c.loop-number.pairs.items _ c.home_pair.result c.push.new.self.items
    (map pair (drop i numbers)) (map pair (drop (i + 1) numbers))
    (c.loop-number.invariant r at a known)
    (ap (map pair) (drop_at numbers i _ here)
    ∙ ap (λ (p : Pair). p ∷ map pair (drop (i + 1) numbers))
    (sym (c.home_pair.ensures r at a (all_at (has_home c.args.births.now) numbers i _ here known))))
    c.in_ok-push.ensures.items
