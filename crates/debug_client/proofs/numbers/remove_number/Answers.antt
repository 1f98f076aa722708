use Rattle.std.proofs.Common.{rules}
use Rattle.std.specs.Prelude.{not, ◌==◌}
use Rattle.std.proofs.lemmas.Fn.{filter_same}
use Rattle.debug_client.proofs.numbers.remove_number.Goals as goal

pub returns : goal.returns
returns c = filter_same _ (λ k. not (k == c.args.number)) _
    (λ x b q k. search rules) _ _ c.retain.ensures.filtered
