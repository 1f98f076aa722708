use Rattle.std.proofs.Common.{rules}
use Rattle.std.specs.Prelude.{not}
use Rattle.std.proofs.lemmas.Fn.{filter_same}
use Rattle.debug_session.specs.Points.{is_breakpoint}
use Rattle.debug_client.proofs.points.remove_breakpoint.Goals as goal

pub returns : goal.returns
returns c = filter_same _ (λ b. not (is_breakpoint c.args.process c.args.address b)) _
    (λ x b q k. search rules) _ _ c.retain.ensures.filtered
