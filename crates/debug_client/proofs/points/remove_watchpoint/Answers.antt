use Rattle.std.proofs.Common.{rules}
use Rattle.std.specs.Prelude.{not}
use Rattle.std.proofs.lemmas.Fn.{filter_same}
use Rattle.debug_session.specs.Points.{is_same_watchpoint}
use Rattle.debug_client.proofs.points.remove_watchpoint.Goals as goal

pub returns : goal.returns
returns c = filter_same _ (λ other. not (is_same_watchpoint c.args.point other)) _
    (λ x b q k. search rules) _ _ c.retain.ensures.filtered
