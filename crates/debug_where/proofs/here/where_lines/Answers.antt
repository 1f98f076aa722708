use Rattle.std.proofs.Common.{◌∙◌}
use Rattle.std.proofs.lemmas.Result.{IfOk-weaker}
use Rattle.debug_where.proofs.Said.{all_said}
use Rattle.debug_where.proofs.here.where_lines.Goals as goal

pub returns : goal.returns
returns c =
    IfOk-weaker c.lines_here.result _ _
    (λ lines told r at is. told ∙ all_said c.args.here.now r at is) c.lines_here.ensures
