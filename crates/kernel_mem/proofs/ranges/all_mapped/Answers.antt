use Rattle.std.proofs.Common.{sym, ap, ◌∙◌, arith}
use Rattle.std.specs.Prelude.{is_some}
use Rattle.dos_world.specs.World.{look}
use Rattle.kernel_mem.proofs.Runs.{all_pass, one_fails}
use Rattle.kernel_mem.proofs.ranges.all_mapped.Goals as goal

pub returns-then-is_none : goal.returns-then-is_none
returns-then-is_none c =
    sym (one_fails (λ p. is_some (look c.args.space.now.entries p)) c.args.page c.args.count
    c.loop-index.index (omega arith)
    (ap is_some (sym c.look.ensures) ∙ c.if-is_none.ensures))

pub returns : goal.returns
returns c = sym (all_pass (λ p. is_some (look c.args.space.now.entries p)) c.args.page c.args.count
    (λ k h. c.loop-index.invariant k (omega arith)))
