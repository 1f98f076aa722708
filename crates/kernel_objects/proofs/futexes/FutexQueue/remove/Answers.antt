use Rattle.std.proofs.Common.{rules, List, ap, ◌∙◌}
use Rattle.std.specs.Prelude.{filter}
use Rattle.std.proofs.lemmas.Fn.{filter_same}
use Rattle.dos_world.specs.World.{Sleeper}
use Rattle.dos_world.specs.Kernel.{is_other}
use Rattle.kernel_objects.proofs.futexes.FutexQueue.remove.Goals as goal

pub returns : goal.returns
returns c = filter_same _ (is_other c.args.tid) _
    (λ x b q k. search rules) _ _ c.retain.ensures.filtered
    ∙ ap (λ (xs : List Sleeper). filter (is_other c.args.tid) xs) c.self.view_is
