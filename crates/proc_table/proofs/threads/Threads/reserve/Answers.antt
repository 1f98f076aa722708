use Rattle.std.proofs.Common.{ℕ, List, ap, ◌∙◌}
use Rattle.dos_world.specs.World.{Thread}
use Rattle.proc_table.specs.Spread.{spread}
use Rattle.proc_table.proofs.Spread.{spread_none}
use Rattle.proc_table.proofs.threads.Threads.reserve.Goals as goal

pub returns : goal.returns
returns c = ap (λ (es : List (ℕ × Thread)). spread es 0) c.in_ok-with_capacity.ensures.items
    ∙ spread_none
