use Rattle.std.proofs.Common.{ℕ, List, count_by, ap, sym, ◌∙◌}
use Rattle.std.specs.Prelude.{◌==◌}
use Rattle.std.proofs.lemmas.List.Sums.{length-filter}
use Rattle.dos_world.specs.World.{Thread}
use Rattle.proc_table.proofs.Shown.{belonging, few_in}
use Rattle.proc_table.proofs.threads.Threads.count_of.Goals as goal

pub count_in-requires : goal.count_in-requires
count_in-requires c = few_in c.self.view_is c.self.invariant c.deref.ensures.value

pub returns : goal.returns
returns c =
    c.count_in.ensures
    ∙ ap (λ (es : List (ℕ × Thread)). count_by (λ (e : ℕ × Thread). e.1.process == c.args.pid) es)
    c.deref.ensures.value
    ∙ sym (length-filter (λ (e : ℕ × Thread). e.1.process == c.args.pid) c.self.inside.live.items)
    ∙ sym (belonging c.self.view_is c.self.invariant c.args.pid)
