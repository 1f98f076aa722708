use Rattle.std.proofs.Common.{ℕ, List, option_map, ap, sym, ◌∙◌}
use Rattle.std.specs.Prelude.{◌==◌, find}
use Rattle.dos_world.specs.World.{Thread}
use Rattle.proc_table.proofs.Shown.{first_shown}
use Rattle.proc_table.proofs.threads.Threads.first_of.Goals as goal

pub returns : goal.returns
returns c =
    c.first_in.ensures
    ∙ ap (λ (es : List (ℕ × Thread)). option_map (λ (e : ℕ × Thread). e.0)
    (find (λ (e : ℕ × Thread). e.1.process == c.args.pid) es)) c.deref.ensures.value
    ∙ sym (first_shown c.self.view_is c.self.invariant c.args.pid)
