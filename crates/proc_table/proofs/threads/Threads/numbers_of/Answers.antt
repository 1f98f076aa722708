use Rattle.std.proofs.Common.{ℕ, List, map, sym, ap, ◌∙◌, refl}
use Rattle.std.specs.Prelude.{◌==◌, filter}
use Rattle.dos_world.specs.World.{Thread, belongs_to}
use Rattle.proc_table.proofs.Shown.{count_shown, few_in}
use Rattle.proc_table.proofs.threads.Threads.numbers_of.Goals as goal

pub numbers_in-requires : goal.numbers_in-requires
numbers_in-requires c = few_in c.self.view_is c.self.invariant c.deref.ensures.value

pub returns : goal.returns
returns c =
    c.numbers_in.ensures ∙
    ap (λ (es : List (ℕ × Thread)). map (λ (e : ℕ × Thread). e.0)
    (filter (λ (e : ℕ × Thread). e.1.process == c.args.pid) es)) c.deref.ensures.value
    ∙ sym (count_shown c.self.view_is c.self.invariant (belongs_to c.args.pid) refl)
