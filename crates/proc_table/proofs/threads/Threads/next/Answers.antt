use Rattle.std.proofs.Common.{ℕ, List, option_map, slice_get, ap, sym, ◌∙◌}
use Rattle.dos_world.specs.World.{Thread}
use Rattle.proc_table.proofs.Shown.{next_shown, above_in}
use Rattle.proc_table.proofs.threads.Threads.next.Goals as goal

pub returns : goal.returns
returns c =
    c.number_in.ensures
    ∙ ap (λ (es : List (ℕ × Thread)). option_map (λ (e : ℕ × Thread). e.0)
    (slice_get es c.place_above.result)) c.deref.ensures.value
    ∙ sym (next_shown c.self.view_is c.self.invariant
    (above_in c.deref-2.ensures.value c.place_above.ensures))
