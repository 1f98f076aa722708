use Rattle.std.proofs.Common.{◌∙◌, ap, List, ℕ}
use Rattle.std.specs.Prelude.{replicate}
use Rattle.code_pages.proofs.learning.Code.new.Goals as goal

pub returns : goal.returns
returns c =
    ap (λ (xs : List ℕ). record { bytes = xs; starts = c.in_ok-new-2.field-0.value })
    c.in_ok-new.ensures.ok
    ∙ ap (λ (xs : List ℕ). record { bytes = replicate 4096 0; starts = xs })
    (c.in_ok-new-2.ensures.ok ∙ c.no_starts.ensures)
