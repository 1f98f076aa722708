use Rattle.std.proofs.Common.{◌∙◌, ap, List, ℕ}
use Rattle.code_pages.specs.Lines.{unlearnt}
use Rattle.code_pages.proofs.learning.Code.forget.Goals as goal

pub returns : goal.returns
returns c =
    ap (λ (xs : List ℕ). record { bytes = c.self.inside.bytes.value; starts = xs }) c.reset.ensures
    ∙ ap unlearnt c.self.view_is
