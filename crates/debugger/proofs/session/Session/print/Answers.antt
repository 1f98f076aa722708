use Rattle.std.proofs.Common.{List, ℕ, ◌∷◌, [], ◌++◌, ◌∙◌, ap, codes}
use Rattle.std.proofs.lemmas.Result.{on_ok_weaker}
use Rattle.debugger.proofs.session.Session.print.Goals as goal

pub returns : goal.returns
returns c =
    on_ok_weaker c.say.result
    (λ put. put ∙ ap (λ (ts : List (List ℕ)). ts ++ codes "OK" ∷ []) c.in_ok-put_lines.ensures)
    c.say.ensures
