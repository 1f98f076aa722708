use Rattle.std.proofs.Common.{List, ℕ, ◌∷◌, [], ◌++◌, ◌∙◌, ap, refl, append_assoc, codes}
use Rattle.std.proofs.lemmas.Result.{on_ok_weaker}
use Rattle.debug_session.specs.Stops.{console_text}
use Rattle.debug_connection.specs.Keeping.{texts_of}
use Rattle.debugger.proofs.Telling.{said_alone}
use Rattle.debugger.proofs.session.Session.print_line.Goals as goal

pub returns : goal.returns
returns c =
    on_ok_weaker c.say.result
    (λ put. put ∙ ap (λ (ts : List (List ℕ)). ts ++ codes "OK" ∷ [])
    (said_alone _ _ _ _ _ _ c.in_ok-push.ensures.items c.in_ok-put_console.ensures
    c.new-text.ensures.items refl)
    ∙ append_assoc (texts_of c.args.replies.now.items) (console_text c.args.line.now ∷ [])
    (codes "OK" ∷ []))
    c.say.ensures
