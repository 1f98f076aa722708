use Rattle.std.proofs.Common.{List, ℕ, ◌∷◌, [], ◌++◌, ◌∙◌, ap, codes}
use Rattle.std.proofs.lemmas.Result.{on_ok_weaker}
use Rattle.debug_session.specs.Stops.{console_text}
use Rattle.debug_connection.specs.Keeping.{texts_of}
use Rattle.debug_session.specs.Answers.{command_forms}
use Rattle.debug_session.specs.Where.{console_line}
use Rattle.debugger.proofs.session.Session.print_command_forms.Goals as goal

pub returns : goal.returns
returns c =
    on_ok_weaker c.print_line.result
    (λ put. put
    ∙ ap (λ (line : List ℕ). texts_of c.args.replies.now.items
    ++ console_text line ∷ codes "OK" ∷ [])
    (c.deref.ensures.value ∙ c.in_ok-put_command_forms.ensures
    ∙ ap (λ (t : List ℕ). t ++ console_line command_forms) c.new-line.ensures.items))
    c.print_line.ensures
