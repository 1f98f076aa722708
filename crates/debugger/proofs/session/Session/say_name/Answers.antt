use Rattle.std.proofs.Common.{ℕ, ◌∙◌, ap, sym}
use Rattle.std.specs.Prelude.{unwrap_or}
use Rattle.debug_session.specs.Files.{known_name, name_told}
use Rattle.debug_session.specs.Sessions.{Session}
use Rattle.debugger.proofs.Telling.{said_alone}
use Rattle.debugger.proofs.session.Session.say_name.Goals as goal

pub returns : goal.returns
returns c s shows =
    said_alone _ _ _ _ _ _ c.in_ok-push.ensures.items (c.in_ok-put_known_name.ensures s shows)
    c.new-text.ensures.items
    (ap (λ (p : ℕ). name_told (known_name s p) c.args.part)
    (c.process_or_current-process.ensures
    ∙ ap (unwrap_or c.args.process) (sym (ap (λ (x : Session). x.process) shows.is))))
