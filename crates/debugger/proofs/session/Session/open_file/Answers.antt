use Rattle.std.proofs.Common.{◌≡◌, ◌∷◌, [], ◌++◌, ◌∙◌, ap, sym, refl}
use Rattle.kernel_objects.specs.Pipework.{vector_bytes}
use Rattle.debug_client.specs.Clients.{session_of}
use Rattle.debug_connection.specs.Keeping.{texts_of}
use Rattle.debug_session.specs.Files.{file_opened}
use Rattle.debug_session.specs.Recordings.{Recording}
use Rattle.debug_session.specs.Sessions.{Session}
use Rattle.debugger.specs.Standing.{SessionView}
use Rattle.debugger.proofs.Telling.{said_alone, shown_so}
use Rattle.debugger.proofs.session.Session.open_file.Goals as goal

pub returns : goal.returns
returns c =
    let text = c.args.text.now in
    shown_so c.self.view_is c.self.inside.playback.walk.state
    (ap (λ (x : SessionView). x.playback.walk.state) c.self.view_is) c.self.invariant
    c.requires.running
    (λ s. texts_of c.push.new.self.items
    ≡ texts_of c.args.replies.now.items ++ file_opened s text ∷ [])
    (λ r at q output error h.
    let s : Session = session_of c.self.inside.client r at in
    let names : s.recording.names ≡ vector_bytes c.deref.result.now =
    ap (λ (x : Recording). x.names) h.recording ∙ ap vector_bytes (sym c.deref.ensures.value) in
    said_alone _ _ _ _ _ _ c.in_ok-push.ensures.items (c.in_ok-put_file_opened.ensures s names)
    c.new-reply.ensures.items refl)
