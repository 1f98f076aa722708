use Rattle.std.proofs.Common.{◌≡◌, List, Option, Some, None, ◌++◌, ◌∙◌, ap, sym, subst, length}
use Rattle.std.proofs.Common.{ℕ, arith}
use Rattle.std.specs.Global.{Vec}
use Rattle.std.specs.Prelude.{OnOk}
use Rattle.std.proofs.lemmas.Result.{on_ok_weaker}
use Rattle.dos_world.specs.Numbered.{numbered}
use Rattle.dos_world.specs.World.{World}
use Rattle.debug_client.specs.Births.{BirthTables}
use Rattle.debug_client.specs.Clients.{session_of}
use Rattle.debug_client.proofs.Listed.{standing_known}
use Rattle.debug_connection.specs.Keeping.{texts_of}
use Rattle.debug_session.specs.Files.{name_told}
use Rattle.debug_session.specs.Pages.{image_name}
use Rattle.debug_session.specs.Positions.{all_moments}
use Rattle.debug_session.specs.Recordings.{Recording}
use Rattle.debug_session.specs.Sessions.{Session}
use Rattle.debugger.specs.Standing.{SessionView, IsSessionOf}
use Rattle.debugger.proofs.Imaged.{has_image_too, image_is}
use Rattle.debugger.proofs.Telling.{shown_so}
use Rattle.debugger.proofs.session.Session.put_name.Goals as goal

pub returns-in-None : goal.returns-in-None
returns-in-None c =
    shown_so c.self.view_is c.self.inside.playback.walk.state
    (ap (λ (x : SessionView). x.playback.walk.state) c.self.view_is) c.self.invariant
    c.requires.running
    (λ s. OnOk c.put_text.result (c.put_text.new.out.items
    ≡ c.args.out.now.items ++ name_told (image_name s c.args.process) c.args.part))
    (λ r at q output error h.
    let s : Session = session_of c.self.inside.client r at in
    let p = c.args.process in
    let b : BirthTables = c.self.inside.births in
    let shows : IsSessionOf c.args.self.now s =
    subst (λ (x : SessionView). IsSessionOf x s) c.self.view_is h.shows in
    let standing = c.requires.known s shows in
    let there = h.ready.there in
    let processes : length at.moment.world.processes
    ≡ length c.self.inside.playback.walk.state.table.processes =
    ap (λ (w : World). length w.processes) h.world in
    let known = has_image_too b (all_moments at) h.births p
    (standing_known b s at.moment.world p (omega (arith, processes, there.first_threads))
    h.ready.told standing) in
    let images : b.images ≡ length s.recording.names =
    h.ready.images ∙ ap (λ (x : Recording). length x.names) (sym h.recording) in
    let name : image_name s p ≡ None =
    image_is b s h.births images p c.image.result (c.image.ensures (all_moments at) h.births known)
    ∙ ap (λ (x : Recording). numbered x.names c.image.result) h.recording
    ∙ ap (λ (vs : List (Vec ℕ)). numbered (texts_of vs) c.image.result)
    (sym c.deref.ensures.value)
    ∙ c.in-None.ensures in
    on_ok_weaker c.put_text.result
    (λ put. put ∙ ap (λ (n : Option (List ℕ)). c.args.out.now.items ++ name_told n c.args.part)
    (sym name))
    c.put_text.ensures)

pub returns-in-Some : goal.returns-in-Some
returns-in-Some c =
    shown_so c.self.view_is c.self.inside.playback.walk.state
    (ap (λ (x : SessionView). x.playback.walk.state) c.self.view_is) c.self.invariant
    c.requires.running
    (λ s. OnOk c.put_name_told.result (c.put_name_told.new.out.items
    ≡ c.args.out.now.items ++ name_told (image_name s c.args.process) c.args.part))
    (λ r at q output error h.
    let s : Session = session_of c.self.inside.client r at in
    let p = c.args.process in
    let b : BirthTables = c.self.inside.births in
    let shows : IsSessionOf c.args.self.now s =
    subst (λ (x : SessionView). IsSessionOf x s) c.self.view_is h.shows in
    let standing = c.requires.known s shows in
    let there = h.ready.there in
    let processes : length at.moment.world.processes
    ≡ length c.self.inside.playback.walk.state.table.processes =
    ap (λ (w : World). length w.processes) h.world in
    let known = has_image_too b (all_moments at) h.births p
    (standing_known b s at.moment.world p (omega (arith, processes, there.first_threads))
    h.ready.told standing) in
    let images : b.images ≡ length s.recording.names =
    h.ready.images ∙ ap (λ (x : Recording). length x.names) (sym h.recording) in
    let name : image_name s p ≡ Some c.in-Some.name.now =
    image_is b s h.births images p c.image.result (c.image.ensures (all_moments at) h.births known)
    ∙ ap (λ (x : Recording). numbered x.names c.image.result) h.recording
    ∙ ap (λ (vs : List (Vec ℕ)). numbered (texts_of vs) c.image.result)
    (sym c.deref.ensures.value)
    ∙ c.in-Some.ensures in
    on_ok_weaker c.put_name_told.result
    (λ put. put ∙ ap (λ (n : Option (List ℕ)). c.args.out.now.items ++ name_told n c.args.part)
    (sym name))
    c.put_name_told.ensures)
