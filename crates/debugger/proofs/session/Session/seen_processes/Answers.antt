use Rattle.std.proofs.Common.{◌≡◌, ℕ, List, length, ap, sym, ◌∙◌, arith}
use Rattle.std.proofs.lemmas.Result.{IfOk-weaker}
use Rattle.dos_world.specs.World.{World}
use Rattle.debug_answers.specs.Images.{name_by}
use Rattle.debug_client.specs.Births.{BirthTables}
use Rattle.debug_client.specs.Clients.{session_of}
use Rattle.debug_connection.specs.Keeping.{texts_of}
use Rattle.debug_session.specs.Pages.{process_rows, processes_told}
use Rattle.debug_session.specs.Recordings.{Recording}
use Rattle.debug_session.specs.Sessions.{Session}
use Rattle.kernel_calls.specs.StateWorld.{world_of}
use Rattle.debugger.proofs.Imaged.{rows_kept}
use Rattle.debugger.proofs.Telling.{shown_so}
use Rattle.debugger.proofs.session.Session.seen_processes.Goals as goal

pub returns : goal.returns
returns c =
    IfOk-weaker c.process_lines.result _ _
    (λ lines told.
    shown_so c.self.view_is c.state.result.now c.state.ensures.state c.self.invariant c.requires
    (λ s. texts_of lines.items ≡ process_rows s)
    (λ r at q output error h.
    let s : Session = session_of c.self.inside.client r at in
    let b : BirthTables = c.self.inside.births in
    let w : World = world_of q c.state.result.now in
    let names : texts_of c.deref.result.now ≡ r.names =
    ap texts_of c.deref.ensures.value ∙ sym (ap (λ (x : Recording). x.names) h.recording) in
    let images : b.images ≡ length s.recording.names =
    h.ready.images ∙ ap (λ (x : Recording). length x.names) (sym h.recording) in
    let processes : length at.moment.world.processes
    ≡ length c.self.inside.playback.walk.state.table.processes =
    ap (λ (x : World). length x.processes) h.world ∙ h.processes in
    told q
    ∙ ap (λ (ns : List (List ℕ)). processes_told (name_by ns c.image_numbers.result.now) w) names
    ∙ ap (λ (ns : List ℕ). processes_told (name_by r.names ns) w) c.image_numbers.ensures
    ∙ ap (processes_told (name_by r.names b.image_numbers)) (sym h.world)
    ∙ rows_kept b s h.births images (omega (arith, processes, h.ready.there.images))))
    c.process_lines.ensures
