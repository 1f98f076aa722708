use Rattle.std.proofs.Common.{◌≡◌, false, ap, sym, ◌∙◌}
use Rattle.std.specs.Prelude.{◌&&◌, is_some}
use Rattle.dos_world.specs.World.{World}
use Rattle.kernel_calls.specs.StateWorld.{sent, world_of}
use Rattle.kernel_calls.specs.declared.state.State.{State}
use Rattle.proc_table.specs.Tables.{held_in}
use Rattle.debug_session.specs.Sessions.{Session, is_belonging, is_process_live}
use Rattle.debug_client.specs.Clients.{session_of}
use Rattle.debugger.proofs.Seen.{births_seen, of_asked}
use Rattle.debugger.proofs.Watching.{first_fails, second_of}
use Rattle.debugger.proofs.session.Session.is_watching.Goals as goal

pub returns-then-is_belonging : goal.returns-then-is_belonging
returns-then-is_belonging c start s is_start asked =
    let rs = c.args.resumptions.now in
    let p = c.args.process in
    let births = births_seen _ _ c.self.view_is c.self.invariant c.requires.running start is_start
    s asked in
    of_asked _ _ c.self.view_is c.self.invariant c.requires.running c.state.result.now
    c.state.ensures.state start is_start s asked
    (λ (u : Session) (w : World). c.is_live.result
    ≡ (is_belonging u rs w p && is_process_live w p))
    (λ r q o e.
    let w = sent o e (world_of q c.state.result.now) in
    second_of (is_belonging (session_of c.self.inside.client r s.position) rs w p)
    (is_process_live w p) c.is_live.result
    (sym c.if-is_belonging.true ∙ c.is_belonging.ensures r s.position q o e births)
    (c.is_live.ensures ∙ ap (λ (st : State). is_some (held_in st.table.processes p))
    (c.state-then-is_belonging.ensures.state ∙ sym c.state.ensures.state)))

pub returns : goal.returns
returns c start s is_start asked =
    let rs = c.args.resumptions.now in
    let p = c.args.process in
    let births = births_seen _ _ c.self.view_is c.self.invariant c.requires.running start is_start
    s asked in
    of_asked _ _ c.self.view_is c.self.invariant c.requires.running c.state.result.now
    c.state.ensures.state start is_start s asked
    (λ (u : Session) (w : World). false ≡ (is_belonging u rs w p && is_process_live w p))
    (λ r q o e.
    let w = sent o e (world_of q c.state.result.now) in
    first_fails (is_belonging (session_of c.self.inside.client r s.position) rs w p)
    (is_process_live w p)
    (sym c.if-is_belonging.false ∙ c.is_belonging.ensures r s.position q o e births))
