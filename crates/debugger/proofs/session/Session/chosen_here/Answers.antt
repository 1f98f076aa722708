use Rattle.std.proofs.Common.{◌≡◌, ℕ, ap, sym, subst, ◌∙◌}
use Rattle.std.specs.Prelude.{option_and_then}
use Rattle.kernel_calls.specs.declared.state.State.{State}
use Rattle.debug_client.specs.Births.{HasNoted}
use Rattle.debug_client.specs.Clients.{session_of}
use Rattle.debug_session.specs.Positions.{first_kind, mover_of, position_after}
use Rattle.debug_session.specs.Sessions.{Session, chosen_at}
use Rattle.debugger.specs.Standing.{SessionView, here, recording_of}
use Rattle.debugger.proofs.Halted.{first_moves}
use Rattle.debugger.proofs.Seen.{births_seen, ready_inside, world_seen}
use Rattle.debugger.proofs.Staying.{asked_stays, if_ok_map, start_stays}
use Rattle.debugger.proofs.session.Session.chosen_here.Goals as goal

pub chosen-requires-clause-told : goal.chosen-requires-clause-told
chosen-requires-clause-told c =
    (ready_inside _ _ c.self.view_is c.self.invariant c.in_ok-next.ensures.failed).told

pub chosen-requires-clause-noted : goal.chosen-requires-clause-noted
chosen-requires-clause-noted c =
    subst (λ (st : State). HasNoted c.self.inside.births st) (sym c.state.ensures.state)
    (ready_inside _ _ c.self.view_is c.self.invariant c.in_ok-next.ensures.failed).there

pub returns-clause-chosen : goal.returns-clause-chosen
returns-clause-chosen c =
    if_ok_map c.chosen.result _ _
    (λ pair each start s is_start asked.
    let old = c.args.self.now in
    let now = c.next.new.self in
    let rs = c.args.resumptions.now in
    let same = c.in_ok-next.ensures.same in
    let running = c.in_ok-next.ensures.failed in
    let is_start_now = start_stays old now same.run start is_start in
    let asked_now = asked_stays old now same start s asked in
    let moves : now.playback.moves ≡ old.playback.moves = c.in_ok-next.ensures.moves in
    let births = births_seen _ _ c.self.view_is c.self.invariant running start is_start_now s
    asked_now in
    let world = world_seen _ _ c.self.view_is c.self.invariant running c.state.result.now
    c.state.ensures.state start is_start_now in
    let mover = first_moves (here now start).future
    ∙ ap (option_and_then mover_of)
    (ap (λ (n : ℕ). first_kind (position_after n start).future) moves
    ∙ c.in_ok-next.ensures.kind start is_start)
    ∙ sym c.next_mover-mover.ensures in
    each (recording_of now) s.position (here now start) _ _ _ births world mover
    ∙ ap (λ (u : Session). chosen_at u rs (here now start))
    (ap (λ (a : SessionView). session_of a.client (recording_of now) s.position)
    c.self.view_is ∙ sym asked_now.is)
    ∙ ap (λ (n : ℕ). chosen_at s rs (position_after n start)) moves)
    c.chosen.ensures
