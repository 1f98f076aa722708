-- What is seen through a session's state and client of the moment at which it stands.
use Rattle.std.proofs.Common.{◌≡◌, ℕ, Bool, true, false, List, [], length, ◌≤◌, sym, ap, subst, ◌∙◌}
use Rattle.dos_world.specs.World.{World}
use Rattle.group_moves.specs.Places.{between_rounds}
use Rattle.group_moves.specs.Moments.{moment_at}
use Rattle.kernel_calls.specs.StateWorld.{sent, world_of}
use Rattle.kernel_calls.specs.declared.state.State.{State}
use Rattle.gdb_packets.specs.declared.resumptions.Resumption.{Resumption}
use Rattle.debug_session.specs.Positions.{Position, all_moments, position_at}
use Rattle.debug_session.specs.Recordings.{Recording}
use Rattle.debug_session.specs.Sessions.{Session, is_told_of}
use Rattle.recorded_walk.specs.Playbacks.{IsStartOf}
use Rattle.debug_client.specs.Births.{AreBirthsKnown, has_home}
use Rattle.debug_client.specs.Clients.{session_of}
use Rattle.debug_client.proofs.Listed.{told_known}
use Rattle.debugger.specs.Standing.{IsAsked, IsSessionReady, SessionView, here, recording_of}
use Rattle.debugger.proofs.Here.{births_asked, world_here}

-- a position in this world
abbrev pub somewhere : World → Position
somewhere w = position_at [] (moment_at 0 0 (w, between_rounds)) []

-- A session by its fields, where nothing has failed.
module _ (v k : SessionView) (is : v ≡ k) (kept : v.failed ≡ false → IsSessionReady v)
    (running : k.failed ≡ false) where
  pub ready_inside : IsSessionReady v
  ready_inside = kept (ap (λ (a : SessionView). a.failed) is ∙ running)

  pub ready_now : IsSessionReady k
  ready_now = subst IsSessionReady is ready_inside

  -- the births of the session that was asked
  pub births_seen : (start : Position) → IsStartOf k.playback start → (s : Session)
      → IsAsked k start s → AreBirthsKnown v.births (all_moments s.position)
  births_seen start is_start s asked =
      subst (λ (a : SessionView). AreBirthsKnown a.births (all_moments s.position)) (sym is)
      (births_asked k ready_now start is_start s asked)

  module _ (st : State) (state_is : st ≡ v.playback.walk.state) where
    state_now : st ≡ k.playback.walk.state
    state_now = state_is ∙ ap (λ (a : SessionView). a.playback.walk.state) is

    module _ (start : Position) (is_start : IsStartOf k.playback start) where
      pub world_seen : (here k start).moment.world
          ≡ sent (here k start).moment.world.output (here k start).moment.world.error
          (world_of k.playback.walk.config.quantum st)
      world_seen =
          world_here k ready_now start is_start
          ∙ ap (λ (s : State). sent (here k start).moment.world.output
          (here k start).moment.world.error (world_of k.playback.walk.config.quantum s))
          (sym state_now)

      -- what holds in each world of the state holds in the moment's
      pub of_state : (P : World → Type 0)
          → ((q : ℕ) (o e : List ℕ) → P (sent o e (world_of q st)))
          → P (here k start).moment.world
      of_state P each =
          subst P (sym (world_here k ready_now start is_start))
          (subst (λ (s : State). P (sent (here k start).moment.world.output
          (here k start).moment.world.error (world_of k.playback.walk.config.quantum s)))
          state_now
          (each k.playback.walk.config.quantum (here k start).moment.world.output
          (here k start).moment.world.error))

      -- and what holds of each session of the client there holds of one that was asked
      pub of_asked : (s : Session) → IsAsked k start s → (P : Session → World → Type 0)
          → ((r : Recording) (q : ℕ) (o e : List ℕ)
          → P (session_of v.client r s.position) (sent o e (world_of q st)))
          → P s (here k start).moment.world
      of_asked s asked P each =
          let same : session_of v.client (recording_of k) s.position ≡ s =
          ap (λ (a : SessionView). session_of a.client (recording_of k) s.position) is
          ∙ sym asked.is in
          of_state (P s) (λ q o e. subst (λ (u : Session). P u (sent o e (world_of q st))) same
          (each (recording_of k) q o e))

    -- a thread that is told of has a home that is known
    pub told_home : (rs : List Resumption) (t : ℕ) (told : Bool)
        → ((r : Recording) (at : Position) (q : ℕ) (o e : List ℕ)
        → told ≡ is_told_of (session_of v.client r at) rs (sent o e (world_of q st)) t)
        → told ≡ true → has_home k.births t ≡ true
    told_home rs t told each holds =
        let w : World = sent [] [] (world_of 0 st) in
        let r : Recording = recording_of k in
        let few = subst (λ (s : State). length s.table.threads ≤ length k.births.homes)
        (sym state_now) ready_now.there.homes in
        told_known k.births (session_of v.client r (somewhere w)) w rs t few
        (sym (each r (somewhere w) 0 [] []) ∙ holds)
