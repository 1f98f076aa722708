-- What a session that is ready shows of the moment at which it stands.
use Rattle.std.proofs.Common.{◌≡◌, ◌+◌, List, subst, sym, ap, arith}
use Rattle.std.proofs.lemmas.List.{take-append-drop, drop_all}
use Rattle.std.specs.Prelude.{take, drop}
use Rattle.group_moves.specs.Moments.{Moment}
use Rattle.kernel_calls.specs.StateWorld.{sent, world_of}
use Rattle.debug_session.specs.Positions.{Position, all_moments}
use Rattle.debug_session.specs.Sessions.{Session}
use Rattle.recorded_walk.specs.Playbacks.{IsStartOf}
use Rattle.debug_client.specs.Births.{AreBirthsKnown}
use Rattle.debugger.specs.Standing.{IsAsked, IsSessionReady, KnowsUpTo, SessionView, here}

module _ (k : SessionView) (ready : IsSessionReady k) (start : Position)
    (is_start : IsStartOf k.playback start) where
  -- the moment's world is the state's, with what was sent by then
  pub world_here : (here k start).moment.world
      ≡ sent (here k start).moment.world.output (here k start).moment.world.error
      (world_of k.playback.walk.config.quantum k.playback.walk.state)
  world_here = ap (λ (m : Moment). m.world) (ready.stands start is_start).moment

  -- who was born in the run is known, as far as it was noted
  pub births_here : AreBirthsKnown k.births (all_moments start)
  births_here =
      let facts : KnowsUpTo k start = ready.births start is_start in
      let moments : List Moment = all_moments start in
      record {
        noted = take (k.furthest + 1) moments;
        later = drop (k.furthest + 1) moments;
        front = sym (take-append-drop (k.furthest + 1) moments);
        known = facts.known;
        whole = λ whole.
            let all = facts.whole whole in
            drop_all (k.furthest + 1) moments (omega (arith, all));
      }

  -- the same for a session that was asked at a position of its own
  pub births_asked : (s : Session) → IsAsked k start s
      → AreBirthsKnown k.births (all_moments s.position)
  births_asked s asked = subst (AreBirthsKnown k.births) (sym asked.moments) births_here
