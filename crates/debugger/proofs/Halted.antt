-- What a halt makes of a session.
use Rattle.std.proofs.Common.{◌≡◌, ℕ, Bool, true, List, [], ◌∷◌, ◌++◌, Option, Some, None, refl}
use Rattle.std.proofs.Common.{sym, ap, ◌∙◌}
use Rattle.std.specs.Prelude.{◌&&◌, IfSome, option_to_list, option_and_then}
use Rattle.std.specs.List.{list_all}
use Rattle.std.proofs.lemmas.List.Folds.{list_all-append}
use Rattle.group_moves.specs.Moves.{MoveKind}
use Rattle.group_moves.specs.Moments.{Moment}
use Rattle.debug_session.specs.Halts.{Halt, halted_session}
use Rattle.debug_session.specs.Positions.{Position, first_kind, first_mover, mover_of}
use Rattle.debug_session.specs.Positions.{position_after}
use Rattle.debug_session.specs.Recordings.{Recording}
use Rattle.debug_session.specs.Sessions.{Session}
use Rattle.debug_client.specs.Births.{BirthTables, has_process, has_processes}
use Rattle.debug_client.specs.Clients.{session_of}
use Rattle.debugger.specs.Standing.{IsAsked, IsSameRun, SessionView}
use Rattle.debugger.specs.Standing.{here, recording_of, session_at}
use Rattle.debugger.proofs.Staying.{recording_stays}

-- the mover of the move that is next
pub first_moves : (moves : List (MoveKind × Moment))
    → first_mover moves ≡ option_and_then mover_of (first_kind moves)
first_moves [] = refl
first_moves (move ∷ moves) = refl

-- a process more that was told of is known
pub told_more : (b : BirthTables) (told : List ℕ) (born : Option ℕ)
    → has_processes b told ≡ true → IfSome born (λ p. has_process b p ≡ true)
    → has_processes b (told ++ option_to_list born) ≡ true
told_more b told born all one =
    list_all-append (has_process b) told (option_to_list born)
    ∙ ap (λ (k : Bool). k && list_all (has_process b) (option_to_list born)) all
    ∙ last born one
  where
    last : (o : Option ℕ) → IfSome o (λ p. has_process b p ≡ true)
        → list_all (has_process b) (option_to_list o) ≡ true
    last None one = refl
    last (Some p) one = ap (λ (k : Bool). k && true) one

-- The session that a client's halt leaves, where it stands.
pub halted_there : (old new : SessionView) (run : IsSameRun old new) (start : Position)
    (s : Session) (asked : IsAsked old start s) (halt : Halt) (moves : ℕ)
    → new.playback.moves ≡ moves → halt.position ≡ position_after moves start
    → session_of new.client (recording_of old) halt.position
    ≡ halted_session (session_of old.client (recording_of old) s.position) halt
    → session_at new (here new start) ≡ halted_session s halt
halted_there old new run start s asked halt moves moves_is at is =
    ap (λ (r : Recording). session_of new.client r (here new start))
    (sym (recording_stays old new run))
    ∙ ap (λ (n : ℕ). session_of new.client (recording_of old) (position_after n start)) moves_is
    ∙ ap (session_of new.client (recording_of old)) (sym at)
    ∙ is
    ∙ ap (λ (u : Session). halted_session u halt) (sym asked.is)
