-- How far the entries of a log lead. This project's own words.
use Rattle.std.specs.Prelude.{ℕ, zero, suc, List, map, drop, Option, Some, None}
use Rattle.dpg_run.specs.Fits.{asked_and_answered}
use Rattle.debug_session.specs.Recordings.{LogEntry, followed}
use Rattle.group_moves.specs.Moves.{move_of}
use Rattle.group_moves.specs.Moments.{Moment, kind_at, moment_behind, settled_scene}
use Rattle.log_text.specs.LogText.{Log, exchanges}
use Rattle.shim_log.specs.Replay.{ReplayState, entries_used}

-- the entries of a log, with its end
abbrev pub log_entries : Log → List LogEntry
log_entries log = map asked_and_answered (exchanges log)

-- those that a replayer has left
abbrev pub entries_left : ReplayState → List LogEntry
entries_left p = drop (entries_used p) (log_entries p.log)

-- The moment behind the move that is next, with the entries that are left; nothing where no move is
-- next, or where it would ask another question than that of its next entry.
abbrev pub follow_one : (limit : ℕ) → List LogEntry → Moment → Option (Moment × List LogEntry)
follow_one limit entries m =
    elim (kind_at limit m) [
      | None ↦ None
      | Some kind ↦ elim (followed entries (move_of m.world m.place)) [
        | None ↦ None
        | Some (scene, left) ↦ Some (moment_behind kind m (settled_scene scene), left)
      ]
    ]

-- the same behind so many moves
abbrev pub follow : (moves limit : ℕ) → List LogEntry → Moment → Option (Moment × List LogEntry)
follow zero limit entries m = Some (m, entries)
follow (suc moves) limit entries m =
    elim (follow moves limit entries m) [
      | None ↦ None
      | Some (reached, left) ↦ follow_one limit left reached
    ]
