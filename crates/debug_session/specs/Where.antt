-- Where a session stands, in words for a person. This project's own texts; numbers are decimal.
use Rattle.std.specs.Prelude.{ℕ, List, [], ◌∷◌, ◌++◌, length, Option, Some, None, codes}
use Rattle.std.specs.Prelude.{decimal}
use Rattle.dos_world.specs.declared.Ending.{Ending}
use Rattle.dos_world.specs.declared.Ending.TheVariants.{Done, Limit, Stalled}
use Rattle.dos_world.specs.declared.Misfit.{Misfit}
use Rattle.dos_texts.specs.Lines.{question_text}
use Rattle.group_moves.specs.Places.{Place, before_parts, before_rests, within_part}
use Rattle.group_moves.specs.Places.{within_rest}
use Rattle.group_moves.specs.Moves.{MoveKind, begins, runs, is_served, faults}
use Rattle.group_moves.specs.Moments.{Moment, ending_at, kind_at}
use Rattle.debug_session.specs.Positions.{Position, first_kind}
use Rattle.debug_session.specs.Recordings.{Recording, used_entries, misfit_here}

abbrev pub console_line : List ℕ → List ℕ
console_line text = text ++ 10 ∷ []

-- the phase in which the next move is made
abbrev pub phase_word : Place → List ℕ
phase_word (before_parts starters threads) = codes "parallel phase"
phase_word (within_part starters t ts) = codes "parallel phase"
phase_word (before_rests starters threads) = codes "serial phase"
phase_word (within_rest starters t ts) = codes "serial phase"
phase_word _ = codes "between rounds"

abbrev pub moment_line : Moment → List ℕ
moment_line m =
    console_line (codes "round " ++ decimal m.begun_rounds ++ codes " move " ++ decimal m.made
    ++ codes ", " ++ phase_word m.place)

-- ---- moves

abbrev pub thread_word : ℕ → List ℕ
thread_word t = codes "thread " ++ decimal t

abbrev pub move_text : MoveKind → List ℕ
move_text begins = codes "a round begins"
move_text (runs t) = thread_word t ++ codes " runs an instruction"
move_text (is_served t) = thread_word t ++ codes " is served"
move_text (faults t number) = thread_word t ++ codes " faults with " ++ decimal number

-- no move led here
abbrev pub last_text : Option MoveKind → List ℕ
last_text None = codes "none"
last_text (Some kind) = move_text kind

abbrev pub ending_text : Ending → List ℕ
ending_text Done = codes "done"
ending_text Stalled = codes "stalled"
ending_text Limit = codes "at its limit"

-- the run has ended
abbrev pub ended_text : Moment → List ℕ
ended_text m = codes "none, the group is " ++ ending_text (ending_at m.world m.place)

-- the log's next entry is of another question than the next move would ask
abbrev pub misfit_text : Option Misfit → List ℕ
misfit_text None = codes "none"
misfit_text (Some found) =
    codes "none, log entry " ++ decimal found.entry ++ codes " is " ++ question_text found.kept
    ++ codes ", asked " ++ question_text found.asked

-- no move is next: the run has ended, or the log misfits
abbrev pub no_next_text : Recording → Position → Option MoveKind → List ℕ
no_next_text r at None = ended_text at.moment
no_next_text r at (Some kind) = misfit_text (misfit_here r at)

abbrev pub next_text : Recording → Position → Option MoveKind → List ℕ
next_text r at None = no_next_text r at (kind_at r.limit at.moment)
next_text r at (Some kind) = move_text kind

-- How much of the log was used: the moves up to here have used so many of its entries, among which
-- the end is counted, though no move uses it.
abbrev pub log_line : Recording → Position → List ℕ
log_line r at =
    console_line (codes "log entry " ++ decimal (used_entries r at) ++ codes " of "
    ++ decimal (length r.entries))

-- The lines of a session that stands here.
abbrev pub where_lines : Recording → Position → List (List ℕ)
where_lines r at =
    moment_line at.moment
    ∷ console_line (codes "last: " ++ last_text (first_kind at.past))
    ∷ console_line (codes "next: " ++ next_text r at (first_kind at.future))
    ∷ log_line r at ∷ []

-- ---- where the next resumption goes

abbrev pub goal_line : (round made : ℕ) → List ℕ
goal_line round made =
    console_line (codes "the next continue goes to round " ++ decimal round ++ codes " move "
    ++ decimal made)

abbrev pub goal_form : List ℕ
goal_form = console_line (codes "goto ROUND [MOVE]")
