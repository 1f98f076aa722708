-- The lines of a report. This project's own texts.
use Rattle.std.specs.Prelude.{ℕ, suc, List, [], ◌∷◌, ◌++◌, Option, Some, None, codes, decimal}
use Rattle.dos_world.specs.declared.Ending.{Ending}
use Rattle.dos_world.specs.declared.Ending.TheVariants.{Done, Limit, Stalled}

-- the end of each line
abbrev pub line_feed : List ℕ
line_feed = 10 ∷ []

-- the word of an ending
abbrev pub ending_word : Ending → List ℕ
ending_word Done = codes "done"
ending_word Limit = codes "limit"
ending_word Stalled = codes "stalled"

-- the words of a process's status
abbrev pub status_text : Option ℕ → List ℕ
status_text None = codes "live"
status_text (Some status) = codes "status " ++ decimal status

-- the line of the process of this number
abbrev pub process_line : ℕ → Option ℕ → List ℕ
process_line number status = codes "process " ++ decimal number ++ codes " " ++ status_text status
    ++ line_feed

-- a line for each process, the first of which has this number
abbrev pub process_lines : ℕ → List (Option ℕ) → List ℕ
process_lines number [] = []
process_lines number (status ∷ statuses) =
    process_line number status ++ process_lines (suc number) statuses

-- the last line
abbrev pub rounds_line : ℕ → Ending → List ℕ
rounds_line rounds ending = codes "rounds " ++ decimal rounds ++ codes " " ++ ending_word ending
    ++ line_feed

-- the whole, of these statuses, after this many rounds
abbrev pub report_of : List (Option ℕ) → ℕ → Ending → List ℕ
report_of statuses rounds ending = process_lines 1 statuses ++ rounds_line rounds ending
