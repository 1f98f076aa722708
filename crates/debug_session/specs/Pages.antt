-- Processes and their pages in lines for a person. This project's own texts; numbers are decimal.
-- A page is named by the address of its first byte, in eight hexadecimal digits.
use Rattle.std.specs.Prelude.{ℕ, ◌+◌, ◌*◌, ◌/◌, ◌==◌, ◌&&◌, Bool, true, false, not, List, [], ◌∷◌}
use Rattle.std.specs.Prelude.{◌++◌, length, flat_map, Option, Some, None, codes}
use Rattle.std.specs.Prelude.{decimal, unwrap_or, option_and_then, if◌then◌else◌}
use Rattle.dos_world.specs.Numbered.{map_from, numbered}
use Rattle.dos_world.specs.World.{World, Process, Holdings, live, ended, live_process, holdings_of}
use Rattle.dos_world.specs.World.{look, owner_of, page_size}
use Rattle.dos_world.specs.declared.Entry.{Entry}
use Rattle.dos_world.specs.declared.Owner.{Owner}
use Rattle.dos_world.specs.declared.Owner.TheVariants.{Free, Shared, Of}
use Rattle.dos_texts.specs.Printed.{right}
use Rattle.debug_session.specs.Positions.{all_moments}
use Rattle.debug_session.specs.Homes.{image_of_process}
use Rattle.debug_session.specs.Sessions.{Session}
use Rattle.debug_session.specs.Waits.{word_digits}
use Rattle.debug_session.specs.Where.{console_line, thread_word}
use Rattle.debug_session.specs.Tables.{process_asked}

-- ---- processes

-- the name of the file of a process's image
abbrev pub image_name : Session → (p : ℕ) → Option (List ℕ)
image_name s p =
    option_and_then (λ image. numbered s.recording.names image)
    (image_of_process p (length s.recording.names) (all_moments s.position) p)

abbrev pub life_words : (name : List ℕ) → Process → List ℕ
life_words name process = elim process.life [
  | live h ↦
      codes "live, parent " ++ decimal process.parent ++ codes ", image " ++ name
  | ended status collected ↦ codes "status " ++ decimal status
]

abbrev pub process_told : (name : List ℕ) → (p : ℕ) → Process → List ℕ
process_told name p process =
    console_line (codes "process " ++ decimal p ++ codes " " ++ life_words name process)

-- of each number of a process, whether it lives or has ended
abbrev pub processes_told : (ℕ → List ℕ) → World → List (List ℕ)
processes_told name w = map_from 1 (λ p process. process_told (name p) p process) w.processes

abbrev pub process_rows : Session → List (List ℕ)
process_rows s =
    processes_told (λ p. unwrap_or (image_name s p) []) s.position.moment.world

-- ---- an entry of a space

abbrev pub page_digits : (page : ℕ) → List ℕ
page_digits page = word_digits (page_size * page)

abbrev pub owner_word : Owner → List ℕ
owner_word Free = codes "free"
owner_word Shared = codes "shared"
owner_word (Of t) = thread_word t

-- each page may be read; a right that isn't there is `-`
abbrev pub entry_rights : Entry → List ℕ
entry_rights e = 114 ∷ right 119 e.write ∷ right 120 e.exec ∷ []

abbrev pub kind_word : (shared : Bool) → List ℕ
kind_word true = codes "shared"
kind_word false = codes "private"

-- whose the frame is, the rights, and whether a fork shares the page
abbrev pub entry_words : World → Entry → List ℕ
entry_words w e =
    codes "owner " ++ owner_word (owner_of w e.frame) ++ codes ", rights " ++ entry_rights e
    ++ codes ", " ++ kind_word e.shared

-- ---- one page

abbrev pub page_words : (p page : ℕ) → List ℕ
page_words p page = codes "page " ++ page_digits page ++ codes " of process " ++ decimal p

-- another page, or another process's, with this frame
abbrev pub is_other_with : (p page frame : ℕ) → (q : ℕ) → ℕ × Entry → Bool
is_other_with p page frame q e = e.1.frame == frame && not (q == p && e.0 == page)

abbrev pub also_line : (q : ℕ) → ℕ × Entry → List ℕ
also_line q e = console_line (codes "also " ++ page_words q e.0)

abbrev pub also_row : (p page frame : ℕ) → (q : ℕ) → ℕ × Entry → List (List ℕ)
also_row p page frame q e =
    if is_other_with p page frame q e then also_line q e ∷ [] else []

abbrev pub also_in : (p page frame : ℕ) → (q : ℕ) → Option Holdings → List (List ℕ)
also_in p page frame q None = []
also_in p page frame q (Some h) = flat_map (also_row p page frame q) h.space

-- by rising process, and by rising page in each
abbrev pub also_lines : World → (p page frame : ℕ) → List (List ℕ)
also_lines w p page frame =
    flat_map (λ x. x)
    (map_from 1 (λ q process. also_in p page frame q (holdings_of process)) w.processes)

abbrev pub mapped_line : World → (p page : ℕ) → Entry → List ℕ
mapped_line w p page e =
    console_line (page_words p page ++ codes ": frame " ++ decimal e.frame ++ codes ", "
    ++ entry_words w e)

abbrev pub page_lines_of : World → (p page : ℕ) → Option Entry → List (List ℕ)
page_lines_of w p page None = console_line (page_words p page ++ codes " isn't mapped") ∷ []
page_lines_of w p page (Some e) = mapped_line w p page e ∷ also_lines w p page e.frame

-- who asks for a process that doesn't live
abbrev pub no_process_lines : List (List ℕ)
no_process_lines = console_line (codes "no process") ∷ []

abbrev pub page_lines_in : World → (p page : ℕ) → Option Holdings → List (List ℕ)
page_lines_in w p page None = no_process_lines
page_lines_in w p page (Some h) = page_lines_of w p page (look h.space page)

-- of the page that an address lies in
abbrev pub page_lines : Session → (address : ℕ) → Option ℕ → List (List ℕ)
page_lines s address p =
    let w : World = s.position.moment.world in
    let asked : ℕ = process_asked s p in
    page_lines_in w asked (address / page_size) (live_process w asked)

-- what `page` says where what it asks about isn't a number
abbrev pub page_form : List ℕ
page_form = console_line (codes "page ADDRESS [PROCESS]")

-- ---- stretches of pages

abbrev pub is_same_owner : Owner → Owner → Bool
is_same_owner Free Free = true
is_same_owner Shared Shared = true
is_same_owner (Of a) (Of b) = a == b
is_same_owner _ _ = false

abbrev pub is_same_flag : Bool → Bool → Bool
is_same_flag true b = b
is_same_flag false b = not b

-- the same owner, rights and kind
abbrev pub is_alike : World → Entry → Entry → Bool
is_alike w a b =
    is_same_owner (owner_of w a.frame) (owner_of w b.frame) && is_same_flag a.write b.write
    && is_same_flag a.exec b.exec && is_same_flag a.shared b.shared

-- the next page, with the next frame, and alike
abbrev pub goes_on : World → ℕ × Entry → ℕ × Entry → Bool
goes_on w a b = b.0 == a.0 + 1 && b.1.frame == a.1.frame + 1 && is_alike w a.1 b.1

-- a stretch from one page to another, both of it
abbrev pub stretch_line : World → (first last : ℕ × Entry) → List ℕ
stretch_line w first last =
    console_line (codes "pages " ++ page_digits first.0 ++ codes " to " ++ page_digits last.0
    ++ codes ": frames " ++ decimal first.1.frame ++ codes " to " ++ decimal last.1.frame
    ++ codes ", " ++ entry_words w first.1)

-- of a stretch that has come from one page to another, and of what follows
abbrev pub stretches_from : World → (first last : ℕ × Entry) → List (ℕ × Entry) → List (List ℕ)
stretches_from w first last [] = stretch_line w first last ∷ []
stretches_from w first last (e ∷ entries) = elim (goes_on w last e) [
  | true ↦ stretches_from w first e entries
  | false ↦ stretch_line w first last ∷ stretches_from w e e entries
]

abbrev pub stretches_of : World → List (ℕ × Entry) → List (List ℕ)
stretches_of w [] = []
stretches_of w (e ∷ entries) = stretches_from w e e entries

abbrev pub pages_lines_in : World → Option Holdings → List (List ℕ)
pages_lines_in w None = no_process_lines
pages_lines_in w (Some h) = stretches_of w h.space

abbrev pub pages_lines : Session → Option ℕ → List (List ℕ)
pages_lines s p =
    let w : World = s.position.moment.world in
    pages_lines_in w (live_process w (process_asked s p))
