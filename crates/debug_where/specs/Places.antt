-- Where a session stands, by what a walk and a log tell of it. This project's own words.
use Rattle.std.specs.Prelude.{ℕ, ◌≡◌, ◌++◌, List, [], ◌∷◌, length, Option, Some, None, IsSome}
use Rattle.std.specs.Prelude.{codes, decimal}
use Rattle.group_moves.specs.Moments.{ending_at, kind_at}
use Rattle.group_walk.specs.Places.{phase_at}
use Rattle.group_walk.specs.Walks.{kind_named, kinds_named}
use Rattle.group_walk.specs.declared.walker.MoveKind.{MoveKind}
use Rattle.group_walk.specs.declared.walker.Phase.{Phase}
use Rattle.group_walk.specs.declared.walker.Phase.TheVariants.{Between, Parallel, Serial, Ended}
use Rattle.debug_session.specs.Positions.{Position, first_kind}
use Rattle.debug_session.specs.Recordings.{Recording, used_entries, misfit_here}
use Rattle.debug_session.specs.Where.{console_line, move_text, last_text, ending_text, misfit_text}
use Rattle.debug_where.specs.declared.here.Here.{Here}
use Rattle.debug_where.specs.declared.here.Next.{Next}
use Rattle.debug_where.specs.declared.here.Next.TheVariants.{Follows, HasEnded, Misfits}

-- ---- the lines

abbrev pub phase_words : Phase → List ℕ
phase_words Between = codes "between rounds"
phase_words Parallel = codes "parallel phase"
phase_words Serial = codes "serial phase"
phase_words (Ended ending) = codes "between rounds"

abbrev pub moment_words : (begun made : ℕ) → Phase → List ℕ
moment_words begun made phase =
    console_line (codes "round " ++ decimal begun ++ codes " move " ++ decimal made ++ codes ", "
    ++ phase_words phase)

abbrev pub last_words : Option MoveKind → List ℕ
last_words last = console_line (codes "last: " ++ last_text (kinds_named last))

abbrev pub next_words : Next → List ℕ
next_words (Follows kind) = move_text (kind_named kind)
next_words (HasEnded ending) = codes "none, the group is " ++ ending_text ending
next_words (Misfits found) = misfit_text found

abbrev pub next_line : Next → List ℕ
next_line next = console_line (codes "next: " ++ next_words next)

abbrev pub used_words : (used entries : ℕ) → List ℕ
used_words used entries =
    console_line (codes "log entry " ++ decimal used ++ codes " of " ++ decimal entries)

abbrev pub lines_here : Here → List (List ℕ)
lines_here here =
    moment_words here.begun here.made here.phase ∷ last_words here.last ∷ next_line here.next
    ∷ used_words here.used here.entries ∷ []

-- ---- of whom they are

-- what comes next at a position
abbrev pub IsNextHere : Next → Recording → Position → Type 0
IsNextHere (Follows kind) r at = first_kind at.future ≡ Some (kind_named kind)
IsNextHere (HasEnded ending) r at =
    (first_kind at.future ≡ None) × (kind_at r.limit at.moment ≡ None)
    × (ending_at at.moment.world at.moment.place ≡ ending)
IsNextHere (Misfits found) r at =
    (first_kind at.future ≡ None) × IsSome (kind_at r.limit at.moment)
    × (misfit_here r at ≡ found)

-- The session stands here.
pub record IsHere (here : Here) (r : Recording) (at : Position) : Type 0 where
  pub begun : at.moment.begun_rounds ≡ here.begun
  pub made : at.moment.made ≡ here.made
  pub phase : phase_at at.moment.place ≡ here.phase
  pub last : first_kind at.past ≡ kinds_named here.last
  pub next : IsNextHere here.next r at
  pub used : used_entries r at ≡ here.used
  pub entries : length r.entries ≡ here.entries
