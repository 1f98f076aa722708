-- What a session is about: the files that were run, and what the log holds. This project's own
-- rule.
use Rattle.std.specs.Prelude.{ℕ, zero, suc, ◌≡◌, ◌+◌, ◌-◌, true, false, List, [], ◌∷◌, length}
use Rattle.std.specs.Prelude.{map, drop, Option, Some, None}
use Rattle.dos_world.specs.Play.{Play, Answer, done, ask, gives, asks, over}
use Rattle.dos_world.specs.declared.Config.{Config}
use Rattle.dos_world.specs.declared.Misfit.{Misfit}
use Rattle.dos_world.specs.declared.Question.{Question}
use Rattle.elf_image.specs.Image.{Image}
use Rattle.flat_machine.specs.Fits.{first_misfit, same_question}
use Rattle.flat_machine.specs.Opening.{opening}
use Rattle.group_moves.specs.Moves.{MoveKind, move_of}
use Rattle.group_moves.specs.Moments.{Moment, first_moment, kind_at, moment_behind, settled_scene}
use Rattle.debug_session.specs.Positions.{Position}

-- a question and its answer; the end of a run is one too
abbrev pub LogEntry : Type 0
LogEntry = Question × Answer

-- The names and the bytes of the files that were run, in their order; how many rounds there were at
-- most; and the log's entries, of which the last is its end.
pub record Recording : Type 0 where
  pub names : List (List ℕ)
  pub files : List (List ℕ)
  pub limit : ℕ
  pub entries : List LogEntry

-- ---- what was used of a log

-- the answers that a play leaves
abbrev pub left_by : {A : Type 0} → List Answer → Play A → List Answer
left_by answers play =
    elim (over answers play) [ gives x rest ↦ rest | asks question output error ↦ [] ]

-- the answers that these moves leave, of which the last made stands first
abbrev pub left_behind : List Answer → (past : List (MoveKind × Moment)) → List Answer
left_behind answers [] = answers
left_behind answers (move ∷ past) =
    left_by (left_behind answers past) (move_of move.1.world move.1.place)

-- How many entries the moves up to here have used. No move uses the end.
abbrev pub used_entries : Recording → Position → ℕ
used_entries r at =
    length r.entries - length (left_behind (map (λ (e : LogEntry). e.1) r.entries) at.past)

-- ---- where a log misfits

-- the entry that is next here and what the next move would ask in its place
abbrev pub misfit_here : Recording → Position → Option Misfit
misfit_here r at =
    let used : ℕ = used_entries r at in
    first_misfit used (drop used r.entries) (move_of at.moment.world at.moment.place)

-- ---- the moves of a log

-- What a play gives where each of its questions is that of the next entry, which answers it, and
-- the entries that are left; nothing where one isn't.
abbrev pub followed : {A : Type 0} → List LogEntry → Play A → Option (A × List LogEntry)
followed entries (done a) = Some (a, entries)
followed [] (ask question output error next) = None
followed (e ∷ entries) (ask question output error next) = elim (same_question e.0 question) [
  | true ↦ followed entries (next e.1)
  | false ↦ None
]

-- The moves from a moment on, at most so many, each with the moment behind it: up to the end of the
-- run, or to a move that would ask another question than that of the next entry.
abbrev pub recorded_from : (most limit : ℕ) → List LogEntry → Moment → List (MoveKind × Moment)
recorded_from zero limit entries m = []
recorded_from (suc most) limit entries m =
    elim (kind_at limit m) [
      | None ↦ []
      | Some kind ↦ elim (followed entries (move_of m.world m.place)) [
        | None ↦ []
        | Some (scene, left) ↦
            let next : Moment = moment_behind kind m (settled_scene scene) in
            (kind, next) ∷ recorded_from most limit left next
      ]
    ]

-- the history of these images over a log's entries
abbrev pub recorded : (most : ℕ) → List Image → Config → List LogEntry → List (MoveKind × Moment)
recorded most images config entries =
    recorded_from most config.rounds entries (first_moment (opening images config))

-- Behind so many moves the history is over.
pub record EndsSomewhere (images : List Image) (config : Config) (entries : List LogEntry)
    : Type 0 where
  pub most : ℕ
  pub is : (more : ℕ)
      → recorded (most + more) images config entries ≡ recorded most images config entries

-- A law: each history is over behind some number of moves.
abbrev pub HistoriesEnd : Type 0
HistoriesEnd = (images : List Image) (config : Config) (entries : List LogEntry)
    → EndsSomewhere images config entries
