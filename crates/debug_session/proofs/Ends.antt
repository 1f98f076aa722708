-- Histories over a log are over behind some number of moves.
use Rattle.std.proofs.Common.{◌≡◌, ◌≤◌, ◌<◌, ◌+◌, ℕ, zero, suc, Bool, true, false, List, [], ◌∷◌}
use Rattle.std.proofs.Common.{length, map, Option, Some, None, refl, ap, arith}
use Rattle.dos_world.specs.Play.{Play, Answer, Outcome, done, ask, gives, asks, over}
use Rattle.dos_world.specs.declared.Config.{Config}
use Rattle.dos_world.specs.declared.Scheme.TheVariants.{Ownership}
use Rattle.elf_image.specs.Image.{Image}
use Rattle.flat_machine.specs.Fits.{same_question}
use Rattle.flat_machine.specs.Opening.{opening}
use Rattle.group_moves.specs.Laws.{EndsAs, IsHistoryOver, RunsAreTheirMoves}
use Rattle.group_moves.specs.Moves.{MoveKind, move_of}
use Rattle.group_moves.specs.Moments.{Moment, first_moment, kind_at, moment_behind, moves_from}
use Rattle.group_moves.specs.Moments.{settled_scene, walk}
use Rattle.group_moves.specs.Places.{Scene}
use Rattle.debug_session.specs.Recordings.{LogEntry, followed, recorded_from, EndsSomewhere}
use Rattle.debug_session.specs.Recordings.{HistoriesEnd}

abbrev answers_in : List LogEntry → List Answer
answers_in entries = map (λ (e : LogEntry). e.1) entries

-- What a play gives by entries, it gives by their answers.
followed_over : {A : Type 0} (entries left : List LogEntry) (play : Play A) (x : A)
    → followed entries play ≡ Some (x, left)
    → over (answers_in entries) play ≡ gives x (answers_in left)
followed_over {A} entries left (done a) x is =
    ap (λ (o : Option (A × List LogEntry)).
    elim o as (λ _. Outcome A) [
      | None ↦ gives a (answers_in entries)
      | Some found ↦ gives found.0 (answers_in found.1)
    ]) is
followed_over [] left (ask question output error next) x is = absurd cc
followed_over {A} (e ∷ entries) left (ask question output error next) x is =
    by_test (λ followed_is. followed_over entries left (next e.1) x followed_is)
    (same_question e.0 question) is
  where
    by_test : (followed entries (next e.1) ≡ Some (x, left)
        → over (answers_in entries) (next e.1) ≡ gives x (answers_in left))
        → (b : Bool)
        → elim b as (λ _. Option (A × List LogEntry)) [
          | true ↦ followed entries (next e.1)
          | false ↦ None
        ] ≡ Some (x, left)
        → over (answers_in entries) (next e.1) ≡ gives x (answers_in left)
    by_test again true is = again is
    by_test again false is = absurd cc

-- There are no more moves over entries than over their answers.
no_more : (most limit : ℕ) (entries : List LogEntry) (m : Moment)
    → length (recorded_from most limit entries m)
    ≤ length (moves_from most limit (answers_in entries) m)
no_more zero limit entries m = omega arith
no_more (suc most) limit entries m =
    by_kind (λ left next. no_more most limit left next) (kind_at limit m)
  where
    behind : MoveKind → Scene → Moment
    behind kind scene = moment_behind kind m (settled_scene scene)

    recorded_by : MoveKind → Option (Scene × List LogEntry) → List (MoveKind × Moment)
    recorded_by kind o =
        elim o [
          | None ↦ []
          | Some (scene, left) ↦
              let next : Moment = moment_behind kind m (settled_scene scene) in
              (kind, next) ∷ recorded_from most limit left next
        ]

    moved_by : MoveKind → Outcome Scene → List (MoveKind × Moment)
    moved_by kind o =
        elim o [
          | asks question output error ↦ []
          | gives scene rest ↦
              let next : Moment = moment_behind kind m (settled_scene scene) in
              (kind, next) ∷ moves_from most limit rest next
        ]

    by_followed : ((left : List LogEntry) (next : Moment)
        → length (recorded_from most limit left next)
        ≤ length (moves_from most limit (answers_in left) next))
        → (kind : MoveKind) (o : Option (Scene × List LogEntry))
        → followed entries (move_of m.world m.place) ≡ o
        → length (recorded_by kind o)
        ≤ length (moved_by kind (over (answers_in entries) (move_of m.world m.place)))
    by_followed again kind None is = omega arith
    by_followed again kind (Some (scene, left)) is =
        let over_is = followed_over entries left (move_of m.world m.place) scene is in
        let longer = again left (behind kind scene) in
        omega (arith, longer, ap (λ (o : Outcome Scene). length (moved_by kind o)) over_is)

    by_kind : ((left : List LogEntry) (next : Moment)
        → length (recorded_from most limit left next)
        ≤ length (moves_from most limit (answers_in left) next))
        → (k : Option MoveKind)
        → length
        (elim k as (λ _. List (MoveKind × Moment)) [
          | None ↦ []
          | Some kind ↦ recorded_by kind (followed entries (move_of m.world m.place))
        ])
        ≤ length
        (elim k as (λ _. List (MoveKind × Moment)) [
          | None ↦ []
          | Some kind ↦ moved_by kind (over (answers_in entries) (move_of m.world m.place))
        ])
    by_kind again None = omega arith
    by_kind again (Some kind) =
        by_followed again kind (followed entries (move_of m.world m.place)) refl

-- A history that is shorter than it may be is whole.
is_whole : (most longer limit : ℕ) (entries : List LogEntry) (m : Moment) → most ≤ longer
    → length (recorded_from most limit entries m) < most
    → recorded_from longer limit entries m ≡ recorded_from most limit entries m
is_whole zero longer limit entries m fits short = absurd (omega (arith, short))
is_whole (suc most) zero limit entries m fits short = absurd (omega (arith, fits))
is_whole (suc most) (suc longer) limit entries m fits short =
    by_kind (λ left next few. is_whole most longer limit left next (omega (arith, fits)) few)
    (kind_at limit m) short
  where
    recorded_by : ℕ → MoveKind → Option (Scene × List LogEntry) → List (MoveKind × Moment)
    recorded_by n kind o =
        elim o [
          | None ↦ []
          | Some (scene, left) ↦
              let next : Moment = moment_behind kind m (settled_scene scene) in
              (kind, next) ∷ recorded_from n limit left next
        ]

    by_followed : ((left : List LogEntry) (next : Moment)
        → length (recorded_from most limit left next) < most
        → recorded_from longer limit left next ≡ recorded_from most limit left next)
        → (kind : MoveKind) (o : Option (Scene × List LogEntry))
        → length (recorded_by most kind o) < suc most
        → recorded_by longer kind o ≡ recorded_by most kind o
    by_followed again kind None short = refl
    by_followed again kind (Some (scene, left)) short =
        let next : Moment = moment_behind kind m (settled_scene scene) in
        ap (λ (moves : List (MoveKind × Moment)). (kind, next) ∷ moves)
        (again left next (omega (arith, short)))

    by_kind : ((left : List LogEntry) (next : Moment)
        → length (recorded_from most limit left next) < most
        → recorded_from longer limit left next ≡ recorded_from most limit left next)
        → (k : Option MoveKind)
        → length
        (elim k as (λ _. List (MoveKind × Moment)) [
          | None ↦ []
          | Some kind ↦ recorded_by most kind (followed entries (move_of m.world m.place))
        ]) < suc most
        → elim k as (λ _. List (MoveKind × Moment)) [
          | None ↦ []
          | Some kind ↦ recorded_by longer kind (followed entries (move_of m.world m.place))
        ]
        ≡ elim k as (λ _. List (MoveKind × Moment)) [
          | None ↦ []
          | Some kind ↦ recorded_by most kind (followed entries (move_of m.world m.place))
        ]
    by_kind again None short = refl
    by_kind again (Some kind) short =
        by_followed again kind (followed entries (move_of m.world m.place)) short

-- Where a walk has come to the end, its moves are all.
is_over : (most longer limit : ℕ) (answers : List Answer) (m : Moment)
    → IsHistoryOver limit (walk most limit answers m)
    → length (moves_from longer limit answers m) ≤ most
is_over most zero limit answers m over_there = omega arith
is_over zero (suc longer) limit answers m none = by_kind (kind_at limit m) none
  where
    by_kind : (k : Option MoveKind) → k ≡ None
        → length
        (elim k as (λ _. List (MoveKind × Moment)) [
          | None ↦ []
          | Some kind ↦ elim (over answers (move_of m.world m.place)) [
            | asks question output error ↦ []
            | gives scene rest ↦
                let next : Moment = moment_behind kind m (settled_scene scene) in
                (kind, next) ∷ moves_from longer limit rest next
          ]
        ]) ≤ zero
    by_kind None none = omega arith
    by_kind (Some kind) none = absurd cc
is_over (suc most) (suc longer) limit answers m over_there =
    by_kind (λ rest next. is_over most longer limit rest next) (kind_at limit m) over_there
  where
    moved_by : MoveKind → Outcome Scene → List (MoveKind × Moment)
    moved_by kind o =
        elim o [
          | asks question output error ↦ []
          | gives scene rest ↦
              let next : Moment = moment_behind kind m (settled_scene scene) in
              (kind, next) ∷ moves_from longer limit rest next
        ]

    walked_by : MoveKind → Outcome Scene → Outcome Moment
    walked_by kind o =
        elim o [
          | asks question output error ↦ asks question output error
          | gives scene rest ↦ walk most limit rest (moment_behind kind m (settled_scene scene))
        ]

    by_outcome : ((rest : List Answer) (next : Moment)
        → IsHistoryOver limit (walk most limit rest next)
        → length (moves_from longer limit rest next) ≤ most)
        → (kind : MoveKind) (o : Outcome Scene) → IsHistoryOver limit (walked_by kind o)
        → length (moved_by kind o) ≤ suc most
    by_outcome again kind (asks question output error) over_there = omega arith
    by_outcome again kind (gives scene rest) over_there =
        omega (arith, again rest (moment_behind kind m (settled_scene scene)) over_there)

    by_kind : ((rest : List Answer) (next : Moment)
        → IsHistoryOver limit (walk most limit rest next)
        → length (moves_from longer limit rest next) ≤ most)
        → (k : Option MoveKind)
        → IsHistoryOver limit
        (elim k as (λ _. Outcome Moment) [
          | None ↦ gives m answers
          | Some kind ↦ walked_by kind (over answers (move_of m.world m.place))
        ])
        → length
        (elim k as (λ _. List (MoveKind × Moment)) [
          | None ↦ []
          | Some kind ↦ moved_by kind (over answers (move_of m.world m.place))
        ]) ≤ suc most
    by_kind again None over_there = omega arith
    by_kind again (Some kind) over_there =
        by_outcome again kind (over answers (move_of m.world m.place)) over_there

-- A history has the moves of the ownership scheme, whatever scheme the configuration names.
pub histories_end : RunsAreTheirMoves → HistoriesEnd
histories_end runs images config entries =
    let owned : Config = record config { scheme = Ownership } in
    let first : Moment = first_moment (opening images config) in
    let e : EndsAs (opening images config) owned (answers_in entries) =
    runs (opening images config) owned (answers_in entries) refl in
    let most : ℕ = e.moves + 1 in
    let few = is_over (e.moves + 0) most config.rounds (answers_in entries) first
    (e.over_there 0) in
    let longer = no_more most config.rounds entries first in
    record {
      most = most;
      is = λ more. is_whole most (most + more) config.rounds entries first (omega arith)
          (omega (arith, few, longer));
    }
