-- Histories end.
use Rattle.std.proofs.Common.{ℕ, zero, suc, ◌+◌, ◌≡◌, ◌∙◌, refl, sym, ap, subst, arith, List}
use Rattle.std.proofs.Common.{◌∷◌, map, Option, Some, None}
use Rattle.dos_world.specs.Play.{gives}
use Rattle.dos_world.specs.declared.Config.{Config}
use Rattle.dos_world.specs.declared.Scheme.TheVariants.{Ownership}
use Rattle.debug_session.specs.Positions.{at_start}
use Rattle.debug_session.specs.Recordings.{LogEntry, recorded, recorded_from}
use Rattle.flat_machine.specs.Opening.{opening}
use Rattle.group_moves.specs.Laws.{EndsAs, IsHistoryOver, RunsAreTheirMoves}
use Rattle.group_moves.specs.Moves.{MoveKind}
use Rattle.group_moves.specs.Moments.{Moment, first_moment, walk}
use Rattle.recorded_walk.specs.Following.{follow, follow_one}
use Rattle.recorded_walk.specs.Laws.{HistoriesStart}
use Rattle.recorded_walk.proofs.Kept.{none_leads}
use Rattle.recorded_walk.proofs.Places.{answer_in, first_same, is_first, none_ahead, second_same}

abbrev Found : Type 0
Found = Option (Moment × List LogEntry)

module _ (limit : ℕ) where
  -- ---- the first move, and those behind it

  abbrev next_of : Found → Found
  next_of found = elim found [
    | None ↦ None
    | Some (reached, left) ↦ follow_one limit left reached
  ]

  -- where the first leads on, the others begin there
  behind_first : (n : ℕ) (entries left : List LogEntry) (m next : Moment)
      → follow_one limit entries m ≡ Some (next, left)
      → follow (suc n) limit entries m ≡ follow n limit left next
  behind_first zero entries left m next is = is
  behind_first (suc n) entries left m next is =
      ap next_of (behind_first n entries left m next is)

  -- where it doesn't, there is none
  no_first : (n : ℕ) (entries : List LogEntry) (m : Moment) → follow_one limit entries m ≡ None
      → follow (suc n) limit entries m ≡ None
  no_first zero entries m none = none
  no_first (suc n) entries m none = ap next_of (no_first n entries m none)

  never : (n : ℕ) (entries left : List LogEntry) (m reached : Moment)
      → follow_one limit entries m ≡ None
      → ◌≡◌ {A = Found} (follow (suc n) limit entries m) (Some (reached, left)) → ⊥
  never n entries left m reached none is =
      none_is (sym (no_first n entries m none) ∙ is)
    where
      none_is : ◌≡◌ {A = Found} None (Some (reached, left)) → ⊥
      none_is e = cc

  -- ---- a walk over the answers of the entries

  walk_follows : (n : ℕ) (entries left : List LogEntry) (m reached : Moment)
      → follow n limit entries m ≡ Some (reached, left)
      → walk n limit (map answer_in entries) m ≡ gives reached (map answer_in left)
  walk_follows zero entries left m reached is =
      ap (λ (x : Moment). gives x (map answer_in entries)) (first_same m reached entries left is)
      ∙ ap (λ (es : List LogEntry). gives reached (map answer_in es))
      (second_same m reached entries left is)
  walk_follows (suc n) entries left m reached is =
      by_first (follow_one limit entries m) refl (λ es x. walk_follows n es left x reached)
    where
      by_first : (x : Found) → follow_one limit entries m ≡ x
          → ((es : List LogEntry) (x : Moment) → follow n limit es x ≡ Some (reached, left)
          → walk n limit (map answer_in es) x ≡ gives reached (map answer_in left))
          → walk (suc n) limit (map answer_in entries) m ≡ gives reached (map answer_in left)
      by_first None none later = absurd (never n entries left m reached none is)
      by_first (Some (next, rest)) some later =
          (is_first limit entries m next rest some).walks n
          ∙ later rest next (sym (behind_first n entries rest m next some) ∙ is)

  -- ---- no more than so many

  -- behind so many moves there is none
  abbrev HasNone : ℕ → List LogEntry → Moment → Type 0
  HasNone n entries m = (reached : Moment) (left : List LogEntry)
      → follow n limit entries m ≡ Some (reached, left) → follow_one limit left reached ≡ None

  all_recorded : (n more : ℕ) (entries : List LogEntry) (m : Moment) → HasNone n entries m
      → recorded_from (n + more) limit entries m ≡ recorded_from n limit entries m
  all_recorded zero more entries m none =
      none_ahead limit entries m (none m entries refl) (0 + more)
  all_recorded (suc n) more entries m none =
      let sum : suc n + more ≡ suc (n + more) = omega arith in
      ap (λ k. recorded_from k limit entries m) sum
      ∙ by_first (follow_one limit entries m) refl (λ es x. all_recorded n more es x)
    where
      by_first : (x : Found) → follow_one limit entries m ≡ x
          → ((es : List LogEntry) (x : Moment) → HasNone n es x
          → recorded_from (n + more) limit es x ≡ recorded_from n limit es x)
          → recorded_from (suc (n + more)) limit entries m ≡ recorded_from (suc n) limit entries m
      by_first None over later =
          none_ahead limit entries m over (suc (n + more))
          ∙ sym (none_ahead limit entries m over (suc n))
      by_first (Some (next, rest)) some later =
          let first = is_first limit entries m next rest some in
          first.moves (n + more)
          ∙ ap (λ (moves : List (MoveKind × Moment)). (first.kind, next) ∷ moves)
          (later rest next (λ reached left is.
          none reached left (behind_first n entries rest m next some ∙ is)))
          ∙ sym (first.moves n)

-- Each history has a start. Its moves are those of the ownership scheme, whatever scheme the
-- configuration names.
pub starts : RunsAreTheirMoves → HistoriesStart
starts runs images config entries = (
  at_start first (recorded ends.moves images config entries),
  record {
    most = ends.moves;
    is = refl;
    ended = λ more. all_recorded config.rounds ends.moves more entries first none;
  },
)
  where
    first : Moment
    first = first_moment (opening images config)

    owned : Config
    owned = record config { scheme = Ownership }

    ends : EndsAs (opening images config) owned (map answer_in entries)
    ends = runs (opening images config) owned (map answer_in entries) refl

    over : IsHistoryOver config.rounds
        (walk ends.moves config.rounds (map answer_in entries) first)
    over =
        let sum : ends.moves + 0 ≡ ends.moves = omega arith in
        subst (λ n. IsHistoryOver config.rounds
        (walk n config.rounds (map answer_in entries) first)) sum (ends.over_there 0)

    none : (reached : Moment) (left : List LogEntry)
        → follow ends.moves config.rounds entries first ≡ Some (reached, left)
        → follow_one config.rounds left reached ≡ None
    none reached left is =
        none_leads config.rounds left reached
        (subst (IsHistoryOver config.rounds)
        (walk_follows config.rounds ends.moves entries left first reached is) over)
