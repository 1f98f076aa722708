-- The moves of a run, and its history.
use Rattle.std.proofs.Common.{ℕ, zero, suc, ◌+◌, ◌-◌, ◌≡◌, refl, sym, ap, ◌∙◌, subst, Bool}
use Rattle.std.proofs.Common.{true, false, List, [], ◌∷◌, Option, Some, None, if◌then◌else◌, ◌||◌}
use Rattle.std.proofs.Common.{nat_le, arith}
use Rattle.std.proofs.lemmas.Bool.{le-leb, lt-leb, or_right, or_from}
use Rattle.dos_world.specs.World.{World, live_threads}
use Rattle.dos_world.specs.Play.{Play, Answer, Outcome, gives, asks, done, ◌>>=◌, over}
use Rattle.dos_world.specs.Play.{ask, questions, posts_of}
use Rattle.dos_world.specs.Signals.{signalled, ripen}
use Rattle.dos_world.specs.declared.Question.{Question}
use Rattle.dos_world.specs.declared.Question.TheVariants.{Signals}
use Rattle.dos_world.specs.declared.Scheme.{Scheme}
use Rattle.dos_world.specs.declared.Scheme.TheVariants.{Ownership}
use Rattle.dos_world.specs.Laws.{over_then}
use Rattle.dos_world.specs.declared.Config.{Config}
use Rattle.dos_world.specs.declared.Ending.TheVariants.{Done, Limit, Stalled}
use Rattle.dos_world.proofs.PlayLaws.{over-then}
use Rattle.flat_machine.specs.Round.{RoundEnd, went, finished, stalled, parallel, round_of}
use Rattle.flat_machine.specs.Round.{begun_by, is_none_of, phase_of}
use Rattle.flat_machine.specs.Machine.{Finish, all_rounds_by, rounds_by, result_of, run_from, group}
use Rattle.flat_machine.specs.Machine.{seen}
use Rattle.flat_machine.specs.Opening.{opening}
use Rattle.elf_image.specs.Image.{Image}
use Rattle.group_moves.specs.Places.{Scene, between_rounds, at_end}
use Rattle.group_moves.specs.Moves.{MoveKind, begins, move_of}
use Rattle.group_moves.specs.Moments.{Moment, moment_at, moment_behind, settled_scene, kind_at}
use Rattle.group_moves.specs.Moments.{walk}
use Rattle.group_moves.specs.Moments.{first_moment, moves_from, history, ending_at}
use Rattle.group_moves.specs.Laws.{walk_from, scene_of, finish_by, EndsAs, last_moment, EndsAt}
use Rattle.group_moves.specs.Laws.{walk_on, IsHistoryOver, FoldsAt, FoldsTo}
use Rattle.group_moves.proofs.Leading.{then_more, then_more-assoc, then_more_sum, Led}
use Rattle.group_moves.proofs.Rounds.{round_led}

-- where no move is next a walk stays
stays : (limit : ℕ) (answers : List Answer) (m : Moment) → kind_at limit m ≡ None → (c : ℕ)
    → walk c limit answers m ≡ gives m answers
stays limit answers m none zero = refl
stays limit answers m none (suc c) = ap by_kind none
  where
    by_kind : Option MoveKind → Outcome Moment
    by_kind k =
        elim k [
          | None ↦ gives m answers
          | Some kind ↦ elim (over answers (move_of m.world m.place)) [
            | asks question output error ↦ asks question output error
            | gives scene rest ↦ walk c limit rest (moment_behind kind m (settled_scene scene))
          ]
        ]

over_at : (limit : ℕ) (answers : List Answer) (m : Moment) → kind_at limit m ≡ None → (c : ℕ)
    → IsHistoryOver limit (walk c limit answers m)
over_at limit answers m none c =
    subst (IsHistoryOver limit) (sym (stays limit answers m none c)) none

-- ---- rounds one after another

-- as `EndsAs`, over numbers that compute
record Ended (limit : ℕ) (answers : List Answer) (m : Moment) (run : Outcome Finish) : Type 0 where
  moves : ℕ
  work : ℕ
  is : (c : ℕ) → run ≡ finish_by work (walk (then_more moves c) limit answers m)
  over_there : (c : ℕ) → IsHistoryOver limit (walk (then_more moves c) limit answers m)

-- what follows a round
abbrev next_rounds : ℕ → ℕ → RoundEnd → Play Finish
next_rounds n work e =
    elim e [
      | went next more ↦ rounds_by parallel n next (work + more)
      | finished last ↦ done (record { ending = Done; world = last; work = work })
      | stalled last ↦ done (record { ending = Stalled; world = last; work = work })
    ]

abbrev ended : RoundEnd → Play Scene
ended end = done (scene_of end)

-- whether a round is next between two, by the two tests
abbrev begin_if : Bool → Option MoveKind
begin_if none = if none then None else Some begins

abbrev between : ℕ → ℕ → World → Moment
between begun made w = moment_at begun made (w, between_rounds)

module _ (limit : ℕ) where
  -- behind a round
  abbrev RoundsEnd : ℕ → Type 0
  RoundsEnd n =
      (begun made : ℕ) (w : World) (answers : List Answer) (work : ℕ) → n ≡ limit - begun
      → Ended limit answers (between begun made w) (over answers (rounds_by parallel n w work))

  -- a round goes ahead
  round_ends : (n : ℕ) → RoundsEnd n → (begun made : ℕ) (w : World) (answers : List Answer)
      (work : ℕ) → suc n ≡ limit - begun
      → Led limit answers (between begun made w) (begun + 1) (round_of Ownership w >>= ended)
      → Ended limit answers (between begun made w)
      (over answers (rounds_by parallel (suc n) w work))
  round_ends n again begun made w answers work left l =
      let second = by_outcome (over answers (round_of Ownership w)) in
      record {
        moves = then_more l.moves second.0;
        work = second.1;
        is = λ c.
            over-then answers (round_of Ownership w) (next_rounds n work)
            ∙ second.2 c
            ∙ sym (ap (λ o. finish_by second.1
            (walk_from (then_more second.0 c) limit (begun + 1) l.made o))
            (over-then answers (round_of Ownership w) ended))
            ∙ sym (ap (finish_by second.1) (l.is (then_more second.0 c)))
            ∙ sym (ap (λ k. finish_by second.1 (walk k limit answers (between begun made w)))
            (then_more-assoc l.moves second.0 c));
        over_there = λ c.
            subst (IsHistoryOver limit)
            (sym
            (ap (λ k. walk k limit answers (between begun made w))
            (then_more-assoc l.moves second.0 c)
            ∙ l.is (then_more second.0 c)
            ∙ ap (walk_from (then_more second.0 c) limit (begun + 1) l.made)
            (over-then answers (round_of Ownership w) ended)))
            (second.3 c);
      }
    where
      by_outcome : (o : Outcome RoundEnd)
          → (moves : ℕ) × (all : ℕ) × ((c : ℕ)
          → over_then o (next_rounds n work)
          ≡ finish_by all
          (walk_from (then_more moves c) limit (begun + 1) l.made (over_then o ended)))
          × ((c : ℕ)
          → IsHistoryOver limit
          (walk_from (then_more moves c) limit (begun + 1) l.made (over_then o ended)))
      by_outcome (gives (went last more) rest) =
          let e = again (begun + 1) l.made last rest (work + more) (omega (arith, left)) in
          (e.moves, e.work, e.is, e.over_there)
      by_outcome (gives (finished last) rest) = (
        zero,
        work,
        λ c. sym (ap (finish_by work)
            (stays limit rest (moment_at (begun + 1) l.made (last, at_end Done)) refl c)),
        over_at limit rest (moment_at (begun + 1) l.made (last, at_end Done)) refl,
      )
      by_outcome (gives (stalled last) rest) = (
        zero,
        work,
        λ c. sym (ap (finish_by work)
            (stays limit rest (moment_at (begun + 1) l.made (last, at_end Stalled)) refl c)),
        over_at limit rest (moment_at (begun + 1) l.made (last, at_end Stalled)) refl,
      )
      by_outcome (asks question output error) = (zero, work, λ c. refl, λ c. tt)

  -- nobody lives
  nobody_ends : (n begun made : ℕ) (w : World) (answers : List Answer) (work : ℕ)
      → is_none_of (live_threads w) ≡ true
      → Ended limit answers (between begun made w)
      (over answers (rounds_by parallel (suc n) w work))
  nobody_ends n begun made w answers work none =
      record {
        moves = zero;
        work = work;
        is = λ c.
            ap (λ x. over answers (first x >>= next_rounds n work)) none
            ∙ sym (ap finish none)
            ∙ sym (ap (finish_by work) (stays limit answers (between begun made w)
            (ap (λ x. begin_if (x || nat_le limit begun)) none) c));
        over_there =
            over_at limit answers (between begun made w)
            (ap (λ x. begin_if (x || nat_le limit begun)) none);
      }
    where
      first : Bool → Play RoundEnd
      first x = if x then done (finished w) else
          ask (Signals (w.rounds + 1)) w.output w.error
          (λ answer. begun_by parallel (ripen (signalled w (posts_of answer))))

      finish : Bool → Outcome Finish
      finish x =
          gives (record { ending = if x then Done else Limit; world = w; work = work }) answers

  rounds_end : (n : ℕ) → RoundsEnd n
  rounds_end zero begun made w answers work left =
      record {
        moves = zero;
        work = work;
        is = λ c. sym (ap (finish_by work) (stays limit answers (between begun made w)
            (ap begin_if (or_right (is_none_of (live_threads w)) (nat_le limit begun)
            (le-leb limit begun (omega (arith, left))))) c));
        over_there =
            over_at limit answers (between begun made w)
            (ap begin_if (or_right (is_none_of (live_threads w)) (nat_le limit begun)
            (le-leb limit begun (omega (arith, left)))));
      }
  rounds_end (suc n) begun made w answers work left =
      by_live (rounds_end n) (is_none_of (live_threads w)) refl
    where
      by_live : RoundsEnd n → (x : Bool) → is_none_of (live_threads w) ≡ x
          → Ended limit answers (between begun made w)
          (over answers (rounds_by parallel (suc n) w work))
      by_live again true none = nobody_ends n begun made w answers work none
      by_live again false some =
          round_ends n again begun made w answers work left
          (round_led limit begun made w answers
          (ap begin_if (or_from (is_none_of (live_threads w)) (nat_le limit begun) some
          (lt-leb limit begun (omega (arith, left))))))

-- ---- the run

pub run_ends : (w : World) (config : Config) (answers : List Answer) → config.scheme ≡ Ownership
    → EndsAs w config answers
run_ends w config answers owned =
    let e =
    rounds_end config.rounds (config.rounds - w.rounds) w.rounds 0 w answers 0 refl in
    record {
      moves = e.moves;
      work = e.work;
      is = λ more.
          ap (result_of (questions answers (run_from w config)))
          (ap (λ (scheme : Scheme). over answers (all_rounds_by (phase_of scheme) w config)) owned
          ∙ e.is more
          ∙ ap (λ k. finish_by e.work (walk k config.rounds answers (first_moment w)))
          (sym (then_more_sum e.moves more)));
      over_there = λ more.
          subst (λ k. IsHistoryOver config.rounds (walk k config.rounds answers (first_moment w)))
          (sym (then_more_sum e.moves more)) (e.over_there more);
    }

-- ---- histories

pub walk_ends : (moves limit : ℕ) (answers : List Answer) (m : Moment)
    → EndsAt limit (last_moment m (moves_from moves limit answers m)) (walk moves limit answers m)
walk_ends zero limit answers m = refl
walk_ends (suc moves) limit answers m =
    by_kind (λ rest next. walk_ends moves limit rest next) (kind_at limit m) refl
  where
    behind : MoveKind → Scene → Moment
    behind kind scene = moment_behind kind m (settled_scene scene)

    moved : MoveKind → Outcome Scene → List (MoveKind × Moment)
    moved kind o =
        elim o [
          | asks question output error ↦ []
          | gives scene rest ↦
              let next : Moment = moment_behind kind m (settled_scene scene) in
              (kind, next) ∷ moves_from moves limit rest next
        ]

    walked : MoveKind → Outcome Scene → Outcome Moment
    walked kind o =
        elim o [
          | asks question output error ↦ asks question output error
          | gives scene rest ↦ walk moves limit rest (moment_behind kind m (settled_scene scene))
        ]

    by_outcome : ((rest : List Answer) (next : Moment)
        → EndsAt limit (last_moment next (moves_from moves limit rest next))
        (walk moves limit rest next))
        → (kind : MoveKind) → kind_at limit m ≡ Some kind
        → (o : Outcome Scene) → over answers (move_of m.world m.place) ≡ o
        → EndsAt limit (last_moment m (moved kind o)) (walked kind o)
    by_outcome again kind next (gives scene rest) is = again rest (behind kind scene)
    by_outcome again kind next (asks question output error) is =
        record { kind = kind; left = answers; next = next; asking = is }

    by_kind : ((rest : List Answer) (next : Moment)
        → EndsAt limit (last_moment next (moves_from moves limit rest next))
        (walk moves limit rest next))
        → (k : Option MoveKind) → kind_at limit m ≡ k
        → EndsAt limit
        (last_moment m
        (elim k as (λ _. List (MoveKind × Moment)) [
          | None ↦ []
          | Some kind ↦ moved kind (over answers (move_of m.world m.place))
        ]))
        (elim k as (λ _. Outcome Moment) [
          | None ↦ gives m answers
          | Some kind ↦ walked kind (over answers (move_of m.world m.place))
        ])
    by_kind again None none = refl
    by_kind again (Some kind) next =
        by_outcome again kind next (over answers (move_of m.world m.place)) refl

-- ---- walks one behind the other

walk_more : (moves more limit : ℕ) (answers : List Answer) (m : Moment)
    → walk (then_more moves more) limit answers m ≡ walk_on more limit (walk moves limit answers m)
walk_more zero more limit answers m = refl
walk_more (suc moves) more limit answers m =
    by_kind (λ rest next. walk_more moves more limit rest next) (kind_at limit m) refl
  where
    behind : MoveKind → Scene → Moment
    behind kind scene = moment_behind kind m (settled_scene scene)

    walked : ℕ → MoveKind → Outcome Scene → Outcome Moment
    walked n kind o =
        elim o [
          | asks question output error ↦ asks question output error
          | gives scene rest ↦ walk n limit rest (moment_behind kind m (settled_scene scene))
        ]

    by_outcome : ((rest : List Answer) (next : Moment)
        → walk (then_more moves more) limit rest next
        ≡ walk_on more limit (walk moves limit rest next))
        → (kind : MoveKind) (o : Outcome Scene)
        → walked (then_more moves more) kind o ≡ walk_on more limit (walked moves kind o)
    by_outcome again kind (gives scene rest) = again rest (behind kind scene)
    by_outcome again kind (asks question output error) = refl

    by_kind : ((rest : List Answer) (next : Moment)
        → walk (then_more moves more) limit rest next
        ≡ walk_on more limit (walk moves limit rest next))
        → (k : Option MoveKind) → kind_at limit m ≡ k
        → elim k as (λ _. Outcome Moment) [
          | None ↦ gives m answers
          | Some kind ↦ walked (then_more moves more) kind (over answers (move_of m.world m.place))
        ]
        ≡ walk_on more limit
        (elim k as (λ _. Outcome Moment) [
          | None ↦ gives m answers
          | Some kind ↦ walked moves kind (over answers (move_of m.world m.place))
        ])
    by_kind again None none = sym (stays limit answers m none more)
    by_kind again (Some kind) next = by_outcome again kind (over answers (move_of m.world m.place))

pub walks_on : (moves more limit : ℕ) (answers : List Answer) (m : Moment)
    → walk (moves + more) limit answers m ≡ walk_on more limit (walk moves limit answers m)
walks_on moves more limit answers m =
    ap (λ n. walk n limit answers m) (then_more_sum moves more)
    ∙ walk_more moves more limit answers m

-- ---- the history of images

pub history_folds : (images : List Image) (config : Config) (answers : List Answer)
    → config.scheme ≡ Ownership → FoldsTo images config answers
history_folds images config answers owned =
    record {
      moves = e.moves;
      work = e.work;
      is = λ more.
          subst (FoldsAt asked e.work config.rounds (reached (e.moves + more))) (sym (e.is more))
          (by_outcome (reached (e.moves + more))
          (walk (e.moves + more) config.rounds answers start)
          (walk_ends (e.moves + more) config.rounds answers start) (e.over_there more));
    }
  where
    e : EndsAs (opening images config) config answers
    e = run_ends (opening images config) config answers owned

    asked : List Question
    asked = questions answers (group images config)

    start : Moment
    start = first_moment (opening images config)

    reached : ℕ → Moment
    reached moves = last_moment start (history moves images config answers)

    by_outcome : (m : Moment) (o : Outcome Moment)
        → EndsAt config.rounds m o → IsHistoryOver config.rounds o
        → FoldsAt asked e.work config.rounds m (result_of asked (finish_by e.work o))
    by_outcome m (gives there rest) same none = (
      subst (λ x. kind_at config.rounds x ≡ None) (sym same) none,
      ap (λ x. seen asked
          (record { ending = ending_at x.world x.place; world = x.world; work = e.work }))
          (sym same),
    )
    by_outcome m (asks question output error) asking none = asking
