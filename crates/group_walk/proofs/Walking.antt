-- Moves of a walk, one after another.
use Rattle.std.proofs.Common.{ℕ, zero, suc, ◌+◌, ◌≡◌, refl, sym, ap, ◌∙◌, subst, Bool}
use Rattle.std.proofs.Common.{cond, true, false, List, [], ◌∷◌, drop, get_or, Option, Some}
use Rattle.std.proofs.Common.{None, Result, Ok, Err}
use Rattle.std.specs.Prelude.{IsSome, ◌||◌, nat_le}
use Rattle.dos_world.specs.World.{World, live_threads}
use Rattle.dos_world.specs.Play.{Play, Answer, Outcome, gives, asks, done, ask, ◌>>=◌, over}
use Rattle.dos_world.proofs.PlayLaws.{then_assoc}
use Rattle.dos_world.specs.declared.Reason.{Reason}
use Rattle.dos_world.specs.declared.Reason.TheVariants.{Page, Fault, Service}
use Rattle.dos_io.specs.Borders.{BorderState}
use Rattle.flat_machine.specs.Rest.{settled}
use Rattle.flat_machine.specs.Round.{is_none_of}
use Rattle.group_moves.specs.Moments.{Moment, kind_at, moment_at, moment_behind, settled_scene}
use Rattle.group_moves.specs.Moments.{walk}
use Rattle.group_moves.specs.Moves.{MoveKind, begins, kind_by, move_of}
use Rattle.group_moves.specs.Places.{Place, Scene, between_rounds, within_part, within_rest}
use Rattle.kernel_calls.specs.Plays.{Plays}
use Rattle.kernel_calls.specs.StateWorld.{sent, world_of}
use Rattle.kernel_calls.specs.declared.state.RunStop.{RunStop}
use Rattle.kernel_calls.specs.declared.state.State.{State}
use Rattle.kernel_calls.proofs.Playing.{plays_before, plays_from}
use Rattle.group_rounds.proofs.PhaseLaws.{drop_at}
use Rattle.group_walk.specs.Places.{HasMove, at_part, at_rest, numbers_behind, place_at}
use Rattle.group_walk.specs.Plays.{moved, settled_move, walked, world_of_scene}
use Rattle.group_walk.specs.Walks.{AreThere}
use Rattle.group_walk.specs.declared.walker.Phase.{Phase}
use Rattle.group_walk.specs.declared.walker.Phase.TheVariants.{Between, Parallel, Serial, Ended}
use Rattle.group_walk.proofs.Moved.{part_within, rest_within}

-- ---- one move

module _ (limit b k : ℕ) (w : World) where
  -- the moment at a place
  abbrev standing : Place → Moment
  standing place = record { begun_rounds = b; made = k; world = w; place = place }

  -- a move there, to where so many rounds have begun and moves were made
  abbrev onward : (begun made : ℕ) → Place → Play Moment
  onward begun made place = settled_move place w >>= λ scene. done (moment_at begun made scene)

  onward-is : (begun made : ℕ) (place : Place)
      → (move_of w place >>= λ scene. done (moment_at begun made (settled_scene scene)))
      ≡ onward begun made place
  onward-is begun made place =
      sym (then_assoc (move_of w place) (λ scene. done (settled_scene scene))
      (λ scene. done (moment_at begun made scene)))

  moved_by : (place : Place) → Option MoveKind → Play Moment
  moved_by place o = elim o as (λ _. Play Moment) [
    | None ↦ done (standing place)
    | Some kind ↦ move_of w place
        >>= λ scene. done (moment_behind kind (standing place) (settled_scene scene))
  ]

  moved_begins : IsSome (kind_at limit (standing between_rounds))
      → moved limit (standing between_rounds) ≡ onward (b + 1) 0 between_rounds
  unfolding moved_by
  moved_begins next =
      go (is_none_of (live_threads w) || nat_le limit b) next
    where
      go : (over_it : Bool) → IsSome (cond over_it None (Some begins))
          → moved_by between_rounds (cond over_it None (Some begins))
          ≡ onward (b + 1) 0 between_rounds
      go true h = cc
      go false h = onward-is (b + 1) 0 between_rounds

  moved_part : (starters : List ℕ) (t : ℕ) (ts : List ℕ)
      → moved limit (standing (within_part starters t ts))
      ≡ onward b (suc k) (within_part starters t ts)
  moved_part starters t ts = onward-is b (suc k) (within_part starters t ts)

  moved_rest : (starters : List ℕ) (t : ℕ) (ts : List ℕ)
      → moved limit (standing (within_rest starters t ts))
      ≡ onward b (suc k) (within_rest starters t ts)
  unfolding moved_by
  moved_rest starters t ts = go (settled 3 w t).1
    where
      go : (r : Result World Reason)
          → moved_by (within_rest starters t ts) (Some (kind_by t r))
          ≡ onward b (suc k) (within_rest starters t ts)
      go (Ok next) = onward-is b (suc k) (within_rest starters t ts)
      go (Err (Page address access)) = onward-is b (suc k) (within_rest starters t ts)
      go (Err (Fault number)) = onward-is b (suc k) (within_rest starters t ts)
      go (Err Service) = onward-is b (suc k) (within_rest starters t ts)

  pub moved_at : (s : State) (phase : Phase) (starters : List ℕ) (index : ℕ) → HasMove phase
      → AreThere s (place_at phase starters index)
      → IsSome (kind_at limit (standing (place_at phase starters index)))
      → moved limit (standing (place_at phase starters index))
      ≡ onward (numbers_behind phase b k).0 (numbers_behind phase b k).1
      (place_at phase starters index)
  moved_at s Between starters index has there next = moved_begins next
  moved_at s Parallel starters index has there next =
      let lt = part_within s starters index there in
      subst (λ xs. moved limit (standing (at_part starters xs))
      ≡ onward b (suc k) (at_part starters xs))
      (sym (drop_at starters index lt))
      (moved_part starters (get_or starters index 0) (drop (index + 1) starters))
  moved_at s Serial starters index has there next =
      let lt = rest_within s starters index there in
      subst (λ xs. moved limit (standing (at_rest starters xs))
      ≡ onward b (suc k) (at_rest starters xs))
      (sym (drop_at starters index lt))
      (moved_rest starters (get_or starters index 0) (drop (index + 1) starters))
  moved_at s (Ended ending) starters index has there next = absurd has

-- where a move is next, the run hasn't ended
pub has_move : (limit b k : ℕ) (w : World) (phase : Phase) (starters : List ℕ) (index : ℕ)
    → IsSome (kind_at limit (standing limit b k w (place_at phase starters index)))
    → HasMove phase
has_move limit b k w Between starters index next = tt
has_move limit b k w Parallel starters index next = tt
has_move limit b k w Serial starters index next = tt
has_move limit b k w (Ended ending) starters index next = cc

-- whatever was sent
pub next_sent : (limit b k q : ℕ) (s : State) (phase : Phase) (starters : List ℕ) (index : ℕ)
    → AreThere s (place_at phase starters index)
    → IsSome (kind_at limit (standing limit b k (world_of q s) (place_at phase starters index)))
    → (o e : List ℕ)
    → IsSome (kind_at limit
    (standing limit b k (sent o e (world_of q s)) (place_at phase starters index)))
next_sent limit b k q s Between starters index there next o e = next
next_sent limit b k q s Parallel starters index there next o e =
    subst (λ xs. IsSome (kind_at limit
    (standing limit b k (sent o e (world_of q s)) (at_part starters xs))))
    (sym (drop_at starters index (part_within s starters index there))) refl
next_sent limit b k q s Serial starters index there next o e =
    subst (λ xs. IsSome (kind_at limit
    (standing limit b k (sent o e (world_of q s)) (at_rest starters xs))))
    (sym (drop_at starters index (rest_within s starters index there))) refl
next_sent limit b k q s (Ended ending) starters index there next o e = cc

-- the play of a move
pub move_plays : (limit b k q : ℕ) (s s' : State) (phase : Phase) (starters : List ℕ) (index : ℕ)
    (later : List ℕ) (result : Result (Phase × ℕ) RunStop) (before after : BorderState)
    → AreThere s (place_at phase starters index)
    → IsSome (kind_at limit (standing limit b k (world_of q s) (place_at phase starters index)))
    → Plays q world_of_scene (settled_move (place_at phase starters index))
    (λ (x : Phase × ℕ) w. done (w, place_at x.0 later x.1)) result s before s' after
    → Plays q (λ (m : Moment). m.world)
    (λ w. moved limit (standing limit b k w (place_at phase starters index)))
    (λ (x : Phase × ℕ) w. done (moment_at (numbers_behind phase b k).0
    (numbers_behind phase b k).1 (w, place_at x.0 later x.1))) result s before s' after
move_plays limit b k q s s' phase starters index later result before after there next h =
    plays_from q (λ (m : Moment). m.world)
    (λ w. moved limit (standing limit b k w (place_at phase starters index)))
    (λ w. onward limit b k w (numbers_behind phase b k).0 (numbers_behind phase b k).1
    (place_at phase starters index))
    (λ (x : Phase × ℕ) w. done (moment_at (numbers_behind phase b k).0
    (numbers_behind phase b k).1 (w, place_at x.0 later x.1))) result s s' before after
    (λ o e. moved_at limit b k (sent o e (world_of q s)) s phase starters index
    (has_move limit b k (world_of q s) phase starters index next) there
    (next_sent limit b k q s phase starters index there next o e))
    (plays_before q world_of_scene (λ (m : Moment). m.world)
    (settled_move (place_at phase starters index))
    (λ scene. done (moment_at (numbers_behind phase b k).0 (numbers_behind phase b k).1 scene))
    (λ (x : Phase × ℕ) w. done (w, place_at x.0 later x.1)) result s s' before after
    (λ o e scene out err. (out, err)) h)

-- ---- many moves

pub walk_stays : (moves limit : ℕ) (answers : List Answer) (m : Moment) → kind_at limit m ≡ None
    → walk moves limit answers m ≡ gives m answers
walk_stays zero limit answers m none = refl
walk_stays (suc moves) limit answers m none =
    ap (λ o. elim o as (λ _. Outcome Moment) [
      | None ↦ gives m answers
      | Some kind ↦ elim (over answers (move_of m.world m.place)) as (λ _. Outcome Moment) [
        | asks question output error ↦ asks question output error
        | gives scene rest ↦ walk moves limit rest (moment_behind kind m (settled_scene scene))
      ]
    ]) none

-- where no move is next, a walk stays
pub walked_stays : (moves limit : ℕ) (m : Moment) → kind_at limit m ≡ None
    → walked moves limit m ≡ done m
walked_stays zero limit m none = refl
walked_stays (suc moves) limit m none =
    ap (λ o. (elim o as (λ _. Play Moment) [
      | None ↦ done m
      | Some kind ↦ move_of m.world m.place
          >>= λ scene. done (moment_behind kind m (settled_scene scene))
    ]) >>= λ next. walked moves limit next) none
    ∙ walked_stays moves limit m none

-- so many moves over all answers lead to where the definition's walk does
abbrev AreWalked : (moves limit : ℕ) → Type 0
AreWalked moves limit = (answers : List Answer) (m : Moment)
    → over answers (walked moves limit m) ≡ walk moves limit answers m

-- over all answers a walk's moves lead to where the definition's walk does
pub walked_over : (moves limit : ℕ) (answers : List Answer) (m : Moment)
    → over answers (walked moves limit m) ≡ walk moves limit answers m
walked_over zero limit answers m = refl
walked_over (suc moves) limit answers m =
    by_kind (λ given n. walked_over moves limit given n) (kind_at limit m) refl
  where
    -- a move, and then the others
    by_move : AreWalked moves limit → (p : Play Scene) (f : Scene → Moment) (given : List Answer)
        → over given ((p >>= λ scene. done (f scene)) >>= λ next. walked moves limit next)
        ≡ elim (over given p) as (λ _. Outcome Moment) [
          | asks question output error ↦ asks question output error
          | gives scene rest ↦ walk moves limit rest (f scene)
        ]
    by_move others (done scene) f given = others given (f scene)
    by_move others (ask question output error next) f [] = refl
    by_move others (ask question output error next) f (answer ∷ given) =
        by_move others (next answer) f given

    by_kind : AreWalked moves limit → (o : Option MoveKind) → kind_at limit m ≡ o
        → over answers ((elim o as (λ _. Play Moment) [
          | None ↦ done m
          | Some kind ↦ move_of m.world m.place
              >>= λ scene. done (moment_behind kind m (settled_scene scene))
        ]) >>= λ next. walked moves limit next)
        ≡ elim o as (λ _. Outcome Moment) [
          | None ↦ gives m answers
          | Some kind ↦ elim (over answers (move_of m.world m.place)) as (λ _. Outcome Moment) [
            | asks question output error ↦ asks question output error
            | gives scene rest ↦
                walk moves limit rest (moment_behind kind m (settled_scene scene))
          ]
        ]
    by_kind others None is = others answers m ∙ walk_stays moves limit answers m is
    by_kind others (Some kind) is =
        by_move others (move_of m.world m.place)
        (λ scene. moment_behind kind m (settled_scene scene)) answers
