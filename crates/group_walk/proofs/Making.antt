-- What holds of a walk behind a move, over a state's calls.
use Rattle.std.proofs.Common.{ℕ, ◌-◌, ◌<◌, ◌≤◌, ◌≡◌, ◌^◌, refl, sym, ap, ◌∙◌, subst, Bool, cond}
use Rattle.std.proofs.Common.{true, false, List, [], ◌∷◌, drop, Some, None, arith}
use Rattle.std.proofs.Common.{Ok, Err}
use Rattle.std.specs.Prelude.{IsSome, ◌||◌, nat_le}
use Rattle.std.proofs.lemmas.Bool.Decides.{nat_tests}
use Rattle.dos_world.specs.World.{live_threads}
use Rattle.dos_world.specs.Play.{done}
use Rattle.dos_io.specs.Borders.{BorderState}
use Rattle.flat_machine.specs.Round.{is_none_of}
use Rattle.group_moves.specs.Moments.{Moment, kind_at}
use Rattle.group_moves.specs.Moves.{begins}
use Rattle.group_moves.specs.Places.{Place, at_end, before_parts, before_rests, between_rounds}
use Rattle.group_moves.specs.Places.{within_part, within_rest}
use Rattle.kernel_calls.specs.Plays.{Plays, PlaysOn, StopsIn, stopper}
use Rattle.kernel_calls.specs.StateWorld.{IsSound, world_of}
use Rattle.kernel_calls.specs.declared.state.RunStop.{RunStop}
use Rattle.kernel_calls.specs.declared.state.State.{State}
use Rattle.group_walk.specs.Places.{HasMove, at_part, at_rest, numbers_behind, phase_at, place_at}
use Rattle.group_walk.specs.Plays.{moved, settled_move, world_of_scene}
use Rattle.group_walk.specs.Walks.{AreThere, ComesTo, HasBegun, IsWalking, Walk, moment_in}
use Rattle.group_walk.specs.Walks.{moment_of, round_at}
use Rattle.group_walk.specs.declared.walker.Phase.{Phase}
use Rattle.group_walk.specs.declared.walker.Phase.TheVariants.{Between, Parallel, Serial, Ended}
use Rattle.group_walk.specs.declared.walker.Walker.TheInside.{Inside}
use Rattle.group_walk.proofs.Walking.{has_move, move_plays}

-- ---- phases

pub phase_there : (phase : Phase) (starters : List ℕ) (index : ℕ)
    → phase_at (place_at phase starters index) ≡ phase
phase_there Between starters index = refl
phase_there Parallel starters index = go (drop index starters)
  where
    go : (xs : List ℕ) → phase_at (at_part starters xs) ≡ Parallel
    go [] = refl
    go (x ∷ xs) = refl
phase_there Serial starters index = go (drop index starters)
  where
    go : (xs : List ℕ) → phase_at (at_rest starters xs) ≡ Serial
    go [] = refl
    go (x ∷ xs) = refl
phase_there (Ended ending) starters index = refl

-- ---- how many rounds have begun

begun-part : (round limit begun : ℕ) (starters xs : List ℕ)
    → HasBegun round limit begun (at_part starters xs) → (begun ≡ round) × (round ≤ limit)
begun-part round limit begun starters [] h = h
begun-part round limit begun starters (x ∷ xs) h = h

begun-rest : (round limit begun : ℕ) (starters xs : List ℕ)
    → HasBegun round limit begun (at_rest starters xs) → (begun ≡ round) × (round ≤ limit)
begun-rest round limit begun starters [] h = h
begun-rest round limit begun starters (x ∷ xs) h = h

-- a round that begins is one of those that may
begins_within : (none : Bool) (limit begun : ℕ)
    → IsSome (cond (none || nat_le limit begun) None (Some begins)) → begun < limit
begins_within true limit begun next = cc
begins_within false limit begun next = go (nat_le limit begun) refl next
  where
    go : (b : Bool) → nat_le limit begun ≡ b → IsSome (cond b None (Some begins)) → begun < limit
    go true is next = cc
    go false is next = grind (arith, nat_tests)

-- Behind a move the round under way, or the one that was counted, is that of the old state; and it
-- is one of those that may begin.
pub begun_behind : (s : State) (limit begun made q : ℕ) (phase : Phase) (starters : List ℕ)
    (index : ℕ) → 1 ≤ s.round
    → HasBegun s.round limit begun (place_at phase starters index)
    → IsSome (kind_at limit (record {
      begun_rounds = begun;
      made = made;
      world = world_of q s;
      place = place_at phase starters index;
    }))
    → ((numbers_behind phase begun made).0 ≡ s.round) × (s.round ≤ limit)
begun_behind s limit begun made q Between starters index first h next =
    let less = begins_within (is_none_of (live_threads (world_of q s))) limit begun next in
    (omega (arith, first, h), omega (arith, first, h, less))
begun_behind s limit begun made q Parallel starters index first h next =
    begun-part s.round limit begun starters (drop index starters) h
begun_behind s limit begun made q Serial starters index first h next =
    begun-rest s.round limit begun starters (drop index starters) h
begun_behind s limit begun made q (Ended ending) starters index first h next = h

-- what has begun by then, at the place to which the move comes
has_begun : (limit begun round now : ℕ) (place : Place) → begun ≡ round → round ≤ limit
    → now ≡ round_at round place → HasBegun now limit begun place
has_begun limit begun round now between_rounds is few counted = omega (arith, is, counted)
has_begun limit begun round now (before_parts starters ts) is few counted =
    (is ∙ sym counted, omega (arith, few, counted))
has_begun limit begun round now (before_rests starters ts) is few counted =
    (is ∙ sym counted, omega (arith, few, counted))
has_begun limit begun round now (within_part starters t ts) is few counted =
    (is ∙ sym counted, omega (arith, few, counted))
has_begun limit begun round now (within_rest starters t ts) is few counted =
    (is ∙ sym counted, omega (arith, few, counted))
has_begun limit begun round now (at_end ending) is few counted =
    (is ∙ sym counted, omega (arith, few, counted))

counted_within : (limit round now : ℕ) (place : Place) → round ≤ limit
    → now ≡ round_at round place → now - 1 ≤ limit
counted_within limit round now between_rounds few counted = omega (arith, few, counted)
counted_within limit round now (before_parts starters ts) few counted = omega (arith, few, counted)
counted_within limit round now (before_rests starters ts) few counted = omega (arith, few, counted)
counted_within limit round now (within_part starters t ts) few counted = omega (arith, few, counted)
counted_within limit round now (within_rest starters t ts) few counted = omega (arith, few, counted)
counted_within limit round now (at_end ending) few counted = omega (arith, few, counted)

-- ---- a move of a walk

-- what contracts see of a walk with these fields
abbrev pub seen_of : Inside → Walk
seen_of i = record {
  state = i.state;
  config = i.config;
  place = place_at i.phase i.starters.items i.index;
  begun_rounds = i.begun;
  made = i.made;
  failed = i.failed;
}

-- a walk that goes on from these fields, in a state and at a place, by which so many rounds have
-- begun and moves were made
abbrev pub gone_on : Inside → State → Place → (numbers : ℕ × ℕ) → Walk
gone_on i s' place numbers = record {
  state = s';
  config = i.config;
  place = place;
  begun_rounds = numbers.0;
  made = numbers.1;
  failed = i.failed;
}

module _ (i : Inside) (old : Walk) (is : seen_of i ≡ old)
    (held : i.failed ≡ false → IsWalking (seen_of i)) (running : old.failed ≡ false)
    (next : IsSome (kind_at old.config.rounds (moment_of old))) where
  abbrev walking : IsWalking (seen_of i)
  walking = held (subst (λ (w : Walk). w.failed ≡ false) (sym is) running)

  abbrev next_here : IsSome (kind_at i.config.rounds (moment_of (seen_of i)))
  next_here = subst (λ (w : Walk). IsSome (kind_at w.config.rounds (moment_of w))) (sym is) next

  abbrev behind : ((numbers_behind i.phase i.begun i.made).0 ≡ i.state.round)
      × (i.state.round ≤ i.config.rounds)
  behind = begun_behind i.state i.config.rounds i.begun i.made i.config.quantum i.phase
      i.starters.items i.index walking.between.sound.counted.round walking.begun next_here

  pub sound_here : IsSound i.state
  sound_here = walking.between.sound

  pub there_here : AreThere i.state (place_at i.phase i.starters.items i.index)
  there_here = walking.there

  pub moves_here : HasMove i.phase
  moves_here = has_move i.config.rounds i.begun i.made (world_of i.config.quantum i.state) i.phase
      i.starters.items i.index next_here

  pub round_within : i.state.round ≤ 1000000
  round_within =
      let few = behind.1 in let all = walking.between.range.rounds.1 in omega (arith, few, all)

  pub begun_within : i.begun < 2 ^ 32 - 1
  begun_within = go i.phase behind.0 round_within
    where
      go : (p : Phase) → (numbers_behind p i.begun i.made).0 ≡ i.state.round
          → i.state.round ≤ 1000000 → i.begun < 2 ^ 32 - 1
      go Between is few = omega (arith, is, few)
      go Parallel is few = omega (arith, is, few)
      go Serial is few = omega (arith, is, few)
      go (Ended ending) is few = omega (arith, is, few)

  module _ (s' : State) (numbers : ℕ × ℕ)
      (counted : numbers ≡ numbers_behind i.phase i.begun i.made) where
    pub walking_on : (place : Place) → ComesTo i.state s' place
        → IsWalking (gone_on i s' place numbers)
    walking_on place comes = record {
      between = record {
        sound = comes.sound;
        range = walking.between.range;
        rounds = counted_within i.config.rounds i.state.round s'.round place behind.1 comes.round;
        frames = comes.count ∙ walking.between.frames;
      };
      begun = has_begun i.config.rounds numbers.0 i.state.round s'.round place
          (ap (λ (n : ℕ × ℕ). n.0) counted ∙ behind.0) behind.1 comes.round;
      there = comes.there;
    }

    -- the play of the move
    pub move_goes : (before after : BorderState) (x : Phase × ℕ) (later : List ℕ)
        → Plays i.config.quantum world_of_scene
        (settled_move (place_at i.phase i.starters.items i.index))
        (λ (x : Phase × ℕ) w. done (w, place_at x.0 later x.1)) (Ok x) i.state before
        s' after
        → PlaysOn old.config.quantum (λ w. moved old.config.rounds (moment_in old w)) old.state
        before (λ w. done (moment_in (gone_on i s' (place_at x.0 later x.1) numbers) w)) s' after
    move_goes before after x later h =
        subst (λ (o : Walk). PlaysOn o.config.quantum (λ w. moved o.config.rounds (moment_in o w))
        o.state before (λ w. done (moment_in (gone_on i s' (place_at x.0 later x.1) numbers) w)) s'
        after) is
        (subst (λ (n : ℕ × ℕ). PlaysOn i.config.quantum
        (λ w. moved i.config.rounds (moment_in (seen_of i) w)) i.state before
        (λ w. done (moment_in (gone_on i s' (place_at x.0 later x.1) n) w)) s' after) (sym counted)
        (move_plays i.config.rounds i.begun i.made i.config.quantum i.state s' i.phase
        i.starters.items i.index later (Ok x) before after there_here next_here h).goes)

  -- and of one that stops
  pub move_stops : (s' : State) (before after : BorderState) (stop : RunStop) (later : List ℕ)
      → Plays i.config.quantum world_of_scene
      (settled_move (place_at i.phase i.starters.items i.index))
      (λ (x : Phase × ℕ) w. done (w, place_at x.0 later x.1)) (Err stop) i.state before s' after
      → StopsIn old.config.quantum (λ (m : Moment). m.world)
      (λ w. moved old.config.rounds (moment_in old w)) (stopper stop) old.state before after
  move_stops s' before after stop later h =
      subst (λ (o : Walk). StopsIn o.config.quantum (λ (m : Moment). m.world)
      (λ w. moved o.config.rounds (moment_in o w)) (stopper stop) o.state before after) is
      (move_plays i.config.rounds i.begun i.made i.config.quantum i.state s' i.phase
      i.starters.items i.index later (Err stop) before after there_here next_here h).stops
