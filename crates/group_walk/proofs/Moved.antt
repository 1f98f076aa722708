-- The moves within a round, over a state's calls.
use Rattle.std.proofs.Common.{ℕ, suc, ◌+◌, ◌<◌, ◌≤◌, ◌≡◌, sym, ap, ◌∙◌, subst, Bool, cond}
use Rattle.std.proofs.Common.{true, false, List, [], ◌∷◌, length, drop, get_or, Option}
use Rattle.std.proofs.Common.{Result, Ok, Err, arith}
use Rattle.std.specs.Prelude.{is_none}
use Rattle.std.proofs.lemmas.Bool.{cases_lt}
use Rattle.std.proofs.Common.{◌⊎◌, inl, inr}
use Rattle.dos_world.specs.World.{World, Thread, thread_at}
use Rattle.dos_world.specs.Play.{Play, done, ◌>>=◌, over}
use Rattle.dos_world.proofs.PlayLaws.{then_assoc}
use Rattle.dos_io.specs.Borders.{BorderState}
use Rattle.dos_io.specs.Outside.{IsFront}
use Rattle.flat_machine.specs.Alone.{emptied}
use Rattle.flat_machine.specs.Rest.{Turn, on, over_with, turn}
use Rattle.flat_machine.specs.Step.{step}
use Rattle.group_moves.specs.Moments.{settled_scene}
use Rattle.group_moves.specs.Moves.{part_step, rest_turn}
use Rattle.group_moves.specs.Places.{Place, Scene, within_part, within_rest}
use Rattle.group_moves.specs.Places.{is_part_over, is_rest_over, to_parts, to_rests}
use Rattle.kernel_calls.specs.Plays.{AreFrontsOf, Plays, PlaysOn}
use Rattle.kernel_calls.specs.StateWorld.{sent, world_of}
use Rattle.kernel_calls.specs.declared.state.RunStop.{RunStop}
use Rattle.kernel_calls.specs.declared.state.State.{State}
use Rattle.kernel_calls.proofs.Playing.{plays_and, plays_before, plays_from, plays_still}
use Rattle.proc_table.specs.Tables.{IsLiveThread}
use Rattle.group_rounds.specs.Phases.{AreLive}
use Rattle.group_rounds.proofs.PhaseLaws.{drop_at, drop_out}
use Rattle.group_walk.specs.Places.{at_part, at_rest, place_at}
use Rattle.group_walk.specs.Plays.{settled_move, turn_in, world_of_scene, world_turned}
use Rattle.group_walk.specs.Walks.{AreThere}
use Rattle.group_walk.specs.declared.walker.Phase.TheVariants.{Parallel, Serial}

-- ---- who is at its part

module _ (s : State) (starters : List ℕ) (index : ℕ) where
  pub part_within : AreThere s (at_part starters (drop index starters)) → index < length starters
  part_within there = go (cases_lt index (length starters))
    where
      go : (index < length starters) ⊎ (length starters ≤ index) → index < length starters
      go (inl lt) = lt
      go (inr out) = absurd (subst (λ xs. AreThere s (at_part starters xs))
          (drop_out starters index out) there)

  pub rest_within : AreThere s (at_rest starters (drop index starters)) → index < length starters
  rest_within there = go (cases_lt index (length starters))
    where
      go : (index < length starters) ⊎ (length starters ≤ index) → index < length starters
      go (inl lt) = lt
      go (inr out) = absurd (subst (λ xs. AreThere s (at_rest starters xs))
          (drop_out starters index out) there)

  module _ (lt : index < length starters) where
    pub part_there : AreThere s (at_part starters (drop index starters))
        → AreThere s (within_part starters (get_or starters index 0) (drop (index + 1) starters))
    part_there there = subst (λ xs. AreThere s (at_part starters xs))
        (drop_at starters index lt) there

    pub rest_there : AreThere s (at_rest starters (drop index starters))
        → AreThere s (within_rest starters (get_or starters index 0) (drop (index + 1) starters))
    rest_there there = subst (λ xs. AreThere s (at_rest starters xs))
        (drop_at starters index lt) there

-- ---- an instruction of the parallel phase

module _ (w v : World) (starters : List ℕ) (index : ℕ) (lt : index < length starters)
    (steps : step w (get_or starters index 0) ≡ Ok v) where
  abbrev here : ℕ
  here = get_or starters index 0

  abbrev others : List ℕ
  others = drop (index + 1) starters

  run_moves : (b : Bool) → is_part_over v here ≡ b
      → settled_move (at_part starters (drop index starters)) w
      ≡ done (cond b (to_parts v starters others) (v, within_part starters here others))
  run_moves b is =
      ap (λ xs. settled_move (at_part starters xs) w) (drop_at starters index lt)
      ∙ ap (λ r. done (settled_scene (part_step starters here others w r))) steps
      ∙ ap (λ b. done (cond b (to_parts v starters others) (v, within_part starters here others)))
      is

  pub run_passes : (scene : Scene) → is_part_over v here ≡ true
      → to_parts v starters others ≡ scene
      → settled_move (at_part starters (drop index starters)) w ≡ done scene
  run_passes scene is passes = run_moves true is ∙ ap done passes

  pub run_stays : is_part_over v here ≡ false
      → settled_move (at_part starters (drop index starters)) w
      ≡ done (v, place_at Parallel starters index)
  run_stays is = run_moves false is
      ∙ ap (λ xs. done (v, at_part starters xs)) (sym (drop_at starters index lt))

-- ---- a turn of the serial phase

-- what happens without a move sends nothing
sent-rests : (o e : List ℕ) (w : World) (starters ts : List ℕ) → IsFront o w.output
    → IsFront e w.error
    → IsFront o (to_rests w starters ts).0.output × IsFront e (to_rests w starters ts).0.error
sent-rests o e w starters [] out err = (out, err)
sent-rests o e w starters (t ∷ ts) out err =
    go (is_none (thread_at w t)) (is_rest_over (emptied w t) t)
    (sent-rests o e w starters ts out err) (sent-rests o e (emptied w t) starters ts out err)
  where
    go : (gone over_it : Bool)
        → IsFront o (to_rests w starters ts).0.output × IsFront e (to_rests w starters ts).0.error
        → IsFront o (to_rests (emptied w t) starters ts).0.output
        × IsFront e (to_rests (emptied w t) starters ts).0.error
        → IsFront o (cond gone (to_rests w starters ts) (cond over_it
        (to_rests (emptied w t) starters ts) (emptied w t, within_rest starters t ts))).0.output
        × IsFront e (cond gone (to_rests w starters ts) (cond over_it
        (to_rests (emptied w t) starters ts) (emptied w t, within_rest starters t ts))).0.error
    go true over_it h k = h
    go false true h k = k
    go false false h k = (out, err)

abbrev after_turn : List ℕ → ℕ → List ℕ → Turn → Play Scene
after_turn starters t ts taken = done (settled_scene (rest_turn starters t ts taken))

behind_turn : (starters : List ℕ) (t : ℕ) (ts : List ℕ) (o e : List ℕ) (taken : Turn)
    → IsFront o (world_turned taken).output → IsFront e (world_turned taken).error
    → AreFrontsOf world_of_scene o e (over [] (after_turn starters t ts taken))
behind_turn starters t ts o e (over_with w) out err = sent-rests o e w starters ts out err
behind_turn starters t ts o e (on w) out err =
    go (is_rest_over w t) (sent-rests o e w starters ts out err)
  where
    go : (b : Bool)
        → IsFront o (to_rests w starters ts).0.output × IsFront e (to_rests w starters ts).0.error
        → IsFront o (cond b (to_rests w starters ts) (w, within_rest starters t ts)).0.output
        × IsFront e (cond b (to_rests w starters ts) (w, within_rest starters t ts)).0.error
    go true h = h
    go false h = (out, err)

module _ (w : World) (starters : List ℕ) (index : ℕ) (lt : index < length starters) where
  abbrev there : ℕ
  there = get_or starters index 0

  abbrev rest : List ℕ
  rest = drop (index + 1) starters

  pub turn_is : settled_move (at_rest starters (drop index starters)) w
      ≡ (turn w there >>= after_turn starters there rest)
  turn_is =
      ap (λ xs. settled_move (at_rest starters xs) w) (drop_at starters index lt)
      ∙ then_assoc (turn w there) (λ taken. done (rest_turn starters there rest taken))
      (λ scene. done (settled_scene scene))

  pub turn_off : (goes_on : Bool) → goes_on ≡ false
      → settled_scene (rest_turn starters there rest (turn_in goes_on w))
      ≡ to_rests w starters rest
  turn_off goes_on is = ap (λ b. settled_scene (rest_turn starters there rest (turn_in b w))) is

  turn_on : (goes_on b : Bool) → goes_on ≡ true → is_rest_over w there ≡ b
      → settled_scene (rest_turn starters there rest (turn_in goes_on w))
      ≡ cond b (to_rests w starters rest) (w, within_rest starters there rest)
  turn_on goes_on b so is =
      ap (λ b. settled_scene (rest_turn starters there rest (turn_in b w))) so
      ∙ ap (λ b. cond b (to_rests w starters rest) (w, within_rest starters there rest)) is

  pub turn_spent : (goes_on : Bool) → goes_on ≡ true → is_rest_over w there ≡ true
      → settled_scene (rest_turn starters there rest (turn_in goes_on w))
      ≡ to_rests w starters rest
  turn_spent goes_on so is = turn_on goes_on true so is

  pub turn_stays : (goes_on : Bool) → goes_on ≡ true → is_rest_over w there ≡ false
      → settled_scene (rest_turn starters there rest (turn_in goes_on w))
      ≡ (w, place_at Serial starters index)
  turn_stays goes_on so is = turn_on goes_on false so is
      ∙ ap (λ xs. (w, at_rest starters xs)) (sym (drop_at starters index lt))

-- the play of a turn and of what happens behind it
module _ (starters : List ℕ) (index : ℕ) (lt : index < length starters) (old mid : State)
    (before after : BorderState) (q : ℕ) where
  abbrev me : ℕ
  me = get_or starters index 0

  abbrev left_here : List ℕ
  left_here = drop (index + 1) starters

  turn_plays : (result : Result Bool RunStop)
      → Plays q world_turned (λ w. turn w me) (λ goes_on w. done (turn_in goes_on w)) result old
      before mid after
      → Plays q world_of_scene (settled_move (at_rest starters (drop index starters)))
      (λ goes_on w. after_turn starters me left_here (turn_in goes_on w)) result old before mid
      after
  turn_plays result h =
      plays_from q world_of_scene (settled_move (at_rest starters (drop index starters)))
      (λ w. turn w me >>= after_turn starters me left_here)
      (λ goes_on w. after_turn starters me left_here (turn_in goes_on w)) result old mid before
      after (λ o e. turn_is (sent o e (world_of q old)) starters index lt)
      (plays_before q world_turned world_of_scene (λ w. turn w me)
      (after_turn starters me left_here) (λ goes_on w. done (turn_in goes_on w)) result old mid
      before after (behind_turn starters me left_here) h)

  pub turn_goes : (goes_on : Bool)
      → Plays q world_turned (λ w. turn w me) (λ goes_on w. done (turn_in goes_on w)) (Ok goes_on)
      old before mid after
      → (new : State) (place : Place)
      → ((o e : List ℕ)
      → settled_scene (rest_turn starters me left_here
      (turn_in goes_on (sent o e (world_of q mid))))
      ≡ (sent o e (world_of q new), place))
      → PlaysOn q (settled_move (at_rest starters (drop index starters))) old before
      (λ w. done (w, place)) new after
  turn_goes goes_on h new place passes =
      plays_and q (settled_move (at_rest starters (drop index starters)))
      (λ w. after_turn starters me left_here (turn_in goes_on w)) (λ w. done (w, place)) old mid new
      before after after (turn_plays (Ok goes_on) h).goes
      (plays_still q (λ w. after_turn starters me left_here (turn_in goes_on w))
      (λ w. done (w, place)) mid new after (λ o e. ap done (passes o e)))

  pub turn_halts : (stop : RunStop)
      → Plays {T = Bool} q world_turned (λ w. turn w me) (λ goes_on w. done (turn_in goes_on w))
      (Err stop) old before mid after
      → Plays {T = Bool} q world_of_scene (settled_move (at_rest starters (drop index starters)))
      (λ goes_on w. after_turn starters me left_here (turn_in goes_on w)) (Err stop) old before mid
      after
  turn_halts stop h = turn_plays (Err stop) h

-- ---- who lives of a place

pub others_of : (threads : List (Option Thread)) (t : ℕ) (ts : List ℕ) → AreLive threads (t ∷ ts)
    → AreLive threads ts
others_of threads t ts live k d h = live (suc k) d (omega (arith, h))

pub first_of_all : (threads : List (Option Thread)) (t : ℕ) (ts : List ℕ)
    → AreLive threads (t ∷ ts) → IsLiveThread threads t
first_of_all threads t ts live = live 0 0 (omega arith)
