-- A walk behind instructions of one thread.
use Rattle.std.proofs.Common.{ℕ, ◌+◌, ◌≡◌, sym, subst, List}
use Rattle.group_moves.specs.Moments.{moment_at}
use Rattle.kernel_calls.specs.StateWorld.{sent, world_of}
use Rattle.kernel_calls.specs.declared.state.State.{State}
use Rattle.group_walk.specs.Places.{place_at}
use Rattle.group_walk.specs.Stretches.{HasGoneOn, GoesManyOn}
use Rattle.group_walk.specs.Walks.{Walk}
use Rattle.group_walk.specs.declared.walker.Phase.{Phase}
use Rattle.group_walk.specs.declared.walker.Walker.TheInside.{Inside}
use Rattle.group_walk.proofs.Making.{seen_of}

-- the fields behind so many moves, in the phase and at the index to which they come
abbrev pub run_to : Inside → (ran : ℕ × Phase × ℕ) → (count : ℕ) → Inside
run_to i ran count =
    record i { phase = ran.1; index = ran.2; made = i.made + count }

-- Such moves lead from a place in one phase, among these starters.
abbrev pub AreRun : (stops kept : List ℕ) → (thread : ℕ) → Inside → Phase → (starters : List ℕ)
    → State
    → (ran : ℕ × Phase × ℕ) → Type 0
AreRun stops kept thread i phase starters s' ran = (q limit begun made : ℕ) (o e : List ℕ)
    → GoesManyOn stops kept ran.0 limit thread
    (moment_at begun made (sent o e (world_of q i.state), place_at phase starters i.index))
    (moment_at begun (made + ran.0) (sent o e (world_of q s'), place_at ran.1 starters ran.2))

module _ (i : Inside) (old : Walk) (is : seen_of i ≡ old) (stops kept : List ℕ) (thread : ℕ)
    (s' : State)
    (phase : Phase) (at : i.phase ≡ phase) (starters : List ℕ) (are : starters ≡ i.starters.items)
    (ran : ℕ × Phase × ℕ) (runs : AreRun stops kept thread i phase starters s' ran) where
  run_there : HasGoneOn stops kept ran.0 old (seen_of (run_to (record i { state = s' }) ran ran.0))
  run_there =
      let here : AreRun stops kept thread i i.phase i.starters.items s' ran =
      subst (λ p. AreRun stops kept thread i p i.starters.items s' ran) (sym at)
      (subst (λ ts. AreRun stops kept thread i phase ts s' ran) are runs) in
      subst (λ w. HasGoneOn stops kept ran.0 w (seen_of
      (run_to (record i { state = s' }) ran ran.0))) is
      (record {
        thread = thread;
        runs = λ o e. here i.config.quantum i.config.rounds i.begun i.made o e;
      })

  pub has-run : (count : ℕ × Phase × ℕ) (j : Inside) (moves : ℕ) → count ≡ ran
      → j ≡ record i { state = s' } → moves ≡ count.0
      → HasGoneOn stops kept count.0 old (seen_of (run_to j count moves))
  has-run count j moves same inside all =
      subst (λ n. HasGoneOn stops kept count.0 old (seen_of (run_to j count n))) (sym all)
      (subst (λ (k : Inside). HasGoneOn stops kept count.0 old (seen_of (run_to k count count.0)))
      (sym inside)
      (subst (λ (x : ℕ × Phase × ℕ). HasGoneOn stops kept x.0 old
      (seen_of (run_to (record i { state = s' }) x x.0))) (sym same) run_there))
