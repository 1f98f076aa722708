-- What it means that a round was run over the kernel's state, or that it has stopped. This
-- project's own rules.
use Rattle.std.specs.Prelude.{ℕ, ◌≡◌, ◌+◌, ◌-◌, List, [], ◌∷◌, ◌++◌, drop, length, map, Some}
use Rattle.std.specs.Prelude.{Result, Ok, Err, IfOk, OnErr, OnOk}
use Rattle.dos_world.specs.World.{World, ready_threads}
use Rattle.dos_world.specs.Signals.{signalled, ripen}
use Rattle.dos_world.specs.Play.{Answer, Play, done, ◌>>=◌, posts_of}
use Rattle.dos_world.specs.declared.Post.{Post}
use Rattle.dos_world.specs.declared.Question.{Question}
use Rattle.dos_world.specs.declared.Scheme.{Scheme}
use Rattle.dos_io.specs.Borders.{BorderState, Crosses, StopsAt, exchanged}
use Rattle.dos_io.specs.declared.exchange.Exchange.{Exchange}
use Rattle.dos_io.specs.declared.exchange.Exchange.TheVariants.{Signals}
use Rattle.dos_io.specs.declared.shim.ShimStop.{ShimStop}
use Rattle.dos_io.specs.Exchanges.{answer_of}
use Rattle.dos_laws.specs.Plays.{world_ended}
use Rattle.flat_machine.specs.Rest.{serial_of}
use Rattle.flat_machine.specs.Round.{RoundEnd as FlatEnd, went, finished, stalled, counted}
use Rattle.flat_machine.specs.Round.{budgets, phase_of, with_budgets}
use Rattle.worker_pool.specs.Ran.{GrewBy}
use Rattle.kernel_calls.specs.Plays.{Plays}
use Rattle.kernel_calls.specs.StateWorld.{IsSound, sent, shim_stop, world_of}
use Rattle.kernel_calls.specs.declared.state.RunStop.{RunStop}
use Rattle.kernel_calls.specs.declared.state.State.{State}
use Rattle.group_rounds.specs.Parts.{KeepsCount}
use Rattle.group_rounds.specs.declared.round.RoundEnd.{RoundEnd}
use Rattle.group_rounds.specs.declared.round.RoundEnd.TheVariants.{Went, Done, Stalled}

-- ---- the shim and a round's signals

-- the shim stopped at a question, and so stops the run
pub record StopsRun (stop : RunStop) (before : BorderState) (question : Question)
    (after : BorderState) : Type 0 where
  pub reason : ShimStop
  pub is : shim_stop stop ≡ Some reason
  pub stopped : StopsAt before question reason after

-- The shim has answered with a list of signals. The signal point, and then that who waits no longer
-- is ready, makes the new state's world of the old one's, whatever bytes were sent.
pub record HasOpened (old : State) (before : BorderState) (new : State) (after : BorderState) :
    Type 0 where
  pub list : List Post
  pub crosses : Crosses before (exchanged (Signals old.round list)) after
  pub begins : (q : ℕ) (o e : List ℕ)
      → ripen (signalled (sent o e (world_of q old)) list) ≡ sent o e (world_of q new)

-- ---- rounds

-- what follows a parallel phase of so many instructions: the serial phase of these starters, and
-- then the round is counted
abbrev pub rest_of_round : (work : ℕ) → World → (starters : List ℕ) → Play FlatEnd
rest_of_round work w starters = serial_of w starters >>= λ last. done (went (counted last) work)

-- how a round ended, in this world, after so many instructions of its parallel phase
abbrev pub end_in : RoundEnd → ℕ → World → FlatEnd
end_in Went work w = went w work
end_in Done work w = finished w
end_in Stalled work w = stalled w

-- how many instructions a round that ended so has run: none where its phases weren't
abbrev pub work_in : RoundEnd → ℕ → ℕ
work_in Went work = work
work_in Done work = 0
work_in Stalled work = 0

-- the number of the next round, where this one began with a number
abbrev pub next_round : RoundEnd → ℕ → ℕ
next_round Went round = round + 1
next_round Done round = round
next_round Stalled round = round

-- the threads that are kept after a round from this world over these exchanges: those that are
-- ready
-- after its signal point, or where nothing was asked those from before
abbrev pub starters_after : World → List Exchange → List ℕ → List ℕ
starters_after w [] kept = kept
starters_after w (x ∷ es) kept = ready_threads (ripen (signalled w (posts_of (answer_of x))))

-- So it is after a round of the old state, over the exchanges that are told more.
pub record AreStarters (old : State) (told told_after : List Exchange) (kept starters : List ℕ) :
    Type 0 where
  pub exchanges : List Exchange
  pub told_is : told_after ≡ told ++ exchanges
  pub are : (q : ℕ) → starters ≡ starters_after (world_of q old) exchanges kept

-- ---- work

-- how many instructions the parallel phase of the ready threads runs
abbrev pub phase_work : Scheme → World → ℕ
phase_work scheme w =
    let opening : World = with_budgets w (ready_threads w) in
    budgets opening (ready_threads w) - budgets (phase_of scheme opening) (ready_threads w)

-- How many a round runs that goes over these answers and not to its end. The first answer is its
-- signals.
abbrev pub begun_work : Scheme → World → List Answer → ℕ
begun_work scheme w [] = 0
begun_work scheme w (signals ∷ answers) =
    phase_work scheme (ripen (signalled w (posts_of signals)))

-- the answers that are told more
abbrev pub answers_since : (told told_after : List Exchange) → List Answer
answers_since told told_after = map answer_of (drop (length told) told_after)

-- by how much the tally grew in a round that came to this, whose parallel phase ran so much
abbrev pub work_by : Result RoundEnd RunStop → ℕ → ℕ
work_by (Ok end) work = work_in end work
work_by (Err stop) work = work

-- The call plays this play of a round to an end, after so many instructions of its parallel phase,
-- by which the tally grew. Where it stops, they are those that were begun over the answers that are
-- told more.
pub record PlaysRound (quantum : ℕ) (play : World → Play FlatEnd)
    (begun : World → List Answer → ℕ) (result : Result RoundEnd RunStop) (old : State)
    (before : BorderState) (new : State) (after : BorderState) (tally tally_after : ℕ) : Type 0
  where
    pub work : ℕ
    pub plays : Plays quantum world_ended play (λ end w. done (end_in end work w)) result old before
        new after
    pub until : OnErr result ((o e : List ℕ)
        → begun (sent o e (world_of quantum old)) (answers_since before.shim.told after.shim.told)
        ≡ work)
    pub grew : GrewBy tally tally_after (work_by result work)

-- What it keeps, however it ends: a sound state of as many frames where it answers, with the number
-- of the next round, and where it stops a round that isn't counted. The owners are marked that
-- were.
pub record KeepsRound (result : Result RoundEnd RunStop) (old new : State) : Type 0 where
  pub sound : OnOk result (IsSound new)
  pub count : OnOk result (KeepsCount old new)
  pub round : IfOk result (λ end. new.round ≡ next_round end old.round)
  pub uncounted : OnErr result (new.round ≡ old.round)
  pub marked : new.frames.marked ≡ old.frames.marked
