-- Laws of moves: one after another they are the machine's phases, its rounds and its run, in the
-- ownership scheme. The functions of `laws` promise them. This project's own.
use Rattle.std.specs.Prelude.{ℕ, ◌+◌, ◌≡◌, List, [], ◌∷◌, Some, None, Ok, ⊤}
use Rattle.std.specs.Prelude.{option_map}
use Rattle.dos_world.specs.World.{World, Thread, thread_at}
use Rattle.dos_world.specs.Play.{Play, Answer, Outcome, gives, asks, done, ◌>>=◌, over, questions}
use Rattle.dos_world.specs.declared.Config.{Config}
use Rattle.dos_world.specs.declared.Question.{Question}
use Rattle.dos_world.specs.declared.Scheme.TheVariants.{Ownership}
use Rattle.dos_world.specs.declared.Ending.TheVariants.{Done, Stalled}
use Rattle.elf_image.specs.Image.{Image}
use Rattle.flat_machine.specs.Alone.{budget_of, steps}
use Rattle.flat_machine.specs.Step.{step}
use Rattle.flat_machine.specs.Rest.{on, turn, turns, serial_of}
use Rattle.flat_machine.specs.Round.{RoundEnd, went, finished, stalled, all_alone, counted}
use Rattle.flat_machine.specs.Round.{round_of}
use Rattle.flat_machine.specs.Machine.{Finish, Ran, ends, needs, seen, result_of, group, machine}
use Rattle.flat_machine.specs.Machine.{run_from, machine_from}
use Rattle.flat_machine.specs.Opening.{opening}
use Rattle.group_moves.specs.Places.{Place, between_rounds, within_part, within_rest, at_end, Scene}
use Rattle.group_moves.specs.Places.{to_parts, to_rests, passed_on}
use Rattle.group_moves.specs.Moves.{MoveKind, begins, move_of}
use Rattle.group_moves.specs.Moments.{Moment, moment_at, first_moment, kind_at, moves_from, walk}
use Rattle.group_moves.specs.Moments.{settled_scene}
use Rattle.group_moves.specs.Moments.{ending_at, history}

-- ---- where moves lead

-- so many moves more from the scene that was given, or the question that was asked
abbrev pub walk_from : (more limit begun made : ℕ) → Outcome Scene → Outcome Moment
walk_from more limit begun made (gives scene rest) =
    walk more limit rest (moment_at begun made scene)
walk_from more limit begun made (asks question output error) = asks question output error

-- Over these answers some number of moves from a moment leads to the scene that a play gives, with
-- the answers that it leaves, whatever comes behind; or it asks what the play asks, where the play
-- does.
pub record Leads (limit : ℕ) (answers : List Answer) (from : Moment) (begun : ℕ)
    (play : Play Scene) : Type 0 where
  pub moves : ℕ
  pub made : ℕ
  pub is : (more : ℕ)
      → walk (moves + more) limit answers from
      ≡ walk_from more limit begun made (over answers play)

-- ---- moves

-- What happens without a move happens at once: nothing of it is left to happen.
abbrev pub PlacesAreSettled : Type 0
PlacesAreSettled = (w : World) (place : Place)
    → settled_scene (passed_on w place) ≡ passed_on w place

-- t lives and has this budget
abbrev pub HasLeft : World → ℕ → (budget : ℕ) → Type 0
HasLeft w t budget = option_map (λ (thread : Thread). thread.budget) (thread_at w t) ≡ Some budget

-- An instruction costs its thread one of its budget.
abbrev pub InstructionsCostOne : Type 0
InstructionsCostOne = (w next : World) (t left : ℕ) → step w t ≡ Ok next → HasLeft w t (left + 1)
    → HasLeft next t left

-- So does a turn of the serial phase behind which the part goes on.
abbrev pub TurnsCostOne : Type 0
TurnsCostOne = (w next : World) (t left : ℕ) (answers rest : List Answer)
    → HasLeft w t (left + 1) → over answers (turn w t) ≡ gives (on next) rest
    → HasLeft next t left

-- ---- the phases

-- The moves of a thread's part of the parallel phase are its instructions, until its budget is 0 or
-- it stops.
abbrev pub PartsAreInstructions : Type 0
PartsAreInstructions = (limit begun made t : ℕ) (starters ts : List ℕ) (w : World)
    (answers : List Answer)
    → Leads limit answers (moment_at begun made (passed_on w (within_part starters t ts))) begun
    (done (to_parts (steps (budget_of w t) w t) starters ts))

-- The moves of the parallel phase are all its threads' parts, one after another; the serial phase
-- comes behind them.
abbrev pub PartsAreTheParallelPhase : Type 0
PartsAreTheParallelPhase = (limit begun made : ℕ) (starters ts : List ℕ) (w : World)
    (answers : List Answer)
    → Leads limit answers (moment_at begun made (to_parts w starters ts)) begun
    (done (to_rests (all_alone w ts) starters starters))

-- The moves of a thread's part of the serial phase are its turns, until its budget is 0 or it
-- waits, yields or is gone.
abbrev pub RestsAreTurns : Type 0
RestsAreTurns = (limit begun made t : ℕ) (starters ts : List ℕ) (w : World)
    (answers : List Answer)
    → Leads limit answers (moment_at begun made (passed_on w (within_rest starters t ts))) begun
    (turns (budget_of w t) w t >>= λ last. done (to_rests last starters ts))

-- The moves of the serial phase are that phase, and the round is counted behind them.
abbrev pub RestsAreTheSerialPhase : Type 0
RestsAreTheSerialPhase = (limit begun made : ℕ) (starters ts : List ℕ) (w : World)
    (answers : List Answer)
    → Leads limit answers (moment_at begun made (to_rests w starters ts)) begun
    (serial_of w ts >>= λ last. done (counted last, between_rounds))

-- ---- a round

-- where a round leads that ended so
abbrev pub scene_of : RoundEnd → Scene
scene_of (went last work) = (last, between_rounds)
scene_of (finished last) = (last, at_end Done)
scene_of (stalled last) = (last, at_end Stalled)

-- Where a round begins next, its moves lead to where the machine's round does.
abbrev pub RoundsAreTheirMoves : Type 0
RoundsAreTheirMoves = (limit begun made : ℕ) (w : World) (answers : List Answer)
    → kind_at limit (moment_at begun made (w, between_rounds)) ≡ Some begins
    → Leads limit answers (moment_at begun made (w, between_rounds)) (begun + 1)
    (round_of Ownership w >>= λ end. done (scene_of end))

-- ---- a run

-- a run that did so much work, by where its history leads
abbrev pub finish_by : (work : ℕ) → Outcome Moment → Outcome Finish
finish_by work (gives m rest) =
    gives (record { ending = ending_at m.world m.place; world = m.world; work = work }) rest
finish_by work (asks question output error) = asks question output error

-- A walk that has come to a moment has come to the end: no move is next there.
abbrev pub IsHistoryOver : (limit : ℕ) → Outcome Moment → Type 0
IsHistoryOver limit (gives m rest) = kind_at limit m ≡ None
IsHistoryOver limit (asks question output error) = ⊤

-- Over these answers a run from a world is, after some number of moves and whatever number behind
-- them, what the walk along its history leads to: it has ended in the same world, and so with the
-- same bytes sent and the same statuses, and in the same way; or it asks the same question.
pub record EndsAs (w : World) (config : Config) (answers : List Answer) : Type 0 where
  pub moves : ℕ
  pub work : ℕ
  pub is : (more : ℕ)
      → machine_from w config answers
      ≡ result_of (questions answers (run_from w config))
      (finish_by work (walk (moves + more) config.rounds answers (first_moment w)))
  pub over_there : (more : ℕ)
      → IsHistoryOver config.rounds (walk (moves + more) config.rounds answers (first_moment w))

-- The moves of a run in the ownership scheme are the machine's run.
abbrev pub RunsAreTheirMoves : Type 0
RunsAreTheirMoves = (w : World) (config : Config) (answers : List Answer)
    → config.scheme ≡ Ownership → EndsAs w config answers

-- ---- histories

-- the moment behind the last of these moves
abbrev pub last_moment : Moment → List (MoveKind × Moment) → Moment
last_moment m [] = m
last_moment m (move ∷ moves) = last_moment move.1 moves

-- the move of this moment asks so, over what is left of the answers
pub record AsksAt (limit : ℕ) (m : Moment) (question : Question) (output error : List ℕ)
    : Type 0 where
  pub kind : MoveKind
  pub left : List Answer
  pub next : kind_at limit m ≡ Some kind
  pub asking : over left (move_of m.world m.place) ≡ asks question output error

-- what a walk comes to, by the last moment of a history
abbrev pub EndsAt : (limit : ℕ) → Moment → Outcome Moment → Type 0
EndsAt limit m (gives reached rest) = m ≡ reached
EndsAt limit m (asks question output error) = AsksAt limit m question output error

-- A walk leads to the last moment of the history of as many moves; where a question has no answer,
-- it is that which the last moment's move would ask.
abbrev pub WalksEndHistories : Type 0
WalksEndHistories = (moves limit : ℕ) (answers : List Answer) (m : Moment)
    → EndsAt limit (last_moment m (moves_from moves limit answers m)) (walk moves limit answers m)

-- what a walk comes to, and from there so many moves more
abbrev pub walk_on : (more limit : ℕ) → Outcome Moment → Outcome Moment
walk_on more limit (gives m rest) = walk more limit rest m
walk_on more limit (asks question output error) = asks question output error

-- So many moves and then more are one walk.
abbrev pub WalksGoOn : Type 0
WalksGoOn = (moves more limit : ℕ) (answers : List Answer) (m : Moment)
    → walk (moves + more) limit answers m ≡ walk_on more limit (walk moves limit answers m)

-- ---- the history of images

-- What is seen of a run, by the last moment of its history: no move is next there, and its world is
-- the one in which the run has ended; or its move would ask what the run needs.
abbrev pub FoldsAt : List Question → (work limit : ℕ) → Moment → Ran → Type 0
FoldsAt asked work limit m (ends all) =
    (kind_at limit m ≡ None)
    × (all
    ≡ seen asked (record { ending = ending_at m.world m.place; world = m.world; work = work }))
FoldsAt asked work limit m (needs question output error) = AsksAt limit m question output error

-- the history of so many moves or more folds to what the machine gives
pub record FoldsTo (images : List Image) (config : Config) (answers : List Answer) : Type 0 where
  pub moves : ℕ
  pub work : ℕ
  pub is : (more : ℕ)
      → FoldsAt (questions answers (group images config)) work config.rounds
      (last_moment (first_moment (opening images config))
      (history (moves + more) images config answers))
      (machine images config answers)

-- The history of images in the ownership scheme folds to the machine.
abbrev pub HistoriesFoldToTheMachine : Type 0
HistoriesFoldToTheMachine = (images : List Image) (config : Config) (answers : List Answer)
    → config.scheme ≡ Ownership → FoldsTo images config answers
