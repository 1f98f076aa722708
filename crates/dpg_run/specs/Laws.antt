-- Laws of a whole run; the functions of the module laws promise them.
use Rattle.std.specs.Prelude.{ℕ, ◌+◌, ◌<◌, ◌≡◌, ◌≤◌, List, [], length, All, ◌≢◌, ◌∷◌, ◌++◌, map}
use Rattle.std.specs.Prelude.{Some, None}
use Rattle.dos_world.specs.World.{World}
use Rattle.dos_world.specs.Lawful.{Lawful, IsConfig}
use Rattle.dos_world.specs.Play.{Answer, gives, over, questions}
use Rattle.dos_world.specs.declared.Config.{Config}
use Rattle.dos_world.specs.declared.Question.TheVariants.{Signals}
use Rattle.dos_world.specs.declared.Scheme.{Scheme}
use Rattle.round_core.specs.Protocol.{Protocol, Allows}
use Rattle.round_core.specs.Invariants.{Holds, Keeps, PhaseKeeps}
use Rattle.flat_machine.specs.Buffered.{buffered}
use Rattle.flat_machine.specs.Round.{counted}
use Rattle.dos_laws.specs.Standing.{IsFit}
use Rattle.elf_image.specs.Image.{Image}
use Rattle.group_open.specs.Laws.{IsAccepted}
use Rattle.flat_machine.specs.Opening.{opening, needed}
use Rattle.dos_world.specs.declared.Question.{Question}
use Rattle.dos_io.specs.declared.exchange.Exchange.{Exchange}
use Rattle.dos_io.specs.Exchanges.{question_of, answer_of}
use Rattle.kernel_calls.specs.StateWorld.{sent}
use Rattle.dpg_run.specs.Fits.{Fits, misfit, misfit_from}
use Rattle.dpg_run.specs.Reaching.{RunsTo, RunsToItsEnd, RunsToQuestion}
use Rattle.flat_machine.specs.Machine.{Finish, Seen, ends, machine, rounds_of, rounds_from, group}
use Rattle.flat_machine.specs.Machine.{run_from}

-- ---- invariants of a run, one for each count of its rounds

-- What a round keeps, in either scheme, the run owes for each round; a round more is counted below
-- the limit.
pub record RunOwes (protocol : Protocol) (limit : ℕ) (I : ℕ → Holds) : Type 0 where
  pub round_kept : (n : ℕ) → Keeps protocol (I n)
  pub buffered_kept : (n : ℕ) → PhaseKeeps (I n) buffered
  pub may_ask : (n m : ℕ) (w : World) → I n [] w → protocol.may (Signals m) w.output w.error
  pub counted_kept : (n : ℕ) (w : World) → n < limit → I n [] w → I (n + 1) [] (counted w)

-- what a run leaves: the invariant after as many rounds as it ran
abbrev pub LeavesFinish : ℕ → (ℕ → Holds) → Finish → Type 0
LeavesFinish limit I finish = (n : ℕ) × (n ≤ limit) × I n [] finish.world

-- So many rounds of a scheme keep it, from whatever world it holds of.
abbrev pub RunIsKept : Protocol → ℕ → (ℕ → Holds) → Type 0
RunIsKept protocol limit I =
    (scheme : Scheme) (count n : ℕ) (w : World) (work : ℕ) → n + count ≤ limit → I n [] w
    → Allows protocol (LeavesFinish limit I) (rounds_of scheme count w work)

-- ---- lawfulness

-- From a lawful world so many rounds of a scheme, where they may be run, lead to a lawful world,
-- after no more of them, over all answers that fit.
abbrev pub RunsEndLawful : Type 0
RunsEndLawful = (scheme : Scheme) (count : ℕ) (w : World) (work : ℕ)
    (answers rest : List Answer) (finish : Finish)
    → w.rounds + count ≤ 1000000 → Lawful w → All IsFit answers
    → over answers (rounds_of scheme count w work) ≡ gives finish rest
    → Lawful finish.world × (finish.world.rounds ≤ w.rounds + count)

-- So the run of 1 to 8 accepted images that fit the frames ends in a lawful world, after no more
-- rounds than it may have.
abbrev pub GroupsEndLawful : Type 0
GroupsEndLawful = (images : List Image) (config : Config) (answers rest : List Answer)
    (finish : Finish)
    → 1 ≤ length images → length images ≤ 8 → All IsAccepted images → IsConfig config
    → needed images ≤ config.frames → All IsFit answers
    → over answers (rounds_from (opening images config) config) ≡ gives finish rest
    → Lawful finish.world × (finish.world.rounds ≤ config.rounds)

-- ---- rounds

-- What is seen of a run has at most as many rounds as its configuration allows, whatever the shim
-- answers.
abbrev pub RunsKeepTheirLimit : Type 0
RunsKeepTheirLimit =
    (images : List Image) (config : Config) (answers : List Answer) (s : Seen)
    → machine images config answers ≡ ends s → s.rounds ≤ config.rounds

-- ---- exchanges that don't fit

-- Where a run has asked what some exchanges answer, and then another question than the next one's,
-- that one is the misfit.
abbrev pub MisfitsAreFirst : Type 0
MisfitsAreFirst =
    (images : List Image) (config : Config) (before : List Exchange) (next : Exchange)
    (behind : List Exchange) (asked : Question)
    → questions (map answer_of before) (group images config)
    ≡ map question_of before ++ asked ∷ [] → question_of next ≢ asked
    → misfit images config (before ++ next ∷ behind)
    ≡ Some (record { entry = length before; kept = question_of next; asked = asked })

-- Exchanges that fit have none.
abbrev pub FitsHaveNoMisfit : Type 0
FitsHaveNoMisfit = (images : List Image) (config : Config) (exchanges : List Exchange)
    → Fits images config exchanges → misfit images config exchanges ≡ None

-- ---- from a round on

-- What is seen of a run that asked the first exchanges' questions in so many rounds, which sent
-- these bytes and worked so much, and the second ones' from there.
abbrev pub seen_joined : (first second : List Exchange) → (output error : List ℕ) → (work : ℕ)
    → Seen → Seen
seen_joined first second output error work s = record s {
  questions = map question_of (first ++ second);
  output = output ++ s.output;
  error = error ++ s.error;
  work = work + s.work;
}

-- So many rounds, of those that the configuration allows, and then the run from where they lead,
-- whatever was sent before, are one run from where they began.
pub record RunsJoin : Type 0 where
  -- to its end
  pub ended : (w last : World) (config : Config) (rounds : ℕ) (first second : List Exchange)
      (output error : List ℕ) (s : Seen)
      → (ran : RunsTo config.scheme rounds w first output error last)
      → last.rounds ≡ w.rounds + rounds → last.rounds ≤ config.rounds
      → RunsToItsEnd last config second s
      → RunsToItsEnd w config (first ++ second) (seen_joined first second output error ran.work s)
  -- to a question
  pub asked : (w last : World) (config : Config) (rounds : ℕ) (first second : List Exchange)
      (question : Question) (output error output_then error_then : List ℕ)
      → RunsTo config.scheme rounds w first output error last
      → last.rounds ≡ w.rounds + rounds → last.rounds ≤ config.rounds
      → RunsToQuestion last config second question output_then error_then
      → RunsToQuestion w config (first ++ second) question (output ++ output_then)
      (error ++ error_then)
  -- and where the exchanges behind the first don't fit, the number goes on
  pub misfits : (w last : World) (config : Config) (rounds : ℕ) (first rest : List Exchange)
      (output error : List ℕ) (n : ℕ) (o e : List ℕ)
      → RunsTo config.scheme rounds w first output error last
      → last.rounds ≡ w.rounds + rounds → last.rounds ≤ config.rounds
      → misfit_from n (first ++ rest) (run_from (sent o e w) config)
      ≡ misfit_from (n + length first) rest
      (run_from (sent (o ++ output) (e ++ error) last) config)
