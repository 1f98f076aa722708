-- What it means that a run has come so many rounds far, and that it goes on from there, whatever
-- was sent before. This project's own rules.
use Rattle.std.specs.Prelude.{ℕ, ◌≡◌, ◌+◌, List, [], ◌∷◌, ◌++◌, map, Option, Some, None, ⊤}
use Rattle.dos_world.specs.Play.{asks, over, questions}
use Rattle.dos_world.specs.World.{World}
use Rattle.dos_world.specs.declared.Config.{Config}
use Rattle.dos_world.specs.declared.Ending.{Ending}
use Rattle.dos_world.specs.declared.Question.{Question}
use Rattle.dos_world.specs.declared.Scheme.{Scheme}
use Rattle.dos_io.specs.Borders.{BorderState, Crossing, Tells}
use Rattle.dos_io.specs.Exchanges.{answer_of, question_of}
use Rattle.dos_io.specs.Shims.{HasNoEnd}
use Rattle.dos_io.specs.declared.exchange.Exchange.{Exchange}
use Rattle.worker_pool.specs.Ran.{GrewBy}
use Rattle.flat_machine.specs.Machine.{Seen, ends, machine_from, rounds_of, run_from}
use Rattle.kernel_calls.specs.Plays.{GoesOver, sent_then}
use Rattle.kernel_calls.specs.StateWorld.{sent, world_of}
use Rattle.kernel_calls.specs.declared.state.State.{State}
use Rattle.group_rounds.specs.Plays.{GoesOn}
use Rattle.group_rounds.specs.StatePlays.{Telling, ToldMore}
use Rattle.dpg_run.specs.Fits.{FitsFrom}
use Rattle.dpg_run.specs.Work.{work_from}

-- ---- so many rounds

-- So many rounds of a scheme from a world, over these exchanges, send these bytes and lead to that
-- world, whatever was sent before, and however many rounds are left behind them.
pub record RunsTo (scheme : Scheme) (rounds : ℕ) (w : World) (exchanges : List Exchange)
    (output error : List ℕ) (last : World) : Type 0 where
  pub work : ℕ
  pub goes : (o e : List ℕ) (left earlier : ℕ)
      → GoesOn exchanges (rounds_of scheme (rounds + left) (sent o e w) earlier)
      (rounds_of scheme left (sent (o ++ output) (e ++ error) last) (earlier + work))

-- The same of the calls of a kernel, over what crosses the border.
pub record RunsOn (config : Config) (rounds : ℕ) (old : State) (before : BorderState) (new : State)
    (after : BorderState) : Type 0 where
  pub crossings : List Crossing
  pub tells : Tells before crossings after
  pub work : ℕ
  pub goes : (o e : List ℕ) (left earlier : ℕ)
      → GoesOver o e crossings
      (rounds_of config.scheme (rounds + left) (sent o e (world_of config.quantum old)) earlier)
      (rounds_of config.scheme left (sent_then crossings o e (world_of config.quantum new))
      (earlier + work))

-- Where the run goes on after so many rounds, they were run.
abbrev pub HasRunOn : Option Ending → Config → (rounds : ℕ) → State → BorderState → State
    → BorderState → Type 0
HasRunOn None config rounds old before new after = RunsOn config rounds old before new after
HasRunOn (Some ending) config rounds old before new after = ⊤

-- So many rounds were run from the old state's world to the new one's, over the exchanges and with
-- the bytes that are told more, and the tally grew by their work.
pub record RanTo (config : Config) (rounds : ℕ) (old : State) (before : Telling) (new : State)
    (after : Telling) (tally tally_after : ℕ) : Type 0 where
  pub more : ToldMore before after
  pub runs : RunsTo config.scheme rounds (world_of config.quantum old) more.exchanges more.output
      more.error (world_of config.quantum new)
  pub counted : new.round ≡ old.round + rounds
  pub running : HasNoEnd after.exchanges
  pub grew : GrewBy tally tally_after (work_from (world_of config.quantum old) config
      (map answer_of more.exchanges))

-- ---- from wherever it stands to its end

-- what is seen of a run before which these bytes were sent
abbrev pub seen_behind : (o e : List ℕ) → Seen → Seen
seen_behind o e s = record s { output = o ++ s.output; error = e ++ s.error }

-- Whatever bytes were sent before, the run from this world asks exactly the questions of these
-- exchanges, the last being its end, and this is seen of it, behind them.
pub record RunsToItsEnd (w : World) (config : Config) (exchanges : List Exchange) (seen : Seen)
    : Type 0 where
  pub fits : (o e : List ℕ) → FitsFrom (sent o e w) config exchanges
  pub is : (o e : List ℕ) → machine_from (sent o e w) config (map answer_of exchanges)
      ≡ ends (seen_behind o e seen)

-- Whatever bytes were sent before, the run from this world asks the questions of these exchanges
-- and then this one, which may be its end; by then it has sent these bytes.
pub record RunsToQuestion (w : World) (config : Config) (exchanges : List Exchange)
    (question : Question) (output error : List ℕ) : Type 0 where
  pub asks : (o e : List ℕ) → over (map answer_of exchanges) (run_from (sent o e w) config)
      ≡ asks question (o ++ output) (e ++ error)
  pub asked : (o e : List ℕ) → questions (map answer_of exchanges) (run_from (sent o e w) config)
      ≡ map question_of exchanges ++ question ∷ []
