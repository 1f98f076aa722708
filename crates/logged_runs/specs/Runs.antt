-- How far a run came over the answers of some exchanges. This project's own rules.
use Rattle.std.specs.Prelude.{◌≡◌, ◌++◌, ◌∷◌, [], ℕ, List, Option, map}
use Rattle.dos_world.specs.Play.{Play, over, questions, asks}
use Rattle.dos_world.specs.declared.Config.{Config}
use Rattle.dos_world.specs.declared.Ending.{Ending}
use Rattle.dos_world.specs.declared.Question.{Question}
use Rattle.dos_io.specs.Exchanges.{question_of, answer_of}
use Rattle.dos_io.specs.Outside.{grown}
use Rattle.dos_io.specs.declared.exchange.Exchange.{Exchange}
use Rattle.elf_image.specs.Image.{Image}
use Rattle.group_rounds.specs.Plays.{GoesOn}
use Rattle.group_rounds.specs.Kernels.{Held, kernel_world}
use Rattle.dos_world.specs.World.{World}
use Rattle.dpg_run.specs.Fits.{FitsFrom}
use Rattle.flat_machine.specs.Machine.{Finish, Seen, ends, machine_from, run_from}
use Rattle.flat_machine.specs.Opening.{opening}
use Rattle.dpg_run.specs.Report.{report, report_in}
use Rattle.dpg_run.specs.GroupRuns.{AreFronts}
use Rattle.worker_pool.specs.Ran.{GrewBy}

-- The run from this world asked exactly the questions of these exchanges, the last being its end,
-- and this is seen of it.
pub record RanFrom (w : World) (config : Config) (exchanges : List Exchange) (seen : Seen)
    : Type 0 where
  pub fits : FitsFrom w config exchanges
  pub is : machine_from w config (map answer_of exchanges) ≡ ends seen

-- It asked the questions of these exchanges and then this one, which may be its end; by then it had
-- sent these bytes.
pub record RanFromUntil (w : World) (config : Config) (exchanges : List Exchange)
    (question : Question) (output error : List ℕ) : Type 0 where
  pub asks : over (map answer_of exchanges) (run_from w config) ≡ asks question output error
  pub asked : questions (map answer_of exchanges) (run_from w config)
      ≡ map question_of exchanges ++ question ∷ []

-- It asked the questions of these exchanges, and these are fronts of what it sends until its next
-- question, or its end.
pub record RanFromAhead (w : World) (config : Config) (exchanges : List Exchange)
    (output error : List ℕ) : Type 0 where
  pub goes : (left : Play Finish) × GoesOn exchanges (run_from w config) left
  pub fronts : AreFronts output error (machine_from w config (map answer_of exchanges))

-- the same of the run of these images, from their opening
abbrev pub RanWhole : List Image → Config → List Exchange → Seen → Type 0
RanWhole images config exchanges seen = RanFrom (opening images config) config exchanges seen

abbrev pub RanUntil : List Image → Config → List Exchange → Question → (output error : List ℕ)
    → Type 0
RanUntil images config exchanges question output error =
    RanFromUntil (opening images config) config exchanges question output error

abbrev pub RanAhead : List Image → Config → List Exchange → (output error : List ℕ) → Type 0
RanAhead images config exchanges output error =
    RanFromAhead (opening images config) config exchanges output error

-- What the two outputs tell before a run and after it: they tell these bytes more.
pub record Put (out err out_after err_after : Option (List ℕ)) (output error : List ℕ) :
    Type 0 where
  pub out_is : out_after ≡ grown out output
  pub err_is : err_after ≡ grown err error

-- A kernel in which a run has ended so shows what is seen of it: its report is that run's.
pub record ReportsRun (kernel : Held) (ending : Ending) (seen : Seen) : Type 0 where
  pub ending_is : seen.ending ≡ ending
  pub report_is : report_in (kernel_world kernel) ending ≡ report seen

-- All of a run that came to its end: what is seen of it, what the outputs tell more, the kernel's
-- report, and what the workers' tally grew by.
pub record Ended (kernel : Held) (ending : Ending) (seen : Seen)
    (out err out_after err_after : Option (List ℕ)) (tally tally_after : ℕ) : Type 0 where
  pub shows : ReportsRun kernel ending seen
  pub put : Put out err out_after err_after seen.output seen.error
  pub counted : GrewBy tally tally_after seen.work

-- All of a run that stopped: what the outputs tell more, and what the workers' tally grew by.
pub record Halted (out err out_after err_after : Option (List ℕ)) (tally tally_after : ℕ)
    (output error : List ℕ) (work : ℕ) : Type 0 where
  pub put : Put out err out_after err_after output error
  pub counted : GrewBy tally tally_after work
