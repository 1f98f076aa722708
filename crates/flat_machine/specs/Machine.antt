-- A whole run: the machine of one thread and one flat memory. This project's own profile.
use Rattle.std.specs.Prelude.{ℕ, zero, suc, ◌+◌, ◌-◌, List, map, Option, Some, None, if◌then◌else◌}
use Rattle.dos_world.specs.World.{World, Process, live, ended, live_threads}
use Rattle.dos_world.specs.Play.{Play, Answer, Outcome, gives, asks, done, ask, ◌>>=◌, over}
use Rattle.dos_world.specs.Play.{questions}
use Rattle.dos_world.specs.declared.Config.{Config}
use Rattle.dos_world.specs.declared.Ending.{Ending}
use Rattle.dos_world.specs.declared.Ending.TheVariants.{Done, Limit, Stalled}
use Rattle.dos_world.specs.declared.Question.{Question}
use Rattle.dos_world.specs.declared.Question.TheVariants.{End as end_question}
use Rattle.dos_world.specs.declared.Scheme.{Scheme}
use Rattle.dos_world.specs.declared.Scheme.TheVariants.{Buffered}
use Rattle.flat_machine.specs.Round.{went, finished, stalled, phase_of, round_by, is_none_of}
use Rattle.elf_image.specs.Image.{Image}
use Rattle.flat_machine.specs.Opening.{opening}

-- ---- a run, whatever the parallel phase of its rounds is

-- how a run ended, in which world, and how many instructions its parallel phases ran
pub record Finish : Type 0 where
  pub ending : Ending
  pub world : World
  pub work : ℕ

-- where no round is left: Done where nobody lives, else Limit
abbrev pub at_limit : World → ℕ → Finish
at_limit w work = record {
  ending = if is_none_of (live_threads w) then Done else Limit;
  world = w;
  work = work;
}

-- at most this many rounds more, after so much work
abbrev pub rounds_by : (World → World) → ℕ → World → ℕ → Play Finish
rounds_by phase zero w work = done (at_limit w work)
rounds_by phase (suc n) w work =
    round_by phase w >>= λ e. elim e [
      | went next more ↦ rounds_by phase n next (work + more)
      | finished last ↦ done (record { ending = Done; world = last; work = work })
      | stalled last ↦ done (record { ending = Stalled; world = last; work = work })
    ]

-- the rounds that the configuration leaves
abbrev pub all_rounds_by : (World → World) → World → Config → Play Finish
all_rounds_by phase w config = rounds_by phase (config.rounds - w.rounds) w 0

-- the shim is told the end, which has no answer of its own
abbrev pub told_end : Finish → Play Finish
told_end finish = ask (end_question finish.ending finish.world.rounds) finish.world.output
    finish.world.error (λ _. done finish)

-- the run from a world, its end told
abbrev pub run_by : (World → World) → World → Config → Play Finish
run_by phase w config = all_rounds_by phase w config >>= told_end

-- ---- the run in the scheme of its configuration

-- at most this many rounds more, after so much work
abbrev pub rounds_of : Scheme → ℕ → World → ℕ → Play Finish
rounds_of scheme n w work = rounds_by (phase_of scheme) n w work

-- the rounds that the configuration leaves
abbrev pub rounds_from : World → Config → Play Finish
rounds_from w config = all_rounds_by (phase_of config.scheme) w config

-- the run from a world, its end told
abbrev pub run_from : World → Config → Play Finish
run_from w config = run_by (phase_of config.scheme) w config

-- the run of these images
abbrev pub group : List Image → Config → Play Finish
group images config = run_from (opening images config) config

-- ---- what is seen of a run

-- the status of a process, or none where it lives
abbrev pub status_in : Process → Option ℕ
status_in process = elim process.life [ live h ↦ None | ended status collected ↦ Some status ]

-- The questions in order, the last being the end; the bytes sent; each process's status; how it
-- ended, after how many rounds; and its work.
pub record Seen : Type 0 where
  pub questions : List Question
  pub output : List ℕ
  pub error : List ℕ
  pub statuses : List (Option ℕ)
  pub ending : Ending
  pub rounds : ℕ
  pub work : ℕ

-- a whole run, or the question that it needs an answer to, with the bytes so far
pub data Ran : Type 0 where
  ends : Seen → Ran
  needs : Question → (output error : List ℕ) → Ran

-- what is seen, by the questions and the finish
abbrev pub seen : List Question → Finish → Seen
seen asked f = record {
  questions = asked;
  output = f.world.output;
  error = f.world.error;
  statuses = map status_in f.world.processes;
  ending = f.ending;
  rounds = f.world.rounds;
  work = f.work;
}

-- a run by what it comes to over its answers
abbrev pub result_of : List Question → Outcome Finish → Ran
result_of asked (gives finish rest) = ends (seen asked finish)
result_of asked (asks question output error) = needs question output error

-- the run from a world over these answers of the shim, whatever its parallel phases are
abbrev pub machine_by : (World → World) → World → Config → List Answer → Ran
machine_by phase w config answers =
    result_of (questions answers (run_by phase w config))
    (over answers (all_rounds_by phase w config))

-- the run from a world over these answers of the shim
abbrev pub machine_from : World → Config → List Answer → Ran
machine_from w config answers = machine_by (phase_of config.scheme) w config answers

-- the run of these images over these answers of the shim
abbrev pub machine : List Image → Config → List Answer → Ran
machine images config answers = machine_from (opening images config) config answers

-- the same in the buffered scheme, whatever scheme the configuration names
abbrev pub machine_b : List Image → Config → List Answer → Ran
machine_b images config answers = machine images (record config { scheme = Buffered }) answers
