-- How many instructions the parallel phases of a run's rounds run, where it need not come to its
-- end. This project's own rule.
use Rattle.std.specs.Prelude.{ℕ, zero, suc, ◌+◌, ◌-◌, List, ◌++◌, ◌≡◌, Option, Some, None, Result}
use Rattle.std.specs.Prelude.{Ok, Err}
use Rattle.dos_world.specs.Play.{Answer, asks, gives}
use Rattle.dos_world.specs.World.{World}
use Rattle.dos_world.specs.declared.Config.{Config}
use Rattle.dos_world.specs.declared.Ending.{Ending}
use Rattle.dos_world.specs.declared.Scheme.{Scheme}
use Rattle.elf_image.specs.Image.{Image}
use Rattle.flat_machine.specs.Opening.{opening}
use Rattle.flat_machine.specs.Round.{finished, round, stalled, went}
use Rattle.group_rounds.specs.Rounds.{begun_work}
use Rattle.kernel_calls.specs.StateWorld.{sent, world_of}
use Rattle.kernel_calls.specs.declared.state.RunStop.{RunStop}
use Rattle.kernel_calls.specs.declared.state.State.{State}

-- Of at most so many rounds, over these answers: each round's own, and where the answers run out in
-- a round what its parallel phase has run.
abbrev pub rounds_work : Scheme → ℕ → World → List Answer → ℕ
rounds_work scheme zero w answers = 0
rounds_work scheme (suc n) w answers =
    elim (round scheme w answers) [
      | gives end rest ↦ elim end [
        | went next work ↦ work + rounds_work scheme n next rest
        | finished last ↦ 0
        | stalled last ↦ 0
      ]
      | asks question output error ↦ begun_work scheme w answers
    ]

-- of the rounds that the configuration leaves
abbrev pub work_from : World → Config → List Answer → ℕ
work_from w config answers = rounds_work config.scheme (config.rounds - w.rounds) w answers

-- of the run of these images
abbrev pub group_work : List Image → Config → List Answer → ℕ
group_work images config answers = work_from (opening images config) config answers

-- A call that ended so over these answers has run so many of them: all, or where the run goes on
-- from a state all but those from there, whatever bytes were sent.
abbrev pub HasWorked : Config → Result (Option Ending) RunStop → List Answer → World → State
    → (work : ℕ) → Type 0
HasWorked config (Ok None) answers w new work =
    (o : List ℕ) × (e : List ℕ) × ((more : List Answer) → work_from w config (answers ++ more)
    ≡ work + work_from (sent o e (world_of config.quantum new)) config more)
HasWorked config (Ok (Some ending)) answers w new work = work_from w config answers ≡ work
HasWorked config (Err stop) answers w new work = work_from w config answers ≡ work
