-- A leader's run and its follower's are alike. This project's own rule.
use Rattle.std.specs.Prelude.{◌≡◌, ℕ, List, Option, Result, Ok, Err, ⊤}
use Rattle.dos_world.specs.declared.Config.{Config}
use Rattle.dos_world.specs.declared.Ending.{Ending}
use Rattle.dos_world.specs.declared.Question.{Question}
use Rattle.dos_io.specs.declared.exchange.Exchange.{Exchange}
use Rattle.elf_image.specs.Image.{Image}
use Rattle.flat_machine.specs.Machine.{Seen}
use Rattle.group_rounds.specs.Kernels.{Held}
use Rattle.kernel_calls.specs.declared.state.RunStop.{RunStop}
use Rattle.kernel_calls.specs.declared.state.RunStop.TheVariants.{HostFault, OutFault, ErrFault}
use Rattle.kernel_calls.specs.declared.state.RunStop.TheVariants.{Memory}
use Rattle.logged_runs.specs.Runs.{Put, RanUntil, RanWhole, ReportsRun}
use Rattle.worker_pool.specs.Ran.{GrewBy}

-- no put of this run failed
abbrev pub IsUncut : Result Ending RunStop → Type 0
IsUncut (Err OutFault) = ⊥
IsUncut (Err ErrFault) = ⊥
IsUncut _ = ⊤

-- What a follower comes to whose leader came to this: that the leader has stopped is all that it is
-- told of why.
abbrev pub heard : Result Ending RunStop → Result Ending RunStop
heard (Err Memory) = Err HostFault
heard result = result

-- It came to its end, and this is seen of it.
pub record SeenWhole (images : List Image) (config : Config) (told : List Exchange) (kernel : Held)
    (ending : Ending) (output error : List ℕ) (tally tally_after : ℕ) : Type 0 where
  pub seen : Seen
  pub ran : RanWhole images config told seen
  pub shows : ReportsRun kernel ending seen
  pub counted : GrewBy tally tally_after seen.work
  pub output_is : output ≡ seen.output
  pub error_is : error ≡ seen.error

-- What is seen of a run that came to this, over what it was told: all of it, or all until a
-- question, where its host failed or memory was wanting.
abbrev pub SeenOf : Result Ending RunStop → List Image → Config → (told : List Exchange) → Held
    → (output error : List ℕ) → (tally tally_after : ℕ) → Type 0
SeenOf (Ok ending) images config told kernel output error tally tally_after =
    SeenWhole images config told kernel ending output error tally tally_after
SeenOf (Err HostFault) images config told kernel output error tally tally_after =
    (question : Question) × RanUntil images config told question output error
SeenOf (Err Memory) images config told kernel output error tally tally_after =
    (question : Question) × RanUntil images config told question output error
SeenOf (Err _) images config told kernel output error tally tally_after = ⊥

-- Both came to the same, were told the same, and put the same bytes.
pub record RanAlike (leader follower : Result Ending RunStop) (images : List Image)
    (config : Config) (told followed : List Exchange) (first : Held)
    (out err out_after err_after : Option (List ℕ))
    (second_out second_err second_out_after second_err_after : Option (List ℕ))
    (tally tally_after : ℕ) : Type 0 where
  pub result_same : follower ≡ heard leader
  pub told_same : followed ≡ told
  pub output : List ℕ
  pub error : List ℕ
  pub saw : SeenOf leader images config told first output error tally tally_after
  pub put : Put out err out_after err_after output error
  pub second_put : Put second_out second_err second_out_after second_err_after output error
