-- What it means that the kernel has run a group to its end, or that the run has stopped. This
-- project's own rules.
use Rattle.std.specs.Prelude.{ℕ, ◌≡◌, ◌≢◌, ◌<◌, ◌+◌, ◌-◌, Bool, true, false, not, List, [], ◌∷◌}
use Rattle.std.specs.Prelude.{◌++◌}
use Rattle.std.specs.Prelude.{map, min, Option, ⊤}
use Rattle.std.specs.Prelude.{Some, None, Result, Ok, Err, IfErr, IfOk, OnErr, OnSome}
use Rattle.dos_world.specs.World.{World}
use Rattle.dos_world.specs.Play.{Play, done, over, questions, asks}
use Rattle.dos_world.specs.declared.Config.{Config}
use Rattle.dos_world.specs.declared.Ending.{Ending}
use Rattle.dos_world.specs.declared.Ending.TheVariants.{Done as done_ending}
use Rattle.dos_world.specs.declared.Ending.TheVariants.{Stalled as stalled_ending}
use Rattle.dos_world.specs.declared.Question.{Question}
use Rattle.dos_io.specs.Exchanges.{question_of, answer_of}
use Rattle.dos_io.specs.Borders.{BorderState}
use Rattle.dos_io.specs.Outside.{IsFront}
use Rattle.dos_io.specs.Shims.{HasNoEnd}
use Rattle.dos_io.specs.declared.exchange.Exchange.{Exchange}
use Rattle.dos_io.specs.declared.exchange.Exchange.TheVariants.{End as end_exchange}
use Rattle.dos_laws.specs.Plays.{world_ended}
use Rattle.worker_pool.specs.Ran.{GrewBy}
use Rattle.kernel_calls.specs.Plays.{Plays}
use Rattle.kernel_calls.specs.StateWorld.{sent, shim_stop, world_of}
use Rattle.kernel_calls.specs.declared.state.RunStop.{RunStop}
use Rattle.kernel_calls.specs.declared.state.RunStop.TheVariants.{OutFault, ErrFault}
use Rattle.kernel_calls.specs.declared.state.State.{State}
use Rattle.group_rounds.specs.Plays.{GoesOn}
use Rattle.group_rounds.specs.Rounds.{answers_since, end_in}
use Rattle.group_rounds.specs.StatePlays.{Telling, ToldMore, told_at}
use Rattle.group_rounds.specs.Outside.{HaveCauses, is_end_question}
use Rattle.group_rounds.specs.declared.round.RoundEnd.{RoundEnd}
use Rattle.group_rounds.specs.declared.round.RoundEnd.TheVariants.{Went, Done, Stalled}
use Rattle.dpg_run.specs.Fits.{FitsFrom}
use Rattle.dpg_run.specs.Work.{HasWorked, work_from}
use Rattle.dpg_run.specs.Reaching.{RunsToItsEnd, RunsToQuestion}
use Rattle.flat_machine.specs.Machine.{Finish, Ran, Seen, machine_from, rounds_from, rounds_of}
use Rattle.flat_machine.specs.Machine.{run_from}
use Rattle.flat_machine.specs.Machine.{ends, needs}
use Rattle.flat_machine.specs.Round.{round_of}
use Rattle.flat_machine.specs.Machine.{status_in}

-- how a run ended, in which world, after so much work
abbrev pub finish_in : Ending → World → ℕ → Finish
finish_in ending w work = record { ending = ending; world = w; work = work }

-- how a run ends with a round that ended so, if it does
abbrev pub ending_by : RoundEnd → Option Ending
ending_by Went = None
ending_by Done = Some done_ending
ending_by Stalled = Some stalled_ending

-- The call plays the rounds of the machine from the old state's world, to an ending, after so much
-- work, or until it stops. The tally grew by their work over the answers that are told more.
pub record PlaysRounds (config : Config) (result : Result Ending RunStop) (old : State)
    (before : BorderState) (new : State) (after : BorderState) (tally tally_after : ℕ) : Type 0
  where
    pub work : ℕ
    pub plays : Plays config.quantum (λ finish. finish.world) (λ w. rounds_from w config)
        (λ ending w. done (finish_in ending w work)) result old before new after
    pub worked : work_from (world_of config.quantum old) config
        (answers_since before.shim.told after.shim.told) ≡ work
    pub grew : GrewBy tally tally_after work

-- the configuration, with no more rounds than so many
abbrev pub limited_by : ℕ → Config → Config
limited_by limit config = record config { rounds = min limit config.rounds }

-- how a round ended after which a run has ended so, or goes on
abbrev pub end_by : Option Ending → RoundEnd
end_by None = Went
end_by (Some stalled_ending) = Stalled
end_by (Some _) = Done

-- The call plays one round of the old state's world, whatever bytes were sent before.
pub record PlaysNext (config : Config) (result : Result (Option Ending) RunStop) (old : State)
    (before : BorderState) (new : State) (after : BorderState) : Type 0 where
  pub work : ℕ
  pub plays : Plays config.quantum world_ended (λ w. round_of config.scheme w)
      (λ ended w. done (end_in (end_by ended) work w)) result old before new after

-- the rounds that the configuration leaves to a world, after so much work
abbrev pub rounds_left : Config → (work : ℕ) → World → Play Finish
rounds_left config work w = rounds_of config.scheme (config.rounds - w.rounds) w work

-- what is left of a run that has ended so, or goes on
abbrev pub left_of_run : Config → Option Ending → (work : ℕ) → World → Play Finish
left_of_run config None work w = rounds_left config work w
left_of_run config (Some ending) work w = done (finish_in ending w work)

-- Where the run goes on after so many rounds, they are counted; where it ended before, fewer are.
abbrev pub IsCountedIn : Option Ending → (rounds round now : ℕ) → Type 0
IsCountedIn None rounds round now = now ≡ round + rounds
IsCountedIn (Some ending) rounds round now = now < round + rounds

-- The call plays some of the rounds that the configuration leaves to the old state's world,
-- whatever bytes were sent before, and whatever work was done: to an ending, or so far that the
-- rest is left, or until it stops. Its own work is what the tally grew by.
pub record PlaysSome (config : Config) (result : Result (Option Ending) RunStop) (old : State)
    (before : BorderState) (new : State) (after : BorderState) (tally tally_after : ℕ) : Type 0
  where
    pub work : ℕ
    pub plays : (earlier : ℕ) → Plays config.quantum (λ finish. finish.world)
        (λ w. rounds_left config earlier w)
        (λ ended w. left_of_run config ended (earlier + work) w) result old before new after
    pub worked : (o e : List ℕ) → HasWorked config result
        (answers_since before.shim.told after.shim.told) (sent o e (world_of config.quantum old))
        new work
    pub grew : GrewBy tally tally_after work

-- The rounds of the machine from the old state's world, over the exchanges that are told more, have
-- ended so, in the new state's world with the bytes that are told more, after so much work,
-- whatever bytes were sent before.
pub record RanRounds (config : Config) (old : State) (before : Telling) (ending : Ending)
    (new : State) (after : Telling) (work : ℕ) : Type 0 where
  pub more : ToldMore before after
  pub goes : (o e : List ℕ)
      → GoesOn more.exchanges (rounds_from (sent o e (world_of config.quantum old)) config)
      (done (finish_in ending
      (sent (o ++ more.output) (e ++ more.error) (world_of config.quantum new)) work))

-- what is seen of a run that asked these exchanges' questions and sent these bytes, and ended so in
-- this state, after so much work
abbrev pub seen_of_run : List Exchange → (output error : List ℕ) → Ending → State → (work : ℕ)
    → Seen
seen_of_run exchanges output error ending new work = record {
  questions = map question_of exchanges;
  output = output;
  error = error;
  statuses = map status_in new.table.processes;
  ending = ending;
  rounds = new.round - 1;
  work = work;
}

-- The machine from the old state's world, over the exchanges that are told more, has sent what is
-- told more, has these statuses and has ended so, after so much work. The exchanges fit. So it does
-- behind whatever bytes.
pub record RanGroup (config : Config) (old : State) (before : Telling) (ending : Ending)
    (new : State) (after : Telling) (work : ℕ) : Type 0 where
  pub more : ToldMore before after
  pub fits : FitsFrom (world_of config.quantum old) config more.exchanges
  pub ends : machine_from (world_of config.quantum old) config (map answer_of more.exchanges)
      ≡ ends (seen_of_run more.exchanges more.output more.error ending new work)
  pub behind : RunsToItsEnd (world_of config.quantum old) config more.exchanges
      (seen_of_run more.exchanges more.output more.error ending new work)

-- The run from the old state's world has come to a question, which may be its end, after the
-- exchanges and the bytes that are told more. So it does behind whatever bytes.
pub record StoppedGroup (config : Config) (old : State) (before after : Telling)
    (asked : Option Question) : Type 0 where
  pub more : ToldMore before after
  pub question : Question
  pub asked_is : asked ≡ Some question
  pub asks : over (map answer_of more.exchanges) (run_from (world_of config.quantum old) config)
      ≡ asks question more.output more.error
  pub asked_so : questions (map answer_of more.exchanges)
      (run_from (world_of config.quantum old) config)
      ≡ map question_of more.exchanges ++ question ∷ []
  pub behind : RunsToQuestion (world_of config.quantum old) config more.exchanges question
      more.output more.error

-- These are fronts of what a run sends to output and to error, whether it ends or needs an answer.
abbrev pub AreFronts : (output error : List ℕ) → Ran → Type 0
AreFronts output error (ends seen) = IsFront output seen.output × IsFront error seen.error
AreFronts output error (needs question all_output all_error) =
    IsFront output all_output × IsFront error all_error

-- The run was cut off: it has asked what the exchanges that are told more asked, and would go on.
-- The bytes that the sinks tell more are fronts of what the machine sends over the answers of those
-- exchanges.
pub record CutGroup (config : Config) (old : State) (before after : Telling) : Type 0 where
  pub more : ToldMore before after
  pub goes : (left : Play Finish)
      × GoesOn more.exchanges (run_from (world_of config.quantum old) config) left
  pub fronts : AreFronts more.output more.error (machine_from (world_of config.quantum old) config
      (map answer_of more.exchanges))

-- The last of these exchanges is the end of a run that ended so, after so many rounds, and none
-- before it is an end.
pub record AreEnded (ending : Ending) (rounds : ℕ) (told : List Exchange) : Type 0 where
  pub before : List Exchange
  pub told_is : told ≡ before ++ end_exchange ending rounds ∷ []
  pub running : HasNoEnd before

-- Whether the kernel has failed after a run that came to this, where the shim's last stop was at
-- that question: not where the run ended or the shim stopped at its end, and else it has.
abbrev pub has_failed : Result Ending RunStop → Option Question → Bool
has_failed (Ok ending) asked = false
has_failed (Err stop) asked =
    elim (shim_stop stop) [ None ↦ true | Some reason ↦ not (is_end_question asked) ]

-- What a whole run leaves, by how it ended: of the machine, of the tally, of who failed, and of the
-- kernel. A sink's count of faults stands unless it is what stopped the run.
pub record RunsGroup (config : Config) (result : Result Ending RunStop) (old : State)
    (before : BorderState) (new : State) (after : BorderState) (has : Bool)
    (tally tally_after : ℕ) : Type 0 where
  pub runs : IfOk result (λ ending. (work : ℕ)
      × RanGroup config old (told_at before) ending new (told_at after) work
      × GrewBy tally tally_after work)
  pub asks : IfErr result (λ stop. OnSome (shim_stop stop)
      (StoppedGroup config old (told_at before) (told_at after) after.shim.asked))
  pub cut : OnErr result (CutGroup config old (told_at before) (told_at after))
  pub grew : OnErr result (GrewBy tally tally_after (work_from (world_of config.quantum old) config
      (answers_since before.shim.told after.shim.told)))
  pub told_end : IfOk result (λ ending. AreEnded ending (new.round - 1) after.shim.told)
  pub failed : has ≡ has_failed result after.shim.asked
  pub causes : HaveCauses result before.shim after.shim before.out_faults after.out_faults
      before.err_faults after.err_faults
  pub out_steady : result ≢ Err OutFault → after.out_faults ≡ before.out_faults
  pub err_steady : result ≢ Err ErrFault → after.err_faults ≡ before.err_faults
