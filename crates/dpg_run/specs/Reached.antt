-- How far a run has come that was to come to a round. This project's own rules.
use Rattle.std.specs.Prelude.{ℕ, ◌≡◌, ◌-◌, ◌<◌, Bool, false, List, Option, Result, Ok, Err}
use Rattle.dos_world.specs.declared.Config.{Config}
use Rattle.dos_world.specs.declared.Ending.{Ending}
use Rattle.dos_io.specs.Borders.{BorderState, BorderStands}
use Rattle.dos_io.specs.Shims.{ShimState}
use Rattle.kernel_calls.specs.declared.state.RunStop.{RunStop}
use Rattle.kernel_calls.specs.declared.state.State.{State}
use Rattle.group_rounds.specs.StatePlays.{told_at}
use Rattle.dpg_run.specs.GroupRuns.{RunsGroup, limited_by}
use Rattle.dpg_run.specs.Reaching.{RanTo}
use Rattle.dpg_run.specs.declared.reaching.Reached.{Reached}
use Rattle.dpg_run.specs.declared.reaching.Reached.TheVariants.{Round, Ended}

-- It has come so many rounds further: the kernel hasn't failed, and nothing outside did.
pub record ReachedRound (config : Config) (rounds : ℕ) (old : State) (before : BorderState)
    (new : State) (after : BorderState) (failed : Bool) (tally tally_after : ℕ) : Type 0 where
  pub ran : RanTo config rounds old (told_at before) new (told_at after) tally tally_after
  pub stands : BorderStands before after
  pub failed_is : failed ≡ false

-- It has ended or stopped, as a whole run does; and so does one whose limit is this round, where
-- that is the lower one.
pub record RanShort (config : Config) (round : ℕ) (result : Result Ending RunStop) (old : State)
    (before : BorderState) (new : State) (after : BorderState) (failed : Bool)
    (tally tally_after : ℕ) : Type 0 where
  pub runs : RunsGroup config result old before new after failed tally tally_after
  pub limited : RunsGroup (limited_by round config) result old before new after failed tally
      tally_after

-- What a run leaves that was to come to this round, by how it ended: it has come there; or its end
-- came before; or it stopped.
abbrev pub ArrivesAt : Config → (round : ℕ) → Result Reached RunStop → State → BorderState → State
    → BorderState → (failed : Bool) → (tally tally_after : ℕ) → Type 0
ArrivesAt config round (Ok Round) old before new after failed tally tally_after =
    ReachedRound config (round - (old.round - 1)) old before new after failed tally tally_after
ArrivesAt config round (Ok (Ended ending)) old before new after failed tally tally_after =
    RanShort config round (Ok ending) old before new after failed tally tally_after
    × (new.round - 1 < round)
ArrivesAt config round (Err stop) old before new after failed tally tally_after =
    RanShort config round (Err stop) old before new after failed tally tally_after

-- what a border of these shows
abbrev pub border_of : ShimState → (output error : Option (List ℕ))
    → (out_faults err_faults : ℕ) → BorderState
border_of shim output error out_faults err_faults = record {
  shim = shim;
  output = output;
  error = error;
  out_faults = out_faults;
  err_faults = err_faults;
}
