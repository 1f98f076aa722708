-- Whether two runs come to a report, and what becomes of it. This project's own rules.
use Rattle.std.specs.Prelude.{◌≡◌, ℕ, Bool, true, false, if◌then◌else◌, List, Option, Result, Ok}
use Rattle.std.specs.Prelude.{Err}
use Rattle.dos_world.specs.World.{World}
use Rattle.dos_world.specs.declared.Ending.{Ending}
use Rattle.dos_io.specs.Outside.{GrewByFront, Rose}
use Rattle.dpg_run.specs.Report.{report_in}
use Rattle.kernel_calls.specs.declared.state.RunStop.{RunStop}
use Rattle.kernel_calls.specs.declared.state.RunStop.TheVariants.{OutFault, ErrFault}
use Rattle.dos_texts.specs.declared.refusal.Refusal.{Refusal}
use Rattle.dos_texts.specs.declared.refusal.Refusal.TheVariants as refusals
use Rattle.dos_cmd.specs.Stops.{refusal_by}

-- a put of this run failed
abbrev pub has_cut : Result Ending RunStop → Bool
has_cut (Err OutFault) = true
has_cut (Err ErrFault) = true
has_cut _ = false

-- the leader's ending, or why there is no report
abbrev pub leader_ending : Result Ending RunStop → Result Ending Refusal
leader_ending (Ok ending) = Ok ending
leader_ending (Err stop) = Err (refusal_by stop)

-- The leader's ending, or why there is no report: a put of either side failed, and else what
-- stopped the leader.
abbrev pub twin_ending : (leader follower : Result Ending RunStop) → Result Ending Refusal
twin_ending leader follower = if has_cut follower then Err refusals.Sink else leader_ending leader

-- The runs came to no report, for this reason, and nothing was put.
pub record EndedWithout (leader follower : Result Ending RunStop) (why : Refusal)
    (faults faults_after : ℕ) (err err_after : Option (List ℕ)) : Type 0 where
  pub is : twin_ending leader follower ≡ Err why
  pub steady : faults_after ≡ faults
  pub err_stays : err_after ≡ err

-- The leader's error failed in the report of this world, behind a front of it.
pub record ReportFailed (leader follower : Result Ending RunStop) (why : Refusal) (w : World)
    (faults faults_after : ℕ) (err err_after : Option (List ℕ)) : Type 0 where
  pub why_is : why ≡ refusals.Sink
  pub ending : Ending
  pub is : twin_ending leader follower ≡ Ok ending
  pub rose : Rose faults faults_after
  pub front : GrewByFront err err_after (report_in w ending)
