-- A run of a kernel that hasn't failed is one from its world.
use Rattle.std.proofs.Common.{ℕ, ◌-◌, ◌≡◌, refl, sym, ap, ◌∙◌, subst, List, [], ◌∷◌, ◌++◌, map}
use Rattle.std.proofs.Common.{Option}
use Rattle.dos_world.specs.Play.{Play, over, questions, asks}
use Rattle.dos_world.specs.World.{World}
use Rattle.dos_world.specs.declared.Config.{Config}
use Rattle.dos_world.specs.declared.Ending.{Ending}
use Rattle.dos_world.specs.declared.Question.{Question}
use Rattle.dos_io.specs.Exchanges.{question_of, answer_of}
use Rattle.dos_io.specs.declared.exchange.Exchange.{Exchange}
use Rattle.group_rounds.specs.Plays.{GoesOn}
use Rattle.group_rounds.specs.Rounds.{answers_since}
use Rattle.group_rounds.specs.StatePlays.{telling, ToldMore}
use Rattle.group_rounds.specs.Kernels.{Held, kernel_world}
use Rattle.group_rounds.proofs.WorkLaws.{since_more}
use Rattle.worker_pool.specs.Ran.{GrewBy}
use Rattle.dpg_run.specs.Fits.{FitsFrom}
use Rattle.dpg_run.specs.Reaching.{RunsToItsEnd, RunsToQuestion}
use Rattle.dpg_run.specs.Work.{work_from}
use Rattle.flat_machine.specs.Machine.{Finish, Seen, ends, machine_from, run_from}
use Rattle.dpg_run.specs.GroupRuns.{AreFronts, CutGroup, RanGroup, StoppedGroup, seen_of_run}
use Rattle.logged_runs.specs.Runs.{Ended, Halted, RanFrom, RanFromAhead, RanFromUntil}

-- what stands behind the same is the same
same_behind : (before es fs : List Exchange) → before ++ es ≡ before ++ fs → es ≡ fs
same_behind [] es fs h = h
same_behind (x ∷ before) es fs h = same_behind before es fs cc

-- The shim told this before, and these exchanges more.
module _ (k : Held) (before told since : List Exchange) (o e o1 e1 : Option (List ℕ))
    (told_is : told ≡ before ++ since) (w : World) (config : Config) (at : kernel_world k ≡ w)
    (config_is : k.config ≡ config) where
  abbrev More : Type 0
  More = ToldMore (telling before o e) (telling told o1 e1)

  all_told : (more : More) → more.exchanges ≡ since
  all_told more = same_behind before more.exchanges since (sym more.exchanges_are ∙ told_is)

  pub from_world : (P : World → Config → List Exchange → Type 0) (more : More)
      → P (kernel_world k) k.config more.exchanges → P w config since
  from_world P more h = subst (λ (v : World). P v config since) at
      (subst (λ (c : Config). P (kernel_world k) c since) config_is
      (subst (λ (es : List Exchange). P (kernel_world k) k.config es) (all_told more) h))

  -- it came to its end
  module _ (k' : Held) (ending : Ending) (tally tally' work : ℕ)
      (run : RanGroup k.config k.state (telling before o e) ending k'.state (telling told o1 e1)
      work) (grew : GrewBy tally tally' work) where
    abbrev all_seen : Seen
    all_seen = seen_of_run run.more.exchanges run.more.output run.more.error ending k'.state work

    pub ended_so : Ended k' ending all_seen o e o1 e1 tally tally'
    ended_so = record {
      shows = record { ending_is = refl; report_is = refl };
      put = record { out_is = run.more.output_is; err_is = run.more.error_is };
      counted = grew;
    }

    pub ran_from : (seen : Seen) × RanFrom w config since seen
        × Ended k' ending seen o e o1 e1 tally tally'
    ran_from = (
      all_seen,
      record {
        fits = from_world (λ v c es. FitsFrom v c es) run.more run.fits;
        is = from_world (λ v c es. machine_from v c (map answer_of es) ≡ ends all_seen) run.more
            run.ends;
      },
      ended_so,
    )

    pub ran_behind : (seen : Seen) × RunsToItsEnd w config since seen
        × Ended k' ending seen o e o1 e1 tally tally'
    ran_behind = (
      all_seen,
      from_world (λ v c es. RunsToItsEnd v c es all_seen) run.more run.behind,
      ended_so,
    )

  -- after so much work
  pub work_since : (tally tally' : ℕ) → GrewBy tally tally' (work_from (kernel_world k) k.config
      (answers_since before told)) → GrewBy tally tally' (work_from w config (map answer_of since))
  work_since tally tally' grew =
      subst (λ (v : World). GrewBy tally tally' (work_from v config (map answer_of since))) at
      (subst (λ (c : Config). GrewBy tally tally' (work_from (kernel_world k) c
      (map answer_of since))) config_is
      (subst (λ answers. GrewBy tally tally' (work_from (kernel_world k) k.config answers))
      (since_more before told since told_is) grew))

  -- it came to a question
  module _ (asked : Option Question)
      (run : StoppedGroup k.config k.state (telling before o e) (telling told o1 e1) asked) where
    pub ran_from_until : RanFromUntil w config since run.question run.more.output run.more.error
    ran_from_until = record {
      asks = from_world (λ v c es. over (map answer_of es) (run_from v c)
          ≡ asks run.question run.more.output run.more.error) run.more run.asks;
      asked = from_world (λ v c es. questions (map answer_of es) (run_from v c)
          ≡ map question_of es ++ run.question ∷ []) run.more run.asked_so;
    }

    pub runs_until : RunsToQuestion w config since run.question run.more.output run.more.error
    runs_until = from_world
        (λ v c es. RunsToQuestion v c es run.question run.more.output run.more.error) run.more
        run.behind

    pub halted_so : (tally tally' : ℕ) → GrewBy tally tally' (work_from (kernel_world k) k.config
        (answers_since before told))
        → Halted o e o1 e1 tally tally' run.more.output run.more.error
        (work_from w config (map answer_of since))
    halted_so tally tally' grew = record {
      put = record { out_is = run.more.output_is; err_is = run.more.error_is };
      counted = work_since tally tally' grew;
    }

  -- it was cut off
  module _ (cut : CutGroup k.config k.state (telling before o e) (telling told o1 e1)) where
    pub ran_from_ahead : RanFromAhead w config since cut.more.output cut.more.error
    ran_from_ahead = record {
      goes = from_world (λ v c es. (left : Play Finish) × GoesOn es (run_from v c) left) cut.more
          cut.goes;
      fronts = from_world (λ v c es. AreFronts cut.more.output cut.more.error
          (machine_from v c (map answer_of es))) cut.more cut.fronts;
    }

    pub halted_cut : (tally tally' : ℕ) → GrewBy tally tally' (work_from (kernel_world k) k.config
        (answers_since before told))
        → Halted o e o1 e1 tally tally' cut.more.output cut.more.error
        (work_from w config (map answer_of since))
    halted_cut tally tally' grew = record {
      put = record { out_is = cut.more.output_is; err_is = cut.more.error_is };
      counted = work_since tally tally' grew;
    }
