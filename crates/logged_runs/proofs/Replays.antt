-- A run over a replayer that was asked nothing before.
use Rattle.std.proofs.Common.{ℕ, ◌≡◌, sym, ap, ◌∙◌, subst, List, [], length, Option, Some, None}
use Rattle.std.proofs.Common.{arith, map, take}
use Rattle.std.specs.Prelude.{OnSome}
use Rattle.dos_world.specs.declared.Ending.{Ending}
use Rattle.dos_world.specs.declared.Misfit.{Misfit}
use Rattle.dos_world.specs.declared.Question.{Question}
use Rattle.dos_world.specs.declared.Scheme.{Scheme}
use Rattle.dos_io.specs.Exchanges.{answer_of, question_of}
use Rattle.dos_io.specs.Shims.{HasNoEnd}
use Rattle.dos_io.specs.declared.exchange.Exchange.{Exchange}
use Rattle.dos_io.specs.declared.shim.ShimStop.{ShimStop}
use Rattle.dos_io.specs.declared.shim.ShimStop.TheVariants as stops
use Rattle.elf_image.specs.Image.{Image}
use Rattle.group_rounds.specs.StatePlays.{telling}
use Rattle.group_rounds.specs.Kernels.{Held, kernel_world}
use Rattle.group_rounds.specs.Rounds.{answers_since}
use Rattle.group_rounds.specs.Outside.{HasShimCause}
use Rattle.kernel_calls.specs.StateWorld.{sent, shim_stop}
use Rattle.kernel_calls.specs.declared.state.RunStop.{RunStop}
use Rattle.kernel_calls.specs.declared.state.RunStop.TheVariants.{HostFault, LogFull}
use Rattle.kernel_calls.specs.declared.state.RunStop.TheVariants.{Misfit as MisfitFound}
use Rattle.kernel_calls.specs.declared.state.RunStop.TheVariants.{Memory}
use Rattle.worker_pool.specs.Ran.{GrewBy}
use Rattle.log_text.specs.LogText.{Log, exchanges, exchanges_from}
use Rattle.log_text.specs.Ranges.{FitsLog}
use Rattle.shim_log.specs.Replay.{FollowsLog, IsMisfitOf, IsReplay, ReplayState, StandsNext}
use Rattle.shim_log.specs.Replay.{entries_used, replayer_state}
use Rattle.shim_log.proofs.ReplayLaws.{ends_whole, is_next, stands_next}
use Rattle.dpg_run.specs.Fits.{misfit}
use Rattle.flat_machine.specs.Machine.{Seen, group}
use Rattle.dpg_run.specs.GroupRuns.{CutGroup, RanGroup, StoppedGroup, limited_by, seen_of_run}
use Rattle.dpg_run.specs.Work.{group_work, work_from}
use Rattle.dpg_run.proofs.MisfitLaws.{misfit_at}
use Rattle.logged_runs.specs.Opened.{IsOpenedWith}
use Rattle.logged_runs.specs.Runs.{Ended, Halted, RanUntil, RanAhead, RanWhole}
use Rattle.logged_runs.specs.Replaying.{Replayed, ReplayedAhead, ReplayedUntil, StopsReplay}
use Rattle.logged_runs.specs.Replaying.{config_of}
use Rattle.logged_runs.proofs.Stops.{stops_so}
use Rattle.logged_runs.proofs.FromWorld.{from_world, halted_cut, halted_so, ran_behind, ran_from}
use Rattle.logged_runs.proofs.FromWorld.{ran_from_ahead, ran_from_until, runs_until}
use Rattle.logged_runs.specs.Resuming.{AsksWithin, ReplayedTo, Resumed, ResumedAhead, ResumedUntil}
use Rattle.dos_world.specs.World.{World}
use Rattle.dos_world.specs.declared.Config.{Config}
use Rattle.flat_machine.specs.Machine.{ends, machine_from, run_from}
use Rattle.std.proofs.Common.{◌<◌}
use Rattle.flat_machine.specs.Opening.{opening}
use Rattle.dpg_run.specs.Fits.{misfit_from}
use Rattle.dpg_run.specs.Reaching.{RanTo, RunsTo, RunsToItsEnd}
use Rattle.kernel_calls.specs.declared.state.State.{State}
use Rattle.kernel_calls.specs.StateWorld.{world_of}
use Rattle.logged_runs.specs.Runs.{RanFrom}
use Rattle.logged_runs.specs.Replaying.{first_work}
use Rattle.std.proofs.Common.{◌++◌, ◌+◌, ◌-◌, ◌≤◌, refl}

abbrev some_misfit : Misfit → ShimStop
some_misfit m = stops.Misfit m

one_seen : (x y : Seen) → ends x ≡ ends y → x ≡ y
one_seen x y is = cc

one_misfit : (x y : Misfit) → some_misfit x ≡ some_misfit y → x ≡ y
one_misfit x y is = cc

-- a replayer that was asked nothing yet
abbrev asked_nothing : Log → ReplayState
asked_nothing log =
    record { log = log; start = 0; answered = 0; stops = 0; last = None; asked = None }

pub nothing_told : (s : ReplayState) (log : Log) → s ≡ asked_nothing log
    → (replayer_state s).told ≡ []
nothing_told s log is = ap (λ (r : ReplayState). (replayer_state r).told) is

pub same_log : (s p : ReplayState) (log : Log) → s ≡ asked_nothing log → FollowsLog s p
    → p.log ≡ log
same_log s p log is follows = follows.log_same ∙ ap (λ (r : ReplayState). r.log) is

-- it answers from the log's first entry on
pub from_first : (s p : ReplayState) (log : Log) → s ≡ asked_nothing log → FollowsLog s p
    → p.start ≡ 0
from_first s p log is follows = follows.start_same ∙ ap (λ (r : ReplayState). r.start) is

-- a replayer that goes on behind so many exchanges, and was asked nothing yet
abbrev asked_nothing_behind : Log → ℕ → ReplayState
asked_nothing_behind log used =
    record { log = log; start = used; answered = 0; stops = 0; last = None; asked = None }

pub told_nothing : (s : ReplayState) (log : Log) (used : ℕ) → s ≡ asked_nothing_behind log used
    → (replayer_state s).told ≡ []
told_nothing s log used is = ap (λ (r : ReplayState). (replayer_state r).told) is

-- it is of that log, from there on
pub record IsBehind (p : ReplayState) (log : Log) (used : ℕ) : Type 0 where
  pub log_is : p.log ≡ log
  pub start_is : p.start ≡ used

pub same_start : (s p : ReplayState) (log : Log) (used : ℕ) → s ≡ asked_nothing_behind log used
    → FollowsLog s p → IsBehind p log used
same_start s p log used is follows = record {
  log_is = follows.log_same ∙ ap (λ (r : ReplayState). r.log) is;
  start_is = follows.start_same ∙ ap (λ (r : ReplayState). r.start) is;
}

module _ (k : Held) (before : List Exchange) (p : ReplayState) (o e o1 e1 : Option (List ℕ))
    (fresh : before ≡ []) where
  abbrev told : List Exchange
  told = (replayer_state p).told

  -- what the parallel phases have run
  abbrev work_told : ℕ
  work_told = work_from (kernel_world k) k.config (answers_since before told)

  abbrev Stopped : Type 0
  Stopped =
      StoppedGroup k.config k.state (telling before o e) (telling told o1 e1) p.asked

  -- it stops by a misfit alone
  misfit_only : (stop : ShimStop) → Stopped → p.last ≡ Some stop → IsReplay p
      → (m : Misfit) × (stop ≡ stops.Misfit m)
  misfit_only stop run last kept =
      let is = stops_so p.asked p.last run.question stop (IsMisfitOf p) run.asked_is last kept.stop
      in
      (record { entry = entries_used p; kept = is.kept; asked = run.question }, is.says)

  pub only : (stop : RunStop) → OnSome (shim_stop stop) Stopped → (was : ReplayState)
      → HasShimCause stop (replayer_state was) (replayer_state p) → IsReplay p → StopsReplay stop
  only HostFault run was cause kept =
      let found = misfit_only stops.HostFault run cause.1 kept in
      let is : stops.HostFault ≡ stops.Misfit found.0 = found.1 in absurd cc
  only LogFull run was cause kept =
      let found = misfit_only stops.LogFull run cause.1 kept in
      let is : stops.LogFull ≡ stops.Misfit found.0 = found.1 in absurd cc
  only Memory run was cause kept =
      let found = misfit_only stops.Memory run cause.1 kept in
      let is : stops.Memory ≡ stops.Misfit found.0 = found.1 in absurd cc
  only stop run was cause kept = tt

  all_new : told ≡ before ++ told
  all_new = ap (λ es. es ++ told) (sym fresh)

  -- ---- from the kernel's world on

  module _ (w : World) (config : Config) (at : kernel_world k ≡ w) (config_is : k.config ≡ config)
    where
      abbrev work_over : List Exchange → ℕ
      work_over es = work_from w config (map answer_of es)

      -- it came to the end of the log
      pub resumed : (k' : Held) (ending : Ending) (tally tally' work : ℕ)
          → RanGroup k.config k.state (telling before o e) ending k'.state (telling told o1 e1) work
          → GrewBy tally tally' work → FitsLog p.log → (HasNoEnd told → ⊥)
          → (seen : Seen) × Resumed w config p.start p.log seen
          × Ended k' ending seen o e o1 e1 tally tally'
      resumed k' ending tally tally' work run grew fits ended =
          let ran = ran_behind k before told told o e o1 e1 all_new w config at config_is k' ending
          tally tally' work run grew in (
            ran.0,
            subst (λ es. RunsToItsEnd w config es ran.0) (ends_whole p fits ended) ran.1,
            ran.2,
          )

      pub replayed_from : (k' : Held) (ending : Ending) (tally tally' work : ℕ)
          → RanGroup k.config k.state (telling before o e) ending k'.state (telling told o1 e1) work
          → GrewBy tally tally' work → FitsLog p.log → (HasNoEnd told → ⊥)
          → (seen : Seen) × RanFrom w config (exchanges_from p.start p.log) seen
          × Ended k' ending seen o e o1 e1 tally tally'
      replayed_from k' ending tally tally' work run grew fits ended =
          let ran = ran_from k before told told o e o1 e1 all_new w config at config_is k' ending
          tally tally' work run grew in
          (ran.0, subst (λ es. RanFrom w config es ran.0) (ends_whole p fits ended) ran.1, ran.2)

      -- before a round
      pub replayed_short : (k' : Held) (ending : Ending) (tally tally' work : ℕ)
          → RanGroup k.config k.state (telling before o e) ending k'.state (telling told o1 e1) work
          → GrewBy tally tally' work → FitsLog p.log → (HasNoEnd told → ⊥) → (round : ℕ)
          → k'.state.round - 1 < round
          → (seen : Seen) × RanFrom w config (exchanges_from p.start p.log) seen
          × Ended k' ending seen o e o1 e1 tally tally' × (seen.rounds < round)
      replayed_short k' ending tally tally' work run grew fits ended round less =
          let all = seen_of_run run.more.exchanges run.more.output run.more.error ending k'.state
          work in
          let ran = ran_from k before told told o e o1 e1 all_new w config at config_is k' ending
          tally tally' work run grew in
          let is = from_world k before told told o e o1 e1 all_new w config at config_is
          (λ v c es. machine_from v c (map answer_of es) ≡ ends all) run.more run.ends in
          let same = one_seen ran.0 all (sym ran.1.is ∙ is) in (
            ran.0,
            subst (λ es. RanFrom w config es ran.0) (ends_whole p fits ended) ran.1,
            ran.2,
            subst (λ (s : Seen). s.rounds < round) (sym same) less,
          )

      -- it came to the misfit of the log
      pub resumed_until : (found : Misfit) → Stopped → p.last ≡ Some (stops.Misfit found)
          → IsReplay p → (tally tally' : ℕ) → GrewBy tally tally' work_told
          → (output : List ℕ) × (error : List ℕ) × (work : ℕ)
          × ResumedUntil w config p.start p.log found output error work
          × Halted o e o1 e1 tally tally' output error work
      resumed_until found run last kept tally tally' grew =
          let is = stops_so p.asked p.last run.question (stops.Misfit found) (IsMisfitOf p)
          run.asked_is last kept.stop in
          let next : StandsNext p is.kept = stands_next p run.question (stops.Misfit found) is in
          let here : Misfit =
          record { entry = entries_used p; kept = is.kept; asked = run.question } in
          let same : found ≡ here = one_misfit found here is.says in
          let ran = runs_until k before told told o e o1 e1 all_new w config at config_is
          p.asked run in
          let found_at = λ (x y : List ℕ).
          misfit_at p.start (length told + p.start) told next.next next.behind
          run.question (run_from (sent x y w) config) (omega arith) (ran.asked x y)
          (λ eq. is.differ (sym next.question ∙ eq)) in
          let found_so : (x y : List ℕ)
          → misfit_from p.start (exchanges_from p.start p.log) (run_from (sent x y w) config)
          ≡ Some here = λ x y.
          ap (λ es. misfit_from p.start es (run_from (sent x y w) config)) next.log_is
          ∙ found_at x y
          ∙ ap (λ (i : ℕ). Some (record {
            entry = i + p.start;
            kept = question_of next.next;
            asked = run.question;
          })) next.count
          ∙ ap (λ (q : Question).
          Some (record { entry = entries_used p; kept = q; asked = run.question }))
          next.question in (
            run.more.output,
            run.more.error,
            work_over told,
            subst (λ (x : Misfit). ResumedUntil w config p.start p.log x run.more.output
                run.more.error (work_over told)) (sym same) (record {
                  answered = p.answered;
                  is = found_so;
                  place = omega arith;
                  ran = ran;
                  worked = refl;
                }),
            halted_so k before told told o e o1 e1 all_new w config at config_is p.asked run tally
                tally' grew,
          )

      -- it was cut off
      pub resumed_ahead : CutGroup k.config k.state (telling before o e) (telling told o1 e1)
          → (tally tally' : ℕ) → GrewBy tally tally' work_told
          → (output : List ℕ) × (error : List ℕ) × (work : ℕ)
          × ResumedAhead w config p.start p.log output error work
          × Halted o e o1 e1 tally tally' output error work
      resumed_ahead cut tally tally' grew = (
        cut.more.output,
        cut.more.error,
        work_over told,
        record {
          answered = p.answered;
          ran = ran_from_ahead k before told told o e o1 e1 all_new w config at config_is cut;
          worked = refl;
        },
        halted_cut k before told told o e o1 e1 all_new w config at config_is cut tally tally' grew,
      )

  -- ---- the same of what was left of a log

  module _ (log : Log) (used : ℕ) (is : IsBehind p log used) where
    of_log : (P : ℕ → Log → Type 0) → P p.start p.log → P used log
    of_log P h = subst (λ (l : Log). P used l) is.log_is
        (subst (λ n. P n p.log) is.start_is h)

    pub resumed_behind : (k' : Held) (ending : Ending) (tally tally' work : ℕ)
        → RanGroup k.config k.state (telling before o e) ending k'.state (telling told o1 e1) work
        → GrewBy tally tally' work → FitsLog log → (HasNoEnd told → ⊥)
        → (seen : Seen) × Resumed (kernel_world k) k.config used log seen
        × Ended k' ending seen o e o1 e1 tally tally'
    resumed_behind k' ending tally tally' work run grew fits ended =
        let ran = resumed (kernel_world k) k.config refl refl k' ending tally tally' work run grew
        (subst FitsLog (sym is.log_is) fits) ended in
        (ran.0, of_log (λ n l. Resumed (kernel_world k) k.config n l ran.0) ran.1, ran.2)

    pub resumed_misfit : (stop : RunStop) (found : Misfit) (was : ReplayState)
        → stop ≡ MisfitFound found → OnSome (shim_stop stop) Stopped
        → HasShimCause stop (replayer_state was) (replayer_state p) → IsReplay p
        → (tally tally' : ℕ) → GrewBy tally tally' work_told
        → (output : List ℕ) × (error : List ℕ) × (work : ℕ)
        × ResumedUntil (kernel_world k) k.config used log found output error work
        × Halted o e o1 e1 tally tally' output error work
    resumed_misfit stop found was so run cause kept tally tally' grew =
        let ran = resumed_until (kernel_world k) k.config refl refl found
        (subst (λ (s : RunStop). OnSome (shim_stop s) Stopped) so run)
        (subst (λ (s : RunStop). HasShimCause s (replayer_state was) (replayer_state p)) so cause).1
        kept tally tally' grew in (
          ran.0,
          ran.1,
          ran.2,
          of_log (λ n l. ResumedUntil (kernel_world k) k.config n l found ran.0 ran.1 ran.2) ran.3,
          ran.4,
        )

    pub resumed_cut : CutGroup k.config k.state (telling before o e) (telling told o1 e1)
        → (tally tally' : ℕ) → GrewBy tally tally' work_told
        → (output : List ℕ) × (error : List ℕ) × (work : ℕ)
        × ResumedAhead (kernel_world k) k.config used log output error work
        × Halted o e o1 e1 tally tally' output error work
    resumed_cut cut tally tally' grew =
        let ran = resumed_ahead (kernel_world k) k.config refl refl cut tally tally' grew in (
          ran.0,
          ran.1,
          ran.2,
          of_log (λ n l. ResumedAhead (kernel_world k) k.config n l ran.0 ran.1 ran.2) ran.3,
          ran.4,
        )

  -- ---- from the opening of images, and the whole log that the replayer was made of

  module _ (log : Log) (same : p.log ≡ log) (first : p.start ≡ 0) (scheme : Scheme)
      (images : List Image)
      (opened : IsOpenedWith k images (config_of scheme log.header)) where
    abbrev opened_world : World
    opened_world = opening images (config_of scheme log.header)

    abbrev logged : Config
    logged = config_of scheme log.header

    pub replayed : (k' : Held) (ending : Ending) (tally tally' work : ℕ)
        → RanGroup k.config k.state (telling before o e) ending k'.state (telling told o1 e1) work
        → GrewBy tally tally' work → FitsLog log → (HasNoEnd told → ⊥)
        → (seen : Seen) × Replayed scheme images log seen
        × Ended k' ending seen o e o1 e1 tally tally'
    replayed k' ending tally tally' work run grew fits ended =
        let ran = replayed_from opened_world logged opened.world opened.config_is k' ending tally
        tally' work run grew (subst FitsLog (sym same) fits) ended in (
          ran.0,
          subst (λ (l : Log). RanFrom opened_world logged (exchanges l) ran.0) same
              (subst (λ n. RanFrom opened_world logged (exchanges_from n p.log) ran.0) first ran.1),
          ran.2,
        )

    -- before a round
    pub replayed_before : (k' : Held) (ending : Ending) (tally tally' work : ℕ)
        → RanGroup k.config k.state (telling before o e) ending k'.state (telling told o1 e1) work
        → GrewBy tally tally' work → FitsLog log → (HasNoEnd told → ⊥) → (round : ℕ)
        → k'.state.round - 1 < round
        → (seen : Seen) × Replayed scheme images log seen
        × Ended k' ending seen o e o1 e1 tally tally' × (seen.rounds < round)
    replayed_before k' ending tally tally' work run grew fits ended round less =
        let ran = replayed_short opened_world logged opened.world opened.config_is k' ending tally
        tally' work run grew (subst FitsLog (sym same) fits) ended round less in (
          ran.0,
          subst (λ (l : Log). RanFrom opened_world logged (exchanges l) ran.0) same
              (subst (λ n. RanFrom opened_world logged (exchanges_from n p.log) ran.0) first ran.1),
          ran.2,
          ran.3,
        )

    pub replayed_until : (stop : RunStop) (found : Misfit) (was : ReplayState)
        → stop ≡ MisfitFound found → OnSome (shim_stop stop) Stopped
        → HasShimCause stop (replayer_state was) (replayer_state p) → IsReplay p
        → (tally tally' : ℕ) → GrewBy tally tally' work_told
        → (output : List ℕ) × (error : List ℕ) × (work : ℕ)
        × ReplayedUntil scheme images log found output error work
        × Halted o e o1 e1 tally tally' output error work
    replayed_until stop found was is run cause kept tally tally' grew =
        let ran = resumed_until opened_world logged opened.world opened.config_is found
        (subst (λ (s : RunStop). OnSome (shim_stop s) Stopped) is run)
        (subst (λ (s : RunStop). HasShimCause s (replayer_state was) (replayer_state p)) is cause).1
        kept tally tally' grew in
        let whole : ResumedUntil opened_world logged 0 log found ran.0 ran.1 ran.2 =
        subst (λ (l : Log). ResumedUntil opened_world logged 0 l found ran.0 ran.1 ran.2) same
        (subst (λ n. ResumedUntil opened_world logged n p.log found ran.0 ran.1 ran.2) first ran.3)
        in
        let place : whole.answered ≡ found.entry = omega (arith, whole.place) in (
          ran.0,
          ran.1,
          ran.2,
          record {
            is = whole.is [] [];
            ran = subst (λ n. RanUntil images logged (take n (exchanges log)) found.asked ran.0
                ran.1) place
                (record { asks = whole.ran.asks [] []; asked = whole.ran.asked [] [] });
            worked = ap (λ n. first_work scheme n images log) (sym place) ∙ whole.worked;
          },
          ran.4,
        )

    pub replayed_ahead : CutGroup k.config k.state (telling before o e) (telling told o1 e1)
        → (tally tally' : ℕ) → GrewBy tally tally' work_told
        → (output : List ℕ) × (error : List ℕ) × (work : ℕ)
        × ReplayedAhead scheme images log output error work
        × Halted o e o1 e1 tally tally' output error work
    replayed_ahead cut tally tally' grew =
        let ran = resumed_ahead opened_world logged opened.world opened.config_is cut tally tally'
        grew in
        let whole : ResumedAhead opened_world logged 0 log ran.0 ran.1 ran.2 =
        subst (λ (l : Log). ResumedAhead opened_world logged 0 l ran.0 ran.1 ran.2) same
        (subst (λ n. ResumedAhead opened_world logged n p.log ran.0 ran.1 ran.2) first ran.3) in (
          ran.0,
          ran.1,
          ran.2,
          record { answered = whole.answered; ran = whole.ran; worked = whole.worked },
          ran.4,
        )

    told_first : told ≡ take (entries_used p) (exchanges log)
    told_first =
        let used : p.answered ≡ entries_used p = omega (arith, first) in
        ap (λ n. take p.answered (exchanges_from n p.log)) first
        ∙ ap (λ (l : Log). take p.answered (exchanges l)) same
        ∙ ap (λ n. take n (exchanges log)) used

    -- it came to the misfit under a limit
    pub asked_within : (limit : ℕ) (stop : RunStop) (found : Misfit) (was : ReplayState)
        → stop ≡ MisfitFound found
        → OnSome (shim_stop stop) (StoppedGroup (limited_by limit k.config) k.state
        (telling before o e) (telling told o1 e1) p.asked)
        → HasShimCause stop (replayer_state was) (replayer_state p) → IsReplay p
        → AsksWithin scheme limit images log found
    asked_within limit stop found was so run cause kept =
        let held : Held = record k { config = limited_by limit k.config } in
        let stopped = subst (λ (s : RunStop). OnSome (shim_stop s)
        (StoppedGroup (limited_by limit k.config) k.state (telling before o e)
        (telling told o1 e1) p.asked)) so run in
        let last = (subst (λ (s : RunStop). HasShimCause s (replayer_state was)
        (replayer_state p)) so cause).1 in
        let is = stops_so p.asked p.last stopped.question (stops.Misfit found) (IsMisfitOf p)
        stopped.asked_is last kept.stop in
        let same_one : found
        ≡ record { entry = entries_used p; kept = is.kept; asked = stopped.question } =
        one_misfit found
        (record { entry = entries_used p; kept = is.kept; asked = stopped.question }) is.says in
        let ran = ran_from_until held before told told o e o1 e1 all_new opened_world
        (limited_by limit logged) opened.world (ap (limited_by limit) opened.config_is) p.asked
        stopped in
        subst (λ (m : Misfit). AsksWithin scheme limit images log m) (sym same_one) (record {
          output = stopped.more.output;
          error = stopped.more.error;
          ran = subst (λ es. RanUntil images (limited_by limit logged) es stopped.question
              stopped.more.output stopped.more.error) told_first ran;
        })

    -- it came to a round
    module _ (rounds : ℕ) (s' : State) (tally tally' : ℕ)
        (run : RanTo k.config rounds k.state (telling before o e) s' (telling told o1 e1) tally
        tally') (begun : 1 ≤ k.state.round) (within : s'.round - 1 ≤ logged.rounds) where
      -- from the opening over what was told
      from_there : (P : World → Config → List Exchange → Type 0)
          → P (kernel_world k) k.config run.more.exchanges
          → P opened_world logged (take (entries_used p) (exchanges log))
      from_there P h =
          subst (λ es. P opened_world logged es) told_first
          (from_world k before told told o e o1 e1 all_new opened_world logged opened.world
          opened.config_is P run.more h)

      none : k.state.round - 1 ≡ 0
      none = ap (λ (w : World). w.rounds) opened.world

      to_round : ReplayedTo scheme images log rounds (entries_used p) (world_of logged.quantum s')
          run.more.output run.more.error (first_work scheme (entries_used p) images log)
      to_round = record {
        runs = from_there (λ v c es. RunsTo c.scheme rounds v es run.more.output run.more.error
            (world_of c.quantum s')) run.runs;
        few = subst (λ (l : Log). entries_used p ≤ length l.entries) same
            (is_next p (omega (arith, first)) run.running);
        counted = omega (arith, none, begun, run.counted);
        allowed = omega (arith, none, begun, run.counted, within);
        worked = refl;
      }

      pub replayed_to : (output : List ℕ) × (error : List ℕ) × (work : ℕ)
          × ReplayedTo scheme images log rounds (entries_used p) (world_of logged.quantum s') output
          error work
          × Halted o e o1 e1 tally tally' output error work
      replayed_to = (
        run.more.output,
        run.more.error,
        first_work scheme (entries_used p) images log,
        to_round,
        record {
          put = record { out_is = run.more.output_is; err_is = run.more.error_is };
          counted = from_there (λ v c es. GrewBy tally tally' (work_from v c (map answer_of es)))
              run.grew;
        },
      )
