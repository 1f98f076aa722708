-- What a run leaves that goes on from a saved group, by how it ends.
use Rattle.std.proofs.Common.{◌≡◌, ◌≤◌, ◌<◌, ◌⊎◌, inl, inr, ℕ, Bool, List, [], append-nil}
use Rattle.std.proofs.Common.{Option}
use Rattle.std.proofs.Common.{Some, None, Result, Ok, Err, sym, ap, ◌∙◌, subst, refl, true}
use Rattle.std.specs.Prelude.{IfSome, IfOk, IfErr, OnOk, OnErr, option_map, length}
use Rattle.std.proofs.lemmas.Bool.{and_parts, ltb-true}
use Rattle.logged_runs.specs.Recording.{HostSeen, host_seen}
use Rattle.dos_io.specs.Outside.{grown, GrewByFront, HasCause, Rose}
use Rattle.dos_io.proofs.OutsideLaws.{grown_more}
use Rattle.dos_world.specs.World.{World}
use Rattle.dos_world.specs.declared.Config.{Config}
use Rattle.dos_world.specs.declared.Ending.{Ending}
use Rattle.dos_world.specs.declared.Misfit.{Misfit}
use Rattle.group_text.specs.Groups.{SavedGroup, world_in}
use Rattle.group_files.specs.Judging.{group_verdict, is_of_log}
use Rattle.group_files.specs.declared.refusal.SavedRefusal.TheVariants.{OtherLog}
use Rattle.kernel_calls.specs.StateWorld.{HasSinkCause}
use Rattle.kernel_calls.specs.declared.state.RunStop.{RunStop}
use Rattle.kernel_calls.specs.declared.state.RunStop.TheVariants as stops
use Rattle.group_rounds.specs.Kernels.{Held, kernel_world}
use Rattle.flat_machine.specs.Machine.{Seen}
use Rattle.dpg_run.specs.Report.{report, report_in}
use Rattle.log_files.specs.Judging.{log_verdict}
use Rattle.log_text.specs.LogText.{Log, exchanges, logtext}
use Rattle.log_text.specs.Ranges.{FitsLog}
use Rattle.logged_runs.specs.Replaying.{StopsReplay}
use Rattle.logged_runs.specs.Resuming.{Resumed, ResumedAhead, ResumedUntil}
use Rattle.logged_runs.specs.Runs.{Ended, Halted}
use Rattle.sha2.specs.Sha256.{sha256}
use Rattle.dos_texts.specs.Exit.{ending_status}
use Rattle.dos_texts.specs.declared.refusal.Refusal.{Refusal}
use Rattle.dos_texts.specs.declared.refusal.Refusal.TheVariants as refusals
use Rattle.dos_words.specs.Numbers.{Text}
use Rattle.dos_words.specs.declared.request.Request.{Request}
use Rattle.dos_words.specs.declared.request.Request.TheVariants as requests
use Rattle.dos_cmd.specs.Judging.{Judgement, belonging, judgement, resume_judgement, taken_group}
use Rattle.dos_cmd.specs.Judging.{with_log}
use Rattle.dos_cmd.specs.Outside.{Outside, Faults, outside, faults, Says}
use Rattle.dos_cmd.specs.ReplayLeaves.{StaysAll}
use Rattle.dos_cmd.specs.ResumeLeaves.{CutResume, DidResume, LeavesResume, OfTakingGroup}
use Rattle.dos_cmd.specs.Results.{Begun, Did, Leaves}
use Rattle.dos_cmd.specs.SaveLeaves.{log_digest}
use Rattle.dos_cmd.specs.Stops.{refusal_by}
use Rattle.dos_cmd.proofs.Asked.{IsLater, later_resume}
use Rattle.dos_cmd.proofs.RunEnds.{then_rose}

-- ---- from the kernel to the group

module _ (g : SavedGroup) (kernel : Held) (used : ℕ) (world : kernel_world kernel ≡ world_in g)
    (config : kernel.config ≡ g.config) (used_is : used ≡ g.used) where
  pub of_group : (P : World → Config → ℕ → Type 0) → P (kernel_world kernel) kernel.config used
      → P (world_in g) g.config g.used
  of_group P h = subst (λ n. P (world_in g) g.config n) used_is
      (subst (λ (c : Config). P (world_in g) c used) config
      (subst (λ (w : World). P w kernel.config used) world h))

-- it stopped at a misfit of what was left
abbrev pub StopsAt : Log → Misfit → Outside → World → Config → (used : ℕ) → Type 0
StopsAt log found o w config used = (output : List ℕ) × (error : List ℕ) × (work : ℕ)
    × ResumedUntil w config used log found output error work
    × Halted o.out o.err o.out_after o.err_after o.tally o.tally_after output error work

-- somewhere
abbrev pub IsAhead : Log → Outside → World → Config → (used : ℕ) → Type 0
IsAhead log o w config used = (output : List ℕ) × (error : List ℕ) × (work : ℕ)
    × ResumedAhead w config used log output error work
    × Halted o.out o.err o.out_after o.err_after o.tally o.tally_after output error work

-- at its end
abbrev pub Whole : Log → (after : Held) → Ending → (out err out1 err1 : Option (List ℕ))
    → (tally tally1 : ℕ) → World → Config → (used : ℕ) → Type 0
Whole log after ending out err out1 err1 tally tally1 w config used =
    (seen : Seen) × Resumed w config used log seen
    × Ended after ending seen out err out1 err1 tally tally1

-- ---- where memory runs out before the run

pub resume_no_memory : (g : SavedGroup) (log : Log) (o : Outside) (f : Faults) (why : Refusal)
    → why ≡ refusals.Memory → Says o [] → LeavesResume g log o f why
resume_no_memory g log o f why is says =
    subst (λ (w : Refusal). LeavesResume g log o f w) (sym is) says

-- ---- a run that stopped

pub resume_stopped : (g : SavedGroup) (log : Log) (o : Outside) (f : Faults) (stop : RunStop)
    (why : Refusal) → why ≡ refusal_by stop → StopsReplay stop
    → ((found : Misfit) → stop ≡ stops.Misfit found
    → StopsAt log found o (world_in g) g.config g.used) → IsAhead log o (world_in g) g.config g.used
    → HasSinkCause stop f.out f.out_after f.err f.err_after → StaysAll o
    → LeavesResume g log o f why
resume_stopped g log o f stop why is only until ahead sink stay =
    subst (λ (w : Refusal). LeavesResume g log o f w) (sym is) (by_stop stop only until sink)
  where
    cut : CutResume g log o
    cut = record {
      output = ahead.0;
      error = ahead.1;
      work = ahead.2;
      resumed = ahead.3;
      counted = ahead.4.counted;
      grew = record { out_is = ahead.4.put.out_is; err_is = ahead.4.put.err_is };
      stays = stay;
    }

    by_stop : (stop : RunStop) → StopsReplay stop
        → ((found : Misfit) → stop ≡ stops.Misfit found
        → StopsAt log found o (world_in g) g.config g.used)
        → HasSinkCause stop f.out f.out_after f.err f.err_after
        → LeavesResume g log o f (refusal_by stop)
    by_stop stops.OutFault only until sink = (inl sink, inl cut)
    by_stop stops.ErrFault only until sink = (inr sink, inl cut)
    by_stop (stops.Misfit found) only until sink =
        let run = until found refl in
        record {
          output = run.0;
          error = run.1;
          work = run.2;
          resumed = run.3;
          counted = run.4.counted;
          grew = record {
            out_is = run.4.put.out_is;
            err_is = run.4.put.err_is ∙ ap (grown o.err) (sym (append-nil run.1));
          };
          stays = stay;
        }
    by_stop stop only until sink = absurd only

-- ---- a run that came to its end

module _ (g : SavedGroup) (log : Log) (after : Held) (ending : Ending)
    (out err out1 err_then err1 : Option (List ℕ)) (tally tally1 : ℕ)
    (run : Whole log after ending out err out1 err_then tally tally1 (world_in g) g.config g.used)
  where
    pub resume_did : (r : Result Ending Refusal) → IfOk r (λ ended. ended ≡ ending)
        → OnOk r (err1 ≡ grown err_then (report_in (kernel_world after) ending))
        → IfOk r (λ ended. (tells : Bool) (f f' : Text → Option (List ℕ)) (h : HostSeen)
        → ((n : Text) → f' n ≡ f n) → DidResume g log (ending_status ended)
        (outside tells f f' h h out out1 err err1 tally tally1))
    resume_did (Err why) same told = tt
    resume_did (Ok ended) same told = λ tells f f' h stay. record {
      seen = run.0;
      resumed = run.1;
      status_is = ap ending_status (same ∙ sym run.2.shows.ending_is);
      counted = run.2.counted;
      grew = record {
        out_is = run.2.put.out_is;
        err_is = grown_more err err_then err1 run.0.error (report run.0) run.2.put.err_is
            (told ∙ ap (grown err_then) run.2.shows.report_is);
      };
      stays = record { files_stay = stay; host_stays = refl };
    }

    pub resume_cut : (oc oc1 ec rises ec1 : ℕ) (r : Result Ending Refusal)
        → IfErr r (λ why. why ≡ refusals.Sink) → ec ≤ rises → HasCause rises ec1 r
        → OnErr r (GrewByFront err_then err1 (report_in (kernel_world after) ending))
        → IfErr r (λ why. (tells : Bool) (f f' : Text → Option (List ℕ)) (h : HostSeen)
        (k k' m : ℕ) → ((n : Text) → f' n ≡ f n) → LeavesResume g log
        (outside tells f f' h h out out1 err err1 tally tally1) (faults k k' m m oc oc1 ec ec1) why)
    resume_cut oc oc1 ec rises ec1 (Ok ended) sink later cause front = tt
    resume_cut oc oc1 ec rises ec1 (Err why) sink later cause front = λ tells f f' h k k' m stay.
        let o : Outside = outside tells f f' h h out out1 err err1 tally tally1 in
        let counts : Faults = faults k k' m m oc oc1 ec ec1 in
        subst (λ (w : Refusal). LeavesResume g log o counts w) (sym sink) (
          inr (then_rose ec rises ec1 later cause.failed),
          inr (record {
            seen = run.0;
            resumed = run.1;
            counted = run.2.counted;
            grew = record {
              out_is = run.2.put.out_is;
              err_is = subst (λ (t : Option (List ℕ)). GrewByFront t err1 (report run.0))
                  run.2.put.err_is (subst (λ (r : List ℕ). GrewByFront err_then err1 r)
                  run.2.shows.report_is front);
            };
            stays = record { files_stay = stay; host_stays = refl };
          }),
        )

-- ---- the call

pub resume_begun : (g : SavedGroup) (log : Log) (name from : Text) (tells : Bool)
    (f f' : Text → Option (List ℕ)) (out err out1 err1 : Option (List ℕ)) (tally tally1 : ℕ)
    (r : Result Ending Refusal)
    → IfSome (resume_judgement (f from) (f name)) (λ j. j ≡ Ok (taken_group g log))
    → ((n : Text) → f' n ≡ f n)
    → IfOk r (λ ended. (tells : Bool) (f f' : Text → Option (List ℕ)) (h : HostSeen)
    → ((n : Text) → f' n ≡ f n) → DidResume g log (ending_status ended)
    (outside tells f f' h h out out1 err err1 tally tally1))
    → (n : ℕ) (h : HostSeen) → IfOk r (λ ended. Begun (requests.Resume n name from)
    (outside tells f f' h h out out1 err err1 tally tally1)
    (λ taken. Did (requests.Resume n name from) taken (ending_status ended)
    (outside tells f f' h h out out1 err err1 tally tally1)))
resume_begun g log name from tells f f' out err out1 err1 tally tally1 (Err why) told stay did =
    λ n h. tt
resume_begun g log name from tells f f' out err out1 err1 tally tally1 (Ok ended) told stay did =
    λ n h. record { taken = taken_group g log; is = told; so = did tells f f' h stay }

leaves_resume : (g : SavedGroup) (log : Log) (name from : Text) (n : ℕ) (o : Outside) (f : Faults)
    (why : Refusal)
    → IfSome (resume_judgement (o.files from) (o.files name)) (λ j. j ≡ Ok (taken_group g log))
    → LeavesResume g log o f why → Leaves (requests.Resume n name from) o f why []
leaves_resume g log name from n o f (refusals.Misfit found) told h =
    record { taken = taken_group g log; is = told; so = h }
leaves_resume g log name from n o f refusals.Sink told h =
    (h.0, refl, record { taken = taken_group g log; is = told; so = h.1 })
leaves_resume g log name from n o f refusals.Memory told h = inl h
leaves_resume g log name from n o f why told h = absurd h

pub resume_leaves : (g : SavedGroup) (log : Log) (name from : Text) (tells : Bool)
    (f f' : Text → Option (List ℕ)) (out err out1 err1 : Option (List ℕ))
    (tally tally1 k k' oc oc1 ec ec1 : ℕ) (r : Result Ending Refusal)
    → IfSome (resume_judgement (f from) (f name)) (λ j. j ≡ Ok (taken_group g log))
    → ((n : Text) → f' n ≡ f n)
    → IfErr r (λ why. (tells : Bool) (f f' : Text → Option (List ℕ)) (h : HostSeen)
    (k k' m : ℕ) → ((n : Text) → f' n ≡ f n) → LeavesResume g log
    (outside tells f f' h h out out1 err err1 tally tally1) (faults k k' m m oc oc1 ec ec1) why)
    → (n : ℕ) (h : HostSeen) (m : ℕ) → IfErr r (λ why. Leaves (requests.Resume n name from)
    (outside tells f f' h h out out1 err err1 tally tally1) (faults k k' m m oc oc1 ec ec1) why [])
resume_leaves g log name from tells f f' out err out1 err1 tally tally1 k k' oc oc1 ec ec1
    (Ok ended) told stay leaves = λ n h m. tt
resume_leaves g log name from tells f f' out err out1 err1 tally tally1 k k' oc oc1 ec ec1
    (Err why) told stay leaves = λ n h m.
    leaves_resume g log name from n (outside tells f f' h h out out1 err err1 tally tally1)
    (faults k k' m m oc oc1 ec ec1) why told (leaves tells f f' h k k' m stay)

-- ---- what the files are taken for

-- behind the group, the log's file
module _ (f f1 : Text → Option (List ℕ)) (from name : Text) (g : SavedGroup)
    (same : (n : Text) → f1 n ≡ f n)
    (accepted : IfSome (f from) (λ file. group_verdict file ≡ Ok g)) where
  judged_so : (P : Judgement → Type 0)
      → IfSome (f1 name) (λ file. P (with_log g file (log_verdict file)))
      → IfSome (resume_judgement (f from) (f name)) P
  judged_so P h = go (f from) accepted
      (subst (λ told. IfSome told (λ file. P (with_log g file (log_verdict file)))) (same name) h)
    where
      by_log : (told : Option (List ℕ))
          → IfSome told (λ file. P (with_log g file (log_verdict file)))
          → IfSome (option_map (λ file. with_log g file (log_verdict file)) told) P
      by_log None h = tt
      by_log (Some file) h = h

      go : (group : Option (List ℕ)) → IfSome group (λ file. group_verdict file ≡ Ok g)
          → IfSome (f name) (λ file. P (with_log g file (log_verdict file)))
          → IfSome (resume_judgement group (f name)) P
      go None is h = tt
      go (Some file) is h = rw is (by_log (f name) h)

  -- the log is refused
  pub log_refused : (why : Refusal) → IfSome (f1 name) (λ file. (found : Refusal)
      × (with_log g file (log_verdict file) ≡ Err found) × (found ≡ why))
      → IfSome (resume_judgement (f from) (f name)) (λ j. j ≡ Err why)
  log_refused why h = judged_so (λ j. j ≡ Err why) (each (f1 name) h)
    where
      each : (told : Option (List ℕ)) → IfSome told (λ file. (found : Refusal)
          × (with_log g file (log_verdict file) ≡ Err found) × (found ≡ why))
          → IfSome told (λ file. with_log g file (log_verdict file) ≡ Err why)
      each None h = tt
      each (Some file) h = h.1 ∙ ap (λ w. Err w) h.2

  -- the log is read, and the group is of it, or isn't
  pub log_read : (log : Log) (b : Bool)
      → is_of_log g (log_digest log) (length (exchanges log)) ≡ b
      → IfSome (f1 name) (λ file. log_verdict file ≡ Ok log)
      → IfSome (f1 name) (λ file. (file ≡ logtext log) × FitsLog log)
      → IfSome (resume_judgement (f from) (f name)) (λ j. j ≡ belonging g log b)
  log_read log b is read text = judged_so (λ j. j ≡ belonging g log b) (each (f1 name) read text)
    where
      each : (told : Option (List ℕ)) → IfSome told (λ file. log_verdict file ≡ Ok log)
          → IfSome told (λ file. (file ≡ logtext log) × FitsLog log)
          → IfSome told (λ file. with_log g file (log_verdict file) ≡ belonging g log b)
      each None read text = tt
      each (Some file) read text =
          ap (with_log g file) read
          ∙ ap (λ digest. belonging g log (is_of_log g digest (length (exchanges log))))
          (ap sha256 text.0)
          ∙ ap (belonging g log) is

-- some of the log is left
pub some_left : (g : SavedGroup) (digest : List ℕ) (n : ℕ) → is_of_log g digest n ≡ true
    → g.used < n
some_left g digest n is = ltb-true g.used n (and_parts _ _ is).1

-- ---- held against its log

pub held_so : {A : Type 0} (r : Result A Refusal) (x : A) (of_log : Type 0) (P : A → Type 0)
    → IfOk r (λ y. y ≡ x) → IfOk r (λ y. of_log) → (of_log → P x) → IfOk r P
held_so (Err why) x of_log P is of step = tt
held_so (Ok y) x of_log P is of step = subst P (sym is) (step of)

pub not_held : {A : Type 0} (r : Result A Refusal) (other : Type 0) (P : Refusal → Type 0)
    → IfErr r (λ why. (why ≡ refusals.Memory) ⊎ ((why ≡ refusals.Group OtherLog) × other))
    → P refusals.Memory → (other → P (refusals.Group OtherLog)) → IfErr r P
not_held (Ok x) other P h memory step = tt
not_held (Err why) other P (inl is) memory step = subst P (sym is) memory
not_held (Err why) other P (inr h) memory step = subst P (sym h.0) (step h.1)

-- ---- what was read is refused

pub leaves_taking : (asked : Request) (o : Outside) (f : Faults) (why : Refusal)
    → OfTakingGroup why (λ w. IfSome (judgement o.files asked) (λ j. j ≡ Err w))
    → (why ≡ refusals.Files → Rose f.files f.files_after) → Says o [] → Leaves asked o f why []
leaves_taking asked o f (refusals.Group why) h k s = record { is = h; says = s }
leaves_taking asked o f (refusals.Log why) h k s = record { is = h; says = s }
leaves_taking asked o f refusals.Files h k s = (k refl, inl s)
leaves_taking asked o f refusals.Memory h k s = inl s
leaves_taking asked o f why h k s = absurd h

-- ---- all was read

pub resuming_later : (g : SavedGroup) (log : Log) (out err out1 err1 : Option (List ℕ))
    (tally tally1 oc oc1 ec ec1 : ℕ) (r : Result Ending Refusal)
    → IfErr r (λ why. (tells : Bool) (f f' : Text → Option (List ℕ)) (h : HostSeen)
    (k k' m : ℕ) → ((n : Text) → f' n ≡ f n) → LeavesResume g log
    (outside tells f f' h h out out1 err err1 tally tally1) (faults k k' m m oc oc1 ec ec1) why)
    → IfErr r IsLater
resuming_later g log out err out1 err1 tally tally1 oc oc1 ec ec1 (Ok ended) leaves = tt
resuming_later g log out err out1 err1 tally tally1 oc oc1 ec ec1 (Err why) leaves =
    let unasked : HostSeen = host_seen None [] in
    later_resume g log
    (outside true (λ n. None) (λ n. None) unasked unasked out out1 err err1 tally tally1)
    (faults 0 0 0 0 oc oc1 ec ec1) why
    (leaves true (λ n. None) (λ n. None) unasked 0 0 0 (λ n. refl))
