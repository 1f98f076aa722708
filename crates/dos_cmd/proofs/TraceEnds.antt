-- What a traced replay leaves, by how it ends.
use Rattle.std.proofs.Common.{◌≡◌, ◌≤◌, inl, inr, ℕ, Bool, List, [], map, Option, None}
use Rattle.std.proofs.Common.{Result, Ok, Err, sym, ap, ◌∙◌, subst, refl, true}
use Rattle.std.specs.Prelude.{IfSome, IfOk, IfErr, OnOk, OnErr}
use Rattle.logged_runs.specs.Recording.{HostSeen, host_seen}
use Rattle.dos_io.specs.Outside.{grown, GrewByFront, HasCause}
use Rattle.dos_io.proofs.OutsideLaws.{grown-nothing}
use Rattle.dos_world.specs.declared.Config.{Config}
use Rattle.dos_world.specs.declared.Scheme.TheVariants.{Ownership}
use Rattle.dos_world.specs.declared.Ending.{Ending}
use Rattle.dos_world.specs.declared.Misfit.{Misfit}
use Rattle.elf_image.specs.Image.{Image}
use Rattle.flat_machine.specs.Opening.{needed}
use Rattle.kernel_calls.specs.declared.state.RunStop.TheVariants as stops
use Rattle.group_rounds.specs.Kernels.{Held, kernel_world}
use Rattle.dpg_run.specs.Report.{report_in}
use Rattle.log_text.specs.LogText.{Log}
use Rattle.logged_runs.specs.Opened.{IsOpenedWith}
use Rattle.logged_runs.specs.Replaying.{config_of}
use Rattle.page_trace.specs.Tracing.{HasLineCause}
use Rattle.page_trace.specs.declared.stop.TraceStop.{TraceStop}
use Rattle.page_trace.specs.declared.stop.TraceStop.TheVariants as traces
use Rattle.traced_logs.specs.TracedLogs.{StopsTrace, TracedAhead, TracedUntil, TracedWhole}
use Rattle.dos_texts.specs.Exit.{ending_status}
use Rattle.dos_texts.specs.declared.refusal.Refusal.{Refusal}
use Rattle.dos_texts.specs.declared.refusal.Refusal.TheVariants as refusals
use Rattle.dos_words.specs.Numbers.{Text}
use Rattle.dos_words.specs.declared.request.Request.TheVariants as requests
use Rattle.dos_cmd.proofs.Asked.{IsLater, later_trace}
use Rattle.dos_cmd.specs.Judging.{agreed, replay_judgement, taken_log}
use Rattle.dos_cmd.specs.Outside.{Outside, Faults, outside, faults, Says}
use Rattle.dos_cmd.specs.ReplayLeaves.{StaysAll}
use Rattle.dos_cmd.specs.Results.{Begun, Did, Leaves}
use Rattle.dos_cmd.specs.Stops.{IsNotOpened}
use Rattle.dos_cmd.specs.TraceLeaves.{DidTrace, LeavesTrace, trace_refusal}
use Rattle.dos_cmd.proofs.NotBegun.{no_room_so, not_opened_as, says_nothing}
use Rattle.dos_cmd.proofs.ReplayTaking.{room_refused, room_taken}

-- ---- it isn't opened

pub trace_not_opened : (log : Log) (images : List Image) (o : Outside) (f : Faults) (why : Refusal)
    (config : Config) → config ≡ config_of Ownership log.header → IsNotOpened images config why
    → Says o []
    → LeavesTrace log images o f why
trace_not_opened log images o f why config is h says =
    not_opened_as images (config_of Ownership log.header) why
    (λ (w : Refusal). LeavesTrace log images o f w)
    (subst (λ (c : Config). IsNotOpened images c why) is h) (λ over. (refl, refl, over, says)) says

-- ---- a run that stopped

abbrev stopped_so : TraceStop → Result Ending TraceStop
stopped_so stop = Err stop

pub trace_stopped : (log : Log) (images : List Image) (o : Outside) (f : Faults) (stop : TraceStop)
    (why : Refusal) → why ≡ trace_refusal stop → needed images ≤ log.header.frames
    → StopsTrace stop
    → ((found : Misfit) → stopped_so stop ≡ Err (traces.Run (stops.Misfit found))
    → TracedUntil images log found o.out o.out_after o.tally o.tally_after)
    → (stopped_so stop ≡ Err traces.LineFault
    → TracedAhead images log o.out o.out_after o.tally o.tally_after)
    → (stopped_so stop ≡ Err traces.Memory → o.out_after ≡ o.out)
    → (stopped_so stop ≡ Err traces.Memory → o.tally_after ≡ o.tally)
    → HasLineCause stop f.out f.out_after → o.err_after ≡ o.err → StaysAll o
    → LeavesTrace log images o f why
trace_stopped log images o f stop why is fits only until ahead memory rested cause quiet stay =
    subst (λ (w : Refusal). LeavesTrace log images o f w) (sym is)
    (by_stop stop only until ahead memory rested cause)
  where
    by_stop : (stop : TraceStop) → StopsTrace stop
        → ((found : Misfit) → stopped_so stop ≡ Err (traces.Run (stops.Misfit found))
        → TracedUntil images log found o.out o.out_after o.tally o.tally_after)
        → (stopped_so stop ≡ Err traces.LineFault
        → TracedAhead images log o.out o.out_after o.tally o.tally_after)
        → (stopped_so stop ≡ Err traces.Memory → o.out_after ≡ o.out)
        → (stopped_so stop ≡ Err traces.Memory → o.tally_after ≡ o.tally)
        → HasLineCause stop f.out f.out_after
        → LeavesTrace log images o f (trace_refusal stop)
    by_stop (traces.Run (stops.Misfit found)) only until ahead memory rested cause =
        let run = until found refl in (
          fits,
          record {
            output = run.output;
            error = run.error;
            work = run.work;
            replayed = run.replayed;
            counted = run.counted;
            grew = record { out_is = run.lines_are; err_is = quiet ∙ grown-nothing o.err };
            stays = stay;
          },
        )
    by_stop (traces.Run stop) only until ahead memory rested cause = absurd only
    by_stop traces.LineFault only until ahead memory rested cause =
        let run = ahead refl in (
          fits,
          inl cause,
          inl (record {
            answered = run.answered;
            counted = run.counted;
            out_is = run.front;
            err_stays = quiet;
            stays = stay;
          }),
        )
    by_stop traces.Memory only until ahead memory rested cause =
        says_nothing o (memory refl) quiet stay.files_stay stay.host_stays (rested refl)

-- ---- a run that came to its end

module _ (log : Log) (images : List Image) (kernel after : Held) (ending : Ending)
    (out out1 err err1 : Option (List ℕ)) (tally tally1 : ℕ)
    (opened : IsOpenedWith kernel images (config_of Ownership log.header))
    (whole : (i : List Image) → IsOpenedWith kernel i (config_of Ownership log.header)
    → TracedWhole i log after ending out out1 tally tally1) where
  pub trace_did : (r : Result Ending Refusal) → IfOk r (λ ended. ended ≡ ending)
      → OnOk r (err1 ≡ grown err (report_in (kernel_world after) ending))
      → IfOk r (λ ended. (tells : Bool) (f f' : Text → Option (List ℕ)) (h : HostSeen)
      → ((n : Text) → f' n ≡ f n) → DidTrace log images (ending_status ended)
      (outside tells f f' h h out out1 err err1 tally tally1))
  trace_did (Err why) same told = tt
  trace_did (Ok ended) same told = λ tells f f' h stay.
      let run = whole images opened in
      record {
        seen = run.seen;
        replayed = run.replayed;
        status_is = ap ending_status (same ∙ sym run.shows.ending_is);
        counted = run.counted;
        grew = record {
          out_is = run.lines_are;
          err_is = told ∙ ap (grown err) run.shows.report_is;
        };
        stays = record { files_stay = stay; host_stays = refl };
      }

  pub trace_cut : (oc oc1 ec ec1 : ℕ) (r : Result Ending Refusal)
      → needed images ≤ log.header.frames → IfErr r (λ why. why ≡ refusals.Sink)
      → HasCause ec ec1 r
      → OnErr r (GrewByFront err err1 (report_in (kernel_world after) ending))
      → IfErr r (λ why. (tells : Bool) (f f' : Text → Option (List ℕ)) (h : HostSeen)
      (k k' m : ℕ) → ((n : Text) → f' n ≡ f n) → LeavesTrace log images
      (outside tells f f' h h out out1 err err1 tally tally1) (faults k k' m m oc oc1 ec ec1) why)
  trace_cut oc oc1 ec ec1 (Ok ended) fits sink cause front = tt
  trace_cut oc oc1 ec ec1 (Err why) fits sink cause front = λ tells f f' h k k' m stay.
      let run = whole images opened in
      let o : Outside = outside tells f f' h h out out1 err err1 tally tally1 in
      let counts : Faults = faults k k' m m oc oc1 ec ec1 in
      subst (λ (w : Refusal). LeavesTrace log images o counts w) (sym sink) (
        fits,
        inr cause.failed,
        inr (record {
          seen = run.seen;
          replayed = run.replayed;
          counted = run.counted;
          out_is = run.lines_are;
          err_is = subst (λ (r : List ℕ). GrewByFront err err1 r) run.shows.report_is front;
          stays = record { files_stay = stay; host_stays = refl };
        }),
      )

-- ---- the call

pub trace_begun : (log : Log) (images : List Image) (name : Text) (names : List Text)
    (tells : Bool) (f f' : Text → Option (List ℕ)) (out err out1 err1 : Option (List ℕ))
    (tally tally1 : ℕ) (r : Result Ending Refusal)
    → IfSome (replay_judgement (f name) (map f names)) (λ j. j ≡ agreed log images None)
    → OnOk r (needed images ≤ log.header.frames) → ((n : Text) → f' n ≡ f n)
    → IfOk r (λ ended. (tells : Bool) (f f' : Text → Option (List ℕ)) (h : HostSeen)
    → ((n : Text) → f' n ≡ f n) → DidTrace log images (ending_status ended)
    (outside tells f f' h h out out1 err err1 tally tally1))
    → (n : ℕ) (h : HostSeen) → IfOk r (λ ended. Begun (requests.Trace n name names)
    (outside tells f f' h h out out1 err err1 tally tally1)
    (λ taken. Did (requests.Trace n name names) taken (ending_status ended)
    (outside tells f f' h h out out1 err err1 tally tally1)))
trace_begun log images name names tells f f' out err out1 err1 tally tally1 (Err why) told fits
    stay did = λ n h. tt
trace_begun log images name names tells f f' out err out1 err1 tally tally1 (Ok ended) told fits
    stay did = λ n h. record {
      taken = taken_log log images;
      is = room_taken (replay_judgement (f name) (map f names)) log images fits told;
      so = did tells f f' h stay;
    }

trace_leaves_taken : (log : Log) (images : List Image) (name : Text) (names : List Text) (n : ℕ)
    (o : Outside) (f : Faults) (why : Refusal)
    → IfSome (replay_judgement (o.files name) (map o.files names))
    (λ j. j ≡ agreed log images None) → LeavesTrace log images o f why
    → Leaves (requests.Trace n name names) o f why []
trace_leaves_taken log images name names n o f (refusals.NoRoom m frames) told h = record {
  is = subst (λ (w : Refusal). IfSome (replay_judgement (o.files name) (map o.files names))
      (λ j. j ≡ Err w)) (no_room_so m frames (needed images) log.header.frames h.0 h.1)
      (room_refused (replay_judgement (o.files name) (map o.files names)) log images h.2 told);
  says = h.3;
}
trace_leaves_taken log images name names n o f (refusals.Misfit found) told h = record {
  taken = taken_log log images;
  is = room_taken (replay_judgement (o.files name) (map o.files names)) log images h.0 told;
  so = h.1;
}
trace_leaves_taken log images name names n o f refusals.Sink told h = (
  h.1,
  refl,
  record {
    taken = taken_log log images;
    is = room_taken (replay_judgement (o.files name) (map o.files names)) log images h.0 told;
    so = h.2;
  },
)
trace_leaves_taken log images name names n o f refusals.Memory told h = inl h
trace_leaves_taken log images name names n o f why told h = absurd h

pub trace_leaves : (log : Log) (images : List Image) (name : Text) (names : List Text)
    (tells : Bool) (f f' : Text → Option (List ℕ)) (out err out1 err1 : Option (List ℕ))
    (tally tally1 k k' oc oc1 ec ec1 : ℕ) (r : Result Ending Refusal)
    → IfSome (replay_judgement (f name) (map f names)) (λ j. j ≡ agreed log images None)
    → ((n : Text) → f' n ≡ f n)
    → IfErr r (λ why. (tells : Bool) (f f' : Text → Option (List ℕ)) (h : HostSeen)
    (k k' m : ℕ) → ((n : Text) → f' n ≡ f n) → LeavesTrace log images
    (outside tells f f' h h out out1 err err1 tally tally1) (faults k k' m m oc oc1 ec ec1) why)
    → (n : ℕ) (h : HostSeen) (m : ℕ) → IfErr r (λ why. Leaves (requests.Trace n name names)
    (outside tells f f' h h out out1 err err1 tally tally1) (faults k k' m m oc oc1 ec ec1) why [])
trace_leaves log images name names tells f f' out err out1 err1 tally tally1 k k' oc oc1 ec ec1
    (Ok ended) told stay leaves = λ n h m. tt
trace_leaves log images name names tells f f' out err out1 err1 tally tally1 k k' oc oc1 ec ec1
    (Err why) told stay leaves = λ n h m.
    trace_leaves_taken log images name names n
    (outside tells f f' h h out out1 err err1 tally tally1)
    (faults k k' m m oc oc1 ec ec1) why told (leaves tells f f' h k k' m stay)

-- All files were read before.
pub trace_later : (log : Log) (images : List Image) (out err out1 err1 : Option (List ℕ))
    (tally tally1 oc oc1 ec ec1 : ℕ) (r : Result Ending Refusal)
    → IfErr r (λ why. (tells : Bool) (f f' : Text → Option (List ℕ)) (h : HostSeen)
    (k k' m : ℕ) → ((n : Text) → f' n ≡ f n) → LeavesTrace log images
    (outside tells f f' h h out out1 err err1 tally tally1) (faults k k' m m oc oc1 ec ec1) why)
    → IfErr r IsLater
trace_later log images out err out1 err1 tally tally1 oc oc1 ec ec1 (Ok ended) leaves = tt
trace_later log images out err out1 err1 tally tally1 oc oc1 ec ec1 (Err why) leaves =
    later_trace log images
    (outside true (λ n. None) (λ n. None) unasked unasked out out1 err err1 tally tally1)
    (faults 0 0 0 0 oc oc1 ec ec1) why
    (leaves true (λ n. None) (λ n. None) unasked 0 0 0 (λ n. refl))
  where
    unasked : HostSeen
    unasked = host_seen None []

-- ---- counts that stand

-- where it isn't a sink's fault, no line failed
pub no_line_fault : (stop : TraceStop) (why : Refusal) → why ≡ trace_refusal stop
    → (◌≡◌ {A = Result Ending Refusal} (Err why) (Err refusals.Sink) → ⊥)
    → stopped_so stop ≡ Err traces.LineFault → ⊥
no_line_fault stop why is other fault =
    other (ap refused (is ∙ ap trace_refusal same))
  where
    refused : Refusal → Result Ending Refusal
    refused r = Err r

    same : stop ≡ traces.LineFault
    same = cc
