-- What a recorded run leaves, by how it ends.
use Rattle.std.proofs.Common.{◌≡◌, ◌⊎◌, ◌≤◌, inl, inr, ℕ, List, [], ◌++◌, append-nil, Bool, true}
use Rattle.std.proofs.Common.{false, Option, Result, Ok, Err, IsErrOf, sym, ap, ◌∙◌, subst, refl}
use Rattle.std.proofs.Common.{arith}
use Rattle.std.specs.Prelude.{IfSome, IfOk, IfErr, OnOk, OnErr, IsTrue, None, Some}
use Rattle.std.specs.Str.{bytes_eq}
use Rattle.std.proofs.lemmas.Slice.Eq.{bytes_eq-Decides}
use Rattle.dos_io.specs.Outside.{grown, GrewByFront, HasCause, Rose}
use Rattle.dos_io.specs.declared.shim.ShimStop.{ShimStop}
use Rattle.dos_io.specs.declared.shim.ShimStop.TheVariants as shims
use Rattle.dos_io.proofs.OutsideLaws.{grown_more}
use Rattle.dos_world.specs.declared.Config.{Config}
use Rattle.dos_world.specs.declared.Ending.{Ending}
use Rattle.elf_image.specs.Image.{Image}
use Rattle.kernel_calls.specs.StateWorld.{HasSinkCause, shim_stop}
use Rattle.kernel_calls.specs.declared.state.RunStop.{RunStop}
use Rattle.kernel_calls.specs.declared.state.RunStop.TheVariants as stops
use Rattle.group_rounds.specs.Kernels.{Held, kernel_world}
use Rattle.flat_machine.specs.Machine.{Seen}
use Rattle.dpg_run.specs.Report.{report, report_in}
use Rattle.shim_log.specs.Ledger.{LedgerState}
use Rattle.log_text.specs.LogText.{Log, logtext}
use Rattle.logged_runs.specs.Opened.{IsOpenedWith}
use Rattle.logged_runs.specs.Runs.{Ended, Halted}
use Rattle.logged_runs.specs.Recording.{Plan, Recorded, RecordedAhead, RecordedUntil, plan_of}
use Rattle.dos_texts.specs.Exit.{ending_status}
use Rattle.dos_texts.specs.declared.refusal.Refusal.{Refusal}
use Rattle.dos_texts.specs.declared.refusal.Refusal.TheVariants as refusals
use Rattle.dos_words.specs.Numbers.{Text}
use Rattle.dos_cmd.specs.Outside.{Outside, Faults, FilesStay, OthersStay, FileHolds}
use Rattle.dos_cmd.specs.RunLeaves.{RunAsked, IsPlanned, IsPrepared, WasRecorded, DidRun}
use Rattle.dos_cmd.specs.RunLeaves.{StoppedRun, UnwrittenRun, CutRun}
use Rattle.dos_cmd.specs.Stops.{refusal_by, IsUnreported, IsUnwritten, IsWritten, LeavesRun}

-- ---- counts of faults

pub then_rose : (a b d : ℕ) → a ≤ b → Rose b d → Rose a d
then_rose a b d h k = omega arith

pub is_err_of : {T E : Type 0} (x y : E) → x ≡ y → IsErrOf {T = T} {E = E} (Err x) y
is_err_of x y e = cc

-- the same error, of a result of another type
pub err_again : {T U E : Type 0} (x y : E) → IsErrOf {T = T} {E = E} (Err x) y
    → IsErrOf {T = U} {E = E} (Err x) y
err_again x y is = let same : x ≡ y = cc in is_err_of x y same

-- what was answered is no error
pub ok_no_err : {T E : Type 0} (x : T) (e : E) → IsErrOf {T = T} {E = E} (Ok x) e → ⊥
ok_no_err x e is = cc

-- ---- a run that stopped

-- with nothing behind
put_nothing : (told after : Option (List ℕ)) (bytes : List ℕ) → after ≡ grown told bytes
    → after ≡ grown told (bytes ++ [])
put_nothing told after bytes e = e ∙ ap (grown told) (sym (append-nil bytes))

-- the run until there, and what was put by then
abbrev pub Until : Plan → Outside → ShimStop → Type 0
Until plan o stop = (output : List ℕ) × (error : List ℕ) × (work : ℕ)
    × RecordedUntil plan o.host o.host_after stop output error work
    × Halted o.out o.err o.out_after o.err_after o.tally o.tally_after output error work

-- so where an output failed
abbrev pub Ahead : Plan → Outside → RunStop → Type 0
Ahead plan o stop = (output : List ℕ) × (error : List ℕ) × (work : ℕ)
    × RecordedAhead plan o.host o.host_after stop output error work
    × Halted o.out o.err o.out_after o.err_after o.tally o.tally_after output error work

stopped_run : (asked : RunAsked) (images : List Image) (o : Outside) (plan : Plan)
    (stop : ShimStop) → IsPlanned asked images o plan → FilesStay o → Until plan o stop
    → StoppedRun asked images stop [] o
stopped_run asked images o plan stop planned stay until = record {
  plan = plan;
  planned = planned;
  output = until.0;
  error = until.1;
  work = until.2;
  recorded = until.3;
  counted = until.4.counted;
  grew = record {
    out_is = until.4.put.out_is;
    err_is = put_nothing o.err o.err_after until.1 until.4.put.err_is;
  };
  files_stay = stay;
}

cut_run : (asked : RunAsked) (images : List Image) (o : Outside) (plan : Plan) (stop : RunStop)
    → shim_stop stop ≡ None → IsPlanned asked images o plan → FilesStay o → Ahead plan o stop
    → CutRun asked images o
cut_run asked images o plan stop output planned stay ahead = record {
  plan = plan;
  planned = planned;
  stop = stop;
  by_output = output;
  output = ahead.0;
  error = ahead.1;
  work = ahead.2;
  recorded = ahead.3;
  counted = ahead.4.counted;
  grew = record { out_is = ahead.4.put.out_is; err_is = ahead.4.put.err_is };
  files_stay = stay;
}

stopped_so : (asked : RunAsked) (images : List Image) (o : Outside) (f : Faults) (plan : Plan)
    (stop : RunStop) → IfSome (shim_stop stop) (Until plan o) → Ahead plan o stop
    → (stop ≡ stops.HostFault → Rose f.host f.host_after)
    → HasSinkCause stop f.out f.out_after f.err f.err_after → IsPlanned asked images o plan
    → FilesStay o → LeavesRun asked images o f (refusal_by stop)
stopped_so asked images o f plan stops.OutFault until ahead host sink planned stay =
    (inl sink, inl (cut_run asked images o plan stops.OutFault refl planned stay ahead))
stopped_so asked images o f plan stops.ErrFault until ahead host sink planned stay =
    (inr sink, inl (cut_run asked images o plan stops.ErrFault refl planned stay ahead))
stopped_so asked images o f plan stops.HostFault until ahead host sink planned stay =
    (host refl, stopped_run asked images o plan shims.HostFault planned stay until)
stopped_so asked images o f plan stops.LogFull until ahead host sink planned stay =
    stopped_run asked images o plan shims.LogFull planned stay until
stopped_so asked images o f plan (stops.Misfit found) until ahead host sink planned stay =
    absurd until.3.stops
stopped_so asked images o f plan stops.Memory until ahead host sink planned stay =
    inl (stopped_run asked images o plan shims.Memory planned stay until)

-- what holds of each images and configuration that a kernel was opened with holds of these
if_opened : (stop : Option ShimStop) (P : List Image → Config → ShimStop → Type 0)
    (kernel : Held) (images : List Image) (config : Config) → IsOpenedWith kernel images config
    → IfSome stop (λ s. (i : List Image) (c : Config) → IsOpenedWith kernel i c → P i c s)
    → IfSome stop (P images config)
if_opened None P kernel images config opened h = tt
if_opened (Some s) P kernel images config opened h = h images config opened

pub run_stopped : (o : Outside) (f : Faults) (kernel : Held) (ledger : LedgerState) (name : Text)
    (stop : RunStop) (why : Refusal) → why ≡ refusal_by stop
    → IfSome (shim_stop stop) (λ s. (i : List Image) (c : Config) → IsOpenedWith kernel i c
    → Until (plan_of i c ledger) o s)
    → ((i : List Image) (c : Config) → IsOpenedWith kernel i c
    → Ahead (plan_of i c ledger) o stop)
    → (stop ≡ stops.HostFault → Rose f.host f.host_after)
    → HasSinkCause stop f.out f.out_after f.err f.err_after → FilesStay o → (asked : RunAsked)
    (images : List Image) → IsPrepared asked images kernel ledger name o
    → LeavesRun asked images o f why
run_stopped o f kernel ledger name stop why is until ahead host sink stay asked images p =
    subst (λ (r : Refusal). LeavesRun asked images o f r) (sym is)
    (stopped_so asked images o f (plan_of images asked.config ledger) stop
    (if_opened (shim_stop stop) (λ i c s. Until (plan_of i c ledger) o s) kernel images
    asked.config p.opened until)
    (ahead images asked.config p.opened) host sink p.planned stay)

-- ---- a run that came to its end

-- what is seen of it, and what was put by then: error told this
abbrev pub Whole : (kernel after : Held) (ledger : LedgerState) → Ending → Log
    → (o : Outside) → (err_then : Option (List ℕ)) → Type 0
Whole kernel after ledger ending log o err_then = (i : List Image) (c : Config)
    → IsOpenedWith kernel i c → (seen : Seen)
    × Recorded (plan_of i c ledger) o.host o.host_after log seen
    × Ended after ending seen o.out o.err o.out_after err_then o.tally o.tally_after

was_recorded : (asked : RunAsked) (images : List Image) (o : Outside) (kernel : Held)
    (ledger : LedgerState) (name : Text) (log : Log) (seen : Seen)
    → IsPrepared asked images kernel ledger name o
    → Recorded (plan_of images asked.config ledger) o.host o.host_after log seen
    → WasRecorded asked images o log seen
was_recorded asked images o kernel ledger name log seen p recorded = record {
  plan = plan_of images asked.config ledger;
  planned = p.planned;
  recorded = recorded;
}

-- A file that holds what it held, among others that do.
stays_at : (o : Outside) (name n : Text) (b : Bool) → bytes_eq n name ≡ b
    → o.files_after name ≡ o.files name → OthersStay o name → o.files_after n ≡ o.files n
stays_at o name n true same at others =
    let e : n ≡ name = (bytes_eq-Decides n name).0 same in
    ap o.files_after e ∙ at ∙ sym (ap o.files e)
stays_at o name n false other at others =
    others n (λ e. let same : bytes_eq n name ≡ true = (bytes_eq-Decides n name).1 e in cc)

pub all_stay : (o : Outside) (name : Text) → o.files_after name ≡ o.files name → OthersStay o name
    → FilesStay o
all_stay o name at others = λ n. stays_at o name n (bytes_eq n name) refl at others

unwritten_so : (asked : RunAsked) (images : List Image) (o : Outside) (f : Faults) (name : Text)
    (why : Refusal) → asked.log ≡ name → UnwrittenRun asked images [] o
    → (why ≡ refusals.Files) ⊎ ((why ≡ refusals.Memory)
    × (o.files_after name ≡ o.files name))
    → (why ≡ refusals.Files → Rose f.files f.files_after) → OthersStay o name
    → LeavesRun asked images o f why
unwritten_so asked images o f name why log_is unwritten (inl is) rose others =
    subst (λ (r : Refusal). LeavesRun asked images o f r) (sym is) (rose is, unwritten)
unwritten_so asked images o f name why log_is unwritten (inr k) rose others =
    subst (λ (r : Refusal). LeavesRun asked images o f r) (sym k.0)
    (inr (all_stay o name k.1 others, unwritten))

run_unwritten : (o : Outside) (f : Faults) (kernel after : Held) (ledger : LedgerState)
    (name : Text) (ending : Ending) (log : Log) (why : Refusal)
    → Whole kernel after ledger ending log o o.err_after
    → (why ≡ refusals.Files) ⊎ ((why ≡ refusals.Memory)
    × (o.files_after name ≡ o.files name))
    → (why ≡ refusals.Files → Rose f.files f.files_after) → OthersStay o name → (asked : RunAsked)
    (images : List Image) → IsPrepared asked images kernel ledger name o
    → LeavesRun asked images o f why
run_unwritten o f kernel after ledger name ending log why whole is rose others asked images p =
    let run = whole images asked.config p.opened in
    unwritten_so asked images o f name why p.log_is (record {
      log = log;
      seen = run.0;
      was = was_recorded asked images o kernel ledger name log run.0 p run.1;
      counted = run.2.counted;
      grew = record {
        out_is = run.2.put.out_is;
        err_is = put_nothing o.err o.err_after run.0.error run.2.put.err_is;
      };
      others = subst (OthersStay o) (sym p.log_is) others;
    }) is rose others

-- what the log's file holds
holds : (o : Outside) (name : Text) (log : Log)
    → IsWritten log o.files_tell o.files o.files_after name → FileHolds o name (logtext log)
holds o name log w = record { where_told = w.where_told; where_all_tell = w.where_all_tell }

did_so : (o : Outside) (kernel after : Held) (ledger : LedgerState) (name : Text)
    (ending : Ending) (log : Log) (err_then : Option (List ℕ))
    → Whole kernel after ledger ending log o err_then → FileHolds o name (logtext log)
    → OthersStay o name → o.err_after ≡ grown err_then (report_in (kernel_world after) ending)
    → (asked : RunAsked) (images : List Image) → IsPrepared asked images kernel ledger name o
    → DidRun asked images (ending_status ending) o
did_so o kernel after ledger name ending log err_then whole written others told asked images p =
    let run = whole images asked.config p.opened in
    record {
      log = log;
      seen = run.0;
      was = was_recorded asked images o kernel ledger name log run.0 p run.1;
      written = subst (λ (n : Text). FileHolds o n (logtext log)) (sym p.log_is) written;
      others = subst (OthersStay o) (sym p.log_is) others;
      status_is = ap ending_status (sym run.2.shows.ending_is);
      counted = run.2.counted;
      grew = record {
        out_is = run.2.put.out_is;
        err_is = grown_more o.err err_then o.err_after run.0.error (report run.0) run.2.put.err_is
            (told ∙ ap (grown err_then) run.2.shows.report_is);
      };
    }

pub run_did : (o : Outside) (kernel after : Held) (ledger : LedgerState) (name : Text)
    (ending : Ending) (log : Log) (err_then : Option (List ℕ)) (r : Result Ending Refusal)
    → Whole kernel after ledger ending log o err_then
    → OnOk r (IsWritten log o.files_tell o.files o.files_after name) → OthersStay o name
    → IfOk r (λ ended. ended ≡ ending)
    → OnOk r (o.err_after ≡ grown err_then (report_in (kernel_world after) ending))
    → IfOk r (λ ended. (asked : RunAsked) (images : List Image)
    → IsPrepared asked images kernel ledger name o
    → DidRun asked images (ending_status ended) o)
run_did o kernel after ledger name ending log err_then (Err why) whole written others same told = tt
run_did o kernel after ledger name ending log err_then (Ok ended) whole written others same told =
    λ asked images p.
    subst (λ (e : Ending). DidRun asked images (ending_status e) o) (sym same)
    (did_so o kernel after ledger name ending log err_then whole (holds o name log written) others
    told asked images p)

cut_so : (o : Outside) (f : Faults) (kernel after : Held) (ledger : LedgerState) (name : Text)
    (ending : Ending) (log : Log) (err_then : Option (List ℕ))
    → Whole kernel after ledger ending log o err_then → FileHolds o name (logtext log)
    → OthersStay o name → Rose f.err f.err_after
    → GrewByFront err_then o.err_after (report_in (kernel_world after) ending)
    → (asked : RunAsked) (images : List Image) → IsPrepared asked images kernel ledger name o
    → LeavesRun asked images o f refusals.Sink
cut_so o f kernel after ledger name ending log err_then whole written others rose front asked images
    p =
    let run = whole images asked.config p.opened in (
      inr rose,
      inr (record {
        log = log;
        seen = run.0;
        was = was_recorded asked images o kernel ledger name log run.0 p run.1;
        written = subst (λ (n : Text). FileHolds o n (logtext log)) (sym p.log_is) written;
        others = subst (OthersStay o) (sym p.log_is) others;
        counted = run.2.counted;
        grew = record {
          out_is = run.2.put.out_is;
          err_is = subst (λ (t : Option (List ℕ)). GrewByFront t o.err_after (report run.0))
              run.2.put.err_is
              (subst (λ (r : List ℕ). GrewByFront err_then o.err_after r) run.2.shows.report_is
              front);
        };
      }),
    )

-- what leaves it without a report
abbrev pub Unended : (after : Held) → (name : Text) → Ending → Log → (o : Outside) → (f : Faults)
    → (err_then : Option (List ℕ)) → (rises : ℕ) → Refusal → Type 0
Unended after name ending log o f err_then rises why =
    IsUnwritten why o.files o.files_after name f.files f.files_after err_then o.err_after
    ⊎ IsUnreported why log o.files_tell o.files o.files_after name rises f.err_after err_then
    o.err_after (report_in (kernel_world after) ending)

unended_so : (o : Outside) (f : Faults) (kernel after : Held) (ledger : LedgerState) (name : Text)
    (ending : Ending) (log : Log) (err_then : Option (List ℕ)) (rises : ℕ) (why : Refusal)
    → Whole kernel after ledger ending log o err_then → OthersStay o name → f.err ≤ rises
    → Unended after name ending log o f err_then rises why → (asked : RunAsked)
    (images : List Image) → IsPrepared asked images kernel ledger name o
    → LeavesRun asked images o f why
unended_so o f kernel after ledger name ending log err_then rises why whole others later (inl u) =
    run_unwritten o f kernel after ledger name ending log why
    (subst (λ (t : Option (List ℕ)). Whole kernel after ledger ending log o t) (sym u.err_stays)
    whole) u.cause u.rose others
unended_so o f kernel after ledger name ending log err_then rises why whole others later (inr u) =
    λ asked images p. subst (λ (w : Refusal). LeavesRun asked images o f w) (sym u.is)
    (cut_so o f kernel after ledger name ending log err_then whole (holds o name log u.written)
    others (then_rose f.err rises f.err_after later u.rose) u.front asked images p)

pub run_unended : (o : Outside) (f : Faults) (kernel after : Held) (ledger : LedgerState)
    (name : Text) (ending : Ending) (log : Log) (err_then : Option (List ℕ)) (rises : ℕ)
    (r : Result Ending Refusal) → Whole kernel after ledger ending log o err_then
    → OthersStay o name → f.err ≤ rises
    → IfErr r (Unended after name ending log o f err_then rises)
    → IfErr r (λ why. (asked : RunAsked) (images : List Image)
    → IsPrepared asked images kernel ledger name o → LeavesRun asked images o f why)
run_unended o f kernel after ledger name ending log err_then rises (Ok ended) whole others later
    left = tt
run_unended o f kernel after ledger name ending log err_then rises (Err why) whole others later
    left = unended_so o f kernel after ledger name ending log err_then rises why whole others later
    left

-- ---- the log's file, and the report

pub written_then : {T E : Type 0} (r : Result T E) (log : Log) (tells : Bool)
    (files after : Text → Option (List ℕ)) (name : Text)
    → IfSome (files name) (λ _. after name ≡ Some (logtext log))
    → (IsTrue tells → after name ≡ Some (logtext log))
    → OnOk r (IsWritten log tells files after name)
written_then (Err e) log tells files after name told all = tt
written_then (Ok x) log tells files after name told all =
    record { where_told = told; where_all_tell = all }

pub unreported : (r : Result Ending Refusal) (log : Log) (tells : Bool)
    (files after : Text → Option (List ℕ)) (name : Text) (j j' k l : ℕ)
    (err err_after : Option (List ℕ)) (report : List ℕ)
    → IfSome (files name) (λ _. after name ≡ Some (logtext log))
    → (IsTrue tells → after name ≡ Some (logtext log)) → IfErr r (λ why. why ≡ refusals.Sink)
    → HasCause k l r → OnErr r (GrewByFront err err_after report)
    → IfErr r (λ why. IsUnwritten why files after name j j' err err_after
    ⊎ IsUnreported why log tells files after name k l err err_after report)
unreported (Ok ended) log tells files after name j j' k l err err_after report told all sink cause
    front = tt
unreported (Err why) log tells files after name j j' k l err err_after report told all sink cause
    front = inr (record {
      is = sink;
      written = record { where_told = told; where_all_tell = all };
      rose = cause.failed;
      front = front;
    })
