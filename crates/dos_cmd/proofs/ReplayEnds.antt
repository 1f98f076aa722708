-- What a replay leaves, by how it ends.
use Rattle.std.proofs.Common.{◌≡◌, ◌≤◌, inl, inr, ℕ, Bool, List, [], map, append-nil, Option}
use Rattle.std.proofs.Common.{None, Result, Ok, Err, sym, ap, ◌∙◌, subst, refl, true}
use Rattle.std.specs.Prelude.{IfSome, IfOk, IfErr, OnOk, OnErr}
use Rattle.logged_runs.specs.Recording.{HostSeen, host_seen}
use Rattle.dos_io.specs.Outside.{grown, GrewByFront, HasCause}
use Rattle.dos_io.proofs.OutsideLaws.{grown_more}
use Rattle.dos_world.specs.declared.Config.{Config}
use Rattle.dos_world.specs.declared.Ending.{Ending}
use Rattle.dos_world.specs.declared.Misfit.{Misfit}
use Rattle.elf_image.specs.Image.{Image}
use Rattle.flat_machine.specs.Opening.{needed}
use Rattle.kernel_calls.specs.StateWorld.{HasSinkCause}
use Rattle.kernel_calls.specs.declared.state.RunStop.{RunStop}
use Rattle.kernel_calls.specs.declared.state.RunStop.TheVariants as stops
use Rattle.group_rounds.specs.Kernels.{Held, kernel_world}
use Rattle.flat_machine.specs.Machine.{Seen}
use Rattle.dpg_run.specs.Report.{report, report_in}
use Rattle.log_text.specs.LogText.{Log}
use Rattle.logged_runs.specs.Opened.{IsOpenedWith}
use Rattle.logged_runs.specs.Replaying.{Replayed, ReplayedAhead, ReplayedUntil, StopsReplay}
use Rattle.logged_runs.specs.Replaying.{config_of}
use Rattle.logged_runs.specs.Runs.{Ended, Halted}
use Rattle.dos_texts.specs.Exit.{ending_status}
use Rattle.dos_texts.specs.declared.refusal.Refusal.{Refusal}
use Rattle.dos_texts.specs.declared.refusal.Refusal.TheVariants as refusals
use Rattle.dos_words.specs.Numbers.{Text}
use Rattle.dos_words.specs.declared.request.Request.TheVariants as requests
use Rattle.dos_world.specs.declared.Scheme.{Scheme}
use Rattle.dos_cmd.proofs.Asked.{IsLater, later_replay}
use Rattle.dos_cmd.specs.Judging.{Judgement, agreed, replay_judgement, taken_log}
use Rattle.dos_cmd.specs.Outside.{Outside, Faults, outside, faults, Says}
use Rattle.dos_cmd.specs.ReplayLeaves.{StaysAll, CutReplay, DidReplay, LeavesTaken}
use Rattle.dos_cmd.specs.Results.{Begun, Did, Leaves}
use Rattle.dos_cmd.specs.Stops.{IsNotOpened, refusal_by}
use Rattle.dos_cmd.proofs.NotBegun.{no_room_so, not_opened_as}
use Rattle.dos_cmd.proofs.ReplayTaking.{room_refused, room_taken}
use Rattle.dos_cmd.proofs.RunEnds.{then_rose}

-- ---- it isn't opened

pub not_opened : (scheme : Scheme) (log : Log) (images : List Image) (o : Outside) (f : Faults)
    (why : Refusal) (config : Config) → config ≡ config_of scheme log.header
    → IsNotOpened images config why → Says o []
    → LeavesTaken scheme log images o f why
not_opened scheme log images o f why config is h says =
    not_opened_as images (config_of scheme log.header) why
    (λ (w : Refusal). LeavesTaken scheme log images o f w)
    (subst (λ (c : Config). IsNotOpened images c why) is h) (λ over. (refl, refl, over, says)) says

-- the log's frames
pub has_room : (scheme : Scheme) (log : Log) (images : List Image) (config : Config)
    → config ≡ config_of scheme log.header → needed images ≤ config.frames
    → needed images ≤ log.header.frames
has_room scheme log images config is fits = subst (λ (c : Config). needed images ≤ c.frames) is fits

pub opened_by : (scheme : Scheme) (log : Log) (images : List Image) (kernel : Held)
    (config : Config)
    → config ≡ config_of scheme log.header → IsOpenedWith kernel images config
    → IsOpenedWith kernel images (config_of scheme log.header)
opened_by scheme log images kernel config is opened =
    subst (λ (c : Config). IsOpenedWith kernel images c) is opened

pub on_ok : {T E : Type 0} (r : Result T E) (P : Type 0) → P → OnOk r P
on_ok (Ok x) P p = p
on_ok (Err e) P p = tt

-- ---- a run that stopped

-- it came to the log's misfit, and this was left by then
abbrev pub Until : Scheme → Log → List Image → Outside → Misfit → Type 0
Until scheme log images o found = (output : List ℕ) × (error : List ℕ) × (work : ℕ)
    × ReplayedUntil scheme images log found output error work
    × Halted o.out o.err o.out_after o.err_after o.tally o.tally_after output error work

pub replay_stopped : (scheme : Scheme) (log : Log) (images : List Image) (o : Outside) (f : Faults)
    (stop : RunStop)
    (why : Refusal) → why ≡ refusal_by stop → needed images ≤ log.header.frames → StopsReplay stop
    → ((found : Misfit) → stop ≡ stops.Misfit found → Until scheme log images o found)
    → ((output : List ℕ) × (error : List ℕ) × (work : ℕ)
    × ReplayedAhead scheme images log output error work
    × Halted o.out o.err o.out_after o.err_after o.tally o.tally_after output error work)
    → HasSinkCause stop f.out f.out_after f.err f.err_after → StaysAll o
    → LeavesTaken scheme log images o f why
replay_stopped scheme log images o f stop why is fits only until ahead sink stay =
    subst (λ (w : Refusal). LeavesTaken scheme log images o f w) (sym is)
    (by_stop stop only until sink)
  where
    cut : CutReplay scheme log images o
    cut = record {
      output = ahead.0;
      error = ahead.1;
      work = ahead.2;
      replayed = ahead.3;
      counted = ahead.4.counted;
      grew = record { out_is = ahead.4.put.out_is; err_is = ahead.4.put.err_is };
      stays = stay;
    }

    by_stop : (stop : RunStop) → StopsReplay stop
        → ((found : Misfit) → stop ≡ stops.Misfit found → Until scheme log images o found)
        → HasSinkCause stop f.out f.out_after f.err f.err_after
        → LeavesTaken scheme log images o f (refusal_by stop)
    by_stop stops.OutFault only until sink = (fits, inl sink, inl cut)
    by_stop stops.ErrFault only until sink = (fits, inr sink, inl cut)
    by_stop (stops.Misfit found) only until sink =
        let run = until found refl in (
          fits,
          record {
            output = run.0;
            error = run.1;
            work = run.2;
            replayed = run.3;
            counted = run.4.counted;
            grew = record {
              out_is = run.4.put.out_is;
              err_is = run.4.put.err_is ∙ ap (grown o.err) (sym (append-nil run.1));
            };
            stays = stay;
          },
        )
    by_stop stop only until sink = absurd only

-- ---- a run that came to its end

-- what is seen of it, and what was put by then
abbrev pub Whole : Scheme → (kernel after : Held) → Log → Ending
    → (out err out_after err_then : Option (List ℕ)) → (tally tally_after : ℕ) → Type 0
Whole scheme kernel after log ending out err out_after err_then tally tally_after =
    (i : List Image) → IsOpenedWith kernel i (config_of scheme log.header) → (seen : Seen)
    × Replayed scheme i log seen × Ended after ending seen out err out_after err_then tally
    tally_after

module _ (scheme : Scheme) (log : Log) (images : List Image) (kernel after : Held) (ending : Ending)
    (out err out1 err_then err1 : Option (List ℕ)) (tally tally1 : ℕ)
    (opened : IsOpenedWith kernel images (config_of scheme log.header))
    (whole : Whole scheme kernel after log ending out err out1 err_then tally tally1) where
  pub replay_did : (r : Result Ending Refusal) → IfOk r (λ ended. ended ≡ ending)
      → OnOk r (err1 ≡ grown err_then (report_in (kernel_world after) ending))
      → IfOk r (λ ended. (tells : Bool) (f f' : Text → Option (List ℕ)) (h : HostSeen)
      → ((n : Text) → f' n ≡ f n) → DidReplay scheme log images (ending_status ended)
      (outside tells f f' h h out out1 err err1 tally tally1))
  replay_did (Err why) same told = tt
  replay_did (Ok ended) same told = λ tells f f' h stay.
      let run = whole images opened in
      record {
        seen = run.0;
        replayed = run.1;
        status_is = ap ending_status (same ∙ sym run.2.shows.ending_is);
        counted = run.2.counted;
        grew = record {
          out_is = run.2.put.out_is;
          err_is = grown_more err err_then err1 run.0.error (report run.0) run.2.put.err_is
              (told ∙ ap (grown err_then) run.2.shows.report_is);
        };
        stays = record { files_stay = stay; host_stays = refl };
      }

  pub replay_cut : (oc oc1 ec rises ec1 : ℕ) (r : Result Ending Refusal)
      → needed images ≤ log.header.frames → IfErr r (λ why. why ≡ refusals.Sink) → ec ≤ rises
      → HasCause rises ec1 r
      → OnErr r (GrewByFront err_then err1 (report_in (kernel_world after) ending))
      → IfErr r (λ why. (tells : Bool) (f f' : Text → Option (List ℕ)) (h : HostSeen)
      (k k' m : ℕ) → ((n : Text) → f' n ≡ f n) → LeavesTaken scheme log images
      (outside tells f f' h h out out1 err err1 tally tally1) (faults k k' m m oc oc1 ec ec1) why)
  replay_cut oc oc1 ec rises ec1 (Ok ended) fits sink later cause front = tt
  replay_cut oc oc1 ec rises ec1 (Err why) fits sink later cause front = λ tells f f' h k k' m stay.
      let run = whole images opened in
      let o : Outside = outside tells f f' h h out out1 err err1 tally tally1 in
      let counts : Faults = faults k k' m m oc oc1 ec ec1 in
      subst (λ (w : Refusal). LeavesTaken scheme log images o counts w) (sym sink) (
        fits,
        inr (then_rose ec rises ec1 later cause.failed),
        inr (record {
          seen = run.0;
          replayed = run.1;
          counted = run.2.counted;
          grew = record {
            out_is = run.2.put.out_is;
            err_is = subst (λ (t : Option (List ℕ)). GrewByFront t err1 (report run.0))
                run.2.put.err_is (subst (λ (r : List ℕ). GrewByFront err_then err1 r)
                run.2.shows.report_is front);
          };
          stays = record { files_stay = stay; host_stays = refl };
        }),
      )

-- ---- the call

-- the same images under another name
pub same_images : (told : Option Judgement) (log : Log) (images others : List Image)
    → images ≡ others → IfSome told (λ j. j ≡ agreed log others None)
    → IfSome told (λ j. j ≡ agreed log images None)
same_images told log images others e h =
    subst (λ (x : List Image). IfSome told (λ j. j ≡ agreed log x None)) (sym e) h

pub replay_begun : (scheme : Scheme) (log : Log) (images : List Image) (name : Text)
    (names : List Text)
    (tells : Bool) (f f' : Text → Option (List ℕ)) (out err out1 err1 : Option (List ℕ))
    (tally tally1 : ℕ) (r : Result Ending Refusal)
    → IfSome (replay_judgement (f name) (map f names)) (λ j. j ≡ agreed log images None)
    → OnOk r (needed images ≤ log.header.frames) → ((n : Text) → f' n ≡ f n)
    → IfOk r (λ ended. (tells : Bool) (f f' : Text → Option (List ℕ)) (h : HostSeen)
    → ((n : Text) → f' n ≡ f n) → DidReplay scheme log images (ending_status ended)
    (outside tells f f' h h out out1 err err1 tally tally1))
    → (n : ℕ) (h : HostSeen) → IfOk r (λ ended. Begun (requests.Replay n scheme name names)
    (outside tells f f' h h out out1 err err1 tally tally1)
    (λ taken. Did (requests.Replay n scheme name names) taken (ending_status ended)
    (outside tells f f' h h out out1 err err1 tally tally1)))
replay_begun scheme log images name names tells f f' out err out1 err1 tally tally1 (Err why) told
    fits
    stay did = λ n h. tt
replay_begun scheme log images name names tells f f' out err out1 err1 tally tally1 (Ok ended) told
    fits
    stay did = λ n h. record {
      taken = taken_log log images;
      is = room_taken (replay_judgement (f name) (map f names)) log images fits told;
      so = did tells f f' h stay;
    }

leaves_taken : (scheme : Scheme) (log : Log) (images : List Image) (name : Text)
    (names : List Text) (n : ℕ) (o : Outside) (f : Faults) (why : Refusal)
    → IfSome (replay_judgement (o.files name) (map o.files names))
    (λ j. j ≡ agreed log images None) → LeavesTaken scheme log images o f why
    → Leaves (requests.Replay n scheme name names) o f why []
leaves_taken scheme log images name names n o f (refusals.NoRoom m frames) told h = record {
  is = subst (λ (w : Refusal). IfSome (replay_judgement (o.files name) (map o.files names))
      (λ j. j ≡ Err w)) (no_room_so m frames (needed images) log.header.frames h.0 h.1)
      (room_refused (replay_judgement (o.files name) (map o.files names)) log images h.2 told);
  says = h.3;
}
leaves_taken scheme log images name names n o f (refusals.Misfit found) told h = record {
  taken = taken_log log images;
  is = room_taken (replay_judgement (o.files name) (map o.files names)) log images h.0 told;
  so = h.1;
}
leaves_taken scheme log images name names n o f refusals.Sink told h = (
  h.1,
  refl,
  record {
    taken = taken_log log images;
    is = room_taken (replay_judgement (o.files name) (map o.files names)) log images h.0 told;
    so = h.2;
  },
)
leaves_taken scheme log images name names n o f refusals.Memory told h = inl h
leaves_taken scheme log images name names n o f why told h = absurd h

pub replay_leaves : (scheme : Scheme) (log : Log) (images : List Image) (name : Text)
    (names : List Text)
    (tells : Bool) (f f' : Text → Option (List ℕ)) (out err out1 err1 : Option (List ℕ))
    (tally tally1 k k' oc oc1 ec ec1 : ℕ) (r : Result Ending Refusal)
    → IfSome (replay_judgement (f name) (map f names)) (λ j. j ≡ agreed log images None)
    → ((n : Text) → f' n ≡ f n)
    → IfErr r (λ why. (tells : Bool) (f f' : Text → Option (List ℕ)) (h : HostSeen)
    (k k' m : ℕ) → ((n : Text) → f' n ≡ f n) → LeavesTaken scheme log images
    (outside tells f f' h h out out1 err err1 tally tally1) (faults k k' m m oc oc1 ec ec1) why)
    → (n : ℕ) (h : HostSeen) (m : ℕ) → IfErr r (λ why.
    Leaves (requests.Replay n scheme name names)
    (outside tells f f' h h out out1 err err1 tally tally1) (faults k k' m m oc oc1 ec ec1) why [])
replay_leaves scheme log images name names tells f f' out err out1 err1 tally tally1 k k' oc oc1 ec
    ec1
    (Ok ended) told stay leaves = λ n h m. tt
replay_leaves scheme log images name names tells f f' out err out1 err1 tally tally1 k k' oc oc1 ec
    ec1
    (Err why) told stay leaves = λ n h m.
    leaves_taken scheme log images name names n (outside tells f f' h h out out1 err err1 tally
    tally1)
    (faults k k' m m oc oc1 ec ec1) why told (leaves tells f f' h k k' m stay)

-- All files were read before.
pub replay_later : (scheme : Scheme) (log : Log) (images : List Image)
    (out err out1 err1 : Option (List ℕ))
    (tally tally1 oc oc1 ec ec1 : ℕ) (r : Result Ending Refusal)
    → IfErr r (λ why. (tells : Bool) (f f' : Text → Option (List ℕ)) (h : HostSeen)
    (k k' m : ℕ) → ((n : Text) → f' n ≡ f n) → LeavesTaken scheme log images
    (outside tells f f' h h out out1 err err1 tally tally1) (faults k k' m m oc oc1 ec ec1) why)
    → IfErr r IsLater
replay_later scheme log images out err out1 err1 tally tally1 oc oc1 ec ec1 (Ok ended) leaves = tt
replay_later scheme log images out err out1 err1 tally tally1 oc oc1 ec ec1 (Err why) leaves =
    later_replay scheme log images
    (outside true (λ n. None) (λ n. None) unasked unasked out out1 err err1 tally tally1)
    (faults 0 0 0 0 oc oc1 ec ec1) why
    (leaves true (λ n. None) (λ n. None) unasked 0 0 0 (λ n. refl))
  where
    unasked : HostSeen
    unasked = host_seen None []
