-- What a twin's runs leave, by how they end.
use Rattle.std.proofs.Common.{◌≡◌, ◌⊎◌, inl, inr, ℕ, List, [], ◌++◌, append-nil, Option, Result, Ok}
use Rattle.std.proofs.Common.{Err, sym, ap, ◌∙◌, subst, refl, ◌≤◌, arith, IsErrOf}
use Rattle.std.specs.Prelude.{IfErr, IfOk, OnOk}
use Rattle.dos_io.specs.Outside.{grown, GrewByFront, Rose}
use Rattle.dos_io.proofs.OutsideLaws.{grown_more}
use Rattle.dos_io.specs.declared.exchange.Exchange.{Exchange}
use Rattle.dos_world.specs.World.{World}
use Rattle.dos_world.specs.declared.Config.{Config}
use Rattle.dos_world.specs.declared.Ending.{Ending}
use Rattle.dos_world.specs.declared.Question.{Question}
use Rattle.elf_image.specs.Image.{Image}
use Rattle.dpg_run.specs.Report.{report, report_in}
use Rattle.group_rounds.specs.Kernels.{Held, kernel_world}
use Rattle.kernel_calls.specs.StateWorld.{HasSinkCause}
use Rattle.kernel_calls.specs.declared.state.RunStop.{RunStop}
use Rattle.kernel_calls.specs.declared.state.RunStop.TheVariants as stops
use Rattle.logged_runs.specs.Opened.{IsOpenedWith}
use Rattle.logged_runs.specs.Runs.{RanUntil}
use Rattle.dos_texts.specs.Exit.{ending_status}
use Rattle.dos_texts.specs.declared.refusal.Refusal.{Refusal}
use Rattle.dos_texts.specs.declared.refusal.Refusal.TheVariants as refusals
use Rattle.dos_words.specs.Numbers.{Text}
use Rattle.twin_runs.specs.Alike.{IsUncut, SeenOf}
use Rattle.twin_runs.specs.Both.{RanBoth}
use Rattle.dos_twin.specs.TwinImages.{AreBothOpened, TwinBegun, twin_config}
use Rattle.dos_twin.specs.TwinLeaves.{CutTwin, CutTwinReport, DidTwin, StoppedTwin, TwinLeaves}
use Rattle.dos_twin.specs.TwinOutside.{TwinFaults, TwinFilesStay, TwinOutputFailed, TwinOutside}
use Rattle.dos_twin.specs.TwinReports.{EndedWithout, ReportFailed, twin_ending}
use Rattle.dos_twin.proofs.TwinFronts.{followed, led}

-- ---- what both came to, by why there is a report or none

-- there is one only where the leader came to its end, and no put of the follower failed
pub ended_so : (leader follower : Result Ending RunStop) (ending : Ending)
    → twin_ending leader follower ≡ Ok ending → (leader ≡ Ok ending) × IsUncut follower
ended_so leader (Err stops.OutFault) ending is = absurd cc
ended_so leader (Err stops.ErrFault) ending is = absurd cc
ended_so (Err stop) follower ending is = absurd cc
ended_so (Ok other) follower ending is = (ap (λ (x : Ending). Ok x) (same other ending is), tt)
  where
    same : (x y : Ending) → ◌≡◌ {A = Result Ending Refusal} (Ok x) (Ok y) → x ≡ y
    same x y is = cc

-- unless it is a sink's fault, no put failed
uncut : (leader follower : Result Ending RunStop)
    → (twin_ending leader follower ≡ Err refusals.Sink → ⊥) → IsUncut leader × IsUncut follower
uncut leader (Err stops.OutFault) other = absurd (other refl)
uncut leader (Err stops.ErrFault) other = absurd (other refl)
uncut (Err stops.OutFault) follower other = absurd (other refl)
uncut (Err stops.ErrFault) follower other = absurd (other refl)
uncut leader follower other = (tt, tt)

uncut_out : (run : Result Ending RunStop) → IsUncut run → run ≡ Err stops.OutFault → ⊥
uncut_out run un is = subst IsUncut is un

uncut_err : (run : Result Ending RunStop) → IsUncut run → run ≡ Err stops.ErrFault → ⊥
uncut_err run un is = subst IsUncut is un

-- ---- the images were run

-- All that is seen of both runs. The leader's error told this before the report.
abbrev pub Both : (leader follower : Result Ending RunStop) → List Image → TwinOutside → Held
    → (err_then : Option (List ℕ)) → Type 0
Both leader follower images o kernel err_then =
    RanBoth leader follower images twin_config o.host o.host_after kernel o.out o.err o.out_after
    err_then o.second_out o.second_err o.second_out_after o.second_err_after o.tally o.tally_after

module _ (follower : Result Ending RunStop) (ending : Ending) (images : List Image)
    (o : TwinOutside) (kernel : Held) (err_then : Option (List ℕ)) (uncut : IsUncut follower)
    (stay : TwinFilesStay o) (both : Both (Ok ending) follower images o kernel err_then) where
  did : o.err_after ≡ grown err_then (report_in (kernel_world kernel) ending)
      → DidTwin images (ending_status ending) o
  did told =
      let a = both.alike tt uncut in
      let saw = a.saw in record {
        seen = saw.seen;
        ran = record {
          told = both.told;
          ran = saw.ran;
          given = both.given;
          counted = saw.counted;
          files_stay = stay;
        };
        status_is = ap ending_status (sym saw.shows.ending_is);
        grew = record {
          put = record {
            out_is = a.put.out_is ∙ ap (grown o.out) saw.output_is;
            err_is = grown_more o.err err_then o.err_after saw.seen.error (report saw.seen)
                (a.put.err_is ∙ ap (grown o.err) saw.error_is)
                (told ∙ ap (grown err_then) saw.shows.report_is);
          };
          second = record {
            out_is = a.second_put.out_is ∙ ap (grown o.second_out) saw.output_is;
            err_is = a.second_put.err_is ∙ ap (grown o.second_err) saw.error_is;
          };
        };
      }

  cut_report : GrewByFront err_then o.err_after (report_in (kernel_world kernel) ending)
      → CutTwinReport images o
  cut_report front =
      let a = both.alike tt uncut in
      let saw = a.saw in record {
        seen = saw.seen;
        ran = record {
          told = both.told;
          ran = saw.ran;
          given = both.given;
          counted = saw.counted;
          files_stay = stay;
        };
        grew = record {
          out_is = a.put.out_is ∙ ap (grown o.out) saw.output_is;
          err_is = subst (λ (t : Option (List ℕ)). GrewByFront t o.err_after (report saw.seen))
              (a.put.err_is ∙ ap (grown o.err) saw.error_is)
              (subst (λ (r : List ℕ). GrewByFront err_then o.err_after r) saw.shows.report_is
              front);
          second = record {
            out_is = a.second_put.out_is ∙ ap (grown o.second_out) saw.output_is;
            err_is = a.second_put.err_is ∙ ap (grown o.second_err) saw.error_is;
          };
        };
      }

-- ---- the runs came to no report

-- with nothing behind
put_nothing : (told after : Option (List ℕ)) (bytes : List ℕ) → after ≡ grown told bytes
    → after ≡ grown told (bytes ++ [])
put_nothing told after bytes e = e ∙ ap (grown told) (sym (append-nil bytes))

module _ (leader follower : Result Ending RunStop) (images : List Image) (o : TwinOutside)
    (kernel : Held) (stay : TwinFilesStay o)
    (both : Both leader follower images o kernel o.err_after) where
  cut : CutTwin images o
  cut = record {
    told = both.told;
    followed = both.followed;
    rest = both.rest;
    front = both.front;
    given = both.given;
    led = led images both.told kernel o.out o.err o.out_after o.err_after o.tally o.tally_after
        leader both.led;
    second = followed images both.followed both.came.0 o.second_out o.second_err
        o.second_out_after o.second_err_after both.came.1 both.came.2 follower both.rest
        both.came.3;
    files_stay = stay;
  }

  stopped : IsUncut leader → IsUncut follower
      → ((told : List Exchange) (output error : List ℕ)
      → SeenOf leader images twin_config told kernel output error o.tally o.tally_after
      → (question : Question) × RanUntil images twin_config told question output error)
      → StoppedTwin images [] o
  stopped un ux until =
      let a = both.alike un ux in
      let at = until both.told a.output a.error a.saw in record {
        told = both.told;
        question = at.0;
        output = a.output;
        error = a.error;
        ran = at.1;
        given = both.given;
        grew = record {
          put = record {
            out_is = a.put.out_is;
            err_is = put_nothing o.err o.err_after a.error a.put.err_is;
          };
          second = a.second_put;
        };
        files_stay = stay;
      }

-- what a twin leaves that was begun
abbrev pub LeavesBegun : List Image → TwinOutside → TwinFaults → Refusal → Type 0
LeavesBegun images o f refusals.Host = Rose f.host f.host_after × StoppedTwin images [] o
LeavesBegun images o f refusals.Sink =
    TwinOutputFailed f × (CutTwin images o ⊎ CutTwinReport images o)
LeavesBegun images o f refusals.Memory = StoppedTwin images [] o
LeavesBegun images o f _ = ⊥

module _ (images : List Image) (o : TwinOutside) (f : TwinFaults) (kernel : Held)
    (stay : TwinFilesStay o) where
  leaves_so : (leader follower : Result Ending RunStop)
      → Both leader follower images o kernel o.err_after
      → (leader ≡ Err stops.HostFault → Rose f.host f.host_after)
      → IfErr leader (λ stop. HasSinkCause stop f.out f.out_after f.err f.err_after)
      → IfErr follower (λ stop. HasSinkCause stop f.second_out f.second_out_after f.second_err
      f.second_err_after)
      → IfErr (twin_ending leader follower) (LeavesBegun images o f)
  leaves_so leader (Err stops.OutFault) both host sink second =
      (inr (inr (inl second)), inl (cut leader (Err stops.OutFault) images o kernel stay both))
  leaves_so leader (Err stops.ErrFault) both host sink second =
      (inr (inr (inr second)), inl (cut leader (Err stops.ErrFault) images o kernel stay both))
  leaves_so (Ok ending) follower both host sink second = tt
  leaves_so (Err stops.OutFault) follower both host sink second =
      (inl sink, inl (cut (Err stops.OutFault) follower images o kernel stay both))
  leaves_so (Err stops.ErrFault) follower both host sink second =
      (inr (inl sink), inl (cut (Err stops.ErrFault) follower images o kernel stay both))
  leaves_so (Err stops.HostFault) follower both host sink second = (
    host refl,
    stopped (Err stops.HostFault) follower images o kernel stay both tt tt
        (λ told output error saw. saw),
  )
  leaves_so (Err stops.Memory) follower both host sink second =
      stopped (Err stops.Memory) follower images o kernel stay both tt tt
      (λ told output error saw. saw)
  leaves_so (Err stops.LogFull) follower both host sink second = absurd both.led
  leaves_so (Err (stops.Misfit m)) follower both host sink second = absurd both.led

  -- from what both told before the report to how the call came out
  without : (leader follower : Result Ending RunStop) (why : Refusal)
      → twin_ending leader follower ≡ Err why
      → IfErr (twin_ending leader follower) (LeavesBegun images o f) → LeavesBegun images o f why
  without leader follower why is h =
      subst (λ (r : Result Ending Refusal). IfErr r (LeavesBegun images o f)) is h

-- with the names whose files they are
begun : (names : List Text) (o : TwinOutside) (f : TwinFaults) (why : Refusal)
    (images : List Image) → LeavesBegun images o f why
    → ((P : List Image → Type 0) → P images → TwinBegun names o P)
    → TwinLeaves names o f why []
begun names o f refusals.Host images h is =
    (h.0, is (λ i. StoppedTwin i [] o) h.1)
begun names o f refusals.Sink images h is =
    (h.0, refl, is (λ i. CutTwin i o ⊎ CutTwinReport i o) h.1)
begun names o f refusals.Memory images h is = inr (is (λ i. StoppedTwin i [] o) h)
begun names o f why images h is = absurd h

-- ---- both runs and the report

-- what holds of both runs, whatever images both kernels were opened with
module _ (leader follower : Result Ending RunStop) (first second kernel : Held) (o : TwinOutside)
    (f : TwinFaults) (err_then : Option (List ℕ)) (stay : TwinFilesStay o) (names : List Text)
    (opened : AreBothOpened names o.files first second)
    (both : Both leader follower opened.images o kernel err_then) where
  is_begun : (P : List Image → Type 0) → P opened.images → TwinBegun names o P
  is_begun P so = record { images = opened.images; is = opened.is; so = so }

  pub twin_did : (ending : Ending) → twin_ending leader follower ≡ Ok ending
      → o.err_after ≡ grown err_then (report_in (kernel_world kernel) ending)
      → TwinBegun names o (λ images. DidTwin images (ending_status ending) o)
  twin_did ending is told =
      let so = ended_so leader follower ending is in
      is_begun (λ images. DidTwin images (ending_status ending) o)
      (did follower ending opened.images o kernel err_then so.1 stay
      (subst (λ (r : Result Ending RunStop). Both r follower opened.images o kernel err_then)
      so.0 both) told)

  pub twin_without : (why : Refusal) (faults : ℕ)
      → EndedWithout leader follower why faults f.err_after err_then o.err_after
      → (leader ≡ Err stops.HostFault → Rose f.host f.host_after)
      → IfErr leader (λ stop. HasSinkCause stop f.out f.out_after f.err faults)
      → IfErr follower (λ stop. HasSinkCause stop f.second_out f.second_out_after f.second_err
      f.second_err_after) → TwinLeaves names o f why []
  twin_without why faults h host sink second_sink =
      let here : Both leader follower opened.images o kernel o.err_after =
      subst (λ (e : Option (List ℕ)). Both leader follower opened.images o kernel e)
      (sym h.err_stays) both in
      begun names o f why opened.images
      (without opened.images o f kernel stay leader follower why h.is
      (leaves_so opened.images o f kernel stay leader follower here host
      (subst (λ (n : ℕ). IfErr leader (λ stop. HasSinkCause stop f.out f.out_after f.err n))
      (sym h.steady) sink) second_sink))
      is_begun

  pub twin_cut_report : (why : Refusal) (faults : ℕ)
      → ReportFailed leader follower why (kernel_world kernel) faults f.err_after err_then
      o.err_after → Rose f.err f.err_after → TwinLeaves names o f why []
  twin_cut_report why faults h rose =
      let so = ended_so leader follower h.ending h.is in
      let cut = cut_report follower h.ending opened.images o kernel err_then so.1 stay
      (subst (λ (r : Result Ending RunStop). Both r follower opened.images o kernel err_then)
      so.0 both) h.front in
      subst (λ (w : Refusal). TwinLeaves names o f w []) (sym h.why_is) (
        inr (inl rose),
        refl,
        is_begun (λ images. CutTwin images o ⊎ CutTwinReport images o) (inr cut),
      )

-- ---- counts of the sinks

-- what the report came to is no sink's fault, so the runs came to none
pub not_sink : (leader follower : Result Ending RunStop) (r : Result Ending Refusal) (w : World)
    (a b : ℕ) (c d : Option (List ℕ))
    → IfOk r (λ ending. twin_ending leader follower ≡ Ok ending)
    → IfErr r (λ why. EndedWithout leader follower why a b c d
    ⊎ ReportFailed leader follower why w a b c d)
    → (r ≡ Err refusals.Sink → ⊥) → twin_ending leader follower ≡ Err refusals.Sink → ⊥
not_sink leader follower (Ok ending) w a b c d ended fails other is =
    let clash : ◌≡◌ {A = Result Ending Refusal} (Ok ending) (Err refusals.Sink) =
    sym ended ∙ is in absurd cc
not_sink leader follower (Err why) w a b c d ended (inl h) other is = other (sym h.is ∙ is)
not_sink leader follower (Err why) w a b c d ended (inr h) other is =
    other (ap (λ (x : Refusal). Err x) h.why_is)

-- nor was the report put in vain
pub put_still : (leader follower : Result Ending RunStop) (r : Result Ending Refusal) (w : World)
    (a b : ℕ) (c d : Option (List ℕ)) → OnOk r (b ≡ a)
    → IfErr r (λ why. EndedWithout leader follower why a b c d
    ⊎ ReportFailed leader follower why w a b c d)
    → (r ≡ Err refusals.Sink → ⊥) → b ≡ a
put_still leader follower (Ok ending) w a b c d steady fails other = steady
put_still leader follower (Err why) w a b c d steady (inl h) other = h.steady
put_still leader follower (Err why) w a b c d steady (inr h) other =
    absurd (other (ap (λ (x : Refusal). Err x) h.why_is))

-- then no count of the four rose
pub twin_steady : (leader follower : Result Ending RunStop) (o o1 e e1 p p1 q q1 : ℕ)
    → (twin_ending leader follower ≡ Err refusals.Sink → ⊥)
    → ((leader ≡ Err stops.OutFault → ⊥) → o1 ≡ o) → ((leader ≡ Err stops.ErrFault → ⊥) → e1 ≡ e)
    → ((follower ≡ Err stops.OutFault → ⊥) → p1 ≡ p)
    → ((follower ≡ Err stops.ErrFault → ⊥) → q1 ≡ q)
    → (o1 ≡ o) × (e1 ≡ e) × (p1 ≡ p) × (q1 ≡ q)
twin_steady leader follower o o1 e e1 p p1 q q1 other out err second_out second_err =
    let un = uncut leader follower other in (
      out (uncut_out leader un.0),
      err (uncut_err leader un.0),
      second_out (uncut_out follower un.1),
      second_err (uncut_err follower un.1),
    )

-- ---- what a call says of both runs, however it came out

-- with these files before it and after it
abbrev pub with_files : TwinOutside → (files after : Text → Option (List ℕ)) → TwinOutside
with_files o files after = record o { files = files; files_after = after }

-- and so often failed
abbrev pub with_file_faults : TwinFaults → (failed failed_after : ℕ) → TwinFaults
with_file_faults f failed failed_after =
    record f { files = failed; files_after = failed_after }

pub is_err_of : {T E : Type 0} (x y : E) → x ≡ y → IsErrOf {T = T} {E = E} (Err x) y
is_err_of x y e = cc

host_err : (leader : Result Ending RunStop) → leader ≡ Err stops.HostFault
    → IsErrOf leader stops.HostFault
host_err leader is = subst (λ (r : Result Ending RunStop). IsErrOf r stops.HostFault) (sym is)
    (is_err_of stops.HostFault stops.HostFault refl)

then_rose : (a b d : ℕ) → a ≤ b → Rose b d → Rose a d
then_rose a b d h k = omega arith

module _ (leader follower : Result Ending RunStop) (first second kernel : Held) (o : TwinOutside)
    (f : TwinFaults) (err_then : Option (List ℕ))
    (both : (images : List Image) (config : Config) → IsOpenedWith first images config
    → IsOpenedWith second images config → RanBoth leader follower images config o.host o.host_after
    kernel o.out o.err o.out_after err_then o.second_out o.second_err o.second_out_after
    o.second_err_after o.tally o.tally_after) where
  pub runs_did : (r : Result Ending Refusal)
      → IfOk r (λ ending. twin_ending leader follower ≡ Ok ending)
      → IfOk r (λ ending. o.err_after ≡ grown err_then (report_in (kernel_world kernel) ending))
      → IfOk r (λ ending. (names : List Text) (contents after : Text → Option (List ℕ))
      → ((name : Text) → after name ≡ contents name) → AreBothOpened names contents first second
      → TwinBegun names (with_files o contents after)
      (λ images. DidTwin images (ending_status ending) (with_files o contents after)))
  runs_did (Err why) ended told = tt
  runs_did (Ok ending) ended told = λ names contents after stay opened.
      twin_did leader follower first second kernel (with_files o contents after) f err_then stay
      names opened (both opened.images twin_config opened.opened opened.second_opened) ending ended
      told

  pub runs_leave : (r : Result Ending Refusal) (faults : ℕ)
      → IfErr r (λ why. EndedWithout leader follower why faults f.err_after err_then o.err_after
      ⊎ ReportFailed leader follower why (kernel_world kernel) faults f.err_after err_then
      o.err_after)
      → (IsErrOf leader stops.HostFault → Rose f.host f.host_after)
      → IfErr leader (λ stop. HasSinkCause stop f.out f.out_after f.err faults)
      → IfErr follower (λ stop. HasSinkCause stop f.second_out f.second_out_after f.second_err
      f.second_err_after) → f.err ≤ faults
      → IfErr r (λ why. (names : List Text) (contents after : Text → Option (List ℕ))
      (failed failed_after : ℕ) → ((name : Text) → after name ≡ contents name)
      → AreBothOpened names contents first second
      → TwinLeaves names (with_files o contents after) (with_file_faults f failed failed_after) why
      [])
  runs_leave (Ok ending) faults fails host sink second_sink later = tt
  runs_leave (Err why) faults (inl h) host sink second_sink later =
      λ names contents after failed failed_after stay opened.
      twin_without leader follower first second kernel (with_files o contents after)
      (with_file_faults f failed failed_after) err_then stay names opened
      (both opened.images twin_config opened.opened opened.second_opened) why faults h
      (λ is. host (host_err leader is)) sink second_sink
  runs_leave (Err why) faults (inr h) host sink second_sink later =
      λ names contents after failed failed_after stay opened.
      twin_cut_report leader follower first second kernel (with_files o contents after)
      (with_file_faults f failed failed_after) err_then stay names opened
      (both opened.images twin_config opened.opened opened.second_opened) why faults h
      (then_rose f.err faults f.err_after later h.rose)
