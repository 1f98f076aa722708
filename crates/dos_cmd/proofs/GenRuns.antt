-- What `gen` leaves, from part to whole.
use Rattle.std.proofs.Common.{◌≡◌, ◌≤◌, ◌-◌, ◌++◌, inl, inr, ℕ, Bool, List, [], ◌∷◌, map, Option}
use Rattle.std.proofs.Common.{Some, None, Result, sym, ap, ◌∙◌, subst, refl, append_assoc, arith}
use Rattle.std.specs.Prelude.{IfSome, OnOk, OnErr, OnSome}
use Rattle.sha2.specs.Sha256.{sha256}
use Rattle.dos_world.specs.Play.{asks as asks_for, over, questions}
use Rattle.dos_world.specs.World.{World}
use Rattle.dos_world.specs.declared.Config.{Config}
use Rattle.dos_world.specs.declared.Ending.{Ending}
use Rattle.dos_io.specs.Exchanges.{question_of, answer_of}
use Rattle.logged_runs.specs.Recording.{HostSeen}
use Rattle.dos_io.specs.Outside.{grown, GrewByFront, Rose}
use Rattle.dos_io.specs.Quiet.{Quietness, shown_by, FollowsQuietly}
use Rattle.dos_io.specs.Shims.{ShimState}
use Rattle.dos_io.specs.declared.exchange.Exchange.{Exchange}
use Rattle.dos_io.specs.declared.shim.ShimStop.{ShimStop}
use Rattle.dos_io.specs.declared.shim.ShimStop.TheVariants as shims
use Rattle.dos_io.proofs.OutsideLaws.{grown-nothing}
use Rattle.dos_io.proofs.QuietAnswers.{last_is_memory, quiet_more}
use Rattle.elf_image.specs.Image.{Image}
use Rattle.flat_machine.specs.Opening.{opening}
use Rattle.group_rounds.specs.StatePlays.{telling}
use Rattle.group_rounds.specs.Kernels.{Held, kernel_world}
use Rattle.group_rounds.specs.Outside.{HasShimCause}
use Rattle.group_rounds.specs.Rounds.{answers_since}
use Rattle.group_rounds.proofs.WorkLaws.{since_more}
use Rattle.kernel_calls.specs.StateWorld.{HasSinkCause, shim_stop}
use Rattle.kernel_calls.specs.declared.state.RunStop.{RunStop}
use Rattle.kernel_calls.specs.declared.state.State.{State}
use Rattle.kernel_calls.specs.declared.state.RunStop.TheVariants as stops
use Rattle.worker_pool.specs.Ran.{GrewBy}
use Rattle.dpg_run.specs.Fits.{FitsFrom}
use Rattle.flat_machine.specs.Machine.{Seen, ends, machine_from, run_from, status_in}
use Rattle.dpg_run.specs.GroupRuns.{RanGroup, StoppedGroup}
use Rattle.dpg_run.specs.Work.{work_from}
use Rattle.generated_group.specs.Generated.{generated}
use Rattle.generated_group.proofs.RoomLaws.{needed-generated}
use Rattle.logged_runs.specs.Opened.{IsOpenedWith}
use Rattle.dos_texts.specs.Exit.{ending_status}
use Rattle.dos_texts.specs.Printed.{output_line, sha256_line, summary_of}
use Rattle.dos_texts.specs.Report.{process_lines, rounds_line}
use Rattle.dos_texts.proofs.Pieces.{both_told, first_fails, second_fails}
use Rattle.dos_texts.specs.declared.refusal.Refusal.{Refusal}
use Rattle.dos_texts.specs.declared.refusal.Refusal.TheVariants as refusals
use Rattle.dos_words.specs.Numbers.{Text}
use Rattle.dos_words.specs.declared.request.Request.TheVariants as requests
use Rattle.dos_cmd.specs.Judging.{gen_config, taken_images}
use Rattle.dos_cmd.specs.Outside.{Faults, outside, faults}
use Rattle.dos_cmd.specs.Printing.{HaltedQuietly, RanQuietly, byte_count}
use Rattle.dos_cmd.specs.Results.{Begun, Did, Leaves}
use Rattle.dos_cmd.specs.Stops.{IsNotOpened, refusal_by}
use Rattle.dos_cmd.proofs.NotBegun.{not_opened_as, says_nothing}

-- ---- a run over a quiet shim, and sinks that never fail

-- It stops for want of memory alone.
memory_stop : (stop : RunStop) (before : ShimState) (shim : Quietness)
    → HasShimCause stop before (shown_by shim) → HasSinkCause stop 0 0 0 0 → stop ≡ stops.Memory
memory_stop stop before shim h k = by_stop stop h k
  where
    of_memory : (s : ShimStop) → (shown_by shim).last ≡ Some s → s ≡ shims.Memory
    of_memory s e = subst (λ (o : Option ShimStop). IfSome o (λ x. x ≡ shims.Memory)) e
        (last_is_memory shim)

    by_stop : (stop : RunStop) → HasShimCause stop before (shown_by shim)
        → HasSinkCause stop 0 0 0 0 → stop ≡ stops.Memory
    by_stop stops.HostFault h k = let same = of_memory shims.HostFault h.1 in cc
    by_stop stops.LogFull h k = let same = of_memory shims.LogFull h.1 in cc
    by_stop (stops.Misfit m) h k = let same = of_memory (shims.Misfit m) h.1 in cc
    by_stop stops.OutFault h k = absurd (omega (arith, k))
    by_stop stops.ErrFault h k = absurd (omega (arith, k))
    by_stop stops.Memory h k = refl

pub memory_alone : (stop : RunStop) (before : ShimState) (shim : Quietness)
    → HasShimCause stop before (shown_by shim) → HasSinkCause stop 0 0 0 0
    → refusal_by stop ≡ refusals.Memory
memory_alone stop before shim h k = ap refusal_by (memory_stop stop before shim h k)

told_is : (a b : List ℕ) → ◌≡◌ {A = Option (List ℕ)} (Some a) (Some b) → a ≡ b
told_is a b q = cc

from_opening : (k : Held) (images : List Image) (config : Config) → IsOpenedWith k images config
    → (P : World → Config → Type 0) → P (kernel_world k) k.config → P (opening images config) config
from_opening k images config opened P h = subst (λ (w : World). P w config) opened.world
    (subst (λ (c : Config). P (kernel_world k) c) opened.config_is h)

pub quiet_run : (k k' : Held) (before after : Quietness) (begun bytes : List ℕ) (ending : Ending)
    (work count : ℕ) (digest : List ℕ) (tally tally' : ℕ)
    → FollowsQuietly (shown_by before) (shown_by after) → begun ≡ []
    → RanGroup k.config k.state (telling (shown_by before).told (Some begun) None) ending
    k'.state
    (telling (shown_by after).told (Some bytes) None) work → GrewBy tally tally' work
    → count ≡ byte_count bytes → digest ≡ sha256 bytes → (images : List Image) (config : Config)
    → IsOpenedWith k images config
    → RanQuietly images config k' ending count digest tally tally'
quiet_run k k' before after begun bytes ending work count digest tally tally' follows none run grew
    count_is digest_is images config opened =
    let es : List Exchange = run.more.exchanges in
    let statuses : List (Option ℕ) = map status_in k'.state.table.processes in
    let rounds : ℕ = k'.state.round - 1 in
    let seen : Seen = record {
      questions = map question_of es;
      output = run.more.output;
      error = run.more.error;
      statuses = statuses;
      ending = ending;
      rounds = rounds;
      work = work;
    } in
    let same : bytes ≡ run.more.output =
    told_is bytes (begun ++ run.more.output) run.more.output_is
    ∙ ap (λ (x : List ℕ). x ++ run.more.output) none in
    record {
      seen = seen;
      is = record {
        exchanges = es;
        quiet = quiet_more (shown_by before) (shown_by after) es follows
            run.more.exchanges_are;
        fits = from_opening k images config opened (λ w c. FitsFrom w c es) run.fits;
        is = from_opening k images config opened (λ w c. machine_from w c (map answer_of es)
            ≡ ends seen) run.ends;
      };
      ending_is = refl;
      summary_is =
          ap (λ (n : ℕ). summary_of statuses rounds ending n digest)
          (count_is ∙ ap byte_count same)
          ∙ ap (λ (d : List ℕ). summary_of statuses rounds ending (byte_count run.more.output) d)
          (digest_is ∙ ap sha256 same);
      counted = grew;
    }

-- It came to a question at which memory was wanting.
pub quiet_halt : (k : Held) (before after : Quietness) (o o1 e e1 : Option (List ℕ))
    (stop : RunStop) (tally tally' : ℕ) → FollowsQuietly (shown_by before) (shown_by after)
    → HasShimCause stop (shown_by before) (shown_by after) → HasSinkCause stop 0 0 0 0
    → OnSome (shim_stop stop) (StoppedGroup k.config k.state (telling (shown_by before).told o e)
    (telling (shown_by after).told o1 e1) (shown_by after).asked)
    → GrewBy tally tally' (work_from (kernel_world k) k.config
    (answers_since (shown_by before).told (shown_by after).told))
    → (images : List Image) (config : Config) → IsOpenedWith k images config
    → HaltedQuietly images config tally tally'
quiet_halt k before after o o1 e e1 stop tally tally' follows cause sinks asks grew images config
    opened =
    let run : StoppedGroup k.config k.state (telling (shown_by before).told o e)
    (telling (shown_by after).told o1 e1) (shown_by after).asked =
    subst (λ (s : RunStop). OnSome (shim_stop s) (StoppedGroup k.config k.state
    (telling (shown_by before).told o e) (telling (shown_by after).told o1 e1)
    (shown_by after).asked)) (memory_stop stop (shown_by before) after cause sinks) asks in
    let es : List Exchange = run.more.exchanges in
    record {
      exchanges = es;
      quiet = quiet_more (shown_by before) (shown_by after) es follows run.more.exchanges_are;
      question = run.question;
      output = run.more.output;
      error = run.more.error;
      ran = record {
        asks = from_opening k images config opened (λ w c. over (map answer_of es) (run_from w c)
            ≡ asks_for run.question run.more.output run.more.error) run.asks;
        asked = from_opening k images config opened (λ w c. questions (map answer_of es)
            (run_from w c) ≡ map question_of es ++ run.question ∷ []) run.asked_so;
      };
      counted = from_opening k images config opened (λ w c. GrewBy tally tally'
          (work_from w c (map answer_of es)))
          (subst (λ answers. GrewBy tally tally' (work_from (kernel_world k) k.config answers))
          (since_more (shown_by before).told (shown_by after).told es run.more.exchanges_are) grew);
    }

-- ---- the summary

-- It is put in two pieces: how the run has ended, and then what it has printed.
module _ (statuses : List (Option ℕ)) (rounds : ℕ) (ending : Ending) (count : ℕ)
    (digest : List ℕ) where
  abbrev ended_lines : List ℕ
  ended_lines = rounds_line rounds ending ++ process_lines 1 statuses

  abbrev printed_lines : List ℕ
  printed_lines = output_line count ++ sha256_line digest

  abbrev summary : List ℕ
  summary = summary_of statuses rounds ending count digest

  summary_is : ended_lines ++ printed_lines ≡ summary
  summary_is = sym (append_assoc ended_lines (output_line count) (sha256_line digest))

  -- the first fails
  pub summary_unended : (told now : Option (List ℕ)) → GrewByFront told now ended_lines
      → GrewByFront told now summary
  summary_unended told now front =
      subst (λ (l : List ℕ). GrewByFront told now l) summary_is
      (first_fails told now ended_lines ended_lines printed_lines refl front)

  -- both are told
  pub summary_told : {T E : Type 0} (r : Result T E) (told ended now : Option (List ℕ))
      → ended ≡ grown told ended_lines → OnOk r (now ≡ grown ended printed_lines)
      → OnOk r (now ≡ grown told summary)
  summary_told r told ended now first second =
      subst (λ (l : List ℕ). OnOk r (now ≡ grown told l)) summary_is
      (both_told r told ended now ended_lines ended_lines printed_lines printed_lines refl refl
      first second)

  -- the second fails
  pub summary_unprinted : {T E : Type 0} (r : Result T E) (told ended now : Option (List ℕ))
      → ended ≡ grown told ended_lines → OnErr r (GrewByFront ended now printed_lines)
      → OnErr r (GrewByFront told now summary)
  summary_unprinted r told ended now first second =
      subst (λ (l : List ℕ). OnErr r (GrewByFront told now l)) summary_is
      (second_fails r told ended now ended_lines ended_lines printed_lines printed_lines refl refl
      first second)

pub same_rounds : (bytes text line : List ℕ) (rounds count : ℕ) (ending : Ending) → bytes ≡ text
    → text ≡ line → line ≡ rounds_line rounds ending → rounds ≡ count
    → bytes ≡ rounds_line count ending
same_rounds bytes text line rounds count ending a b d e =
    a ∙ b ∙ d ∙ ap (λ (n : ℕ). rounds_line n ending) e

pub same_lines : (s t : State) → s ≡ t
    → process_lines 1 (map status_in s.table.processes)
    ≡ process_lines 1 (map status_in t.table.processes)
same_lines s t e = ap (λ (x : State). process_lines 1 (map status_in x.table.processes)) e

-- ---- the call

-- The image that is generated has room.
pub never_without_room : (number threads : ℕ) (images : List Image) (config : Config)
    (why : Refusal) → images ≡ generated number threads ∷ [] → config ≡ gen_config → threads ≤ 32
    → IsNotOpened images config why → why ≡ refusals.Memory
never_without_room number threads images config why these this few h =
    not_opened_as (generated number threads ∷ []) gen_config why
    (λ (w : Refusal). w ≡ refusals.Memory)
    (subst (λ (c : Config). IsNotOpened (generated number threads ∷ []) c why) this
    (subst (λ (i : List Image). IsNotOpened i config why) these h))
    (λ over. absurd (omega (arith, over, needed-generated number threads few))) refl

-- It ran out of memory, and nothing was put.
pub leaves_memory : (number threads n : ℕ) (tells : Bool) (f : Text → Option (List ℕ))
    (h : HostSeen) (out e : Option (List ℕ)) (tally : ℕ) (counts : Faults) (why : Refusal)
    → why ≡ refusals.Memory
    → Leaves (requests.Gen number threads n) (outside tells f f h h out out e e tally tally)
    counts why []
leaves_memory number threads n tells f h out e tally counts why is =
    subst (λ (w : Refusal). Leaves (requests.Gen number threads n)
    (outside tells f f h h out out e e tally tally) counts w []) (sym is)
    (inl (says_nothing (outside tells f f h h out out e e tally tally) refl refl (λ name. refl)
    refl refl))

-- It ran out of memory in its run, and nothing was put.
pub leaves_stopped : (number threads n : ℕ) (tells : Bool) (f : Text → Option (List ℕ))
    (h : HostSeen) (out e : Option (List ℕ)) (tally tally' : ℕ) (counts : Faults)
    (why : Refusal) → why ≡ refusals.Memory
    → HaltedQuietly (generated number threads ∷ []) gen_config tally tally'
    → Leaves (requests.Gen number threads n) (outside tells f f h h out out e e tally tally')
    counts why []
leaves_stopped number threads n tells f h out e tally tally' counts why is halted =
    subst (λ (w : Refusal). Leaves (requests.Gen number threads n)
    (outside tells f f h h out out e e tally tally') counts w []) (sym is)
    (inr (inl (record {
      taken = taken_images (generated number threads ∷ []);
      is = refl;
      so = record {
        halted = halted;
        grew = record { out_is = grown-nothing out; err_is = grown-nothing e };
        stays = record { files_stay = λ name. refl; host_stays = refl };
      };
    })))

-- It was opened with the image that is generated.
pub opened_with : (number threads : ℕ) (kernel : Held) (images : List Image)
    → images ≡ generated number threads ∷ [] → IsOpenedWith kernel images gen_config
    → IsOpenedWith kernel (generated number threads ∷ []) gen_config
opened_with number threads kernel images these opened =
    subst (λ (i : List Image). IsOpenedWith kernel i gen_config) these opened

pub one_image : (number threads : ℕ) (images : List Image) (image : Image) → images ≡ image ∷ []
    → image ≡ generated number threads → images ≡ generated number threads ∷ []
one_image number threads images image a b = a ∙ ap (λ (x : Image). x ∷ []) b

module _ (number threads : ℕ) (kernel' : Held) (ending : Ending) (count : ℕ)
    (digest : List ℕ) (out out' : Option (List ℕ)) (tally tally' : ℕ)
    (ran : RanQuietly (generated number threads ∷ []) gen_config kernel' ending count digest tally
    tally') where
  pub gen_did : out' ≡ grown out (summary_of (map status_in kernel'.state.table.processes)
      (kernel'.state.round - 1) ending count digest)
      → (n : ℕ) (tells : Bool) (f : Text → Option (List ℕ)) (h : HostSeen)
      (e : Option (List ℕ)) → Begun (requests.Gen number threads n)
      (outside tells f f h h out out' e e tally tally')
      (λ taken. Did (requests.Gen number threads n) taken (ending_status ending)
      (outside tells f f h h out out' e e tally tally'))
  gen_did told = λ n tells f h e. record {
    taken = taken_images (generated number threads ∷ []);
    is = refl;
    so = record {
      seen = ran.seen;
      is = ran.is;
      status_is = ap ending_status (sym ran.ending_is);
      counted = ran.counted;
      grew = record {
        out_is = told ∙ ap (grown out) ran.summary_is;
        err_is = grown-nothing e;
      };
      files_stay = λ name. refl;
      host_stays = refl;
    };
  }

  pub gen_cut : (oc oc' : ℕ) → Rose oc oc'
      → GrewByFront out out' (summary_of (map status_in kernel'.state.table.processes)
      (kernel'.state.round - 1) ending count digest)
      → (n : ℕ) (tells : Bool) (f : Text → Option (List ℕ)) (h : HostSeen)
      (e : Option (List ℕ)) (k l m : ℕ) → Leaves (requests.Gen number threads n)
      (outside tells f f h h out out' e e tally tally') (faults k k l l oc oc' m m) refusals.Sink []
  gen_cut oc oc' rose front = λ n tells f h e k l m. (
    inl rose,
    refl,
    record {
      taken = taken_images (generated number threads ∷ []);
      is = refl;
      so = record {
        seen = ran.seen;
        is = ran.is;
        counted = ran.counted;
        cut = record {
          out_is = subst (λ (t : List ℕ). GrewByFront out out' t) ran.summary_is front;
          err_stays = refl;
          files_stay = λ name. refl;
          host_stays = refl;
        };
      };
    },
  )
