-- A run over a follower that was asked nothing before.
use Rattle.std.proofs.Common.{ℕ, ◌≡◌, refl, sym, ap, ◌∙◌, subst, List, [], ◌∷◌, ◌++◌, Option, Some}
use Rattle.std.proofs.Common.{None, Ok, Err, append_assoc}
use Rattle.std.specs.Prelude.{IfOk, IfErr, IfSome, OnErr, OnSome, Result}
use Rattle.dos_world.specs.declared.Config.{Config}
use Rattle.dos_world.specs.declared.Ending.{Ending}
use Rattle.dos_world.specs.declared.Misfit.{Misfit as misfit_type}
use Rattle.dos_world.specs.declared.Question.{Question}
use Rattle.dos_io.specs.Exchanges.{question_of}
use Rattle.dos_io.specs.declared.exchange.Exchange.{Exchange}
use Rattle.dos_io.specs.declared.shim.ShimStop.{ShimStop}
use Rattle.dos_io.specs.declared.shim.ShimStop.TheVariants as stops
use Rattle.elf_image.specs.Image.{Image}
use Rattle.group_rounds.specs.StatePlays.{telling}
use Rattle.group_rounds.specs.Kernels.{Held}
use Rattle.group_rounds.specs.Outside.{HasShimCause}
use Rattle.kernel_calls.specs.StateWorld.{shim_stop}
use Rattle.kernel_calls.specs.declared.state.RunStop.{RunStop}
use Rattle.kernel_calls.specs.declared.state.RunStop.TheVariants.{HostFault, LogFull, Misfit}
use Rattle.kernel_calls.specs.declared.state.RunStop.TheVariants.{OutFault, ErrFault, Memory}
use Rattle.worker_pool.specs.Ran.{GrewBy}
use Rattle.dpg_run.specs.GroupRuns.{CutGroup, RanGroup, StoppedGroup}
use Rattle.logged_runs.specs.Opened.{IsOpenedWith}
use Rattle.logged_runs.proofs.FromOpening.{ran_ahead, ran_until, ran_whole}
use Rattle.twin_shims.specs.declared.note.Note.{Note}
use Rattle.twin_shims.specs.declared.note.Note.TheVariants.{Stopped as stopped_note}
use Rattle.twin_shims.specs.Follower.{ReaderState, IsFollowerStop, StopsReader, IsNextMisfit}
use Rattle.twin_shims.specs.Follower.{front, used}
use Rattle.twin_shims.specs.Follower.{reader_told, follower_state}
use Rattle.twin_shims.specs.Notes.{exchanges_in, IsClosed}
use Rattle.twin_shims.proofs.Lines.{exchanges_append, cut_once}
use Rattle.twin_runs.specs.Twins.{FollowerCame, Followed, StopsBefore, StoppedAt}

-- what is said of a question and a stop, where they are known
stops_so : (asked : Option Question) (last : Option ShimStop) (question : Question)
    (stop : ShimStop) (P : Question → ShimStop → Type 0) → asked ≡ Some question
    → last ≡ Some stop → IfSome asked (λ q. IfSome last (P q)) → P question stop
stops_so asked last question stop P at so h =
    subst (λ (o : Option ShimStop). IfSome o (P question)) so
    (subst (λ (o : Option Question). IfSome o (λ q. IfSome last (P q))) at h)

-- what stands behind the notes that were answered by
abbrev rest_of : Option Note → List Note → List Note
rest_of None more = more
rest_of (Some note) more = note ∷ more

-- all that was taken is what was answered by, and what stands behind it
parts : (taken : List Note) (next : Option Note) (more : List Note)
    → IfSome next (λ note. taken ≡ front taken ++ note ∷ [])
    → taken ++ more ≡ used taken next ++ rest_of next more
parts taken None more is = refl
parts taken (Some note) more is =
    ap (λ (x : List Note). x ++ more) is ∙ append_assoc (front taken) (note ∷ []) more

abbrev some_misfit : misfit_type → ShimStop
some_misfit m = stops.Misfit m

one_misfit : (x y : misfit_type) → some_misfit x ≡ some_misfit y → x ≡ y
one_misfit x y is = cc

module _ (k k' : Held) (start r : ReaderState) (o e o1 e1 : Option (List ℕ)) (tally tally' : ℕ)
    (fresh : reader_told start ≡ []) (notes more : List Note) (notes_are : notes ≡ r.taken ++ more)
    (closed : IsClosed notes)
    (next : IfSome r.next (λ note. r.taken ≡ front r.taken ++ note ∷ []))
    (stop_is : IfSome r.asked (λ q. IfSome r.last (StopsReader r q)))
    (never : IfSome r.last IsFollowerStop) where
  abbrev Stops : Type 0
  Stops = StoppedGroup k.config k.state (telling (reader_told start) o e)
      (telling (reader_told r) o1 e1) r.asked

  abbrev Cut : Type 0
  Cut = CutGroup k.config k.state (telling (reader_told start) o e) (telling (reader_told r) o1 e1)

  abbrev Cause : RunStop → Type 0
  Cause stop = HasShimCause stop (follower_state start) (follower_state r)

  abbrev rest : List Exchange
  rest = exchanges_in (rest_of r.next more)

  all_taken : notes ≡ used r.taken r.next ++ rest_of r.next more
  all_taken = notes_are ∙ parts r.taken r.next more next

  told_front : exchanges_in notes ≡ reader_told r ++ rest
  told_front = ap exchanges_in all_taken
      ∙ exchanges_append (used r.taken r.next) (rest_of r.next more)

  may_stop : (stop : ShimStop) (run : Stops) → r.last ≡ Some stop → StopsReader r run.question stop
  may_stop stop run last =
      stops_so r.asked r.last run.question stop (StopsReader r) run.asked_is last stop_is

  not_so : (stop : ShimStop) → r.last ≡ Some stop → IsFollowerStop stop
  not_so stop last = subst (λ (x : Option ShimStop). IfSome x IsFollowerStop) last never

  -- the leader has stopped, so nothing is behind
  none_left : r.next ≡ Some stopped_note → rest ≡ []
  none_left is =
      let whole : notes ≡ (front r.taken ++ stopped_note ∷ []) ++ more =
      notes_are ∙ ap (λ (x : List Note). x ++ more)
      (subst (λ (x : Option Note). IfSome x (λ note. r.taken ≡ front r.taken ++ note ∷ [])) is
      next) in
      let empty : more ≡ [] = cut_once (front r.taken) stopped_note closed.before closed.last more
      closed.running refl (sym closed.is ∙ whole) in
      ap (λ (x : Option Note). exchanges_in (rest_of x more)) is ∙ ap exchanges_in empty

  -- the next note is of another question
  misfit_next : (m : misfit_type) (run : Stops) → r.last ≡ Some (stops.Misfit m)
      → StopsBefore (Misfit m) rest × (run.question ≡ m.asked)
  misfit_next m run last =
      let is : IsNextMisfit r run.question (stops.Misfit m) = may_stop (stops.Misfit m) run last in
      let here : m ≡ record {
        entry = r.answered;
        kept = question_of is.kept;
        asked = run.question;
      } = one_misfit _ _ is.says in
      let asked : run.question ≡ m.asked = sym (ap (λ (x : misfit_type). x.asked) here) in (
        (
          is.kept,
          exchanges_in more,
          ap (λ (x : Option Note). exchanges_in (rest_of x more)) is.next,
          (λ eq. is.differ (eq ∙ sym asked)),
        ),
        asked,
      )

  stops_before : (result : Result Ending RunStop)
      → IfErr result (λ stop. OnSome (shim_stop stop) Stops) → IfErr result Cause
      → IfErr result (λ stop. StopsBefore stop rest)
  stops_before (Ok ending) asks cause = tt
  stops_before (Err HostFault) asks cause =
      none_left (may_stop stops.HostFault asks cause.1)
  stops_before (Err (Misfit m)) asks cause = (misfit_next m asks cause.1).0
  stops_before (Err LogFull) asks cause = tt
  stops_before (Err Memory) asks cause = tt
  stops_before (Err OutFault) asks cause = tt
  stops_before (Err ErrFault) asks cause = tt

  module _ (images : List Image) (config : Config) (opened : IsOpenedWith k images config) where
    until : (asks : Stops) → StoppedAt images config (reader_told r) asks.question o e o1 e1
    until asks = record {
      output = asks.more.output;
      error = asks.more.error;
      ran = ran_until k (reader_told start) (reader_told r) o e o1 e1 fresh images config
          opened r.asked
          asks;
      put = record { out_is = asks.more.output_is; err_is = asks.more.error_is };
    }

    follower_came : (result : Result Ending RunStop)
        → IfOk result (λ ending. (work : ℕ) × RanGroup k.config k.state
        (telling (reader_told start) o e) ending k'.state (telling (reader_told r) o1 e1) work
        × GrewBy tally tally' work)
        → IfErr result (λ stop. OnSome (shim_stop stop) Stops) → OnErr result Cut
        → IfErr result Cause
        → FollowerCame result images config (reader_told r) rest k' o e o1 e1 tally tally'
    follower_came (Ok ending) runs asks cut cause =
        let ran = ran_whole k (reader_told start) (reader_told r) o e o1 e1 fresh images config
        opened k'
        ending tally tally' runs.0 runs.1 runs.2 in
        record { seen = ran.0; ran = ran.1; ended = ran.2 }
    follower_came (Err HostFault) runs asks cut cause = (asks.question, until asks)
    follower_came (Err (Misfit m)) runs asks cut cause =
        subst (λ (q : Question). StoppedAt images config (reader_told r) q o e o1 e1)
        (misfit_next m asks cause.1).1 (until asks)
    follower_came (Err OutFault) runs asks cut cause = record {
      output = cut.more.output;
      error = cut.more.error;
      ran = ran_ahead k (reader_told start) (reader_told r) o e o1 e1 fresh images config
          opened cut;
      put = record { out_is = cut.more.output_is; err_is = cut.more.error_is };
    }
    follower_came (Err ErrFault) runs asks cut cause = record {
      output = cut.more.output;
      error = cut.more.error;
      ran = ran_ahead k (reader_told start) (reader_told r) o e o1 e1 fresh images config
          opened cut;
      put = record { out_is = cut.more.output_is; err_is = cut.more.error_is };
    }
    follower_came (Err LogFull) runs asks cut cause = not_so stops.LogFull cause.1
    follower_came (Err Memory) runs asks cut cause = not_so stops.Memory cause.1

  pub all_followed : (result : Result Ending RunStop)
      → IfOk result (λ ending. (work : ℕ) × RanGroup k.config k.state
      (telling (reader_told start) o e) ending k'.state (telling (reader_told r) o1 e1) work
      × GrewBy tally tally' work)
      → IfErr result (λ stop. OnSome (shim_stop stop) Stops) → OnErr result Cut
      → IfErr result Cause → Followed k k' result notes o e o1 e1 tally tally'
  all_followed result runs asks cut cause = record {
    told = reader_told r;
    rest = rest;
    front = told_front;
    stops = stops_before result asks cause;
    came = λ images config opened. follower_came images config opened result runs asks cut cause;
  }
