-- A run over a recorder that was asked nothing before.
use Rattle.std.proofs.Common.{ℕ, ◌≡◌, ◌⊎◌, inl, inr, refl, sym, ap, ◌∙◌, subst, List, [], ◌∷◌, ◌++◌}
use Rattle.std.proofs.Common.{append-nil, map, Option, Some, None}
use Rattle.std.specs.Prelude.{IfSome, OnSome}
use Rattle.dos_world.specs.declared.Config.{Config}
use Rattle.dos_world.specs.declared.Ending.{Ending}
use Rattle.dos_world.specs.declared.Post.{Post}
use Rattle.dos_world.specs.declared.Question.{Question}
use Rattle.dos_io.specs.Exchanges.{answer_of}
use Rattle.dos_io.specs.Given.{Given}
use Rattle.dos_io.specs.Hosts.{Told}
use Rattle.dos_io.specs.Outside.{Rose, counted_to_limit}
use Rattle.dos_io.specs.Shims.{HasNoEnd}
use Rattle.dos_io.specs.declared.exchange.ClockRule.{ClockRule}
use Rattle.dos_io.specs.declared.exchange.Exchange.{Exchange}
use Rattle.dos_io.specs.declared.exchange.Exchange.TheVariants.{End}
use Rattle.dos_io.specs.declared.host_question.HostQuestion.{HostQuestion}
use Rattle.dos_io.specs.declared.shim.ShimStop.{ShimStop}
use Rattle.dos_io.specs.declared.shim.ShimStop.TheVariants as stops
use Rattle.elf_image.specs.Image.{Image}
use Rattle.group_rounds.specs.StatePlays.{telling}
use Rattle.group_rounds.specs.Kernels.{Held, kernel_world}
use Rattle.group_rounds.specs.Rounds.{answers_since}
use Rattle.group_rounds.specs.Outside.{HasShimCause}
use Rattle.kernel_calls.specs.StateWorld.{shim_stop}
use Rattle.kernel_calls.specs.declared.state.RunStop.{RunStop}
use Rattle.kernel_calls.specs.declared.state.RunStop.TheVariants.{HostFault, LogFull, Misfit}
use Rattle.kernel_calls.specs.declared.state.RunStop.TheVariants.{OutFault, ErrFault, Memory}
use Rattle.worker_pool.specs.Ran.{GrewBy}
use Rattle.log_text.specs.declared.header.LogHeader.{LogHeader}
use Rattle.log_text.specs.declared.version.LogVersion.TheVariants.{Two}
use Rattle.shim_log.specs.Asking.{RecorderAsks, host_questions, stop_questions}
use Rattle.shim_log.specs.Ledger.{RecorderFollows, IsLedger, LedgerState, MayStop, empty_ledger}
use Rattle.shim_log.specs.Ledger.{end_of_ledger}
use Rattle.shim_log.specs.Ledger.{recorder_state}
use Rattle.log_text.specs.LogText.{Log, exchanges, logtext}
use Rattle.log_text.specs.Ranges.{AreEntries, FitsLog}
use Rattle.log_text.specs.Ranges.{most_bytes}
use Rattle.shim_log.specs.Room.{HadRoom}
use Rattle.shim_log.proofs.AskingCalls.{asked_until, asked_whole}
use Rattle.shim_log.proofs.RecorderLaws.{no_end, recording_given}
use Rattle.flat_machine.specs.Machine.{Seen}
use Rattle.dpg_run.specs.GroupRuns.{CutGroup, RanGroup, StoppedGroup}
use Rattle.dpg_run.specs.Work.{group_work, work_from}
use Rattle.logged_runs.specs.Opened.{IsOpenedWith}
use Rattle.logged_runs.specs.Runs.{Ended, Halted, RanUntil, RanWhole}
use Rattle.logged_runs.specs.Recording.{HostSeen, Recorded, RecordedAhead, RecordedUntil}
use Rattle.logged_runs.specs.Recording.{host_seen, plan_of}
use Rattle.logged_runs.proofs.FromOpening.{halted_ahead, halted_until, ran_ahead, ran_until}
use Rattle.logged_runs.proofs.FromOpening.{ran_whole, until_no_end}
use Rattle.logged_runs.proofs.Stops.{stops_so}
use Rattle.std.proofs.Common.{◌≤◌, length}

-- ---- the entries of a log, and those of the ledger that it was made of

no_end_entry : (es : List Exchange) (ending : Ending) (rounds : ℕ)
    → AreEntries (es ++ End ending rounds ∷ []) → ⊥
no_end_entry [] ending rounds h = h.0.1
no_end_entry (e ∷ es) ending rounds h = no_end_entry es ending rounds h.1

pub fronts_same : (es fs : List Exchange) (e f : Exchange) → es ++ e ∷ [] ≡ fs ++ f ∷ [] → es ≡ fs
fronts_same [] [] e f is = refl
fronts_same [] (y ∷ []) e f is = absurd cc
fronts_same [] (y ∷ z ∷ fs) e f is = absurd cc
fronts_same (x ∷ []) [] e f is = absurd cc
fronts_same (x ∷ z ∷ es) [] e f is = absurd cc
fronts_same (x ∷ es) (y ∷ fs) e f is =
    let first : x ≡ y = cc in
    let rest : es ++ e ∷ [] ≡ fs ++ f ∷ [] = cc in
    ap (λ z. z ∷ es) first ∙ ap (λ zs. y ∷ zs) (fronts_same es fs e f rest)

entries_of : (es : List Exchange) (ending : Ending) (rounds : ℕ) (entries : List Exchange)
    (ended : Option (Ending × ℕ)) → AreEntries entries
    → es ++ End ending rounds ∷ [] ≡ entries ++ end_of_ledger ended → es ≡ entries
entries_of es ending rounds entries None fits is =
    absurd (no_end_entry es ending rounds
    (subst AreEntries (sym (append-nil entries) ∙ sym is ∙ refl) fits))
entries_of es ending rounds entries (Some e) fits is =
    fronts_same es entries (End ending rounds) (End e.0 e.1) is

-- ---- how a recorder may stop

same_stop : (s : LedgerState) (question : Question) (stop : ShimStop) → MayStop s question stop
    → MayStop (record (empty_ledger s.posts s.clock s.header 0) { entries = s.entries }) question
    stop
same_stop s question stops.HostFault h = h
same_stop s question stops.LogFull h = h
same_stop s question (stops.Misfit m) h = h
same_stop s question stops.Memory h = h

may_stop : (s t : LedgerState) (question : Question) (stop : ShimStop) → t.header ≡ s.header
    → t.posts ≡ s.posts → t.clock ≡ s.clock → MayStop t question stop
    → MayStop (record (empty_ledger s.posts s.clock s.header 0) { entries = t.entries }) question
    stop
may_stop s t question stop header posts clock h =
    subst (λ (x : LogHeader).
    MayStop (record (empty_ledger s.posts s.clock x 0) { entries = t.entries }) question stop)
    header
    (subst (λ (x : List (ℕ × Post)).
    MayStop (record (empty_ledger x s.clock t.header 0) { entries = t.entries }) question stop)
    posts
    (subst (λ (x : ClockRule).
    MayStop (record (empty_ledger t.posts x t.header 0) { entries = t.entries }) question stop)
    clock (same_stop t question stop h)))

-- ---- the host, from one moment to another at which it is the same

pub followed : {H : Type 0} (told : H → Option Told) (faults : H → ℕ) (start after : LedgerState)
    (h h' i i' : H) → h ≡ h' → i' ≡ i
    → RecorderFollows start after (told h) (told i) (faults h) (faults i)
    → RecorderFollows start after (told h') (told i') (faults h') (faults i')
followed told faults start after h h' i i' before left follows =
    subst (λ x. RecorderFollows start after (told x) (told i') (faults x) (faults i')) before
    (subst (λ x. RecorderFollows start after (told h) (told x) (faults h) (faults x)) (sym left)
    follows)

pub asked_followed : {H : Type 0} (asked : H → List HostQuestion) (faults : H → ℕ)
    (start after : LedgerState) (h h' i i' : H) → h ≡ h' → i' ≡ i
    → RecorderAsks start after (asked h) (asked i) (faults h) (faults i)
    → RecorderAsks start after (asked h') (asked i') (faults h') (faults i')
asked_followed asked faults start after h h' i i' before left asks =
    subst (λ x. RecorderAsks start after (asked x) (asked i') (faults x) (faults i')) before
    (subst (λ x. RecorderAsks start after (asked h) (asked x) (faults h) (faults x)) (sym left)
    asks)

pub no_end_told : (start start' : LedgerState) → start ≡ start'
    → start' ≡ empty_ledger start'.posts start'.clock start'.header start'.room
    → HasNoEnd (recorder_state start).told
no_end_told start start' same begins =
    subst (λ (s : LedgerState). HasNoEnd (recorder_state s).told) (sym (same ∙ begins)) tt

-- ---- the run

-- what its parallel phases have run
abbrev work_since : (k : Held) (start after : LedgerState) → ℕ
work_since k start after = work_from (kernel_world k) k.config
    (answers_since (recorder_state start).told (recorder_state after).told)

module _ (k : Held) (start after : LedgerState) (a b : HostSeen) (m n : ℕ)
    (o e o1 e1 : Option (List ℕ)) (follows : RecorderFollows start after a.told b.told m n)
    (asks : RecorderAsks start after a.asked b.asked m n)
    (begins : start ≡ empty_ledger start.posts start.clock start.header start.room) where
  abbrev told : List Exchange
  told = (recorder_state after).told

  nothing_told : (recorder_state start).told ≡ []
  nothing_told = ap (λ (s : LedgerState). (recorder_state s).told) begins

  all_given : Given start.posts start.clock 0 a.told b.told told
  all_given =
      recording_given start.posts start.clock start.header start.room after a.told b.told m n
      (subst (λ (s : LedgerState). RecorderFollows s after a.told b.told m n) begins follows)

  all_asked : RecorderAsks (empty_ledger start.posts start.clock start.header start.room) after
      a.asked b.asked m n
  all_asked = subst (λ (s : LedgerState). RecorderAsks s after a.asked b.asked m n) begins asks

  -- where it never stopped
  none_stopped : after.last ≡ start.last
      → (b.asked ≡ a.asked ++ host_questions start.clock told) × (n ≡ m)
  none_stopped stands =
      asked_whole start.posts start.clock start.header start.room after a.asked b.asked m n
      all_asked (stands ∙ ap (λ (s : LedgerState). s.last) begins)

  -- where it stopped once
  once_stopped : (question : Question) (stop : ShimStop)
      → after.stops ≡ counted_to_limit start.stops → after.asked ≡ Some question
      → after.last ≡ Some stop
      → (b.asked ≡ a.asked ++ (host_questions start.clock told
      ++ stop_questions start.clock question stop))
      × ((stop ≡ stops.HostFault → ⊥) → n ≡ m)
  once_stopped question stop count at so =
      asked_until start.posts start.clock start.header start.room after a.asked b.asked m n
      all_asked question stop
      (count ∙ ap (λ (s : LedgerState). counted_to_limit s.stops) begins) at so

  had_room : IsLedger after → HadRoom start.header start.posts [] after.entries
  had_room kept =
      subst (λ (x : LogHeader). HadRoom x start.posts [] after.entries) follows.header_same
      (subst (λ (x : List (ℕ × Post)). HadRoom after.header x [] after.entries) follows.posts_same
      kept.had_room)

  -- it came to its end, and made this log
  of_start : (log : Log) (k' : Held) (ending : Ending) (tally tally' work : ℕ)
      → RanGroup k.config k.state (telling (recorder_state start).told o e) ending k'.state
      (telling told o1 e1) work → GrewBy tally tally' work → after.last ≡ start.last
      → IsLedger after
      → exchanges log ≡ told → log.version ≡ Two → log.header ≡ after.header → FitsLog log
      → length (logtext log) ≤ most_bytes → (images : List Image) (config : Config)
      → IsOpenedWith k images config
      → (seen : Seen) × Recorded (plan_of images config start) a b log seen
      × Ended k' ending seen o e o1 e1 tally tally'
  of_start log k' ending tally tally' work run grew stands kept is version header fits small images
      config opened =
      let ran = ran_whole k (recorder_state start).told told o e o1 e1 nothing_told images config
      opened k' ending tally tally' work run grew in
      let entries : log.entries ≡ after.entries =
      entries_of log.entries log.ending log.rounds after.entries after.ended kept.entries is in (
        ran.0,
        record {
          ran = subst (λ es. RanWhole images config es ran.0) (sym is) ran.1;
          given = subst (λ es. Given start.posts start.clock 0 a.told b.told es) (sym is)
              all_given;
          asked = subst (λ es. b.asked ≡ a.asked ++ host_questions start.clock es) (sym is)
              (none_stopped stands).0;
          version = version;
          header = header ∙ follows.header_same;
          ranges = fits;
          room = subst (λ es. HadRoom start.header start.posts [] es) (sym entries)
              (had_room kept);
          small = small;
        },
        ran.2,
      )

  -- it came to a question, at which the recorder stopped so
  until : (stop : ShimStop)
      → StoppedGroup k.config k.state (telling (recorder_state start).told o e)
      (telling told o1 e1) after.asked → after.stops ≡ counted_to_limit start.stops
      → after.last ≡ Some stop → IsLedger after
      → (tally tally' : ℕ) → GrewBy tally tally' (work_since k start after)
      → (images : List Image) (config : Config) → IsOpenedWith k images config
      → (output : List ℕ) × (error : List ℕ) × (work : ℕ)
      × RecordedUntil (plan_of images config start) a b stop output error work
      × Halted o e o1 e1 tally tally' output error work
  until stop run count last kept tally tally' grew images config opened =
      let ran = ran_until k (recorder_state start).told told o e o1 e1 nothing_told images config
      opened after.asked run in
      let none : HasNoEnd told =
      until_no_end k (recorder_state start).told told o e o1 e1 nothing_told images config
      opened run.question run.more.output run.more.error ran in
      let entries : told ≡ after.entries =
      ap (λ (x : Option (Ending × ℕ)). after.entries ++ end_of_ledger x) (no_end after none)
      ∙ append-nil after.entries in (
        run.more.output,
        run.more.error,
        group_work images config (map answer_of told),
        record {
          before = after.entries;
          question = run.question;
          ran = subst
              (λ es. RanUntil images config es run.question run.more.output run.more.error) entries
              ran;
          worked = ap (λ es. group_work images config (map answer_of es)) (sym entries);
          given = subst (λ es. Given start.posts start.clock 0 a.told b.told es) entries
              all_given;
          asked = subst (λ es. b.asked ≡ a.asked ++ (host_questions start.clock es
              ++ stop_questions start.clock run.question stop)) entries
              (once_stopped run.question stop count run.asked_is last).0;
          room = had_room kept;
          stops = may_stop start after run.question stop follows.header_same follows.posts_same
              follows.clock_same
              (stops_so after.asked after.last run.question stop (MayStop after) run.asked_is last
              kept.stop);
        },
        halted_until k (recorder_state start).told told o e o1 e1 nothing_told images config
            opened after.asked run tally tally' grew,
      )

  stopped_start : (stop : RunStop)
      → OnSome (shim_stop stop) (StoppedGroup k.config k.state
      (telling (recorder_state start).told o e) (telling told o1 e1) after.asked)
      → HasShimCause stop (recorder_state start) (recorder_state after) → IsLedger after
      → (tally tally' : ℕ) → GrewBy tally tally' (work_since k start after)
      → IfSome (shim_stop stop) (λ why. (images : List Image) (config : Config)
      → IsOpenedWith k images config → (output : List ℕ) × (error : List ℕ) × (work : ℕ)
      × RecordedUntil (plan_of images config start) a b why output error work
      × Halted o e o1 e1 tally tally' output error work)
  stopped_start HostFault run cause kept tally tally' grew =
      until stops.HostFault run cause.0 cause.1 kept tally tally' grew
  stopped_start LogFull run cause kept tally tally' grew =
      until stops.LogFull run cause.0 cause.1 kept tally tally' grew
  stopped_start (Misfit x) run cause kept tally tally' grew =
      until (stops.Misfit x) run cause.0 cause.1 kept tally tally' grew
  stopped_start OutFault run cause kept tally tally' grew = tt
  stopped_start ErrFault run cause kept tally tally' grew = tt
  stopped_start Memory run cause kept tally tally' grew =
      until stops.Memory run cause.0 cause.1 kept tally tally' grew

  -- it was cut off
  ahead_start : (stop : RunStop)
      → HasShimCause stop (recorder_state start) (recorder_state after)
      → CutGroup k.config k.state (telling (recorder_state start).told o e)
      (telling told o1 e1) → (tally tally' : ℕ) → GrewBy tally tally' (work_since k start after)
      → (images : List Image) (config : Config) → IsOpenedWith k images config
      → (output : List ℕ) × (error : List ℕ) × (work : ℕ)
      × RecordedAhead (plan_of images config start) a b stop output error work
      × Halted o e o1 e1 tally tally' output error work
  ahead_start stop cause cut tally tally' grew images config opened = (
    cut.more.output,
    cut.more.error,
    group_work images config (map answer_of told),
    record {
      before = told;
      ran = ran_ahead k (recorder_state start).told told o e o1 e1 nothing_told images config
          opened cut;
      worked = refl;
      given = all_given;
      asked = asked_by stop cause;
    },
    halted_ahead k (recorder_state start).told told o e o1 e1 nothing_told images config opened
        cut tally tally' grew,
  )
    where
      asked_by : (stop : RunStop) → HasShimCause stop (recorder_state start) (recorder_state after)
          → shim_stop stop ≡ None → b.asked ≡ a.asked ++ host_questions start.clock told
      asked_by OutFault cause none = (none_stopped cause.last).0
      asked_by ErrFault cause none = (none_stopped cause.last).0
      asked_by HostFault cause none = absurd cc
      asked_by LogFull cause none = absurd cc
      asked_by (Misfit x) cause none = absurd cc
      asked_by Memory cause none = absurd cc

  -- its host didn't fail
  steady_start : (stop : RunStop)
      → OnSome (shim_stop stop) (StoppedGroup k.config k.state
      (telling (recorder_state start).told o e) (telling told o1 e1) after.asked)
      → HasShimCause stop (recorder_state start) (recorder_state after)
      → (stop ≡ HostFault → ⊥) → n ≡ m
  steady_start HostFault run cause other = absurd (other refl)
  steady_start LogFull run cause other =
      (once_stopped run.question stops.LogFull cause.0 run.asked_is cause.1).1 (λ is. cc)
  steady_start (Misfit x) run cause other =
      (once_stopped run.question (stops.Misfit x) cause.0 run.asked_is cause.1).1 (λ is. cc)
  steady_start Memory run cause other =
      (once_stopped run.question stops.Memory cause.0 run.asked_is cause.1).1 (λ is. cc)
  steady_start OutFault run cause other = (none_stopped cause.last).1
  steady_start ErrFault run cause other = (none_stopped cause.last).1

  -- its host failed
  rose_start : (stop : RunStop) → HasShimCause stop (recorder_state start) (recorder_state after)
      → stop ≡ HostFault → Rose m n
  rose_start stop cause is = by_cause follows.cause
    where
      last : after.last ≡ Some stops.HostFault
      last = (subst (λ (x : RunStop). HasShimCause x (recorder_state start) (recorder_state after))
          is cause).1

      by_cause : ((after.stops ≡ start.stops) × (after.last ≡ start.last))
          ⊎ (after.last ≡ Some stops.HostFault → Rose m n) → Rose m n
      by_cause (inl same) =
          let never : start.last ≡ None = ap (λ (s : LedgerState). s.last) begins in
          let both : ◌≡◌ {A = Option ShimStop} None (Some stops.HostFault) =
          sym never ∙ sym same.1 ∙ last in
          absurd cc
      by_cause (inr rose) = rose last

-- ---- the same, of the ledger that the recorder was made of

module _ (k : Held) (ledger start after : LedgerState) (a b : HostSeen) (m n : ℕ)
    (o e o1 e1 : Option (List ℕ)) (same : start ≡ ledger)
    (begins : ledger ≡ empty_ledger ledger.posts ledger.clock ledger.header ledger.room)
    (follows : RecorderFollows start after a.told b.told m n)
    (asks : RecorderAsks start after a.asked b.asked m n) where
  begun : start ≡ empty_ledger start.posts start.clock start.header start.room
  begun = subst (λ (s : LedgerState). s ≡ empty_ledger s.posts s.clock s.header s.room) (sym same)
      begins

  pub recorded : (log : Log) (k' : Held) (ending : Ending) (tally tally' work : ℕ)
      → RanGroup k.config k.state (telling (recorder_state start).told o e) ending k'.state
      (telling (recorder_state after).told o1 e1) work → GrewBy tally tally' work
      → after.last ≡ start.last → IsLedger after
      → exchanges log ≡ (recorder_state after).told → log.version ≡ Two
      → log.header ≡ after.header
      → FitsLog log → length (logtext log) ≤ most_bytes → (images : List Image)
      (config : Config) → IsOpenedWith k images config
      → (seen : Seen) × Recorded (plan_of images config ledger) a b log seen
      × Ended k' ending seen o e o1 e1 tally tally'
  recorded log k' ending tally tally' work run grew stands kept is version header fits small images
      config opened =
      subst (λ (s : LedgerState). (seen : Seen) × Recorded (plan_of images config s) a b log seen
      × Ended k' ending seen o e o1 e1 tally tally') same
      (of_start k start after a b m n o e o1 e1 follows asks begun log k' ending tally tally' work
      run grew stands kept is version header fits small images config opened)

  pub stopped : (stop : RunStop)
      → OnSome (shim_stop stop) (StoppedGroup k.config k.state
      (telling (recorder_state start).told o e) (telling (recorder_state after).told o1 e1)
      after.asked) → HasShimCause stop (recorder_state start) (recorder_state after)
      → IsLedger after → (tally tally' : ℕ)
      → GrewBy tally tally' (work_since k start after)
      → IfSome (shim_stop stop) (λ why. (images : List Image) (config : Config)
      → IsOpenedWith k images config → (output : List ℕ) × (error : List ℕ) × (work : ℕ)
      × RecordedUntil (plan_of images config ledger) a b why output error work
      × Halted o e o1 e1 tally tally' output error work)
  stopped stop run cause kept tally tally' grew =
      subst (λ (s : LedgerState). IfSome (shim_stop stop) (λ why. (images : List Image)
      (config : Config) → IsOpenedWith k images config
      → (output : List ℕ) × (error : List ℕ) × (work : ℕ)
      × RecordedUntil (plan_of images config s) a b why output error work
      × Halted o e o1 e1 tally tally' output error work)) same
      (stopped_start k start after a b m n o e o1 e1 follows asks begun stop run cause kept tally
      tally' grew)

  pub recorded_ahead : (stop : RunStop)
      → HasShimCause stop (recorder_state start) (recorder_state after)
      → CutGroup k.config k.state (telling (recorder_state start).told o e)
      (telling (recorder_state after).told o1 e1) → (tally tally' : ℕ)
      → GrewBy tally tally' (work_since k start after) → (images : List Image) (config : Config)
      → IsOpenedWith k images config → (output : List ℕ) × (error : List ℕ) × (work : ℕ)
      × RecordedAhead (plan_of images config ledger) a b stop output error work
      × Halted o e o1 e1 tally tally' output error work
  recorded_ahead stop cause cut tally tally' grew images config opened =
      subst (λ (s : LedgerState). (output : List ℕ) × (error : List ℕ) × (work : ℕ)
      × RecordedAhead (plan_of images config s) a b stop output error work
      × Halted o e o1 e1 tally tally' output error work) same
      (ahead_start k start after a b m n o e o1 e1 follows asks begun stop cause cut tally tally'
      grew images config opened)

  pub host_rose : (stop : RunStop) → HasShimCause stop (recorder_state start) (recorder_state after)
      → stop ≡ HostFault → Rose m n
  host_rose = rose_start k start after a b m n o e o1 e1 follows asks begun

  pub host_stands : (stop : RunStop)
      → OnSome (shim_stop stop) (StoppedGroup k.config k.state
      (telling (recorder_state start).told o e) (telling (recorder_state after).told o1 e1)
      after.asked)
      → HasShimCause stop (recorder_state start) (recorder_state after)
      → (stop ≡ HostFault → ⊥) → n ≡ m
  host_stands = steady_start k start after a b m n o e o1 e1 follows asks begun

  pub host_never : after.last ≡ start.last → n ≡ m
  host_never stands = (none_stopped k start after a b m n o e o1 e1 follows asks begun stands).1
