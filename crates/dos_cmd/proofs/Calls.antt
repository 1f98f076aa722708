-- What follows for a call from how it ended.
use Rattle.std.proofs.Common.{ℕ, zero, suc, ◌≡◌, ◌≢◌, ◌≤◌, ◌⊎◌, refl, sym, ap, ◌∙◌, subst, inl, inr}
use Rattle.std.proofs.Common.{arith, List, [], ◌∷◌, take, drop, Option, Some, None, IfSome}
use Rattle.std.proofs.Common.{Result, Ok, Err}
use Rattle.std.proofs.lemmas.List.{take-append-drop}
use Rattle.std.specs.Prelude.{IfOk, IfErr, IsErrOf, length}
use Rattle.std.specs.List.{AllByRecursion}
use Rattle.std.specs.Int.{IsInRange}
use Rattle.dos_world.specs.declared.Post.{Post}
use Rattle.dos_words.specs.Ranges.{FitsAskedPost, FitsRequest, FitsRun}
use Rattle.shim_log.specs.Ledger.{ArePlanned}
use Rattle.dos_io.specs.Outside.{grown, GrewByFront, IsFront, Rose}
use Rattle.dos_world.specs.declared.Ending.{Ending}
use Rattle.dos_world.specs.declared.Misfit.{Misfit}
use Rattle.dpg_run.specs.Fits.{misfit}
use Rattle.flat_machine.specs.Machine.{group}
use Rattle.dpg_run.proofs.MisfitLaws.{fits_have_none}
use Rattle.dos_io.specs.declared.shim.ShimStop.TheVariants as stops
use Rattle.log_text.specs.LogText.{Log, exchanges}
use Rattle.logged_runs.specs.Replaying.{config_of}
use Rattle.dos_texts.specs.Exit.{ending_status, refusal_status, line_of}
use Rattle.dos_texts.proofs.Statuses.{EndsAs, ending_ends}
use Rattle.dos_texts.specs.declared.refusal.Refusal.{Refusal}
use Rattle.dos_texts.specs.declared.refusal.Refusal.TheVariants as refusals
use Rattle.dos_words.specs.Numbers.{Text}
use Rattle.dos_words.specs.Request.{request}
use Rattle.dos_words.specs.declared.request.Request.{Request}
use Rattle.dos_world.specs.declared.Scheme.{Scheme}
use Rattle.dos_world.specs.declared.Scheme.TheVariants.{Ownership}
use Rattle.dos_words.specs.declared.request.Request.TheVariants.{Run, Replay, Gen, Migrate}
use Rattle.dos_words.specs.declared.request.Request.TheVariants.{Save, Resume}
use Rattle.dos_words.specs.declared.request.Request.TheVariants.{Trace}
use Rattle.dos_io.specs.FileCalls.{FileCall}
use Rattle.dpg_run.specs.Fits.{misfit_from}
use Rattle.flat_machine.specs.Machine.{run_from}
use Rattle.log_text.specs.LogText.{exchanges_from}
use Rattle.dos_cmd.specs.Results.{MustResume, MustSave}
use Rattle.group_text.specs.Groups.{SavedGroup, world_in}
use Rattle.dos_cmd.specs.SaveLeaves.{DidSave, MisfittedSave}
use Rattle.dos_cmd.specs.ResumeLeaves.{DidResume, MisfittedResume}
use Rattle.dos_cmd.specs.Asking.{AskedSoFar, named_in}
use Rattle.dos_cmd.specs.Judging.{Taken, judgement}
use Rattle.dos_cmd.specs.Outside.{Outside, Faults, OutputFailed, Says}
use Rattle.dos_cmd.specs.ReplayLeaves.{DidReplay, Misfitted}
use Rattle.dos_cmd.specs.TraceLeaves.{DidTrace, MisfittedTrace}
use Rattle.dos_cmd.specs.Results.{Begun, NotTaken, OfBoth, OfLog, Did, HasMisfit, WasStopped}
use Rattle.dos_cmd.specs.Results.{Leaves}
use Rattle.dos_cmd.specs.Results.{FullLog, WasDone}
use Rattle.dos_cmd.specs.Results.{Fails, Refused, CutShort, MustReplay, MustTrace, MustDo}
use Rattle.dos_cmd.proofs.Saying.{with_error, with_faults, output_failed, fails_more}

-- ---- statuses

pub status_ends : (n : ℕ) (ending : Ending) → n ≡ ending_status ending → EndsAs n
status_ends n ending is = subst EndsAs (sym is) (ending_ends ending)

pub ends_not_six : (n : ℕ) → EndsAs n → n ≡ 6 → ⊥
ends_not_six n h six = omega arith

pub ends_or_not : (n : ℕ) → EndsAs n → n ≢ 0 → n ≢ 7 → n ≢ 8 → ⊥
ends_or_not n (inl h) a b d = a h
ends_or_not n (inr (inl h)) a b d = b h
ends_or_not n (inr (inr h)) a b d = d h

-- ---- what was told

told_as : {A : Type 0} (told : Option A) (x : A) (P : A → Type 0) → told ≡ Some x → IfSome told P
    → P x
told_as None x P is h = absurd cc
told_as (Some y) x P is h = let same : y ≡ x = cc in subst P same h

-- two requests that the words ask for are one
pub asked_once : (words : List Text) (a b : Request) → request words ≡ Some a
    → request words ≡ Some b → a ≡ b
asked_once words a b p q = let both : Some a ≡ Some b = sym p ∙ q in cc

not_none : (words : List Text) (a : Request) → request words ≡ Some a → request words ≡ None → ⊥
not_none words a p q = let both : Some a ≡ None = sym p ∙ q in cc

-- what was taken is what the files are told to be taken for
taken_is : (o : Outside) (asked : Request) (P : Taken → Type 0) (taken : Taken)
    (begun : Begun asked o P) → judgement o.files asked ≡ Some (Ok taken) → begun.taken ≡ taken
taken_is o asked P taken begun told =
    let is : Ok taken ≡ Ok begun.taken =
    told_as (judgement o.files asked) (Ok taken) (λ j. j ≡ Ok begun.taken) told begun.is in cc

taken_not : (o : Outside) (asked : Request) (P : Taken → Type 0) (why : Refusal) → Begun asked o P
    → judgement o.files asked ≡ Some (Err why) → ⊥
taken_not o asked P why begun told =
    let is : Err why ≡ Ok begun.taken =
    told_as (judgement o.files asked) (Err why) (λ j. j ≡ Ok begun.taken) told begun.is in cc

refused_not : (o : Outside) (asked : Request) (why : Refusal) (last : List ℕ) (taken : Taken)
    → NotTaken asked o why last → judgement o.files asked ≡ Some (Ok taken) → ⊥
refused_not o asked why last taken h told =
    let is : Ok taken ≡ Err why =
    told_as (judgement o.files asked) (Ok taken) (λ j. j ≡ Err why) told h.is in cc

refused_is : (o : Outside) (asked : Request) (why other : Refusal) (last : List ℕ)
    → NotTaken asked o why last → judgement o.files asked ≡ Some (Err other) → other ≡ why
refused_is o asked why other last h told =
    let is : Err other ≡ Err why =
    told_as (judgement o.files asked) (Err other) (λ j. j ≡ Err why) told h.is in cc

-- ---- a call that did what it was asked for

pub finished_as : (words : List Text) (n m : ℕ) (o : Outside) → n ≡ m → WasDone words m o
    → WasDone words n o
finished_as words n m o is h = subst (λ (k : ℕ). WasDone words k o) (sym is) h

pub finished_not_none : (words : List Text) (n : ℕ) (o : Outside) → WasDone words n o
    → request words ≡ None → ⊥
finished_not_none words n o h none = not_none words h.asked h.asks none

pub finished_not_refused : (words : List Text) (n : ℕ) (o : Outside) (asked : Request)
    (why : Refusal) → WasDone words n o → request words ≡ Some asked
    → judgement o.files asked ≡ Some (Err why) → ⊥
finished_not_refused words n o asked why h ask told =
    taken_not o h.asked (λ taken. Did h.asked taken n o) why h.begun
    (ap (judgement o.files) (asked_once words h.asked asked h.asks ask) ∙ told)

-- a log that fits has no misfit, so what was replayed had to be
replayed_must : (words : List Text) (w : ℕ) (s : Scheme) (log : Text) (names : List Text)
    (taken : Taken) (n : ℕ) (o : Outside) → Did (Replay w s log names) taken n o
    → MustDo (Replay w s log names) taken n o
replayed_must words w s log names taken n o h = of_log taken.log h
  where
    of_log : (read : Option Log) → OfLog read (λ l. DidReplay s l taken.images n o)
        → OfLog read (λ l. MustReplay (misfit taken.images (config_of s l.header) (exchanges l)) s
        l taken n o)
    of_log None h = absurd h
    of_log (Some l) h =
        let none : misfit taken.images (config_of s l.header) (exchanges l) ≡ None =
        fits_have_none 0 (exchanges l) (group taken.images (config_of s l.header)) h.replayed.fits
        in
        subst (λ (m : Option Misfit). MustReplay m s l taken n o) (sym none) h

traced_must : (w : ℕ) (log : Text) (names : List Text) (taken : Taken) (n : ℕ) (o : Outside)
    → Did (Trace w log names) taken n o → MustDo (Trace w log names) taken n o
traced_must w log names taken n o h = of_log taken.log h
  where
    of_log : (read : Option Log) → OfLog read (λ l. DidTrace l taken.images n o)
        → OfLog read (λ l. MustTrace (misfit taken.images (config_of Ownership l.header)
        (exchanges l)) l
        taken n o)
    of_log None h = absurd h
    of_log (Some l) h =
        let none : misfit taken.images (config_of Ownership l.header) (exchanges l) ≡ None =
        fits_have_none 0 (exchanges l) (group taken.images (config_of Ownership l.header))
        h.replayed.fits in
        subst (λ (m : Option Misfit). MustTrace m l taken n o) (sym none) h

saved_must : (w : ℕ) (log : Text) (round : ℕ) (to : Text) (names : List Text) (taken : Taken)
    (n : ℕ) (o : Outside) → Did (Save w log round to names) taken n o
    → MustDo (Save w log round to names) taken n o
saved_must w log round to names taken n o h = of_log taken.log h
  where
    by_misfit : (found : Option Misfit) (l : Log) → DidSave l taken.images round to n o
        → MustSave found l taken round to n o
    by_misfit None l h = h
    by_misfit (Some found) l h = inl h

    of_log : (read : Option Log) → OfLog read (λ l. DidSave l taken.images round to n o)
        → OfLog read (λ l. MustSave (misfit taken.images (config_of Ownership l.header)
        (exchanges l)) l
        taken round to n o)
    of_log None h = absurd h
    of_log (Some l) h =
        by_misfit (misfit taken.images (config_of Ownership l.header) (exchanges l)) l h

-- of a saved group, as far as it is there
abbrev GroupMust : ℕ → Outside → SavedGroup → Log → Type 0
GroupMust n o g l = MustResume
    (misfit_from g.used (exchanges_from g.used l) (run_from (world_in g) g.config)) g l n o

both_weaker : (P Q : SavedGroup → Log → Type 0) → ((g : SavedGroup) (l : Log) → P g l → Q g l)
    → (group : Option SavedGroup) (log : Option Log) → OfBoth group log P → OfBoth group log Q
both_weaker P Q f None log h = absurd h
both_weaker P Q f (Some g) None h = absurd h
both_weaker P Q f (Some g) (Some l) h = f g l h

resumed_must : (w : ℕ) (log from : Text) (taken : Taken) (n : ℕ) (o : Outside)
    → Did (Resume w log from) taken n o → MustDo (Resume w log from) taken n o
resumed_must w log from taken n o h =
    both_weaker (λ g l. DidResume g l n o) (GroupMust n o) must taken.group taken.log h
  where
    must : (g : SavedGroup) (l : Log) → DidResume g l n o → GroupMust n o g l
    must g l h =
        let none : misfit_from g.used (exchanges_from g.used l) (run_from (world_in g) g.config)
        ≡ None =
        fits_have_none g.used (exchanges_from g.used l) (run_from (world_in g) g.config)
        (h.resumed.fits [] []) in
        subst (λ (m : Option Misfit). MustResume m g l n o) (sym none) h

did_must : (words : List Text) (asked : Request) (taken : Taken) (n : ℕ) (o : Outside)
    → Did asked taken n o → MustDo asked taken n o
did_must words (Replay w s log names) taken n o h = replayed_must words w s log names taken n o h
did_must words (Trace w log names) taken n o h = traced_must w log names taken n o h
did_must words (Migrate log to) taken n o h = h
did_must words (Save w log round to names) taken n o h =
    saved_must w log round to names taken n o h
did_must words (Resume w log from) taken n o h = resumed_must w log from taken n o h
did_must words asked taken n o h = λ full. h

pub finished_must : (words : List Text) (n : ℕ) (o : Outside) (asked : Request) (taken : Taken)
    → WasDone words n o → request words ≡ Some asked → judgement o.files asked ≡ Some (Ok taken)
    → MustDo asked taken n o
finished_must words n o asked taken h ask told =
    let same = asked_once words h.asked asked h.asks ask in
    let is = taken_is o h.asked (λ t. Did h.asked t n o) taken h.begun
    (ap (judgement o.files) same ∙ told) in
    subst (λ (a : Request). MustDo a taken n o) same
    (subst (λ (t : Taken). MustDo h.asked t n o) is
    (did_must words h.asked h.begun.taken n o h.begun.so))

-- ---- a call that came to no report

-- A full log is the file's own, or a run's that the files were taken for.
full_status : (asked : Request) (o : Outside) (other : Refusal) (last : List ℕ)
    → FullLog asked o last → judgement o.files asked ≡ Some (Err other)
    → refusals.LogFull ≡ other
full_status (Migrate log to) o other last h told =
    sym (refused_is o (Migrate log to) refusals.LogFull other last h told)
full_status asked o other last h told =
    absurd (taken_not o asked (λ taken. WasStopped asked taken stops.LogFull last o) other h told)

-- Its status is a refusal's; want of memory, a fault of the outside and a full log say nothing of
-- what the files are taken for.
leaves_status : (asked : Request) (o : Outside) (f : Faults) (why other : Refusal) (last : List ℕ)
    → Leaves asked o f why last → judgement o.files asked ≡ Some (Err other)
    → refusal_status why ≢ 5 → refusal_status why ≢ 6 → refusal_status why ≢ 9
    → refusal_status why ≡ refusal_status other
unfolding refusal_status
leaves_status asked o f refusals.Words other last h told a b d = absurd h
leaves_status asked o f (refusals.Misfit found) other last h told a b d =
    absurd (taken_not o asked (λ taken. HasMisfit asked taken found last o) other h told)
leaves_status asked o f refusals.Files other last h told a b d = absurd (a refl)
leaves_status asked o f refusals.Host other last h told a b d = absurd (a refl)
leaves_status asked o f refusals.Sink other last h told a b d = absurd (b refl)
leaves_status asked o f refusals.LogFull other last h told a b d =
    ap refusal_status (full_status asked o other last h told)
leaves_status asked o f refusals.Memory other last h told a b d = absurd (d refl)
leaves_status asked o f why other last h told a b d =
    ap refusal_status (sym (refused_is o asked why other last h told))

-- of a misfit, in a replay, traced or not
misfit_must : (asked : Request) (taken : Taken) (found : Misfit) (n : ℕ) (o : Outside)
    → n ≡ refusal_status (refusals.Misfit found)
    → HasMisfit asked taken found (line_of (refusals.Misfit found)) o → MustDo asked taken n o
misfit_must (Replay w s log names) taken found n o is h = of_log taken.log h
  where
    of_log : (read : Option Log)
        → OfLog read (λ l. Misfitted s l taken.images found (line_of (refusals.Misfit found)) o)
        → OfLog read (λ l. MustReplay (misfit taken.images (config_of s l.header) (exchanges l)) s
        l taken n o)
    of_log None h = absurd h
    of_log (Some l) h =
        subst (λ (m : Option Misfit). MustReplay m s l taken n o) (sym h.replayed.is) (is, h)
misfit_must (Trace w log names) taken found n o is h = of_log taken.log h
  where
    of_log : (read : Option Log)
        → OfLog read (λ l. MisfittedTrace l taken.images found (line_of (refusals.Misfit found)) o)
        → OfLog read (λ l. MustTrace (misfit taken.images (config_of Ownership l.header)
        (exchanges l)) l
        taken n o)
    of_log None h = absurd h
    of_log (Some l) h =
        subst (λ (m : Option Misfit). MustTrace m l taken n o) (sym h.replayed.is) (is, h)
misfit_must (Save w log round to names) taken found n o is h = of_log taken.log h
  where
    of_log : (read : Option Log)
        → OfLog read (λ l. MisfittedSave l taken.images round found
        (line_of (refusals.Misfit found)) o)
        → OfLog read (λ l. MustSave (misfit taken.images (config_of Ownership l.header)
        (exchanges l)) l
        taken round to n o)
    of_log None h = absurd h
    of_log (Some l) h =
        subst (λ (m : Option Misfit). MustSave m l taken round to n o) (sym h.run.replayed.is)
        (inr (is, h))
misfit_must (Resume w log from) taken found n o is h =
    both_weaker (λ g l. MisfittedResume g l found (line_of (refusals.Misfit found)) o)
    (GroupMust n o) must taken.group taken.log h
  where
    must : (g : SavedGroup) (l : Log)
        → MisfittedResume g l found (line_of (refusals.Misfit found)) o → GroupMust n o g l
    must g l h = subst (λ (m : Option Misfit). MustResume m g l n o)
        (sym (h.resumed.is [] [])) (is, h)
misfit_must asked taken found n o is h = absurd h

-- of a log that is full, in a run
full_must : (asked : Request) (taken : Taken) (last : List ℕ) (n : ℕ) (o : Outside) → n ≡ 10
    → WasStopped asked taken stops.LogFull last o → MustDo asked taken n o
full_must (Run q r f w s posts from step log names) taken last n o is h = λ full. absurd (full is)
full_must asked taken last n o is h = absurd h

full_log_must : (asked : Request) (taken : Taken) (o : Outside) (n : ℕ) → n ≡ 10
    → FullLog asked o (line_of refusals.LogFull) → judgement o.files asked ≡ Some (Ok taken)
    → MustDo asked taken n o
full_log_must (Migrate log to) taken o n is h told =
    absurd (refused_not o (Migrate log to) refusals.LogFull _ taken h told)
full_log_must asked taken o n is h told =
    let same = taken_is o asked
    (λ t. WasStopped asked t stops.LogFull (line_of refusals.LogFull) o) taken h told in
    subst (λ (t : Taken). MustDo asked t n o) same
    (full_must asked h.taken (line_of refusals.LogFull) n o is h.so)

leaves_must : (asked : Request) (taken : Taken) (o : Outside) (f : Faults) (why : Refusal) (n : ℕ)
    → n ≡ refusal_status why → Leaves asked o f why (line_of why)
    → judgement o.files asked ≡ Some (Ok taken) → n ≢ 5 → n ≢ 6 → n ≢ 9 → MustDo asked taken n o
unfolding refusal_status
leaves_must asked taken o f refusals.Words n is h told a b d = absurd h
leaves_must asked taken o f (refusals.Misfit found) n is h told a b d =
    let same = taken_is o asked
    (λ t. HasMisfit asked t found (line_of (refusals.Misfit found)) o) taken h told in
    subst (λ (t : Taken). MustDo asked t n o) same
    (misfit_must asked h.taken found n o is h.so)
leaves_must asked taken o f refusals.Files n is h told a b d = absurd (a is)
leaves_must asked taken o f refusals.Host n is h told a b d = absurd (a is)
leaves_must asked taken o f refusals.Sink n is h told a b d = absurd (b is)
leaves_must asked taken o f refusals.LogFull n is h told a b d =
    full_log_must asked taken o n is h told
leaves_must asked taken o f refusals.Memory n is h told a b d = absurd (d is)
leaves_must asked taken o f why n is h told a b d =
    absurd (refused_not o asked why _ taken h told)

memory_status : (n : ℕ) (why : Refusal) → n ≡ refusal_status why → why ≡ refusals.Memory → n ≡ 9
unfolding refusal_status
memory_status n why is memory = is ∙ ap refusal_status memory

words_status : (n : ℕ) (why : Refusal) → n ≡ refusal_status why → why ≡ refusals.Words → n ≡ 2
unfolding refusal_status
words_status n why is words = is ∙ ap refusal_status words

pub fails_none : (words : List Text) (o : Outside) (f : Faults) (why : Refusal) (last : List ℕ)
    (n : ℕ) → n ≡ refusal_status why → Fails words o f why last → request words ≡ None → n ≢ 9
    → n ≡ 2
fails_none words o f why last n is (inl h) none d = words_status n why is h.1
fails_none words o f why last n is (inr (inl h)) none d = absurd (d (memory_status n why is h.0))
fails_none words o f why last n is (inr (inr h)) none d = absurd (not_none words h.0 h.1 none)

pub fails_refused : (words : List Text) (o : Outside) (f : Faults) (why other : Refusal)
    (last : List ℕ) (n : ℕ) (asked : Request) → n ≡ refusal_status why → Fails words o f why last
    → request words ≡ Some asked → judgement o.files asked ≡ Some (Err other)
    → n ≢ 5 → n ≢ 6 → n ≢ 9 → n ≡ refusal_status other
fails_refused words o f why other last n asked is (inl h) ask told a b d =
    absurd (not_none words asked ask h.0)
fails_refused words o f why other last n asked is (inr (inl h)) ask told a b d =
    absurd (d (memory_status n why is h.0))
fails_refused words o f why other last n asked is (inr (inr h)) ask told a b d =
    is ∙ leaves_status h.0 o f why other last h.2
    (ap (judgement o.files) (asked_once words h.0 asked h.1 ask) ∙ told)
    (λ e. a (is ∙ e)) (λ e. b (is ∙ e)) (λ e. d (is ∙ e))

pub fails_must : (words : List Text) (o : Outside) (f : Faults) (why : Refusal) (n : ℕ)
    (asked : Request) (taken : Taken) → n ≡ refusal_status why
    → Fails words o f why (line_of why) → request words ≡ Some asked
    → judgement o.files asked ≡ Some (Ok taken) → n ≢ 5 → n ≢ 6 → n ≢ 9 → MustDo asked taken n o
fails_must words o f why n asked taken is (inl h) ask told a b d =
    absurd (not_none words asked ask h.0)
fails_must words o f why n asked taken is (inr (inl h)) ask told a b d =
    absurd (d (memory_status n why is h.0))
fails_must words o f why n asked taken is (inr (inr h)) ask told a b d =
    let same = asked_once words h.0 asked h.1 ask in
    subst (λ (x : Request). MustDo x taken n o) same
    (leaves_must h.0 taken o f why n is h.2 (ap (judgement o.files) same ∙ told) a b d)

-- its line was put
pub refused_as : (words : List Text) (o : Outside) (f : Faults) (n faults : ℕ)
    (e : Option (List ℕ)) (why : Refusal) → f.err_after ≤ faults
    → (why ≢ refusals.Sink) × (n ≡ refusal_status why) × (e ≡ grown o.err_after (line_of why))
    → Fails words o f why [] → {b a : List FileCall} → AskedSoFar (named_in (request words)) why b a
    → Refused words n (with_error o e) (with_faults f faults) b a
refused_as words o f n faults e why later told fails so_far = record {
  why = why;
  status_is = told.1;
  fails = fails_more words o f faults e why (line_of why) later (λ sink. absurd (told.0 sink))
      told.2 fails;
  so_far = so_far;
}

-- ---- an output that failed

no_line : (why : Refusal) → why ≡ refusals.Sink → line_of why ≡ []
unfolding line_of
no_line why is = ap line_of is

take_nothing : (k : ℕ) → take {A = ℕ} k [] ≡ []
take_nothing zero = refl
take_nothing (suc k) = refl

front_nothing : (why : Refusal) (k : ℕ) → why ≡ refusals.Sink → take k (line_of why) ≡ []
front_nothing why k is = ap (take k) (no_line why is) ∙ take_nothing k

take_is_front : (k : ℕ) (xs : List ℕ) → IsFront (take k xs) xs
take_is_front k xs = (drop k xs, sym (take-append-drop k xs))

-- an output has failed where the reason is that
sink_failed : (words : List Text) (o : Outside) (f : Faults) (why : Refusal) (last : List ℕ)
    → why ≡ refusals.Sink → Fails words o f why last → OutputFailed f
sink_failed words o f why last is (inl h) =
    let clash : refusals.Sink ≡ refusals.Words = sym is ∙ h.1 in absurd cc
sink_failed words o f why last is (inr (inl h)) =
    let clash : refusals.Sink ≡ refusals.Memory = sym is ∙ h.0 in absurd cc
sink_failed words o f why last is (inr (inr h)) =
    (subst (λ (w : Refusal). Leaves h.0 o f w last) is h.2).0

pub cut_short : (words : List Text) (o : Outside) (f : Faults) (n : ℕ) (e : Option (List ℕ))
    (why : Refusal) → f.err_after ≤ n → f.err ≤ f.err_after → Fails words o f why []
    → (why ≡ refusals.Sink) ⊎ Rose f.err_after n → GrewByFront o.err_after e (line_of why)
    → {b a : List FileCall} → AskedSoFar (named_in (request words)) why b a
    → CutShort words (with_error o e) (with_faults f n) b a
cut_short words o f n e why later grows fails failed front so_far = record {
  failed = elim failed [
    | inl sink ↦ output_failed f n later (sink_failed words o f why [] sink fails)
    | inr rose ↦ inr (omega (arith, grows, rose))
  ];
  why = why;
  put = take front.0 (line_of why);
  front = take_is_front front.0 (line_of why);
  fails = fails_more words o f n e why (take front.0 (line_of why)) later
      (front_nothing why front.0) front.1 fails;
  so_far = so_far;
}

-- ---- what is done by each command, as a call of it

-- posts that the words may ask for may be made
pub are_planned : (posts : List (ℕ × Post)) → AllByRecursion FitsAskedPost posts
    → ArePlanned posts
are_planned [] h = tt
are_planned (post ∷ posts) h = (
  record {
    pid = omega (arith, h.0.process);
    low = omega (arith, h.0.signal);
    high = omega (arith, h.0.signal);
  },
  are_planned posts h.1,
)

pub fits_run : (asked : Request) (q r f w : ℕ) (s : Scheme) (posts : List (ℕ × Post))
    (start : Option ℕ) (step : ℕ) (log : Text) (names : List Text)
    → asked ≡ Run q r f w s posts start step log names → FitsRequest asked
    → FitsRun q r f w posts start step names
fits_run asked q r f w s posts start step log names is fits = subst FitsRequest is fits

pub fits_gen : (asked : Request) (number threads w : ℕ) → asked ≡ Gen number threads w
    → FitsRequest asked → IsInRange 1 32 threads
fits_gen asked number threads w is fits = (subst FitsRequest is fits).1

pub fits_save : (asked : Request) (w : ℕ) (log : Text) (round : ℕ) (to : Text) (names : List Text)
    → asked ≡ Save w log round to names → FitsRequest asked → IsInRange 1 8 (length names)
fits_save asked w log round to names is fits = (subst FitsRequest is fits).2

-- the same request
pub did_as : (r : Result Ending Refusal) (asked other : Request) (o : Outside)
    → IfOk r (λ ending. Begun asked o (λ taken. Did asked taken (ending_status ending) o))
    → other ≡ asked
    → IfOk r (λ ending. Begun other o (λ taken. Did other taken (ending_status ending) o))
did_as r asked other o h same = rw same h

pub leaves_as : (r : Result Ending Refusal) (asked other : Request) (o : Outside) (f : Faults)
    → IfErr r (λ why. Leaves asked o f why []) → other ≡ asked
    → IfErr r (λ why. Leaves other o f why [])
leaves_as r asked other o f h same = rw same h

-- the tally was this before
abbrev with_tally : Outside → ℕ → Outside
with_tally o tally = record o { tally = tally }

same_outside : (o : Outside) (tally : ℕ) → o.tally ≡ tally → with_tally o tally ≡ o
same_outside o tally kept = ap (with_tally o) (sym kept)

-- Workers were hired before, which has kept the tally.
pub did_hired : (r : Result Ending Refusal) (asked : Request) (o : Outside) (tally : ℕ)
    → IfOk r (λ ending. Begun asked o (λ taken. Did asked taken (ending_status ending) o))
    → o.tally ≡ tally
    → IfOk r (λ ending. Begun asked (with_tally o tally)
    (λ taken. Did asked taken (ending_status ending) (with_tally o tally)))
did_hired r asked o tally h kept = rw (same_outside o tally kept) h

pub leaves_hired : (r : Result Ending Refusal) (asked : Request) (o : Outside) (f : Faults)
    (tally : ℕ) → IfErr r (λ why. Leaves asked o f why []) → o.tally ≡ tally
    → IfErr r (λ why. Leaves asked (with_tally o tally) f why [])
leaves_hired r asked o f tally h kept = rw (same_outside o tally kept) h

-- ---- what is done for words

words_err : (why : Refusal) → why ≡ refusals.Words
    → IsErrOf {T = Request} (Err why) refusals.Words
words_err why is = cc

-- the words weren't read
pub not_read : (words : List Text) (o : Outside) (f : Faults) (why : Refusal)
    → (IsErrOf {T = Request} (Err why) refusals.Words → request words ≡ None)
    → (why ≡ refusals.Words) ⊎ (why ≡ refusals.Memory) → Says o [] → Fails words o f why []
not_read words o f why none (inl is) says = inl (none (words_err why is), is, says)
not_read words o f why none (inr is) says = inr (inl (is, says))

-- what was asked for by them
pub finished_by : (r : Result Ending Refusal) (words : List Text) (asked : Request) (o : Outside)
    → request words ≡ Some asked
    → IfOk r (λ ending. Begun asked o (λ taken. Did asked taken (ending_status ending) o))
    → IfOk r (λ ending. WasDone words (ending_status ending) o)
finished_by (Ok ending) words asked o asks h = record { asked = asked; asks = asks; begun = h }
finished_by (Err why) words asked o asks h = tt

pub fails_by : (r : Result Ending Refusal) (words : List Text) (asked : Request) (o : Outside)
    (f : Faults) → request words ≡ Some asked → IfErr r (λ why. Leaves asked o f why [])
    → IfErr r (λ why. Fails words o f why [])
fails_by (Ok ending) words asked o f asks h = tt
fails_by (Err why) words asked o f asks h = inr (inr (asked, asks, h))
