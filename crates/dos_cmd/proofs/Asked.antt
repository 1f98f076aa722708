-- What files were asked, from call to call.
use Rattle.std.proofs.Common.{◌≡◌, ◌≤◌, ◌⊎◌, ◌∙◌, ℕ, zero, suc, ◌+◌, Bool, true, false, cond, eqb}
use Rattle.std.proofs.Common.{inl, inr}
use Rattle.std.proofs.Common.{List, [], ◌∷◌, ◌++◌, map, take, drop, length, Option, Some, None}
use Rattle.std.proofs.Common.{Result, Ok, Err, refl, sym, ap, subst, append_assoc, arith}
use Rattle.std.specs.Prelude.{IfErr, IsErrOf, slice_get, bytes_eq, ⊤}
use Rattle.std.proofs.lemmas.List.{append-nil, map-append, take-append-drop, take_all}
use Rattle.dos_io.specs.FileCalls.{FileCall, getting, setting}
use Rattle.dos_io.specs.declared.files.FileError.{FileError}
use Rattle.dos_io.specs.declared.files.FileError.TheVariants as files
use Rattle.elf_image.specs.Image.{Image}
use Rattle.kernel_calls.specs.declared.state.RunStop.{RunStop}
use Rattle.kernel_calls.specs.declared.state.RunStop.TheVariants as stops
use Rattle.log_files.specs.Judging.{IsOfFile, disagreement, first_other}
use Rattle.log_files.specs.declared.refusal.LogRefusal.{LogRefusal}
use Rattle.log_files.specs.declared.refusal.LogRefusal.TheVariants as logs
use Rattle.log_text.specs.LogText.{Log}
use Rattle.dos_world.specs.declared.Ending.{Ending}
use Rattle.dos_world.specs.declared.Scheme.{Scheme}
use Rattle.dos_texts.specs.declared.refusal.Refusal.{Refusal}
use Rattle.dos_texts.specs.declared.refusal.Refusal.TheVariants as refusals
use Rattle.dos_words.specs.Numbers.{Text}
use Rattle.dos_words.specs.declared.request.Request.{Request}
use Rattle.dos_cmd.specs.Asking.{Named, files_named, named_by, named_in, file_reads, file_calls}
use Rattle.dos_cmd.specs.Asking.{named_to_save, reads_for_group}
use Rattle.group_files.specs.declared.refusal.SavedRefusal.{SavedRefusal}
use Rattle.group_files.specs.declared.refusal.SavedRefusal.TheVariants as saved
use Rattle.dos_cmd.specs.Asking.{reads_for, AreFirst, AskedUntil, AskedSoFar, Asks, IsOfImage}
use Rattle.dos_cmd.specs.Judging.{OfFiles}
use Rattle.dos_cmd.specs.Migrating.{LeavesMigration}
use Rattle.dos_cmd.specs.Outside.{Outside, Faults}
use Rattle.dos_cmd.specs.ReplayLeaves.{LeavesTaken, OfLogFile}
use Rattle.dos_cmd.specs.RunLeaves.{RunAsked}
use Rattle.dos_cmd.specs.Stops.{IsNotOpened, LeavesRun, refusal_by}
use Rattle.dos_cmd.specs.TraceLeaves.{LeavesTrace}
use Rattle.dos_cmd.specs.SaveLeaves.{LeavesSave}
use Rattle.dos_cmd.specs.ResumeLeaves.{LeavesResume}
use Rattle.debugger.specs.declared.stops.DebugStop.{DebugStop}
use Rattle.debugger.specs.declared.stops.DebugStop.TheVariants as debugs
use Rattle.dos_cmd.specs.DebugLeaves.{debug_refusal}
use Rattle.group_text.specs.Groups.{SavedGroup}
use Rattle.dos_world.specs.declared.Config.{Config}

-- ---- nothing was asked

pub none_asked : (b : List FileCall) → b ≡ b ++ []
none_asked b = sym (append-nil b)

no_image : (k : ℕ) → [] ≡ map getting (take {A = Text} k [])
no_image zero = refl
no_image (suc k) = refl

no_reads : (why : LogRefusal) → [] ≡ reads_for (files_named [] [] []) why
no_reads (logs.Images logged given) = refl
no_reads (logs.Digest number digest kept) = refl
no_reads why = refl

no_group_reads : (why : SavedRefusal) → [] ≡ reads_for_group (files_named [] [] []) why
no_group_reads saved.OtherLog = refl
no_group_reads why = refl

none_until : (why : Refusal) → AskedUntil (files_named [] [] []) why []
none_until (refusals.TooLong image) = no_image image
none_until (refusals.Image image error) = no_image image
none_until (refusals.Log why) = no_reads why
none_until (refusals.Group why) = no_group_reads why
none_until refusals.Files = ([], refl)
none_until refusals.Memory = ([], refl)
none_until refusals.Sink = inl refl
none_until why = refl

-- of a call that names no file
pub none_named : {T : Type 0} (r : Result T Refusal) (b : List FileCall)
    → Asks (files_named [] [] []) r b b
none_named (Ok done) b = none_asked b
none_named (Err why) b = record { asked = []; until = none_until why; after_is = none_asked b }

-- ---- images, one after another

pub take_next : (names : List Text) (i : ℕ) (name : Text) → slice_get names i ≡ Some name
    → take (i + 1) names ≡ take i names ++ name ∷ []
take_next names i name is = ap (λ (n : ℕ). take n names) (let e : i + 1 ≡ suc i = omega arith in e)
    ∙ go names i is
  where
    go : (xs : List Text) (i : ℕ) → slice_get xs i ≡ Some name
        → take (suc i) xs ≡ take i xs ++ name ∷ []
    go [] i is = cc
    go (y ∷ ys) zero is = let same : y ≡ name = cc in ap (λ (z : Text). z ∷ []) same
    go (y ∷ ys) (suc i) is = ap (λ (zs : List Text). y ∷ zs) (go ys i is)

pub one_more : (b m a : List FileCall) (names : List Text) (i : ℕ) (name : Text)
    → slice_get names i ≡ Some name → m ≡ b ++ map getting (take i names)
    → a ≡ m ++ getting name ∷ [] → a ≡ b ++ map getting (take (i + 1) names)
one_more b m a names i name at before next =
    next ∙ ap (λ (x : List FileCall). x ++ getting name ∷ []) before
    ∙ append_assoc b (map getting (take i names)) (getting name ∷ [])
    ∙ ap (λ (x : List FileCall). b ++ x)
    (sym (ap (map getting) (take_next names i name at)
    ∙ map-append getting (take i names) (name ∷ [])))

first_images : (names : List Text) (k : ℕ)
    → AreFirst (map getting (take k names)) (file_calls (files_named [] names []))
first_images names k = (
  map getting (drop k names),
  append-nil (map getting names) ∙ sym (ap (map getting) (take-append-drop k names))
      ∙ map-append getting (take k names) (drop k names),
)

image_until : (names : List Text) (k : ℕ) (why : Refusal) → OfFiles why (IsOfImage k)
    → AskedUntil (files_named [] names []) why (map getting (take k names))
image_until names k (refusals.TooLong image) is =
    ap (λ (n : ℕ). map getting (take n names)) (sym is)
image_until names k (refusals.Image image error) is =
    ap (λ (n : ℕ). map getting (take n names)) (sym is)
image_until names k refusals.Files is = first_images names k
image_until names k refusals.Memory is = first_images names k
image_until names k why is = absurd is

-- up to the one that isn't read
pub image_not_read : (b a : List FileCall) (names : List Text) (k : ℕ) (why : Refusal)
    → OfFiles why (IsOfImage k) → a ≡ b ++ map getting (take k names)
    → AskedSoFar (files_named [] names []) why b a
image_not_read b a names k why is asked =
    record {
      asked = map getting (take k names);
      until = image_until names k why is;
      after_is = asked;
    }

-- all of them
pub images_read : (b a : List FileCall) (names : List Text) (i : ℕ) → length names ≤ i
    → a ≡ b ++ map getting (take i names) → a ≡ b ++ file_calls (files_named [] names [])
images_read b a names i le asked =
    asked ∙ ap (λ (x : List Text). b ++ map getting x) (take_all i names le)
    ∙ ap (λ (x : List FileCall). b ++ x) (sym (append-nil (map getting names)))

-- ---- a log before them

log_first : (log : Text) (names : List Text) (why : LogRefusal) (asked : List FileCall)
    → asked ≡ reads_for (files_named [] names []) why
    → getting log ∷ asked ≡ reads_for (files_named (log ∷ []) names []) why
log_first log names (logs.Images logged given) asked h =
    ap (λ (x : List FileCall). getting log ∷ x) h
log_first log names (logs.Digest number digest kept) asked h =
    ap (λ (x : List FileCall). getting log ∷ x) h
log_first log names why asked h = ap (λ (x : List FileCall). getting log ∷ x) h

group_first : (log : Text) (names : List Text) (why : SavedRefusal) (asked : List FileCall)
    → asked ≡ reads_for_group (files_named [] names []) why
    → getting log ∷ asked ≡ reads_for_group (files_named (log ∷ []) names []) why
group_first log names saved.OtherLog asked h = ap (λ (x : List FileCall). getting log ∷ x) h
group_first log names why asked h = ap (λ (x : List FileCall). getting log ∷ x) h

log_until : (log : Text) (names : List Text) (why : Refusal) (asked : List FileCall)
    → AskedUntil (files_named [] names []) why asked
    → AskedUntil (files_named (log ∷ []) names []) why (getting log ∷ asked)
log_until log names (refusals.TooLong image) asked h =
    ap (λ (x : List FileCall). getting log ∷ x) h
log_until log names (refusals.Image image error) asked h =
    ap (λ (x : List FileCall). getting log ∷ x) h
log_until log names (refusals.Log why) asked h = log_first log names why asked h
log_until log names (refusals.Group why) asked h = group_first log names why asked h
log_until log names refusals.Files asked h =
    (h.0, ap (λ (x : List FileCall). getting log ∷ x) h.1)
log_until log names refusals.Memory asked h =
    (h.0, ap (λ (x : List FileCall). getting log ∷ x) h.1)
log_until log names refusals.Sink asked (inl h) =
    inl (ap (λ (x : List FileCall). getting log ∷ x) h)
log_until log names refusals.Sink asked (inr h) =
    inr (ap (λ (x : List FileCall). getting log ∷ x) h)
log_until log names why asked h = ap (λ (x : List FileCall). getting log ∷ x) h

pub log_then_all : (log : Text) (names : List Text) (b m a : List FileCall)
    → m ≡ b ++ getting log ∷ [] → a ≡ m ++ file_calls (files_named [] names [])
    → a ≡ b ++ file_calls (files_named (log ∷ []) names [])
log_then_all log names b m a first h =
    h ∙ ap (λ (x : List FileCall). x ++ (map getting names ++ [])) first
    ∙ append_assoc b (getting log ∷ []) (map getting names ++ [])

pub log_then_stops : (log : Text) (names : List Text) (why : Refusal) (b m a : List FileCall)
    → m ≡ b ++ getting log ∷ [] → AskedSoFar (files_named [] names []) why m a
    → AskedSoFar (files_named (log ∷ []) names []) why b a
log_then_stops log names why b m a first h = record {
  asked = getting log ∷ h.asked;
  until = log_until log names why h.asked h.until;
  after_is = h.after_is ∙ ap (λ (x : List FileCall). x ++ h.asked) first
      ∙ append_assoc b (getting log ∷ []) h.asked;
}

alone : (log : Text) (names written : List Text) (why : LogRefusal) → IsOfFile why
    → getting log ∷ [] ≡ reads_for (files_named (log ∷ []) names written) why
alone log names written (logs.Images logged given) is = absurd is
alone log names written (logs.Digest number digest kept) is = absurd is
alone log names written why is = refl

alone_until : (log : Text) (names written : List Text) (why : Refusal) → OfLogFile why IsOfFile
    → AskedUntil (files_named (log ∷ []) names written) why (getting log ∷ [])
alone_until log names written (refusals.Log why) is = alone log names written why is
alone_until log names written refusals.Files is =
    (map getting names ++ map setting written, refl)
alone_until log names written refusals.Memory is =
    (map getting names ++ map setting written, refl)
alone_until log names written why is = absurd is

-- a log that isn't read
pub log_not_read : (log : Text) (names written : List Text) (why : Refusal) (b a : List FileCall)
    → OfLogFile why IsOfFile → a ≡ b ++ getting log ∷ []
    → AskedSoFar (files_named (log ∷ []) names written) why b a
log_not_read log names written why b a is asked = record {
  asked = getting log ∷ [];
  until = alone_until log names written why is;
  after_is = asked;
}

-- what differs from the images isn't refused alone
other_held : (number : ℕ) (given logged : List (List ℕ)) (why : LogRefusal)
    → first_other number given logged ≡ Some why → IsOfFile why → ⊥
other_held number [] logged why is of_file = cc
other_held number (digest ∷ given) [] why is of_file = cc
other_held number (digest ∷ given) (kept ∷ logged) why is of_file = go (bytes_eq digest kept)
    (λ behind. other_held (suc number) given logged why behind of_file) is
  where
    go : (t : Bool) → (first_other (suc number) given logged ≡ Some why → ⊥)
        → cond t (first_other (suc number) given logged) (Some (logs.Digest number digest kept))
        ≡ Some why → ⊥
    go true behind is = behind is
    go false behind is = let same : why ≡ logs.Digest number digest kept =
        cc in subst IsOfFile same of_file

held : (given logged : List (List ℕ)) (why : LogRefusal) → disagreement given logged ≡ Some why
    → IsOfFile why → ⊥
held given logged why is of_file = go (eqb (length given) (length logged)) is
  where
    go : (t : Bool)
        → cond t (first_other 1 given logged) (Some (logs.Images (length logged) (length given)))
        ≡ Some why → ⊥
    go true is = other_held 1 given logged why is of_file
    go false is = let same : why ≡ logs.Images (length logged) (length given) =
        cc in subst IsOfFile same of_file

held_until : (n : Named) (why : LogRefusal) → (IsOfFile why → ⊥) → file_reads n ≡ reads_for n why
held_until n (logs.Images logged given) other = refl
held_until n (logs.Digest number digest kept) other = refl
held_until n logs.TooLong other = absurd (other tt)
held_until n (logs.Refused error) other = absurd (other tt)

pub not_agreed : (log : Text) (names : List Text) (given logged : List (List ℕ)) (why : LogRefusal)
    (b a : List FileCall) → disagreement given logged ≡ Some why
    → a ≡ b ++ file_calls (files_named (log ∷ []) names [])
    → AskedSoFar (files_named (log ∷ []) names []) (refusals.Log why) b a
not_agreed log names given logged why b a is asked =
    let n : Named = files_named (log ∷ []) names [] in
    record {
      asked = file_reads n;
      until = held_until n why (held given logged why is);
      after_is = asked ∙ ap (λ (x : List FileCall). b ++ x) (append-nil (file_reads n));
    }

-- ---- behind all reads

-- Neither a log, a saved group nor an image is refused.
abbrev pub IsLater : Refusal → Type 0
IsLater (refusals.TooLong image) = ⊥
IsLater (refusals.Image image error) = ⊥
IsLater (refusals.Log why) = ⊥
IsLater (refusals.Group why) = ⊥
IsLater why = ⊤

pub later_if : {T : Type 0} (r : Result T Refusal) (P : Refusal → Type 0)
    → ((why : Refusal) → P why → IsLater why) → IfErr r P → IfErr r IsLater
later_if (Ok done) P f h = tt
later_if (Err why) P f h = f why h

pub later_opening : (images : List Image) (config : Config) (why : Refusal)
    → IsNotOpened images config why → IsLater why
later_opening images config (refusals.NoRoom n frames) h = tt
later_opening images config refusals.Memory h = tt
later_opening images config why h = absurd h

pub later_stop : (stop : RunStop) (why : Refusal) → why ≡ refusal_by stop → IsLater why
later_stop stop why is = subst IsLater (sym is) (go stop)
  where
    go : (stop : RunStop) → IsLater (refusal_by stop)
    go stops.OutFault = tt
    go stops.ErrFault = tt
    go stops.HostFault = tt
    go stops.LogFull = tt
    go (stops.Misfit found) = tt
    go stops.Memory = tt

pub later_sink : (r : Result Ending Refusal) → IfErr r (λ why. why ≡ refusals.Sink)
    → IfErr r IsLater
later_sink (Ok ending) is = tt
later_sink (Err why) is = subst IsLater (sym is) tt

pub later_run : (asked : RunAsked) (images : List Image) (o : Outside) (f : Faults) (why : Refusal)
    → LeavesRun asked images o f why → IsLater why
later_run asked images o f refusals.Files h = tt
later_run asked images o f refusals.Host h = tt
later_run asked images o f refusals.Sink h = tt
later_run asked images o f refusals.LogFull h = tt
later_run asked images o f refusals.Memory h = tt
later_run asked images o f why h = absurd h

pub later_replay : (scheme : Scheme) (log : Log) (images : List Image) (o : Outside) (f : Faults)
    (why : Refusal) → LeavesTaken scheme log images o f why → IsLater why
later_replay scheme log images o f (refusals.NoRoom n frames) h = tt
later_replay scheme log images o f (refusals.Misfit found) h = tt
later_replay scheme log images o f refusals.Sink h = tt
later_replay scheme log images o f refusals.Memory h = tt
later_replay scheme log images o f why h = absurd h

pub later_trace : (log : Log) (images : List Image) (o : Outside) (f : Faults) (why : Refusal)
    → LeavesTrace log images o f why → IsLater why
later_trace log images o f (refusals.NoRoom n frames) h = tt
later_trace log images o f (refusals.Misfit found) h = tt
later_trace log images o f refusals.Sink h = tt
later_trace log images o f refusals.Memory h = tt
later_trace log images o f why h = absurd h

pub later_save : (log : Log) (images : List Image) (round : ℕ) (to : Text) (o : Outside)
    (f : Faults) (why : Refusal) → LeavesSave log images round to o f why → IsLater why
later_save log images round to o f (refusals.NoRoom n frames) h = tt
later_save log images round to o f (refusals.Misfit found) h = tt
later_save log images round to o f refusals.Sink h = tt
later_save log images round to o f refusals.Files h = tt
later_save log images round to o f refusals.Memory h = tt
later_save log images round to o f why h = absurd h

pub later_resume : (g : SavedGroup) (log : Log) (o : Outside) (f : Faults) (why : Refusal)
    → LeavesResume g log o f why → IsLater why
later_resume g log o f (refusals.Misfit found) h = tt
later_resume g log o f refusals.Sink h = tt
later_resume g log o f refusals.Memory h = tt
later_resume g log o f why h = absurd h

pub later_debug : (stop : DebugStop) (why : Refusal) → why ≡ debug_refusal stop → IsLater why
later_debug stop why is = subst IsLater (sym is) (go stop)
  where
    go : (stop : DebugStop) → IsLater (debug_refusal stop)
    go (debugs.NoRoom needed frames) = tt
    go debugs.HostFault = tt
    go debugs.SinkFault = tt
    go debugs.Memory = tt

pub later_migration : (log : Log) (to : Text) (why : Refusal) (tells : Bool)
    (files after : Text → Option (List ℕ)) (out out' : Option (List ℕ)) (k k' n n' : ℕ)
    → LeavesMigration log to why tells files after out out' k k' n n' → IsLater why
later_migration log to refusals.LogFull tells files after out out' k k' n n' h = tt
later_migration log to refusals.Memory tells files after out out' k k' n n' h = tt
later_migration log to refusals.Files tells files after out out' k k' n n' h = tt
later_migration log to refusals.Sink tells files after out out' k k' n n' h = tt
later_migration log to why tells files after out out' k k' n n' h = absurd h

pub later_making : (why : Refusal) (P : Type 0)
    → (why ≡ refusals.Memory) ⊎ ((why ≡ refusals.LogFull) × P) → IsLater why
later_making why P (inl is) = subst IsLater (sym is) tt
later_making why P (inr is) = subst IsLater (sym is.0) tt

later_until : (log images : List Text) (why : Refusal) → IsLater why
    → AskedUntil (files_named log images []) why (file_reads (files_named log images []))
later_until log images (refusals.TooLong image) later = absurd later
later_until log images (refusals.Image image error) later = absurd later
later_until log images (refusals.Log why) later = absurd later
later_until log images (refusals.Group why) later = absurd later
later_until log images refusals.Files later = ([], refl)
later_until log images refusals.Memory later = ([], refl)
later_until log images refusals.Sink later = inl refl
later_until log images why later = refl

pub stopped_later : (log images : List Text) (why : Refusal) (b a : List FileCall) → IsLater why
    → a ≡ b ++ file_calls (files_named log images [])
    → AskedSoFar (files_named log images []) why b a
stopped_later log images why b a later asked =
    let reads : List FileCall = file_reads (files_named log images []) in
    record {
      asked = reads;
      until = later_until log images why later;
      after_is = asked ∙ ap (λ (x : List FileCall). b ++ x) (append-nil reads);
    }

pub all_read : {T : Type 0} (r : Result T Refusal) (log images : List Text) (b a : List FileCall)
    → IfErr r IsLater → a ≡ b ++ file_calls (files_named log images [])
    → Asks (files_named log images []) r b a
all_read (Ok done) log images b a later asked = asked
all_read (Err why) log images b a later asked = stopped_later log images why b a later asked

-- ---- the file that is written

-- what a log's file was asked
abbrev pub WasAsked : {T : Type 0} → Result T FileError → Text → (b a : List FileCall) → Type 0
WasAsked r name b a = (a ≡ b ++ setting name ∷ []) ⊎ ((r ≡ Err files.Memory) × (a ≡ b))

pub was_stored : {T : Type 0} (x : T) (text name : Text) (b a : List FileCall) → text ≡ name
    → WasAsked (Ok x) text b a → a ≡ b ++ setting name ∷ []
was_stored x text name b a is (inl h) =
    h ∙ ap (λ (n : Text). b ++ setting n ∷ []) is
was_stored x text name b a is (inr h) = let other = h.0 in cc

pub no_memory : {T : Type 0} (r : Result T FileError) (text name : Text) (b a : List FileCall)
    → text ≡ name → WasAsked r text b a
    → AskedSoFar (files_named [] [] (name ∷ [])) refusals.Memory b a
no_memory r text name b a is (inl h) = record {
  asked = setting name ∷ [];
  until = ([], refl);
  after_is = h ∙ ap (λ (n : Text). b ++ setting n ∷ []) is;
}
no_memory r text name b a is (inr h) = record {
  asked = [];
  until = (setting name ∷ [], refl);
  after_is = h.1 ∙ none_asked b;
}

pub file_failed : {T : Type 0} (e : FileError) (text name : Text) (b a : List FileCall)
    → text ≡ name → e ≡ files.Fault → WasAsked {T = T} (Err e) text b a
    → AskedSoFar (files_named [] [] (name ∷ [])) refusals.Files b a
file_failed e text name b a is fault (inl h) = record {
  asked = setting name ∷ [];
  until = ([], refl);
  after_is = h ∙ ap (λ (n : Text). b ++ setting n ∷ []) is;
}
file_failed {T} e text name b a is fault (inr h) =
    let both : ◌≡◌ {A = Result T FileError} (Err e) (Err files.Memory) = h.0 in cc

-- what was put then failed, or not
pub put_then : {T : Type 0} (r : Result T Refusal) (name : Text) (b a : List FileCall)
    → IfErr r (λ why. why ≡ refusals.Sink) → a ≡ b ++ setting name ∷ []
    → Asks (files_named [] [] (name ∷ [])) r b a
put_then (Ok done) name b a sink asked = asked
put_then (Err why) name b a sink asked = subst
    (λ (w : Refusal). AskedSoFar (files_named [] [] (name ∷ [])) w b a) (sym sink)
    (record { asked = setting name ∷ []; until = inr refl; after_is = asked })

unwritten_until : (name : Text) (why : Refusal) → IsLater why
    → AskedUntil (files_named [] [] (name ∷ [])) why []
unwritten_until name (refusals.TooLong image) later = absurd later
unwritten_until name (refusals.Image image error) later = absurd later
unwritten_until name (refusals.Log why) later = absurd later
unwritten_until name (refusals.Group why) later = absurd later
unwritten_until name refusals.Files later = (setting name ∷ [], refl)
unwritten_until name refusals.Memory later = (setting name ∷ [], refl)
unwritten_until name refusals.Sink later = inl refl
unwritten_until name why later = refl

-- it isn't come to
pub not_asked : (name : Text) (why : Refusal) (b : List FileCall) → IsLater why
    → AskedSoFar (files_named [] [] (name ∷ [])) why b b
not_asked name why b later =
    record { asked = []; until = unwritten_until name why later; after_is = none_asked b }

-- ---- reads, and then what is written

written_until : (log images : List Text) (name : Text) (why : Refusal) (asked : List FileCall)
    → IsLater why → AskedUntil (files_named [] [] (name ∷ [])) why asked
    → AskedUntil (files_named log images (name ∷ [])) why (map getting (log ++ images) ++ asked)
written_until log images name (refusals.TooLong image) asked later h = absurd later
written_until log images name (refusals.Image image error) asked later h = absurd later
written_until log images name (refusals.Log why) asked later h = absurd later
written_until log images name (refusals.Group why) asked later h = absurd later
written_until log images name refusals.Files asked later h =
    let reads : List FileCall = map getting (log ++ images) in
    (h.0, ap (λ (x : List FileCall). reads ++ x) h.1 ∙ sym (append_assoc reads asked h.0))
written_until log images name refusals.Memory asked later h =
    let reads : List FileCall = map getting (log ++ images) in
    (h.0, ap (λ (x : List FileCall). reads ++ x) h.1 ∙ sym (append_assoc reads asked h.0))
written_until log images name refusals.Sink asked later (inl h) =
    let reads : List FileCall = map getting (log ++ images) in
    inl (ap (λ (x : List FileCall). reads ++ x) h ∙ append-nil reads)
written_until log images name refusals.Sink asked later (inr h) =
    inr (ap (λ (x : List FileCall). map getting (log ++ images) ++ x) h)
written_until log images name why asked later h =
    let reads : List FileCall = map getting (log ++ images) in
    ap (λ (x : List FileCall). reads ++ x) h ∙ append-nil reads

pub written_then : {T : Type 0} (r : Result T Refusal) (log images : List Text) (name : Text)
    (b m a : List FileCall) → m ≡ b ++ file_calls (files_named log images [])
    → IfErr r IsLater → Asks (files_named [] [] (name ∷ [])) r m a
    → Asks (files_named log images (name ∷ [])) r b a
written_then (Ok done) log images name b m a first later h =
    let reads : List FileCall = map getting (log ++ images) in
    h ∙ ap (λ (x : List FileCall). x ++ setting name ∷ [])
    (first ∙ ap (λ (x : List FileCall). b ++ x) (append-nil reads))
    ∙ append_assoc b reads (setting name ∷ [])
written_then (Err why) log images name b m a first later h =
    let reads : List FileCall = map getting (log ++ images) in
    record {
      asked = reads ++ h.asked;
      until = written_until log images name why h.asked later h.until;
      after_is = h.after_is ∙ ap (λ (x : List FileCall). x ++ h.asked)
          (first ∙ ap (λ (x : List FileCall). b ++ x) (append-nil reads))
          ∙ append_assoc b reads h.asked;
    }

-- A call that stops in its reads writes nothing.
same_reads : (log images written : List Text) (why : LogRefusal) (asked : List FileCall)
    → asked ≡ reads_for (files_named log images []) why
    → asked ≡ reads_for (files_named log images written) why
same_reads log images written (logs.Images logged given) asked h = h
same_reads log images written (logs.Digest number digest kept) asked h = h
same_reads log images written why asked h = h

same_group_reads : (log images written : List Text) (why : SavedRefusal) (asked : List FileCall)
    → asked ≡ reads_for_group (files_named log images []) why
    → asked ≡ reads_for_group (files_named log images written) why
same_group_reads log images written saved.OtherLog asked h = h
same_group_reads log images written why asked h = h

more_behind : (reads asked written : List FileCall) → AreFirst asked (reads ++ [])
    → AreFirst asked (reads ++ written)
more_behind reads asked written h = (
  h.0 ++ written,
  ap (λ (x : List FileCall). x ++ written) (sym (append-nil reads) ∙ h.1)
      ∙ append_assoc asked h.0 written,
)

stopped_until : (log images written : List Text) (why : Refusal) (asked : List FileCall)
    → AskedUntil (files_named log images []) why asked
    → AskedUntil (files_named log images written) why asked
stopped_until log images written (refusals.TooLong image) asked h = h
stopped_until log images written (refusals.Image image error) asked h = h
stopped_until log images written (refusals.Log why) asked h =
    same_reads log images written why asked h
stopped_until log images written (refusals.Group why) asked h =
    same_group_reads log images written why asked h
stopped_until log images written refusals.Files asked h =
    more_behind (map getting (log ++ images)) asked (map setting written) h
stopped_until log images written refusals.Memory asked h =
    more_behind (map getting (log ++ images)) asked (map setting written) h
stopped_until log images written refusals.Sink asked (inl h) = inl h
stopped_until log images written refusals.Sink asked (inr h) =
    inl (h ∙ append-nil (map getting (log ++ images)))
stopped_until log images written why asked h = h

pub stopped_in_reads : (log images written : List Text) (why : Refusal) (b a : List FileCall)
    → AskedSoFar (files_named log images []) why b a
    → AskedSoFar (files_named log images written) why b a
stopped_in_reads log images written why b a h = record {
  asked = h.asked;
  until = stopped_until log images written why h.asked h.until;
  after_is = h.after_is;
}

-- ---- a group that is saved, if it comes to that

save_reads : (logs images : List Text) (to : Text) (why : LogRefusal) (asked : List FileCall)
    → asked ≡ reads_for (files_named logs images (to ∷ [])) why
    → asked ≡ reads_for (named_to_save logs images to) why
save_reads read images to (logs.Images logged given) asked h = h
save_reads read images to (logs.Digest number digest kept) asked h = h
save_reads logs images to why asked h = h

save_group_reads : (logs images : List Text) (to : Text) (why : SavedRefusal)
    (asked : List FileCall) → asked ≡ reads_for_group (files_named logs images (to ∷ [])) why
    → asked ≡ reads_for_group (named_to_save logs images to) why
save_group_reads logs images to saved.OtherLog asked h = h
save_group_reads logs images to why asked h = h

save_until : (logs images : List Text) (to : Text) (why : Refusal) (asked : List FileCall)
    → AskedUntil (files_named logs images (to ∷ [])) why asked
    → AskedUntil (named_to_save logs images to) why asked
save_until logs images to (refusals.TooLong image) asked h = h
save_until logs images to (refusals.Image image error) asked h = h
save_until logs images to (refusals.Log why) asked h = save_reads logs images to why asked h
save_until logs images to (refusals.Group why) asked h =
    save_group_reads logs images to why asked h
save_until logs images to refusals.Files asked h = h
save_until logs images to refusals.Memory asked h = h
save_until logs images to refusals.Sink asked h = h
save_until logs images to why asked h = h

-- and back
reads_save : (logs images : List Text) (to : Text) (why : LogRefusal) (asked : List FileCall)
    → asked ≡ reads_for (named_to_save logs images to) why
    → asked ≡ reads_for (files_named logs images (to ∷ [])) why
reads_save read images to (logs.Images logged given) asked h = h
reads_save read images to (logs.Digest number digest kept) asked h = h
reads_save logs images to why asked h = h

group_reads_save : (logs images : List Text) (to : Text) (why : SavedRefusal)
    (asked : List FileCall) → asked ≡ reads_for_group (named_to_save logs images to) why
    → asked ≡ reads_for_group (files_named logs images (to ∷ [])) why
group_reads_save logs images to saved.OtherLog asked h = h
group_reads_save logs images to why asked h = h

until_save : (logs images : List Text) (to : Text) (why : Refusal) (asked : List FileCall)
    → AskedUntil (named_to_save logs images to) why asked
    → AskedUntil (files_named logs images (to ∷ [])) why asked
until_save logs images to (refusals.TooLong image) asked h = h
until_save logs images to (refusals.Image image error) asked h = h
until_save logs images to (refusals.Log why) asked h = reads_save logs images to why asked h
until_save logs images to (refusals.Group why) asked h =
    group_reads_save logs images to why asked h
until_save logs images to refusals.Files asked h = h
until_save logs images to refusals.Memory asked h = h
until_save logs images to refusals.Sink asked h = h
until_save logs images to why asked h = h

pub save_so_far : (logs images : List Text) (to : Text) (why : Refusal) (b a : List FileCall)
    → AskedSoFar (files_named logs images (to ∷ [])) why b a
    → AskedSoFar (named_to_save logs images to) why b a
save_so_far logs images to why b a h = record {
  asked = h.asked;
  until = save_until logs images to why h.asked h.until;
  after_is = h.after_is;
}

-- it was saved, or couldn't be
pub saving_asked : {T : Type 0} (r : Result T Refusal) (to : Text) (b a : List FileCall)
    → Asks (files_named [] [] (to ∷ [])) r b a → Asks (named_to_save [] [] to) r b a
saving_asked (Ok done) to b a h = inl h
saving_asked (Err why) to b a h = save_so_far [] [] to why b a h

-- it didn't come to that
pub not_saving : {T : Type 0} (r : Result T Refusal) (to : Text) (b : List FileCall)
    → IfErr r IsLater → Asks (named_to_save [] [] to) r b b
not_saving (Ok done) to b later = inr (none_asked b)
not_saving (Err why) to b later = save_so_far [] [] to why b b (not_asked to why b later)

-- behind all reads
pub saved_then : {T : Type 0} (r : Result T Refusal) (logs images : List Text) (to : Text)
    (b m a : List FileCall) → m ≡ b ++ file_calls (files_named logs images [])
    → IfErr r IsLater → Asks (named_to_save [] [] to) r m a
    → Asks (named_to_save logs images to) r b a
saved_then (Ok done) logs images to b m a first later (inl h) =
    inl (written_then {T = ⊤} (Ok tt) logs images to b m a first tt h)
saved_then (Ok done) logs images to b m a first later (inr h) =
    let reads : List FileCall = map getting (logs ++ images) in
    inr (h ∙ append-nil m ∙ first ∙ ap (λ (x : List FileCall). b ++ x) (append-nil reads))
saved_then (Err why) logs images to b m a first later h =
    save_so_far logs images to why b a
    (written_then {T = ⊤} (Err why) logs images to b m a first later (record {
      asked = h.asked;
      until = until_save [] [] to why h.asked h.until;
      after_is = h.after_is;
    }))

-- in the reads
pub not_saved_yet : (logs images : List Text) (to : Text) (why : Refusal) (b a : List FileCall)
    → AskedSoFar (files_named logs images []) why b a
    → AskedSoFar (named_to_save logs images to) why b a
not_saved_yet logs images to why b a h =
    save_so_far logs images to why b a (stopped_in_reads logs images (to ∷ []) why b a h)

-- ---- of the request, and of the words

pub asks_as : {T : Type 0} (r : Result T Refusal) (request asked : Request) (b a : List FileCall)
    → request ≡ asked → Asks (named_by asked) r b a → Asks (named_by request) r b a
asks_as r request asked b a is h = subst (λ (q : Request). Asks (named_by q) r b a) (sym is) h

pub asks_in : {T : Type 0} (r : Result T Refusal) (words : Option Request) (asked : Request)
    (b a : List FileCall) → words ≡ Some asked → Asks (named_by asked) r b a
    → Asks (named_in words) r b a
asks_in r words asked b a is h = subst (λ (q : Option Request). Asks (named_in q) r b a) (sym is) h

words_error : (why : Refusal) → why ≡ refusals.Words
    → IsErrOf {T = Request} (Err why) refusals.Words
words_error why is = cc

-- words that ask for nothing, or weren't read for want of memory
pub words_not_read : (words : Option Request) (why : Refusal) (b : List FileCall)
    → (IsErrOf {T = Request} (Err why) refusals.Words → words ≡ None)
    → (why ≡ refusals.Words) ⊎ (why ≡ refusals.Memory) → AskedSoFar (named_in words) why b b
words_not_read words why b none (inl is) =
    subst (λ (q : Option Request). AskedSoFar (named_in q) why b b)
    (sym (none (words_error why is)))
    (record { asked = []; until = none_until why; after_is = none_asked b })
words_not_read words why b none (inr is) =
    subst (λ (w : Refusal). AskedSoFar (named_in words) w b b) (sym is)
    (record { asked = []; until = (file_calls (named_in words), refl); after_is = none_asked b })
