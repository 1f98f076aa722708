-- What a call asks of its files. This project's own rules.
use Rattle.std.specs.Prelude.{◌≡◌, ◌⊎◌, ⊤, Bool, true, false, ℕ, List, [], ◌∷◌, ◌++◌, map, take}
use Rattle.std.specs.Prelude.{Option, Some, None}
use Rattle.std.specs.Prelude.{Result, Ok, Err}
use Rattle.dos_io.specs.FileCalls.{FileCall, getting, setting}
use Rattle.group_files.specs.declared.refusal.SavedRefusal.{SavedRefusal}
use Rattle.group_files.specs.declared.refusal.SavedRefusal.TheVariants.{OtherLog}
use Rattle.log_files.specs.declared.refusal.LogRefusal.{LogRefusal}
use Rattle.log_files.specs.declared.refusal.LogRefusal.TheVariants as logs
use Rattle.dos_texts.specs.declared.refusal.Refusal.{Refusal}
use Rattle.dos_texts.specs.declared.refusal.Refusal.TheVariants as refusals
use Rattle.dos_words.specs.Numbers.{Text}
use Rattle.dos_words.specs.declared.request.Request.{Request}
use Rattle.dos_words.specs.declared.request.Request.TheVariants.{Run, Replay, Inspect, Gen}
use Rattle.dos_words.specs.declared.request.Request.TheVariants.{Migrate, Trace, Save, Resume}
use Rattle.dos_words.specs.declared.request.Request.TheVariants.{Debug}

-- The files that a call names: a saved group and a log that it reads, images, and one that it
-- writes; and whether it may be done without writing that one.
pub record Named : Type 0 where
  pub logs : List Text
  pub images : List Text
  pub written : List Text
  pub may_leave : Bool

abbrev pub files_named : (logs images written : List Text) → Named
files_named logs images written =
    record { logs = logs; images = images; written = written; may_leave = false }

-- a replay that saves its group, if it gets so far
abbrev pub named_to_save : (logs images : List Text) → (to : Text) → Named
named_to_save logs images to =
    record (files_named logs images (to ∷ [])) { may_leave = true }

abbrev pub named_by : Request → Named
named_by (Run quantum rounds frames workers scheme posts clock_from clock_step log names) =
    files_named [] names (log ∷ [])
named_by (Replay workers scheme log names) = files_named (log ∷ []) names []
named_by (Inspect name) = files_named [] (name ∷ []) []
named_by (Gen number threads workers) = files_named [] [] []
named_by (Migrate log to) = files_named (log ∷ []) [] (to ∷ [])
named_by (Trace workers log names) = files_named (log ∷ []) names []
named_by (Save workers log round to names) = named_to_save (log ∷ []) names to
named_by (Resume workers log from) = files_named (from ∷ log ∷ []) [] []
named_by (Debug workers log names) = files_named (log ∷ []) names []

-- none, where the words ask for nothing
abbrev pub named_in : Option Request → Named
named_in None = files_named [] [] []
named_in (Some asked) = named_by asked

-- Each is asked for once: the group and the log, the images in their order, and then the one that
-- is written.
abbrev pub file_reads : Named → List FileCall
file_reads n = map getting (n.logs ++ n.images)

abbrev pub file_calls : Named → List FileCall
file_calls n = file_reads n ++ map setting n.written

-- What a call that was done has asked: all; a replay that ends before the round at which its group
-- was to be saved writes none.
abbrev pub all_calls : (may_leave : Bool) → Named → (before after : List FileCall) → Type 0
all_calls false n before after = after ≡ before ++ file_calls n
all_calls true n before after =
    (after ≡ before ++ file_calls n) ⊎ (after ≡ before ++ file_reads n)

abbrev pub HasAsked : Named → (before after : List FileCall) → Type 0
HasAsked n before after = all_calls n.may_leave n before after

-- ---- a call that comes to no report asks for no file behind the one for which it is refused

-- what is asked before a log is refused: its own file, or all, to hold it against the images
abbrev pub reads_for : Named → LogRefusal → List FileCall
reads_for n (logs.Images logged given) = file_reads n
reads_for n (logs.Digest number digest kept) = file_reads n
reads_for n why = map getting n.logs

-- what is asked before a saved group is refused: its own file, or the log's too, to hold it against
-- that
abbrev pub reads_for_group : Named → SavedRefusal → List FileCall
reads_for_group n OtherLog = map getting n.logs
reads_for_group n why = map getting (take 1 n.logs)

-- the first of these calls
abbrev pub AreFirst : (asked all : List FileCall) → Type 0
AreFirst asked all = (rest : List FileCall) × (all ≡ asked ++ rest)

-- what is asked then; a run, or what is written of it, stops behind all reads
abbrev pub AskedUntil : Named → Refusal → List FileCall → Type 0
AskedUntil n (refusals.TooLong image) asked = asked ≡ map getting (n.logs ++ take image n.images)
AskedUntil n (refusals.Image image error) asked =
    asked ≡ map getting (n.logs ++ take image n.images)
AskedUntil n (refusals.Log why) asked = asked ≡ reads_for n why
AskedUntil n (refusals.Group why) asked = asked ≡ reads_for_group n why
AskedUntil n refusals.Files asked = AreFirst asked (file_calls n)
AskedUntil n refusals.Memory asked = AreFirst asked (file_calls n)
AskedUntil n refusals.Sink asked = (asked ≡ file_reads n) ⊎ (asked ≡ file_calls n)
AskedUntil n why asked = asked ≡ file_reads n

pub record AskedSoFar (n : Named) (why : Refusal) (before after : List FileCall) : Type 0 where
  pub asked : List FileCall
  pub until : AskedUntil n why asked
  pub after_is : after ≡ before ++ asked

-- What was asked of files, by how the call came out: all, where it was done.
abbrev pub Asks : {T : Type 0} → Named → Result T Refusal → (before after : List FileCall) → Type 0
Asks n (Ok done) before after = HasAsked n before after
Asks n (Err why) before after = AskedSoFar n why before after

-- A refusal of an image is of the image of this number.
abbrev pub IsOfImage : ℕ → Refusal → Type 0
IsOfImage number (refusals.TooLong image) = image ≡ number
IsOfImage number (refusals.Image image error) = image ≡ number
IsOfImage number why = ⊤
