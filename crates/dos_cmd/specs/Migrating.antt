-- What `migrate` leaves: a log's text of version 2, and two lines on output. This project's own
-- rules.
use Rattle.std.specs.Prelude.{◌≡◌, ◌≢◌, ◌≤◌, ◌<◌, ℕ, Bool, List, [], length, Option, Some, IfSome}
use Rattle.std.specs.Prelude.{IsTrue}
use Rattle.dos_io.specs.Outside.{grown, GrewByFront, Rose}
use Rattle.log_text.specs.declared.version.LogVersion.TheVariants.{Two}
use Rattle.log_text.specs.LogText.{Log, logtext}
use Rattle.log_text.specs.Ranges.{most_bytes}
use Rattle.dos_texts.specs.Migration.{migrated_lines}
use Rattle.dos_texts.specs.declared.refusal.Refusal.{Refusal}
use Rattle.dos_texts.specs.declared.refusal.Refusal.TheVariants as refusals
use Rattle.dos_words.specs.Numbers.{Text}
use Rattle.dos_cmd.specs.Outside.{Outside, FileHolds, Grew, HostStays, OthersStay, TallyStays}

-- the log's text of version 2
unfoldable pub migrated_text : Log → List ℕ
migrated_text log = logtext (record log { version = Two })

-- both lines of it
abbrev pub migration_lines : Log → List ℕ
migration_lines log =
    migrated_lines log.version (length (logtext log)) (length (migrated_text log))

-- It was done: the new text's file holds it, and output grew by the two lines.
pub record Migrated (log : Log) (to : Text) (status : ℕ) (o : Outside) : Type 0 where
  pub status_is : status ≡ 0
  pub written : FileHolds o to (migrated_text log)
  pub others : OthersStay o to
  pub grew : Grew o (migration_lines log) []
  pub host_stays : HostStays o
  pub tally_stays : TallyStays o

-- The text couldn't be written. Error grew by the last bytes; no other file changed.
pub record UnwrittenText (to : Text) (last : List ℕ) (o : Outside) : Type 0 where
  pub out_stays : o.out_after ≡ o.out
  pub err_says : o.err_after ≡ grown o.err last
  pub others : OthersStay o to
  pub host_stays : HostStays o
  pub tally_stays : TallyStays o

-- Output failed in the two lines. The text was written before.
pub record CutMigration (log : Log) (to : Text) (o : Outside) : Type 0 where
  pub written : FileHolds o to (migrated_text log)
  pub others : OthersStay o to
  pub out_is : GrewByFront o.out o.out_after (migration_lines log)
  pub err_stays : o.err_after ≡ o.err
  pub host_stays : HostStays o
  pub tally_stays : TallyStays o

-- ---- from part to whole

-- The file of this name was given this text, as far as files tell; no other file changed.
pub record WasStored (to : Text) (text : List ℕ) (tells : Bool)
    (files after : Text → Option (List ℕ)) : Type 0 where
  pub where_told : IfSome (files to) (λ _. after to ≡ Some text)
  pub where_all_tell : IsTrue tells → after to ≡ Some text
  pub others : (name : Text) → name ≢ to → after name ≡ files name

-- No file changed, and nothing was put.
pub record NothingDone (files after : Text → Option (List ℕ)) (out out_after : Option (List ℕ))
    : Type 0 where
  pub files_stay : (name : Text) → after name ≡ files name
  pub out_stays : out_after ≡ out

-- A fault of the files left the name open.
pub record WasNotStored (to : Text) (files after : Text → Option (List ℕ))
    (out out_after : Option (List ℕ)) (faults faults_after : ℕ) : Type 0 where
  pub rose : Rose faults faults_after
  pub others : (name : Text) → name ≢ to → after name ≡ files name
  pub out_stays : out_after ≡ out

-- Output failed in the lines, behind a front of them. The text was written before.
pub record WasNotTold (log : Log) (to : Text) (tells : Bool) (files after : Text → Option (List ℕ))
    (out out_after : Option (List ℕ)) (faults faults_after : ℕ) : Type 0 where
  pub rose : Rose faults faults_after
  pub stored : WasStored to (migrated_text log) tells files after
  pub front : GrewByFront out out_after (migration_lines log)

-- Why a log that was read isn't written anew, or isn't told of, and what stands then.
abbrev pub LeavesMigration : Log → (to : Text) → Refusal → (tells : Bool)
    → (files after : Text → Option (List ℕ)) → (out out_after : Option (List ℕ))
    → (files_faults files_faults_after out_faults out_faults_after : ℕ) → Type 0
LeavesMigration log to refusals.LogFull tells files after out out' k k' n n' =
    (most_bytes < length (migrated_text log)) × NothingDone files after out out'
LeavesMigration log to refusals.Memory tells files after out out' k k' n n' =
    NothingDone files after out out'
LeavesMigration log to refusals.Files tells files after out out' k k' n n' =
    (length (migrated_text log) ≤ most_bytes) × WasNotStored to files after out out' k k'
LeavesMigration log to refusals.Sink tells files after out out' k k' n n' =
    (length (migrated_text log) ≤ most_bytes) × WasNotTold log to tells files after out out' n n'
LeavesMigration log to _ tells files after out out' k k' n n' = ⊥

-- The text was written and told of.
pub record DoesMigrate (log : Log) (to : Text) (tells : Bool)
    (files after : Text → Option (List ℕ)) (out out_after : Option (List ℕ)) : Type 0 where
  pub fits : length (migrated_text log) ≤ most_bytes
  pub stored : WasStored to (migrated_text log) tells files after
  pub out_is : out_after ≡ grown out (migration_lines log)
