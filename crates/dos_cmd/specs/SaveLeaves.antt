-- What `save` leaves. Its run is of the scheme of ownership. This project's own rules.
use Rattle.std.specs.Prelude.{◌≡◌, ◌⊎◌, ◌<◌, ◌≤◌, ◌++◌, ℕ, Bool, List, [], Option, Ok}
use Rattle.dos_io.specs.Outside.{GrewByFront, Rose, grown}
use Rattle.dos_world.specs.declared.Ending.{Ending}
use Rattle.dos_world.specs.declared.Ending.TheVariants.{Done}
use Rattle.dos_world.specs.World.{World}
use Rattle.dos_world.specs.declared.Misfit.{Misfit}
use Rattle.dos_world.specs.declared.Scheme.TheVariants.{Ownership}
use Rattle.elf_image.specs.Image.{Image}
use Rattle.flat_machine.specs.Opening.{needed}
use Rattle.group_text.specs.GroupText.{grouptext}
use Rattle.group_files.specs.Judging.{group_verdict}
use Rattle.group_text.specs.Groups.{SavedGroup, group_of, world_in}
use Rattle.sha2.specs.Sha256.{sha256}
use Rattle.log_text.specs.LogText.{Log, logtext}
use Rattle.logged_runs.specs.Replaying.{config_of}
use Rattle.logged_runs.specs.Resuming.{AsksWithin, ReplayedTo}
use Rattle.dos_texts.specs.Saved.{saved_line}
use Rattle.dos_texts.specs.declared.refusal.Refusal.{Refusal}
use Rattle.dos_texts.specs.declared.refusal.Refusal.TheVariants as refusals
use Rattle.dos_words.specs.Numbers.{Text}
use Rattle.dos_cmd.specs.Migrating.{NothingDone, WasNotStored, WasStored}
use Rattle.dos_cmd.specs.Outside.{Outside, Faults, Counted, FileHolds, FilesStay, Grew}
use Rattle.dos_cmd.specs.Outside.{GrewUpToLast}
use Rattle.dos_cmd.specs.Outside.{HostStays, OthersStay, OutputFailed, Says}
use Rattle.dos_cmd.specs.ReplayLeaves.{CutReplay, CutReplayReport, DidReplay, Misfitted}

-- the digest of a log's file (SHA-256, FIPS 180-4)
abbrev pub log_digest : Log → List ℕ
log_digest log = sha256 (logtext log)

-- the group that is saved in this world, behind so many exchanges of the log
abbrev pub saved_group : Log → (used : ℕ) → World → SavedGroup
saved_group log used reached = group_of (log_digest log) used (config_of Ownership log.header)
    reached

-- its text
abbrev pub saved_text : Log → (used : ℕ) → World → List ℕ
saved_text log used reached = grouptext (saved_group log used reached)

-- The text of a group is a file that is taken for it, and it stands for that world.
pub record ComesBack (g : SavedGroup) (w : World) : Type 0 where
  pub taken : group_verdict (grouptext g) ≡ Ok g
  pub stands : world_in g ≡ w

-- The replay came to the round in a world: the outputs grew by its bytes until there, and the tally
-- by its work.
pub record CameToRound (log : Log) (images : List Image) (round used : ℕ) (reached : World)
    (output error : List ℕ) (o : Outside) : Type 0 where
  pub work : ℕ
  pub replayed : ReplayedTo Ownership images log round used reached output error work
  pub counted : Counted o work
  pub host_stays : HostStays o

-- The group was saved: the file of that name holds its text, which is taken for it, no other file
-- changed, and error grew by the line that says so.
pub record SavedRun (log : Log) (images : List Image) (round : ℕ) (to : Text) (o : Outside)
    : Type 0 where
  pub used : ℕ
  pub reached : World
  pub output : List ℕ
  pub error : List ℕ
  pub came : CameToRound log images round used reached output error o
  pub grew : Grew o output (error ++ saved_line round)
  pub written : FileHolds o to (saved_text log used reached)
  pub back : ComesBack (saved_group log used reached) reached
  pub others : OthersStay o to

-- The run came to its end before the round: it is a whole replay, and no file changed.
pub record EndedBefore (log : Log) (images : List Image) (round status : ℕ) (o : Outside) : Type 0
  where
    pub did : DidReplay Ownership log images status o
    pub before : did.seen.rounds < round

abbrev pub DidSave : Log → List Image → (round : ℕ) → (to : Text) → (status : ℕ) → Outside → Type 0
DidSave log images round to status o =
    ((status ≡ 0) × SavedRun log images round to o) ⊎ EndedBefore log images round status o

-- The run came to the log's misfit, and so does one that has no more rounds.
pub record MisfittedSave (log : Log) (images : List Image) (round : ℕ) (found : Misfit)
    (last : List ℕ) (o : Outside) : Type 0 where
  pub run : Misfitted Ownership log images found last o
  pub within : AsksWithin Ownership round images log found

-- The group couldn't be written. The outputs grew by the run's bytes until the round, and then
-- error by the last ones; no other file changed.
pub record UnwrittenGroup (log : Log) (images : List Image) (round : ℕ) (to : Text)
    (last : List ℕ) (o : Outside) : Type 0 where
  pub used : ℕ
  pub reached : World
  pub output : List ℕ
  pub error : List ℕ
  pub came : CameToRound log images round used reached output error o
  pub grew : Grew o output (error ++ last)
  pub others : OthersStay o to

-- Error failed in the line that says that it was saved. The file was written before.
pub record CutSaved (log : Log) (images : List Image) (round : ℕ) (to : Text) (o : Outside) : Type 0
  where
    pub used : ℕ
    pub reached : World
    pub output : List ℕ
    pub error : List ℕ
    pub came : CameToRound log images round used reached output error o
    pub grew : GrewUpToLast o output error (saved_line round)
    pub written : FileHolds o to (saved_text log used reached)
    pub others : OthersStay o to

-- An output failed: in the run, in the report of one that ended before the round, or in the line.
abbrev pub CutSave : Log → List Image → (round : ℕ) → (to : Text) → Outside → Type 0
CutSave log images round to o =
    CutReplay Ownership log images o ⊎ CutReplayReport Ownership log images o
    ⊎ CutSaved log images round to o

-- ---- from part to whole

-- Why a log that is of these images came neither to the round nor to its report, and what stands
-- then.
abbrev pub LeavesSave : Log → List Image → (round : ℕ) → (to : Text) → Outside → Faults → Refusal
    → Type 0
LeavesSave log images round to o f (refusals.NoRoom n frames) =
    (n ≡ needed images) × (frames ≡ log.header.frames) × (log.header.frames < needed images)
    × Says o []
LeavesSave log images round to o f (refusals.Misfit found) =
    (needed images ≤ log.header.frames) × MisfittedSave log images round found [] o
LeavesSave log images round to o f refusals.Sink =
    (needed images ≤ log.header.frames) × OutputFailed f × CutSave log images round to o
LeavesSave log images round to o f refusals.Files =
    (needed images ≤ log.header.frames) × Rose f.files f.files_after
    × UnwrittenGroup log images round to [] o
LeavesSave log images round to o f refusals.Memory =
    Says o []
    ⊎ ((needed images ≤ log.header.frames) × FilesStay o
    × UnwrittenGroup log images round to [] o)
LeavesSave log images round to o f _ = ⊥

-- The file was given a group's text, and error the line that says so.
pub record WasSaved (text : List ℕ) (round : ℕ) (to : Text) (ending : Ending) (tells : Bool)
    (files after : Text → Option (List ℕ)) (err err_after : Option (List ℕ)) : Type 0 where
  pub ending_is : ending ≡ Done
  pub stored : WasStored to text tells files after
  pub err_is : err_after ≡ grown err (saved_line round)

-- Error failed in the line, behind a front of it. The text was written before.
pub record WasNotSaid (text : List ℕ) (round : ℕ) (to : Text) (tells : Bool)
    (files after : Text → Option (List ℕ)) (err err_after : Option (List ℕ))
    (faults faults_after : ℕ) : Type 0 where
  pub rose : Rose faults faults_after
  pub stored : WasStored to text tells files after
  pub front : GrewByFront err err_after (saved_line round)

-- Why a group at its round isn't saved, or it isn't said, and what stands then.
abbrev pub LeavesSaving : (text : List ℕ) → (round : ℕ) → (to : Text) → Refusal → (tells : Bool)
    → (files after : Text → Option (List ℕ)) → (err err_after : Option (List ℕ))
    → (files_faults files_faults_after err_faults err_faults_after : ℕ) → Type 0
LeavesSaving text round to refusals.Memory tells files after err err' k k' n n' =
    NothingDone files after err err'
LeavesSaving text round to refusals.Files tells files after err err' k k' n n' =
    WasNotStored to files after err err' k k'
LeavesSaving text round to refusals.Sink tells files after err err' k k' n n' =
    WasNotSaid text round to tells files after err err' n n'
LeavesSaving text round to _ tells files after err err' k k' n n' = ⊥
