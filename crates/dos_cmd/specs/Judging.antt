-- Which files are taken for what the words ask for, or why they aren't. This project's own rules.
use Rattle.std.specs.Prelude.{⊤, ℕ, ◌≡◌, Bool, true, false, suc, List, [], ◌∷◌, ◌++◌, length, map}
use Rattle.std.specs.Prelude.{Option, Some, None}
use Rattle.std.specs.Prelude.{option_map, option_and_then, IfSome, Result, Ok, Err, nat_lt}
use Rattle.std.specs.Prelude.{if◌then◌else◌}
use Rattle.dos_world.specs.declared.Config.{Config}
use Rattle.dos_world.specs.declared.Scheme.TheVariants.{Ownership}
use Rattle.elf_image.specs.declared.error.ImageError.{ImageError}
use Rattle.elf_image.specs.Image.{Image, image}
use Rattle.generated_group.specs.Generated.{generated}
use Rattle.flat_machine.specs.Opening.{needed}
use Rattle.log_files.specs.Judging.{disagreement, log_verdict}
use Rattle.log_files.specs.declared.refusal.LogRefusal.{LogRefusal}
use Rattle.sha2.specs.Sha256.{sha256}
use Rattle.log_text.specs.Bytes.{FitsDigest}
use Rattle.log_text.specs.LogText.{Log, exchanges}
use Rattle.group_files.specs.Judging.{group_verdict, is_of_log}
use Rattle.group_files.specs.declared.refusal.SavedRefusal.{SavedRefusal}
use Rattle.group_files.specs.declared.refusal.SavedRefusal.TheVariants.{OtherLog}
use Rattle.group_text.specs.Groups.{SavedGroup}
use Rattle.log_text.specs.Ranges.{most_bytes}
use Rattle.dos_texts.specs.declared.refusal.Refusal.{Refusal}
use Rattle.dos_texts.specs.declared.refusal.Refusal.TheVariants as refusals
use Rattle.dos_words.specs.Numbers.{Text}
use Rattle.dos_words.specs.declared.request.Request.{Request}
use Rattle.dos_words.specs.declared.request.Request.TheVariants.{Run, Replay, Inspect, Gen}
use Rattle.dos_words.specs.declared.request.Request.TheVariants.{Migrate, Trace, Save, Resume}
use Rattle.dos_words.specs.declared.request.Request.TheVariants.{Debug}
use Rattle.dos_cmd.specs.Migrating.{migrated_text}

-- ---- one image; images are counted from 1 in the order of the words

-- the longest file that is read: 4 MiB
abbrev pub limit : ℕ
limit = 4194304

-- what is said of a file that is read
abbrev pub judged : ℕ → Result Image ImageError → Result Image Refusal
judged number (Ok parsed) = Ok parsed
judged number (Err error) = Err (refusals.Image number error)

-- the image that a file is, or why it is refused
unfoldable pub verdict : ℕ → List ℕ → Result Image Refusal
verdict number file = if nat_lt limit (length file) then Err
    (refusals.TooLong number) else judged number (image file)

-- ---- all of them, in order: the first refusal counts

-- what all the files are taken for, or what comes first against them
abbrev pub Images : Type 0
Images = Result (List Image) Refusal

-- with an image in front
abbrev pub with_image : Image → Images → Images
with_image parsed (Ok images) = Ok (parsed ∷ images)
with_image parsed (Err why) = Err why

-- an image, and those behind it, where they are told
abbrev pub then_images : Result Image Refusal → Option Images → Option Images
then_images (Err why) others = Some (Err why)
then_images (Ok parsed) others = option_map (with_image parsed) others

-- Files that aren't told, before the first refusal, leave it open.
abbrev pub images_from : ℕ → List (Option (List ℕ)) → Option Images
images_from number [] = Some (Ok [])
images_from number (None ∷ files) = None
images_from number (Some file ∷ files) = let others : Option Images =
    images_from (suc number) files in then_images (verdict number file) others

-- what files hold, where all are told
abbrev pub contents_of : List (Option (List ℕ)) → Option (List (List ℕ))
contents_of [] = Some []
contents_of (None ∷ files) = None
contents_of (Some file ∷ files) = option_map (λ others. file ∷ others) (contents_of files)

-- the digests of files (SHA-256, FIPS 180-4), where all are told
abbrev pub digests_of : List (Option (List ℕ)) → Option (List (List ℕ))
digests_of [] = Some []
digests_of (None ∷ files) = None
digests_of (Some file ∷ files) = option_map (λ others. sha256 file ∷ others) (digests_of files)

-- A group needs its images' pages, with 16 for each stack.
abbrev pub with_room : (frames : ℕ) → Images → Images
with_room frames (Err why) = Err why
with_room frames (Ok images) =
    if nat_lt frames (needed images) then Err (refusals.NoRoom (needed images) frames)
    else Ok images

-- ---- a replay: the log, the images, whether the log is of them, and room

-- what a call is done with: a log where it is a replay, images, and a saved group where it goes on
-- with one
pub record Taken : Type 0 where
  pub log : Option Log
  pub images : List Image
  pub group : Option SavedGroup

-- these images alone
abbrev pub taken_images : List Image → Taken
taken_images images = record { log = None; images = images; group = None }

-- a log, and these images
abbrev pub taken_log : Log → List Image → Taken
taken_log log images = record { log = Some log; images = images; group = None }

-- a saved group, and its log
abbrev pub taken_group : SavedGroup → Log → Taken
taken_group g log = record { log = Some log; images = []; group = Some g }

abbrev pub Judgement : Type 0
Judgement = Result Taken Refusal

-- without a log
abbrev pub of_images : Images → Judgement
of_images (Ok images) = Ok (taken_images images)
of_images (Err why) = Err why

-- with a log
abbrev pub of_log : Log → Images → Judgement
of_log log (Ok images) = Ok (taken_log log images)
of_log log (Err why) = Err why

-- The log is of images with these digests, or the first difference counts; then there is room or
-- not.
abbrev pub agreed : Log → List Image → Option LogRefusal → Judgement
agreed log images (Some why) = Err (refusals.Log why)
agreed log images None = of_log log (with_room log.header.frames (Ok images))

-- a log, and the images
abbrev pub with_images : Log → Option (List (List ℕ)) → Images → Option Judgement
with_images log digests (Err why) = Some (Err why)
with_images log digests (Ok images) =
    option_map (λ given. agreed log images (disagreement given log.header.digests)) digests

-- what the log's file is taken for, and the images' files
abbrev pub by_log : Result Log LogRefusal → List (Option (List ℕ)) → Option Judgement
by_log (Err why) files = Some (Err (refusals.Log why))
by_log (Ok log) files = option_and_then (with_images log (digests_of files)) (images_from 1 files)

-- the log's file, and the images' files
abbrev pub replay_judgement : Option (List ℕ) → List (Option (List ℕ)) → Option Judgement
replay_judgement None files = None
replay_judgement (Some file) files = by_log (log_verdict file) files

-- ---- a log alone

-- Its text of version 2 may not be longer than a log may be.
unfoldable pub migrated_of : Log → Judgement
migrated_of log = if nat_lt most_bytes (length (migrated_text log)) then Err refusals.LogFull
    else Ok (taken_log log [])

-- what the log's file is taken for
abbrev pub migrate_judged : Result Log LogRefusal → Judgement
migrate_judged (Err why) = Err (refusals.Log why)
migrate_judged (Ok log) = migrated_of log

-- ---- a saved group, and its log

-- whether the group is of the log
abbrev pub belonging : SavedGroup → Log → Bool → Judgement
belonging g log false = Err (refusals.Group OtherLog)
belonging g log true = Ok (taken_group g log)

-- what the log's file is taken for, behind the group
abbrev pub with_log : SavedGroup → (file : List ℕ) → Result Log LogRefusal → Judgement
with_log g file (Err why) = Err (refusals.Log why)
with_log g file (Ok log) = belonging g log (is_of_log g (sha256 file) (length (exchanges log)))

-- what the group's file is taken for, and the log's
abbrev pub by_group : Result SavedGroup SavedRefusal → (log : Option (List ℕ)) → Option Judgement
by_group (Err why) log = Some (Err (refusals.Group why))
by_group (Ok g) log = option_map (λ file. with_log g file (log_verdict file)) log

-- the group's file, and the log's
abbrev pub resume_judgement : (group log : Option (List ℕ)) → Option Judgement
resume_judgement None log = None
resume_judgement (Some file) log = by_group (group_verdict file) log

-- ---- what the words ask for

-- what `gen` runs with
abbrev pub gen_config : Config
gen_config = record { quantum = 1000; rounds = 100000; frames = 4096; scheme = Ownership }

-- It is judged by what the files tell under its names; None where that leaves it open. The image
-- that is generated is never refused.
abbrev pub judgement : (Text → Option (List ℕ)) → Request → Option Judgement
judgement contents
    (Run quantum rounds frames workers scheme posts clock_from clock_step log names) =
    option_map (λ images. of_images (with_room frames images))
    (images_from 1 (map contents names))
judgement contents (Replay workers scheme log names) =
    replay_judgement (contents log) (map contents names)
judgement contents (Inspect name) = option_map of_images (images_from 1 (contents name ∷ []))
judgement contents (Gen number threads workers) =
    Some (Ok (taken_images (generated number threads ∷ [])))
judgement contents (Migrate log to) =
    option_map (λ file. migrate_judged (log_verdict file)) (contents log)
judgement contents (Trace workers log names) =
    replay_judgement (contents log) (map contents names)
judgement contents (Save workers log round to names) =
    replay_judgement (contents log) (map contents names)
judgement contents (Resume workers log from) = resume_judgement (contents from) (contents log)
judgement contents (Debug workers log names) =
    replay_judgement (contents log) (map contents names)

-- A refusal that reading files may come to: of an image, by what its file tells; or a fault of the
-- files, or want of memory.
abbrev pub OfFiles : Refusal → (Refusal → Type 0) → Type 0
OfFiles (refusals.TooLong image) P = P (refusals.TooLong image)
OfFiles (refusals.Image image error) P = P (refusals.Image image error)
OfFiles refusals.Files P = ⊤
OfFiles refusals.Memory P = ⊤
OfFiles _ P = ⊥

-- One more file is read as the image of its number, as far as it is told: its image goes last, and
-- its digest.
pub record IsNextImage (number : ℕ) (told : Option (List ℕ)) (images longer : List Image)
    (digests more : List (List ℕ)) : Type 0 where
  pub parsed : Image
  pub digest : List ℕ
  pub accepted : IfSome told (λ file. verdict number file ≡ Ok parsed)
  pub digest_is : IfSome told (λ file. digest ≡ sha256 file)
  pub fits : FitsDigest digest
  pub image_last : longer ≡ images ++ parsed ∷ []
  pub digest_last : more ≡ digests ++ digest ∷ []

-- One more file is kept, as far as it is told: its bytes go last.
pub record IsNextContent (told : Option (List ℕ)) (kept more : List (List ℕ)) : Type 0 where
  pub bytes : List ℕ
  pub bytes_are : IfSome told (λ file. bytes ≡ file)
  pub last : more ≡ kept ++ bytes ∷ []
