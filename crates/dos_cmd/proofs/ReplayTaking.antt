-- What a replay takes its files for, from part to whole.
use Rattle.std.proofs.Common.{◌≡◌, ◌≤◌, ◌<◌, refl, sym, ap, ap₂, ◌∙◌, subst, ℕ, Bool, true, false}
use Rattle.std.proofs.Common.{List, [], ◌∷◌, length, map, Option, Some, None, Ok, Err, arith}
use Rattle.std.specs.Prelude.{IfSome, option_and_then, ◌==◌, if◌then◌else◌}
use Rattle.std.proofs.lemmas.Bool.Decides.{nat_tests}
use Rattle.elf_image.specs.Image.{Image}
use Rattle.flat_machine.specs.Opening.{needed}
use Rattle.log_files.specs.Judging.{log_verdict, disagreement, first_other}
use Rattle.log_files.specs.declared.refusal.LogRefusal.{LogRefusal}
use Rattle.log_files.specs.declared.refusal.LogRefusal.TheVariants as log_refusals
use Rattle.log_text.specs.LogText.{Log}
use Rattle.dos_texts.specs.declared.refusal.Refusal.{Refusal}
use Rattle.dos_texts.specs.declared.refusal.Refusal.TheVariants as refusals
use Rattle.dos_words.specs.Numbers.{Text}
use Rattle.dos_cmd.specs.Judging.{Images, Judgement, agreed, by_log, digests_of, images_from}
use Rattle.dos_cmd.specs.Judging.{taken_log}
use Rattle.dos_cmd.specs.Judging.{of_log, replay_judgement, with_images}
use Rattle.dos_cmd.specs.ReplayLeaves.{OfLogFile, OfReading}
use Rattle.dos_cmd.proofs.NotBegun.{has_room, no_room}

-- ---- files that stay

same_told : (f f' : Text → Option (List ℕ)) → ((name : Text) → f' name ≡ f name)
    → (names : List Text) → map f' names ≡ map f names
same_told f f' stays [] = refl
same_told f f' stays (name ∷ names) = ap₂ (λ a b. a ∷ b) (stays name) (same_told f f' stays names)

-- what holds of files as they are told later, holds as they are told before
pub told_before : (f f' : Text → Option (List ℕ)) (names : List Text)
    (P : List (Option (List ℕ)) → Type 0) → ((name : Text) → f' name ≡ f name)
    → P (map f' names) → P (map f names)
told_before f f' names P stays h = subst P (same_told f f' stays names) h

-- ---- the log

pub log_refused : (told : Option (List ℕ)) (files : List (Option (List ℕ))) (why : LogRefusal)
    → IfSome told (λ file. log_verdict file ≡ Err why)
    → IfSome (replay_judgement told files) (λ j. j ≡ Err (refusals.Log why))
log_refused None files why h = tt
log_refused (Some file) files why h =
    subst (λ v. IfSome (by_log v files) (λ j. j ≡ Err (refusals.Log why))) (sym h) refl

pub reading_refused : (told : Option (List ℕ)) (files : List (Option (List ℕ))) (why : Refusal)
    → OfLogFile why (λ found. IfSome told (λ file. log_verdict file ≡ Err found))
    → OfReading why (λ w. IfSome (replay_judgement told files) (λ j. j ≡ Err w))
reading_refused told files (refusals.Log why) h = log_refused told files why h
reading_refused told files refusals.Files h = tt
reading_refused told files refusals.Memory h = tt
reading_refused told files why h = absurd h

-- ---- the images

-- with a log
with_log : (told : Option (List ℕ)) (files : List (Option (List ℕ))) (log : Log) (j : Judgement)
    → IfSome told (λ file. log_verdict file ≡ Ok log)
    → IfSome (option_and_then (with_images log (digests_of files)) (images_from 1 files))
    (λ k. k ≡ j) → IfSome (replay_judgement told files) (λ k. k ≡ j)
with_log None files log j h k = tt
with_log (Some file) files log j h k =
    subst (λ v. IfSome (by_log v files) (λ k. k ≡ j)) (sym h) k

-- told after the log was read
pub images_refused : (f f' : Text → Option (List ℕ)) (log_name : Text) (names : List Text)
    (log : Log) (why : Refusal) → ((name : Text) → f' name ≡ f name)
    → IfSome (f log_name) (λ file. log_verdict file ≡ Ok log)
    → IfSome (images_from 1 (map f' names)) (λ j. j ≡ Err why)
    → IfSome (replay_judgement (f log_name) (map f names)) (λ j. j ≡ Err why)
images_refused f f' log_name names log why stays h k =
    with_log (f log_name) (map f names) log (Err why) h (refused (images_from 1 (map f names))
    (told_before f f' names (λ files. IfSome (images_from 1 files) (λ j. j ≡ Err why)) stays k))
  where
    refused : (images : Option Images) → IfSome images (λ j. j ≡ Err why)
        → IfSome (option_and_then (with_images log (digests_of (map f names))) images)
        (λ k. k ≡ Err why)
    refused None k = tt
    refused (Some images) k = subst (λ x. IfSome (with_images log (digests_of (map f names)) x)
        (λ j. j ≡ Err why)) (sym k) refl

-- ---- whether they agree

taken_so : (told : Option (List ℕ)) (files : List (Option (List ℕ))) (log : Log)
    (images : List Image) (given : List (List ℕ)) (found : Option LogRefusal)
    → IfSome told (λ file. log_verdict file ≡ Ok log)
    → IfSome (images_from 1 files) (λ j. j ≡ Ok images)
    → IfSome (digests_of files) (λ digests. given ≡ digests)
    → disagreement given log.header.digests ≡ found
    → IfSome (replay_judgement told files) (λ j. j ≡ agreed log images found)
taken_so told files log images given found h k d e =
    with_log told files log (agreed log images found) h
    (both (images_from 1 files) (digests_of files) k d)
  where
    both : (read : Option Images) (digests : Option (List (List ℕ)))
        → IfSome read (λ j. j ≡ Ok images) → IfSome digests (λ x. given ≡ x)
        → IfSome (option_and_then (with_images log digests) read)
        (λ j. j ≡ agreed log images found)
    both None digests k d = tt
    both (Some read) None k d =
        subst (λ x. IfSome (with_images log None x) (λ j. j ≡ agreed log images found)) (sym k) tt
    both (Some read) (Some digests) k d =
        subst (λ x. IfSome (with_images log (Some digests) x) (λ j. j ≡ agreed log images found))
        (sym k)
        (ap (agreed log images) (ap (λ x. disagreement x log.header.digests) (sym d) ∙ e))

-- told after the log was read
pub taken_after : (f f' : Text → Option (List ℕ)) (log_name : Text) (names : List Text) (log : Log)
    (images : List Image) (given : List (List ℕ)) (found : Option LogRefusal)
    → ((name : Text) → f' name ≡ f name)
    → IfSome (f log_name) (λ file. log_verdict file ≡ Ok log)
    → IfSome (images_from 1 (map f' names)) (λ j. j ≡ Ok images)
    → IfSome (digests_of (map f' names)) (λ digests. given ≡ digests)
    → disagreement given log.header.digests ≡ found
    → IfSome (replay_judgement (f log_name) (map f names)) (λ j. j ≡ agreed log images found)
taken_after f f' log_name names log images given found stays h k d e =
    taken_so (f log_name) (map f names) log images given found h
    (told_before f f' names (λ files. IfSome (images_from 1 files) (λ j. j ≡ Ok images)) stays k)
    (told_before f f' names (λ files. IfSome (digests_of files) (λ digests. given ≡ digests)) stays
    d) e

-- Where they agree, there are as many.
pub same_count : (given logged : List (List ℕ)) → disagreement given logged ≡ None
    → length given ≡ length logged
same_count given logged h = by_test (length given == length logged) refl h
  where
    by_test : (b : Bool) → (length given == length logged) ≡ b
        → (if b then first_other 1 given logged
        else Some (log_refusals.Images (length logged) (length given))) ≡ None
        → length given ≡ length logged
    by_test true same h = grind (arith, nat_tests)
    by_test false same h = cc

-- ---- room

pub with_this : (told : Option Judgement) (j k : Judgement) → j ≡ k
    → IfSome told (λ x. x ≡ j) → IfSome told (λ x. x ≡ k)
with_this None j k e h = tt
with_this (Some x) j k e h = h ∙ e

pub room_taken : (told : Option Judgement) (log : Log) (images : List Image)
    → needed images ≤ log.header.frames → IfSome told (λ j. j ≡ agreed log images None)
    → IfSome told (λ j. j ≡ Ok (taken_log log images))
room_taken told log images fits h =
    with_this told _ _ (ap (of_log log) (has_room log.header.frames images fits)) h

pub room_refused : (told : Option Judgement) (log : Log) (images : List Image)
    → log.header.frames < needed images → IfSome told (λ j. j ≡ agreed log images None)
    → IfSome told (λ j. j ≡ Err (refusals.NoRoom (needed images) log.header.frames))
room_refused told log images over h =
    with_this told _ _ (ap (of_log log) (no_room log.header.frames images over)) h
