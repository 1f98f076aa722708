-- How a call ends: the one table of its statuses and lines, and what follows from it. This
-- project's own.
use Rattle.std.specs.Prelude.{◌≡◌, ◌⊎◌, ℕ, List, [], ◌++◌, Option, Some, None, codes, decimal}
use Rattle.dos_world.specs.declared.Ending.{Ending}
use Rattle.dos_world.specs.declared.Ending.TheVariants.{Done, Limit, Stalled}
use Rattle.dos_texts.specs.Report.{line_feed}
use Rattle.elf_image.specs.Image.{refusal_number}
use Rattle.log_files.specs.declared.refusal.LogRefusal.{LogRefusal}
use Rattle.log_files.specs.declared.refusal.LogRefusal.TheVariants.{TooLong, Refused, Images}
use Rattle.log_files.specs.declared.refusal.LogRefusal.TheVariants.{Digest}
use Rattle.dos_texts.specs.Lines.{Message, words_refused, image_too_long, image_refused, no_room}
use Rattle.dos_texts.specs.Lines.{log_too_long, log_refused, images_differ, digests_differ, misfit}
use Rattle.dos_texts.specs.Lines.{file_fault, host_fault, out_of_memory, log_full, indexes_text}
use Rattle.dos_texts.specs.Lines.{refusal_text, question_text, digest_text, group_too_long}
use Rattle.dos_texts.specs.Lines.{group_refused, group_unlawful, group_of_another_log}
use Rattle.dos_texts.specs.Lines.{group_refusal_text}
use Rattle.group_files.specs.declared.refusal.SavedRefusal.{SavedRefusal}
use Rattle.group_files.specs.declared.refusal.SavedRefusal.TheVariants as saved
use Rattle.dos_texts.specs.declared.refusal.Refusal.{Refusal}
use Rattle.dos_texts.specs.declared.refusal.Refusal.TheVariants as refusals

-- ---- the table

-- It ends as a run came to its ending, of which an inspected image has Done; with a message; or
-- because a put failed.
pub data Exit : Type 0 where
  by_ending : Ending → Exit
  by_message : Message → Exit
  by_sink : Exit

-- an exit's status, and what its one line says
pub record ExitRow : Type 0 where
  pub status : ℕ
  pub text : Option (List ℕ)

-- no line
abbrev pub silent : ℕ → ExitRow
silent status = record { status = status; text = None }

-- this text between `dos: ` and a line feed
abbrev pub saying : ℕ → List ℕ → ExitRow
saying status text = record { status = status; text = Some text }

abbrev pub row : Exit → ExitRow
row (by_ending Done) = silent 0
row (by_message words_refused) = saying 2 (codes "words refused")
row (by_message (image_too_long i)) = saying 3 (codes "image " ++ decimal i ++ codes " too long")
row (by_message (image_refused i refusal)) =
    saying 3 (codes "image " ++ decimal i ++ codes " refused " ++ decimal (refusal_number refusal)
    ++ indexes_text refusal)
row (by_message (no_room needed frames)) =
    saying 3 (codes "needs " ++ decimal needed ++ codes " frames, has " ++ decimal frames)
row (by_message log_too_long) = saying 4 (codes "log too long")
row (by_message (log_refused refusal)) = saying 4 (codes "log refused: " ++ refusal_text refusal)
row (by_message (images_differ logged given)) =
    saying 4 (codes "log has " ++ decimal logged ++ codes " images, given " ++ decimal given)
row (by_message (digests_differ i digest logged)) =
    saying 4 (codes "image " ++ decimal i ++ codes " has digest " ++ digest_text digest
    ++ codes ", log has " ++ digest_text logged)
row (by_message (misfit entry kept asked)) =
    saying 4 (codes "log entry " ++ decimal entry ++ codes " is " ++ question_text kept
    ++ codes ", asked " ++ question_text asked)
row (by_message file_fault) = saying 5 (codes "file fault")
row (by_message host_fault) = saying 5 (codes "host fault")
row by_sink = silent 6
row (by_ending Limit) = silent 7
row (by_ending Stalled) = silent 8
row (by_message out_of_memory) = saying 9 (codes "out of memory")
row (by_message log_full) = saying 10 (codes "log full")
row (by_message group_too_long) = saying 11 (codes "group too long")
row (by_message (group_refused refusal)) =
    saying 11 (codes "group refused: " ++ group_refusal_text refusal)
row (by_message group_unlawful) = saying 11 (codes "group refused: unlawful")
row (by_message group_of_another_log) = saying 11 (codes "group is of another log")

-- ---- what follows from it

-- the exit status
abbrev pub status : Exit → ℕ
status exit = (row exit).status

-- the line of this text, if any
abbrev pub line_with : Option (List ℕ) → List ℕ
line_with None = []
line_with (Some text) = codes "dos: " ++ text ++ line_feed

-- the one line of a message
abbrev pub line : Message → List ℕ
line message = line_with (row (by_message message)).text

-- of a run that came to its ending
abbrev pub ending_status : Ending → ℕ
ending_status ending = status (by_ending ending)

-- why a log isn't replayed
abbrev pub log_message : LogRefusal → Message
log_message TooLong = log_too_long
log_message (Refused error) = log_refused error
log_message (Images logged given) = images_differ logged given
log_message (Digest image digest logged) = digests_differ image digest logged

-- why a saved group isn't resumed
abbrev pub group_message : SavedRefusal → Message
group_message saved.TooLong = group_too_long
group_message (saved.Refused error) = group_refused error
group_message saved.Unlawful = group_unlawful
group_message saved.OtherLog = group_of_another_log

-- how a call ends that was refused
abbrev pub exit_of : Refusal → Exit
exit_of refusals.Words = by_message words_refused
exit_of (refusals.TooLong image) = by_message (image_too_long image)
exit_of (refusals.Image image error) = by_message (image_refused image error)
exit_of (refusals.NoRoom needed frames) = by_message (no_room needed frames)
exit_of (refusals.Log why) = by_message (log_message why)
exit_of (refusals.Group why) = by_message (group_message why)
exit_of (refusals.Misfit m) = by_message (misfit m.entry m.kept m.asked)
exit_of refusals.Files = by_message file_fault
exit_of refusals.Host = by_message host_fault
exit_of refusals.Sink = by_sink
exit_of refusals.LogFull = by_message log_full
exit_of refusals.Memory = by_message out_of_memory

-- its status
unfoldable pub refusal_status : Refusal → ℕ
refusal_status refusal = status (exit_of refusal)

-- its one line; nothing once a sink has failed
unfoldable pub line_of : Refusal → List ℕ
line_of refusal = line_with (row (exit_of refusal)).text

-- the exit statuses
abbrev pub IsStatus : ℕ → Type 0
IsStatus n = ((ending : Ending) × (n ≡ ending_status ending))
    ⊎ ((refusal : Refusal) × (n ≡ refusal_status refusal))
