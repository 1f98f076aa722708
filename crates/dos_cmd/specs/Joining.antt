-- When a call goes on with a group that another saved, and what the two show together. This
-- project's own rules.
use Rattle.std.specs.Prelude.{◌≡◌, ◌++◌, ℕ, List, Some, Ok, IsTrue}
use Rattle.dos_world.specs.declared.Scheme.TheVariants.{Ownership}
use Rattle.elf_image.specs.Image.{Image}
use Rattle.dpg_run.specs.Fits.{misfit}
use Rattle.logged_runs.specs.Replaying.{config_of}
use Rattle.log_files.specs.Judging.{log_verdict}
use Rattle.log_text.specs.LogText.{Log, exchanges, logtext}
use Rattle.dos_texts.specs.Saved.{saved_line}
use Rattle.dos_words.specs.Numbers.{Text}
use Rattle.dos_words.specs.Request.{request}
use Rattle.dos_words.specs.declared.request.Request.TheVariants.{Resume}
use Rattle.dos_cmd.specs.Judging.{taken_log}
use Rattle.dos_cmd.specs.Outside.{Outside, Grew}
use Rattle.dos_cmd.specs.Results.{MustReplay}

-- The words ask to go on, by a log whose file holds its text and is taken for it, with the group in
-- a file that holds what the call that saved it wrote to the file of that name. Its files told all
-- that they hold.
pub record IsResumeOf (log : Log) (to : Text) (save : Outside) (words : List Text)
    (resume : Outside) : Type 0 where
  pub workers : ℕ
  pub name : Text
  pub from : Text
  pub asks : request words ≡ Some (Resume workers name from)
  pub all_told : IsTrue save.files_tell
  pub same_group : resume.files from ≡ save.files_after to
  pub same_log : resume.files name ≡ Some (logtext log)
  pub taken : log_verdict (logtext log) ≡ Ok log

-- A replay of this log with these images, by the scheme of ownership, came to what it must: to its
-- end, or to the log's misfit.
abbrev pub HasReplayed : Log → List Image → (status : ℕ) → Outside → Type 0
HasReplayed log images status o =
    MustReplay (misfit images (config_of Ownership log.header) (exchanges log)) Ownership log
    (taken_log log images) status o

-- A call that saved its group at a round, and one that went on with it, showed together what a
-- whole one showed, the line left out that says that it was saved; and the status is the whole
-- one's.
pub record ShowTogether (round status : ℕ) (save whole : Outside) (again : ℕ) (resume : Outside) :
    Type 0 where
  pub status_is : again ≡ status
  pub output : List ℕ
  pub error : List ℕ
  pub output_then : List ℕ
  pub error_then : List ℕ
  pub first : Grew save output (error ++ saved_line round)
  pub second : Grew resume output_then error_then
  pub both : Grew whole (output ++ output_then) (error ++ error_then)
