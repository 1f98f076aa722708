-- What a twin's call leaves, by how it ends. This project's own rules.
use Rattle.std.specs.Prelude.{◌≡◌, ◌++◌, ◌⊎◌, [], ℕ, List, Some, None}
use Rattle.dos_world.specs.declared.Question.{Question}
use Rattle.dos_io.specs.Given.{Given}
use Rattle.dos_io.specs.Outside.{grown, GrewByFront, IsFront, Rose}
use Rattle.dos_io.specs.declared.exchange.ClockRule.TheVariants.{FromHost}
use Rattle.dos_io.specs.declared.exchange.Exchange.{Exchange}
use Rattle.dpg_run.specs.Report.{report}
use Rattle.elf_image.specs.Image.{Image}
use Rattle.flat_machine.specs.Machine.{Seen}
use Rattle.logged_runs.specs.Runs.{Put, RanUntil, RanWhole}
use Rattle.twin_runs.specs.Twins.{CutAt}
use Rattle.worker_pool.specs.Ran.{GrewBy}
use Rattle.dos_texts.specs.Exit.{ending_status, line_of, refusal_status}
use Rattle.dos_texts.specs.declared.refusal.Refusal.{Refusal}
use Rattle.dos_texts.specs.declared.refusal.Refusal.TheVariants as refusals
use Rattle.dos_words.specs.Canonical.{names_alone}
use Rattle.dos_words.specs.Numbers.{Text}
use Rattle.dos_twin.specs.TwinImages.{TwinBegun, TwinNotBegun, twin_config}
use Rattle.dos_twin.specs.TwinOutside.{TwinFaults, TwinFilesStay, TwinOutputFailed, TwinOutside}
use Rattle.dos_twin.specs.TwinOutside.{TwinSays}

-- ---- the outputs

-- The leader's outputs grew by these bytes, and so did the follower's; and then the leader's error
-- by the last ones.
pub record BothGrew (o : TwinOutside) (output error last : List ℕ) : Type 0 where
  pub put : Put o.out o.err o.out_after o.err_after output (error ++ last)
  pub second : Put o.second_out o.second_err o.second_out_after o.second_err_after output error

-- The same, but that of the last ones a front was put.
pub record BothGrewUpToLast (o : TwinOutside) (output error last : List ℕ) : Type 0 where
  pub out_is : o.out_after ≡ grown o.out output
  pub err_is : GrewByFront (grown o.err error) o.err_after last
  pub second : Put o.second_out o.second_err o.second_out_after o.second_err_after output error

-- ---- what was run

-- The images were run to their end over what the host gave, and this is seen of it.
pub record TwinRan (images : List Image) (o : TwinOutside) (seen : Seen) : Type 0 where
  pub told : List Exchange
  pub ran : RanWhole images twin_config told seen
  pub given : Given [] FromHost 0 o.host o.host_after told
  pub counted : GrewBy o.tally o.tally_after seen.work
  pub files_stay : TwinFilesStay o

-- It was done: both sides put the run's bytes, and the leader's error grew by the report.
pub record DidTwin (images : List Image) (status : ℕ) (o : TwinOutside) : Type 0 where
  pub seen : Seen
  pub ran : TwinRan images o seen
  pub status_is : status ≡ ending_status seen.ending
  pub grew : BothGrew o seen.output seen.error (report seen)

-- The leader was stopped at a question. Both sides put the run's bytes until there, and then the
-- leader's error grew by the last ones.
pub record StoppedTwin (images : List Image) (last : List ℕ) (o : TwinOutside) : Type 0 where
  pub told : List Exchange
  pub question : Question
  pub output : List ℕ
  pub error : List ℕ
  pub ran : RanUntil images twin_config told question output error
  pub given : Given [] FromHost 0 o.host o.host_after told
  pub grew : BothGrew o output error last
  pub files_stay : TwinFilesStay o

-- An output failed in the run. Each holds a front of what the run sends to it until its next
-- question, or its end, over what its side was told: the leader what the host gave, and the
-- follower a front of that.
pub record CutTwin (images : List Image) (o : TwinOutside) : Type 0 where
  pub told : List Exchange
  pub followed : List Exchange
  pub rest : List Exchange
  pub front : told ≡ followed ++ rest
  pub given : Given [] FromHost 0 o.host o.host_after told
  pub led : CutAt images twin_config told o.out o.err o.out_after o.err_after
  pub second : CutAt images twin_config followed o.second_out o.second_err o.second_out_after
      o.second_err_after
  pub files_stay : TwinFilesStay o

-- The leader's error failed in the report.
pub record CutTwinReport (images : List Image) (o : TwinOutside) : Type 0 where
  pub seen : Seen
  pub ran : TwinRan images o seen
  pub grew : BothGrewUpToLast o seen.output seen.error (report seen)

-- ---- why the names' images came to no report, and what stands then; the leader's error has grown
-- by the last bytes, behind those of a run

abbrev pub TwinLeaves : List Text → TwinOutside → TwinFaults → Refusal → (last : List ℕ) → Type 0
TwinLeaves names o f (refusals.TooLong image) last =
    TwinNotBegun names o (refusals.TooLong image) last
TwinLeaves names o f (refusals.Image image error) last =
    TwinNotBegun names o (refusals.Image image error) last
TwinLeaves names o f (refusals.NoRoom needed frames) last =
    TwinNotBegun names o (refusals.NoRoom needed frames) last
TwinLeaves names o f refusals.Files last = Rose f.files f.files_after × TwinSays o last
TwinLeaves names o f refusals.Host last =
    Rose f.host f.host_after × TwinBegun names o (λ images. StoppedTwin images last o)
TwinLeaves names o f refusals.Sink last =
    TwinOutputFailed f × (last ≡ [])
    × TwinBegun names o (λ images. CutTwin images o ⊎ CutTwinReport images o)
TwinLeaves names o f refusals.Memory last =
    TwinSays o last ⊎ TwinBegun names o (λ images. StoppedTwin images last o)
TwinLeaves names o f _ last = ⊥

-- ---- the call, by its words

-- It was done.
pub record TwinDone (words : List Text) (status : ℕ) (o : TwinOutside) : Type 0 where
  pub names : List Text
  pub names_are : names_alone words ≡ Some names
  pub begun : TwinBegun names o (λ images. DidTwin images status o)

-- It was refused, or stopped, for this reason: the words aren't names, or their images came to no
-- report. Want of memory may come before the words are read.
abbrev pub TwinFails : List Text → TwinOutside → TwinFaults → Refusal → (last : List ℕ) → Type 0
TwinFails words o f why last =
    ((names_alone words ≡ None) × (why ≡ refusals.Words) × TwinSays o last)
    ⊎ ((why ≡ refusals.Memory) × TwinSays o last)
    ⊎ ((names : List Text) × (names_alone words ≡ Some names) × TwinLeaves names o f why last)

-- It ended with a status that a refusal has, and the leader's error says so by its one line.
pub record TwinRefused (words : List Text) (status : ℕ) (o : TwinOutside) (f : TwinFaults) :
    Type 0 where
  pub why : Refusal
  pub status_is : status ≡ refusal_status why
  pub fails : TwinFails words o f why (line_of why)

-- An output failed, and nothing was put after it: in the runs or the report, or in a refusal's
-- line, of which a front was put.
pub record TwinCutShort (words : List Text) (o : TwinOutside) (f : TwinFaults) : Type 0 where
  pub failed : TwinOutputFailed f
  pub why : Refusal
  pub put : List ℕ
  pub front : IsFront put (line_of why)
  pub fails : TwinFails words o f why put
