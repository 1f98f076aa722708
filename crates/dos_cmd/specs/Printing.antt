-- What `inspect` and `gen` leave: lines on output. This project's own rules.
use Rattle.std.specs.Prelude.{◌≡◌, ℕ, List, [], ◌∷◌, ◌^◌, ◌-◌, min, map, length}
use Rattle.dos_world.specs.declared.Config.{Config}
use Rattle.dos_world.specs.declared.Ending.{Ending}
use Rattle.dos_world.specs.declared.Question.{Question}
use Rattle.dos_io.specs.Exchanges.{answer_of}
use Rattle.dos_io.specs.Outside.{GrewByFront}
use Rattle.dos_io.specs.Quiet.{AreQuiet}
use Rattle.dos_io.specs.declared.exchange.Exchange.{Exchange}
use Rattle.elf_image.specs.Image.{Image}
use Rattle.group_rounds.specs.Kernels.{Held}
use Rattle.flat_machine.specs.Machine.{Seen, status_in}
use Rattle.dpg_run.specs.QuietRuns.{RunsQuietly}
use Rattle.dpg_run.specs.Work.{group_work}
use Rattle.logged_runs.specs.Runs.{RanUntil}
use Rattle.sha2.specs.Sha256.{sha256}
use Rattle.worker_pool.specs.Ran.{GrewBy}
use Rattle.dos_texts.specs.Exit.{ending_status}
use Rattle.dos_texts.specs.Printed.{inspect_lines, summary_of}
use Rattle.dos_cmd.specs.Judging.{gen_config}
use Rattle.dos_cmd.specs.Outside.{Outside, Counted, Grew, FilesStay, HostStays, TallyStays}
use Rattle.dos_cmd.specs.ReplayLeaves.{StaysAll}

-- The one image was inspected: its lines went to output.
pub record Inspected (images : List Image) (status : ℕ) (o : Outside) : Type 0 where
  pub parsed : Image
  pub only : images ≡ parsed ∷ []
  pub status_is : status ≡ 0
  pub grew : Grew o (inspect_lines parsed) []
  pub files_stay : FilesStay o
  pub host_stays : HostStays o
  pub tally_stays : TallyStays o

-- a count of bytes, which stands still at 2^64 - 1
abbrev pub byte_count : List ℕ → ℕ
byte_count bytes = min (length bytes) (2 ^ 64 - 1)

-- what is said of a run of the generated image: how its processes ended, how many bytes it printed,
-- and their digest
abbrev pub summary : Seen → List ℕ
summary seen =
    summary_of seen.statuses seen.rounds seen.ending (byte_count seen.output) (sha256 seen.output)

-- The image was run as a group that nothing reaches from outside, and its summary went to output.
pub record Generated (images : List Image) (status : ℕ) (o : Outside) : Type 0 where
  pub seen : Seen
  pub is : RunsQuietly images gen_config seen
  pub status_is : status ≡ ending_status seen.ending
  pub counted : Counted o seen.work
  pub grew : Grew o (summary seen) []
  pub files_stay : FilesStay o
  pub host_stays : HostStays o

-- Output failed: it grew by a front of these lines.
pub record CutLines (lines : List ℕ) (o : Outside) : Type 0 where
  pub out_is : GrewByFront o.out o.out_after lines
  pub err_stays : o.err_after ≡ o.err
  pub files_stay : FilesStay o
  pub host_stays : HostStays o

-- in the lines of `inspect`
pub record CutInspect (images : List Image) (o : Outside) : Type 0 where
  pub parsed : Image
  pub only : images ≡ parsed ∷ []
  pub cut : CutLines (inspect_lines parsed) o
  pub tally_stays : TallyStays o

-- in the summary
pub record CutSummary (images : List Image) (o : Outside) : Type 0 where
  pub seen : Seen
  pub is : RunsQuietly images gen_config seen
  pub counted : Counted o seen.work
  pub cut : CutLines (summary seen) o

-- A run that nothing reaches from outside came to a question at which memory was wanting; the
-- tally grew by its work until there.
pub record HaltedQuietly (images : List Image) (config : Config) (tally tally_after : ℕ) : Type 0
  where
    pub exchanges : List Exchange
    pub quiet : AreQuiet exchanges
    pub question : Question
    pub output : List ℕ
    pub error : List ℕ
    pub ran : RanUntil images config exchanges question output error
    pub counted : GrewBy tally tally_after (group_work images config (map answer_of exchanges))

-- The generated group's run took all memory. Error grew by these bytes alone.
pub record QuietlyStopped (images : List Image) (last : List ℕ) (o : Outside) : Type 0 where
  pub halted : HaltedQuietly images gen_config o.tally o.tally_after
  pub grew : Grew o [] last
  pub stays : StaysAll o

-- ---- from part to whole

-- The group was run so, and this is seen of it: the kernel, the ending, the count of bytes and
-- their digest give its summary.
pub record RanQuietly (images : List Image) (config : Config) (kernel : Held) (ending : Ending)
    (count : ℕ) (digest : List ℕ) (tally tally_after : ℕ) : Type 0 where
  pub seen : Seen
  pub is : RunsQuietly images config seen
  pub ending_is : seen.ending ≡ ending
  pub summary_is : summary_of (map status_in kernel.state.table.processes) (kernel.state.round - 1)
      ending count digest ≡ summary seen
  pub counted : GrewBy tally tally_after seen.work
