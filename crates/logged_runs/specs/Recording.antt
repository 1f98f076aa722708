-- A run that is recorded. This project's own rules.
use Rattle.std.specs.Prelude.{◌≡◌, ◌≤◌, ◌++◌, ℕ, List, [], length, map, Option, None}
use Rattle.dos_world.specs.declared.Config.{Config}
use Rattle.dos_world.specs.declared.Post.{Post}
use Rattle.dos_world.specs.declared.Question.{Question}
use Rattle.dos_io.specs.Exchanges.{answer_of}
use Rattle.dos_io.specs.Given.{Given}
use Rattle.dos_io.specs.Hosts.{Told}
use Rattle.dos_io.specs.declared.exchange.ClockRule.{ClockRule}
use Rattle.dos_io.specs.declared.exchange.Exchange.{Exchange}
use Rattle.dos_io.specs.declared.host_question.HostQuestion.{HostQuestion}
use Rattle.dos_io.specs.declared.shim.ShimStop.{ShimStop}
use Rattle.elf_image.specs.Image.{Image}
use Rattle.kernel_calls.specs.StateWorld.{shim_stop}
use Rattle.kernel_calls.specs.declared.state.RunStop.{RunStop}
use Rattle.shim_log.specs.Asking.{host_questions, stop_questions}
use Rattle.log_text.specs.declared.header.LogHeader.{LogHeader}
use Rattle.log_text.specs.declared.version.LogVersion.TheVariants.{Two}
use Rattle.shim_log.specs.Ledger.{LedgerState, MayStop, empty_ledger}
use Rattle.log_text.specs.LogText.{Log, exchanges, logtext}
use Rattle.log_text.specs.Ranges.{FitsLog}
use Rattle.log_text.specs.Ranges.{most_bytes}
use Rattle.shim_log.specs.Room.{HadRoom}
use Rattle.flat_machine.specs.Machine.{Seen}
use Rattle.dpg_run.specs.Work.{group_work}
use Rattle.logged_runs.specs.Runs.{RanWhole, RanUntil, RanAhead}

-- what a recorded run is given beside its host
pub record Plan : Type 0 where
  pub images : List Image
  pub config : Config
  pub posts : List (ℕ × Post)
  pub clock : ClockRule
  pub header : LogHeader

-- with these images and this configuration, what a ledger says of the rest
abbrev pub plan_of : List Image → Config → LedgerState → Plan
plan_of images config ledger = record {
  images = images;
  config = config;
  posts = ledger.posts;
  clock = ledger.clock;
  header = ledger.header;
}

-- a recorder's ledger after these exchanges, none of which is the end
abbrev pub ledger_after : Plan → List Exchange → LedgerState
ledger_after plan es =
    record (empty_ledger plan.posts plan.clock plan.header 0) { entries = es }

-- what is seen of a host: what it tells, and what it was asked
pub record HostSeen : Type 0 where
  pub told : Option Told
  pub asked : List HostQuestion

abbrev pub host_seen : Option Told → List HostQuestion → HostSeen
host_seen told asked = record { told = told; asked = asked }

-- From before to after it was asked these, in this order, and nothing else.
abbrev pub HostWasAsked : (before after : HostSeen) → List HostQuestion → Type 0
HostWasAsked before after asked = after.asked ≡ before.asked ++ asked

-- The run came to its end, and this log of version 2 has all of its exchanges: they were given by
-- the plan and the host, none skipped and none invented, and each had room. The host was asked for
-- them, once each and in their order, and nothing else.
pub record Recorded (plan : Plan) (host host_after : HostSeen) (log : Log) (seen : Seen) :
    Type 0 where
  pub ran : RanWhole plan.images plan.config (exchanges log) seen
  pub given : Given plan.posts plan.clock 0 host.told host_after.told (exchanges log)
  pub asked : HostWasAsked host host_after (host_questions plan.clock (exchanges log))
  pub version : log.version ≡ Two
  pub header : log.header ≡ plan.header
  pub ranges : FitsLog log
  pub room : HadRoom plan.header plan.posts [] log.entries
  pub small : length (logtext log) ≤ most_bytes

-- The run was recorded until a question at which the recorder stopped so, which it may; by then it
-- had sent these bytes, and its parallel phases had run so much. The host was asked for the
-- exchanges before, and then, where it failed, that question once.
pub record RecordedUntil (plan : Plan) (host host_after : HostSeen) (stop : ShimStop)
    (output error : List ℕ) (work : ℕ) : Type 0 where
  pub before : List Exchange
  pub question : Question
  pub ran : RanUntil plan.images plan.config before question output error
  pub worked : group_work plan.images plan.config (map answer_of before) ≡ work
  pub given : Given plan.posts plan.clock 0 host.told host_after.told before
  pub asked : HostWasAsked host host_after
      (host_questions plan.clock before ++ stop_questions plan.clock question stop)
  pub room : HadRoom plan.header plan.posts [] before
  pub stops : MayStop (ledger_after plan before) question stop

-- The run was recorded until it stopped so; these are fronts of what it sends until its next
-- question, or its end, and its parallel phases had run so much. Where an output failed, the host
-- was asked for the exchanges before, and nothing else.
pub record RecordedAhead (plan : Plan) (host host_after : HostSeen) (stop : RunStop)
    (output error : List ℕ) (work : ℕ) : Type 0 where
  pub before : List Exchange
  pub ran : RanAhead plan.images plan.config before output error
  pub worked : group_work plan.images plan.config (map answer_of before) ≡ work
  pub given : Given plan.posts plan.clock 0 host.told host_after.told before
  pub asked : shim_stop stop ≡ None
      → HostWasAsked host host_after (host_questions plan.clock before)
