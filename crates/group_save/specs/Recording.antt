-- What is read out of a state. This project's own rules.
use Rattle.std.specs.Prelude.{ℕ, ◌≡◌, ◌-◌, ◌<◌, ◌≤◌, ◌^◌, List, length, map, All}
use Rattle.dos_world.specs.declared.Config.{Config}
use Rattle.proc_table.specs.Spread.{living_from}
use Rattle.kernel_calls.specs.declared.state.State.{State}
use Rattle.text_fields.specs.Formats.{AreBytes}
use Rattle.group_text.specs.declared.records.GroupRecord.{GroupRecord}
use Rattle.group_text.specs.Records.{process_of_record, sleeper_of_record, thread_of_record}
use Rattle.group_parts.specs.Reading.{HasWordBudget}

-- All of a state but its frames, and what is saved beside it: a digest of 32 bytes, and a number of
-- entries.
pub record IsKernelOf (digest : List ℕ) (used : ℕ) (config : Config) (s : State) (g : GroupRecord)
    : Type 0 where
  pub digest_is : g.digest ≡ digest
  pub used_is : g.used ≡ used
  pub config_is : g.config ≡ config
  pub rounds : g.rounds ≡ s.round - 1
  pub given : g.given ≡ length s.table.threads
  pub processes : map process_of_record g.processes.items ≡ s.table.processes
  pub threads : map thread_of_record g.threads.items ≡ living_from 1 s.table.threads
  pub budgets : All HasWordBudget g.threads.items
  pub pipes : map (λ p. p.items) g.pipes.items ≡ s.pipes.bytes
  pub sleepers : map sleeper_of_record g.sleepers.items ≡ s.futexes
  pub few_sleep : length s.futexes ≤ 64
  pub digest_count : length digest ≡ 32
  pub digest_bytes : AreBytes digest
  pub few_used : used < 2 ^ 32
