-- What a state is built of, of a saved group in a lawful world. This project's own rules.
use Rattle.std.specs.Prelude.{◌≡◌, ◌+◌, length, map, replicate}
use Rattle.dos_world.specs.Lawful.{Lawful}
use Rattle.kernel_calls.specs.StateWorld.{AreCounted}
use Rattle.kernel_calls.specs.declared.state.State.{State}
use Rattle.kernel_objects.specs.Pipework.{Pipework, vector_bytes}
use Rattle.lawful_groups.specs.Counts.{counted_all}
use Rattle.page_store.specs.Store.{Store, store_from}
use Rattle.proc_table.specs.Spread.{spread}
use Rattle.proc_table.specs.Tables.{Tables}
use Rattle.group_text.specs.GroupText.{group_row}
use Rattle.group_text.specs.Groups.{world_in}
use Rattle.group_text.specs.Records.{group_of_record, process_of_record, sleeper_of_record}
use Rattle.group_text.specs.Records.{thread_of_record}
use Rattle.group_text.specs.declared.records.GroupRecord.{GroupRecord}
use Rattle.group_parts.specs.FrameLists.{page_of_record}

-- its fields are in their ranges, and it is in a lawful world
pub record IsLawfulRecord (g : GroupRecord) : Type 0 where
  pub fits : group_row.Fits (group_of_record g)
  pub lawful : Lawful (world_in (group_of_record g))

-- the table of its threads and processes
abbrev pub table_of_record : GroupRecord → Tables
table_of_record g = record {
  processes = map process_of_record g.processes.items;
  threads = spread (map thread_of_record g.threads.items) g.given;
  room = g.config.frames;
}

-- its pipes, with the ends that its processes have
pub record ArePipesOf (g : GroupRecord) (p : Pipework) : Type 0 where
  pub bytes : p.bytes ≡ vector_bytes g.pipes.items
  pub ends : AreCounted (map process_of_record g.processes.items) p

-- its frames, with the uses that its processes' pages are
abbrev pub AreSavedFrames : GroupRecord → Store → Type 0
AreSavedFrames g f = f ≡ store_from (map page_of_record g.frames.items)
    (map (λ r. r.owner) g.frames.items)
    (counted_all (replicate (length g.frames.items) 0) g.processes.items)

-- a state of all of these, before the round that is next
pub record IsRestored (g : GroupRecord) (s : State) : Type 0 where
  pub frames : AreSavedFrames g s.frames
  pub pipes : ArePipesOf g s.pipes
  pub futexes : s.futexes ≡ map sleeper_of_record g.sleepers.items
  pub table : s.table ≡ table_of_record g
  pub round : s.round ≡ g.rounds + 1
