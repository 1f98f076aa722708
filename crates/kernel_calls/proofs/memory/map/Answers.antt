use Rattle.std.proofs.Common.{◌+◌, ◌≤◌, length}
use Rattle.page_store.specs.Store.{free_count}
use Rattle.proc_table.specs.Tables.{thread_in}
use Rattle.kernel_mem.specs.MemoryWorld.{space_in}
use Rattle.kernel_mem.proofs.Children.{to-process}
use Rattle.kernel_calls.proofs.Callers.{process_lives}
use Rattle.kernel_calls.proofs.Room.{has_room}
use Rattle.kernel_calls.proofs.MemoryCalls.{counted-mapped, map_comes, map_number}
use Rattle.kernel_calls.proofs.Spaces.{concluded, counted-concluded}
use Rattle.kernel_calls.proofs.memory.map.Goals as goal
use Rattle.dos_world.specs.MemoryCalls.{mapped}

pub map_pages-mapped-requires-clause-room : goal.map_pages-mapped-requires-clause-room
map_pages-mapped-requires-clause-room c =
    to-process (λ p. length (space_in c.args.state.now.table p) + free_count c.args.state.now.frames
    ≤ c.args.state.now.table.room)
    (thread_in c.args.state.now.table.threads c.args.asked.now.thread) c.args.asked.now.process
    c.requires.asked.process
    (has_room c.args.state.now c.args.asked.now.process c.requires.sound
    (process_lives c.args.state.now c.args.asked.now c.requires.sound c.requires.asked))

pub conclude-requires-clause-number : goal.conclude-requires-clause-number
conclude-requires-clause-number c =
    map_number c.args.state.now c.args.asked.now c.requires.sound c.requires.asked
    c.map_pages-mapped.new.frames c.map_pages-mapped.new.table c.map_pages-mapped.result
    c.map_pages-mapped.ensures.maps

pub returns-clause-goes_on : goal.returns-clause-goes_on
returns-clause-goes_on c =
    concluded c.args.state.now c.conclude.new.state c.args.asked.now c.map_pages-mapped.new.frames
    c.map_pages-mapped.new.table c.map_pages-mapped.result c.conclude.ensures mapped
    c.map_pages-mapped.ensures.stays
    (map_comes c.args.state.now c.args.asked.now c.requires.sound c.requires.asked
    c.map_pages-mapped.new.frames c.map_pages-mapped.new.table c.map_pages-mapped.result
    c.map_pages-mapped.ensures.maps)

pub returns-clause-counted : goal.returns-clause-counted
returns-clause-counted c =
    counted-concluded c.args.state.now c.conclude.new.state c.args.asked.now
    c.map_pages-mapped.new.frames c.map_pages-mapped.new.table c.map_pages-mapped.result
    c.conclude.ensures
    (counted-mapped c.args.state.now c.args.asked.now c.requires.sound c.requires.asked
    c.map_pages-mapped.new.frames c.map_pages-mapped.new.table c.map_pages-mapped.result
    c.map_pages-mapped.ensures.table c.map_pages-mapped.ensures.uses
    c.map_pages-mapped.ensures.stays
    c.map_pages-mapped.ensures.home c.map_pages-mapped.ensures.frames.count)
