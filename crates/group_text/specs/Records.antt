-- What the records of a saved group are in the flat world. This project's own rules.
use Rattle.std.specs.Prelude.{ℕ, ◌≡◌, List, [], map, length, Some, None}
use Rattle.dos_world.specs.World.{Process, Life, Thread, Sleeper, Holdings, live, ended}
use Rattle.dos_world.specs.declared.Owner.{Owner}
use Rattle.dos_world.specs.declared.Owner.TheVariants.{Free, Shared, Of}
use Rattle.page_store.specs.Store.{whole}
use Rattle.group_text.specs.declared.records.ProcessRecord.{ProcessRecord}
use Rattle.group_text.specs.declared.records.ThreadRecord.{ThreadRecord}
use Rattle.group_text.specs.declared.records.SleeperRecord.{SleeperRecord}
use Rattle.group_text.specs.declared.records.FrameRecord.{FrameRecord}
use Rattle.group_text.specs.declared.records.GroupRecord.{GroupRecord}
use Rattle.group_text.specs.declared.header.HeaderRecord.{HeaderRecord}
use Rattle.group_text.specs.Groups.{SavedGroup, page_if_used}
use Rattle.group_text.specs.GroupText.{Header}

-- what a process that lives has
abbrev pub recorded_holdings : ProcessRecord → Holdings
recorded_holdings r = record {
  actions = r.actions.items;
  descriptors = r.ends.items;
  space = r.pages.items;
}

abbrev pub recorded_life : ProcessRecord → Life
recorded_life r =
    elim r.status [ None ↦ live (recorded_holdings r) | Some status ↦ ended status r.collected ]

abbrev pub process_of_record : ProcessRecord → Process
process_of_record r = record { parent = r.parent; life = recorded_life r }

-- a live thread with its number
abbrev pub thread_of_record : ThreadRecord → ℕ × Thread
thread_of_record r = (
  r.tid,
  record {
    process = r.pid;
    registers = r.regs;
    budget = r.budget;
    state = r.state;
    pending = r.pending;
    mask = r.mask;
    saved = r.saved.items;
  },
)

abbrev pub sleeper_of_record : SleeperRecord → Sleeper
sleeper_of_record r = record { thread = r.tid; frame = r.frame; offset = r.offset }

-- a frame's owner, and its bytes where it isn't Free
abbrev pub frame_of_record : FrameRecord → Owner × List ℕ
frame_of_record r = (r.owner, page_if_used r.owner (whole r.page))

-- the bytes of a frame with this owner: 4096, or none where it is Free
abbrev pub HasItsPage : Owner → List ℕ → Type 0
HasItsPage Free page = page ≡ []
HasItsPage Shared page = length page ≡ 4096
HasItsPage (Of t) page = length page ≡ 4096

abbrev pub group_of_record : GroupRecord → SavedGroup
group_of_record r = record {
  digest = r.digest;
  used = r.used;
  config = r.config;
  rounds = r.rounds;
  given = r.given;
  processes = map process_of_record r.processes.items;
  threads = map thread_of_record r.threads.items;
  pipes = map (λ p. p.items) r.pipes.items;
  sleepers = map sleeper_of_record r.sleepers.items;
  frames = map frame_of_record r.frames.items;
}

abbrev pub header_of_record : HeaderRecord → Header
header_of_record r = record {
  digest = r.digest;
  used = r.used;
  config = r.config;
  rounds = r.rounds;
  threads = r.threads;
  processes = r.processes;
}
