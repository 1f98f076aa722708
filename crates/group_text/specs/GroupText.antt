-- The one text of a saved group, its fields' ranges, and how it is read: one format of each row.
-- This project's own, version 1. All numbers are little-endian.
use Rattle.std.specs.Prelude.{ℕ, zero, suc, ◌+◌, ◌-◌, ◌/◌, ◌%◌, Bool, true, false, List, []}
use Rattle.std.specs.Prelude.{◌∷◌, ◌++◌}
use Rattle.std.specs.Prelude.{length, drop, reverse, Option, Some, None, ◌==◌, if◌then◌else◌}
use Rattle.std.specs.Int.{w16, to_le_bytes}
use Rattle.dos_world.specs.World.{Process, Life, live, ended, Holdings, Thread, Registers, Sleeper}
use Rattle.dos_world.specs.SignalCalls.{is_action}
use Rattle.dos_world.specs.declared.Config.{Config}
use Rattle.dos_world.specs.declared.Entry.{Entry}
use Rattle.dos_world.specs.declared.Owner.{Owner}
use Rattle.dos_world.specs.declared.Owner.TheVariants.{Free, Shared, Of}
use Rattle.dos_world.specs.declared.End.{End}
use Rattle.dos_world.specs.declared.End.TheVariants.{Input, Output, Error, PipeRead, PipeWrite}
use Rattle.dos_world.specs.declared.ThreadState.{ThreadState}
use Rattle.dos_world.specs.declared.ThreadState.TheVariants.{Ready, Retry, Asleep}
use Rattle.dos_world.specs.declared.Scheme.TheVariants.{Ownership}
use Rattle.text_fields.specs.Formats.{Format, bytes, u8_in, u16_in, u32_in, ◌then◌, seen_as, tagged}
use Rattle.text_fields.specs.Formats.{many, ascending, with_count, from_to, just, any}
use Rattle.group_text.specs.Groups.{SavedGroup}
use Rattle.group_text.specs.Ranges.{may_pend, may_mask, is_word_in_page}

-- ---- the header, behind the magic and the version

-- the digest of the log's file; the entries used; the quantum, the limit of rounds and the frames;
-- the rounds run; and how many numbers of threads and of processes were given
pub record Header : Type 0 where
  pub digest : List ℕ
  pub used : ℕ
  pub config : Config
  pub rounds : ℕ
  pub threads : ℕ
  pub processes : ℕ

abbrev pub ConfigFields : Type 0
ConfigFields = ℕ × (ℕ × ℕ)

abbrev pub to_config : ConfigFields → Config
to_config (quantum, (rounds, frames)) =
    record { quantum = quantum; rounds = rounds; frames = frames; scheme = Ownership }

abbrev pub of_config : Config → ConfigFields
of_config c = (c.quantum, (c.rounds, c.frames))

-- the quantum, the round limit and the frames
abbrev pub config_fields : Format ConfigFields
config_fields =
    u32_in (from_to 16 65536) then λ quantum.
    u32_in (from_to 1 1000000) then λ rounds.
    u32_in (from_to 16 16384)

abbrev pub config_row : Format Config
config_row = seen_as to_config of_config config_fields

abbrev pub HeaderFields : Type 0
HeaderFields = List ℕ × (ℕ × (Config × (ℕ × (ℕ × ℕ))))

abbrev pub to_header : HeaderFields → Header
to_header (digest, (used, (config, (rounds, (threads, processes))))) = record {
  digest = digest;
  used = used;
  config = config;
  rounds = rounds;
  threads = threads;
  processes = processes;
}

abbrev pub of_header : Header → HeaderFields
of_header h = (h.digest, (h.used, (h.config, (h.rounds, (h.threads, h.processes)))))

abbrev pub header_fields : Format HeaderFields
header_fields =
    bytes 32 then λ digest.
    u32_in any then λ used.
    config_row then λ config.
    u32_in (from_to 0 config.rounds) then λ rounds.
    u32_in (from_to 1 65535) then λ threads.
    -- processes
    u32_in (from_to 1 65535)

abbrev pub header_row : Format Header
header_row = seen_as to_header of_header header_fields

-- ---- a live thread

-- the address that lr.w reserved: 0 and 0, or 1 and the address
abbrev pub held_code : Option ℕ → ℕ
held_code None = 0
held_code (Some address) = 1

abbrev pub held_word : Option ℕ → ℕ
held_word None = 0
held_word (Some address) = address

abbrev pub held_by_code : ℕ → Format (Option ℕ)
held_by_code zero = seen_as (λ _. None) held_word (u32_in (just 0))
held_by_code (suc n) = seen_as (λ address. Some address) held_word (u32_in any)

abbrev pub held_row : Format (Option ℕ)
held_row = tagged held_code (from_to 0 1) held_by_code

-- pc, x1 to x31, and the reservation
abbrev pub to_registers : ℕ × (List ℕ × Option ℕ) → Registers
to_registers (pc, (numbers, held)) = record { pc = pc; numbers = 0 ∷ numbers; held = held }

abbrev pub of_registers : Registers → ℕ × (List ℕ × Option ℕ)
of_registers r = (r.pc, (drop 1 r.numbers, r.held))

abbrev pub register_fields : Format (ℕ × (List ℕ × Option ℕ))
register_fields =
    u32_in any then λ pc.
    many 31 (u32_in any) then λ numbers.
    held_row

abbrev pub registers_row : Format Registers
registers_row = seen_as to_registers of_registers register_fields

abbrev pub state_code : ThreadState → ℕ
state_code Ready = 0
state_code Retry = 1
state_code Asleep = 2

abbrev pub state_by_code : ℕ → ThreadState
state_by_code zero = Ready
state_by_code (suc zero) = Retry
state_by_code (suc (suc n)) = Asleep

abbrev pub state_row : Format ThreadState
state_row = seen_as state_by_code state_code (u8_in (from_to 0 2))

-- registers and a mask that a handler has saved
abbrev pub saved_row : Format (Registers × ℕ)
saved_row = registers_row then λ registers. u32_in may_mask

-- how many are saved, and these, the first saved first
abbrev pub saved_in_order : Format (List (Registers × ℕ))
saved_in_order = with_count (u8_in (from_to 0 4)) (λ depth. many depth saved_row)

abbrev pub saved_rows : Format (List (Registers × ℕ))
saved_rows = seen_as reverse reverse saved_in_order

abbrev pub ThreadFields : Type 0
ThreadFields = ℕ × (ℕ × (ThreadState × (Registers × (ℕ × (ℕ × (ℕ × List (Registers × ℕ)))))))

abbrev pub to_thread : ThreadFields → ℕ × Thread
to_thread (number, (process, (state, (registers, (budget, (pending, (mask, saved))))))) = (
  number,
  record {
    process = process;
    registers = registers;
    budget = budget;
    state = state;
    pending = pending;
    mask = mask;
    saved = saved;
  },
)

abbrev pub of_thread : ℕ × Thread → ThreadFields
of_thread t = (
  t.0,
  (
    t.1.process,
    (t.1.state, (t.1.registers, (t.1.budget, (t.1.pending, (t.1.mask, t.1.saved))))),
  ),
)

-- A number from this one to those given, a process, whether it runs or waits, its registers, its
-- budget, its signals and what is saved.
abbrev pub thread_fields : (given processes least : ℕ) → Format ThreadFields
thread_fields given processes least =
    u32_in (from_to least given) then λ number.
    u32_in (from_to 1 processes) then λ process.
    state_row then λ state.
    registers_row then λ registers.
    u32_in any then λ budget.
    u32_in may_pend then λ pending.
    u32_in may_mask then λ mask.
    saved_rows

abbrev pub thread_row : (given processes least : ℕ) → Format (ℕ × Thread)
thread_row given processes least =
    seen_as to_thread of_thread (thread_fields given processes least)

-- the live threads in rising number
abbrev pub thread_rows : (given processes : ℕ) → Format (List (ℕ × Thread))
thread_rows given processes =
    with_count (u8_in (from_to 0 64))
    (λ n. ascending (λ t. t.0) (thread_row given processes) n 1)

-- ---- a process

-- a kind, and a pipe where it has one, else 0
abbrev pub end_code : Option End → ℕ
end_code None = 0
end_code (Some Input) = 1
end_code (Some Output) = 2
end_code (Some Error) = 3
end_code (Some (PipeRead pipe)) = 4
end_code (Some (PipeWrite pipe)) = 5

abbrev pub end_pipe : Option End → ℕ
end_pipe (Some (PipeRead pipe)) = pipe
end_pipe (Some (PipeWrite pipe)) = pipe
end_pipe _ = 0

abbrev pub end_by_code : ℕ → ℕ → Option End
end_by_code zero pipe = None
end_by_code (suc zero) pipe = Some Input
end_by_code (suc (suc zero)) pipe = Some Output
end_by_code (suc (suc (suc zero))) pipe = Some Error
end_by_code (suc (suc (suc (suc zero)))) pipe = Some (PipeRead pipe)
end_by_code (suc (suc (suc (suc (suc n))))) pipe = Some (PipeWrite pipe)

-- the pipes that a descriptor of a kind may have
abbrev pub is_pipe_of : ℕ → ℕ → Bool
is_pipe_of (suc (suc (suc (suc kind)))) pipe = from_to 0 63 pipe
is_pipe_of kind pipe = just 0 pipe

abbrev pub descriptor_row : Format (Option End)
descriptor_row = tagged end_code (from_to 0 5)
    (λ kind. seen_as (end_by_code kind) end_pipe (u8_in (is_pipe_of kind)))

-- 1 for X and 2 for W, added
abbrev pub rights_of : Entry → ℕ
rights_of e = (if e.exec then 1 else 0) + (if e.write then 2 else 0)

abbrev pub flag_of : Bool → ℕ
flag_of true = 1
flag_of false = 0

abbrev pub to_page : ℕ × (ℕ × (ℕ × ℕ)) → ℕ × Entry
to_page (page, (frame, (rights, shared))) = (
  page,
  record {
    frame = frame;
    write = rights / 2 == 1;
    exec = rights % 2 == 1;
    shared = shared == 1;
  },
)

abbrev pub of_page : ℕ × Entry → ℕ × (ℕ × (ℕ × ℕ))
of_page e = (e.0, (e.1.frame, (rights_of e.1, flag_of e.1.shared)))

-- a page from this one on, its frame, its rights, and whether it is shared
abbrev pub page_fields : (frames least : ℕ) → Format (ℕ × (ℕ × (ℕ × ℕ)))
page_fields frames least =
    u32_in (from_to least 0xEFFFF) then λ page.
    u32_in (from_to 0 (frames - 1)) then λ frame.
    u8_in (from_to 0 3) then λ rights.
    -- shared
    u8_in (from_to 0 1)

abbrev pub page_row : (frames least : ℕ) → Format (ℕ × Entry)
page_row frames least = seen_as to_page of_page (page_fields frames least)

-- how many pages, at most as many as there are frames, and these in rising order
abbrev pub space_row : ℕ → Format (List (ℕ × Entry))
space_row frames =
    with_count (u32_in (from_to 0 frames)) (λ n. ascending (λ e. e.0) (page_row frames) n 1)

abbrev pub to_holdings : List ℕ × (List (Option End) × List (ℕ × Entry)) → Holdings
to_holdings (actions, (descriptors, space)) =
    record { actions = actions; descriptors = descriptors; space = space }

abbrev pub of_holdings : Holdings → List ℕ × (List (Option End) × List (ℕ × Entry))
of_holdings h = (h.actions, (h.descriptors, h.space))

abbrev pub holding_fields : ℕ → Format (List ℕ × (List (Option End) × List (ℕ × Entry)))
holding_fields frames =
    many 31 (u32_in is_action) then λ actions.
    many 32 descriptor_row then λ descriptors.
    space_row frames

abbrev pub holdings_row : ℕ → Format Holdings
holdings_row frames = seen_as to_holdings of_holdings (holding_fields frames)

-- 0 live, 1 ended, 2 collected
abbrev pub life_code : Life → ℕ
life_code (live h) = 0
life_code (ended status collected) = if collected then 2 else 1

abbrev pub status_of_life : Life → ℕ
status_of_life (live h) = 0
status_of_life (ended status collected) = status

abbrev pub holdings_of_life : Life → Holdings
holdings_of_life (live h) = h
holdings_of_life (ended status collected) = record { actions = []; descriptors = []; space = [] }

abbrev pub live_fields : ℕ → Format (ℕ × Holdings)
live_fields frames = u8_in (just 0) then λ status. holdings_row frames

abbrev pub live_row : ℕ → Format Life
live_row frames = seen_as (λ x. live x.1) (λ life. (0, holdings_of_life life)) (live_fields frames)

abbrev pub ended_row : Bool → Format Life
ended_row collected = seen_as (λ status. ended status collected) status_of_life (u8_in any)

abbrev pub life_by_code : ℕ → ℕ → Format Life
life_by_code frames zero = live_row frames
life_by_code frames (suc zero) = ended_row false
life_by_code frames (suc (suc n)) = ended_row true

-- how it is with a process, its status, and what it has
abbrev pub life_row : ℕ → Format Life
life_row frames = tagged life_code (from_to 0 2) (life_by_code frames)

-- a parent, and how it is with the process
abbrev pub process_fields : (frames processes : ℕ) → Format (ℕ × Life)
process_fields frames processes = u32_in (from_to 0 processes) then λ parent. life_row frames

abbrev pub process_row : (frames processes : ℕ) → Format Process
process_row frames processes =
    seen_as (λ x. record { parent = x.0; life = x.1 }) (λ p. (p.parent, p.life))
    (process_fields frames processes)

-- ---- pipes, waiters and frames

-- how many bytes a pipe holds, and these
abbrev pub pipe_row : Format (List ℕ)
pipe_row = with_count (u16_in (from_to 0 4096)) bytes

-- a thread, and the word on which it sleeps: a frame and an offset
abbrev pub sleeper_fields : (given frames : ℕ) → Format (ℕ × (ℕ × ℕ))
sleeper_fields given frames =
    u32_in (from_to 1 given) then λ thread.
    u32_in (from_to 0 (frames - 1)) then λ frame.
    -- offset
    u16_in is_word_in_page

abbrev pub to_sleeper : ℕ × (ℕ × ℕ) → Sleeper
to_sleeper (thread, (frame, offset)) =
    record { thread = thread; frame = frame; offset = offset }

abbrev pub of_sleeper : Sleeper → ℕ × (ℕ × ℕ)
of_sleeper s = (s.thread, (s.frame, s.offset))

abbrev pub sleeper_row : (given frames : ℕ) → Format Sleeper
sleeper_row given frames = seen_as to_sleeper of_sleeper (sleeper_fields given frames)

abbrev pub sleeper_rows : (given frames : ℕ) → Format (List Sleeper)
sleeper_rows given frames = with_count (u8_in any) (λ n. many n (sleeper_row given frames))

abbrev pub owner_code : Owner × List ℕ → ℕ
owner_code f = elim f.0 [ Free ↦ 0 | Shared ↦ 1 | Of t ↦ 2 ]

abbrev pub owner_thread : Owner × List ℕ → ℕ
owner_thread f = elim f.0 [ Free ↦ 0 | Shared ↦ 0 | Of t ↦ t ]

-- a frame behind its owner's kind: the owner's thread, and the page where it isn't Free
abbrev pub shared_fields : Format (ℕ × List ℕ)
shared_fields = u32_in (just 0) then λ thread. bytes 4096

abbrev pub owned_fields : ℕ → Format (ℕ × List ℕ)
owned_fields given = u32_in (from_to 1 given) then λ thread. bytes 4096

abbrev pub free_row : Format (Owner × List ℕ)
free_row = seen_as (λ _. (Free, [])) owner_thread (u32_in (just 0))

abbrev pub shared_row : Format (Owner × List ℕ)
shared_row = seen_as (λ x. (Shared, x.1)) (λ f. (owner_thread f, f.1)) shared_fields

abbrev pub owned_row : ℕ → Format (Owner × List ℕ)
owned_row given = seen_as (λ x. (Of x.0, x.1)) (λ f. (owner_thread f, f.1)) (owned_fields given)

abbrev pub frame_by_code : (given : ℕ) → ℕ → Format (Owner × List ℕ)
frame_by_code given zero = free_row
frame_by_code given (suc zero) = shared_row
frame_by_code given (suc (suc n)) = owned_row given

abbrev pub frame_row : ℕ → Format (Owner × List ℕ)
frame_row given = tagged owner_code (from_to 0 2) (frame_by_code given)

-- ---- the whole text

abbrev pub BodyFields : Type 0
BodyFields =
    List Process × (List (ℕ × Thread) × (List (List ℕ) × (List Sleeper × List (Owner × List ℕ))))

-- what stands behind a header
abbrev pub group_body : Header → Format BodyFields
group_body h =
    many h.processes (process_row h.config.frames h.processes) then λ processes.
    thread_rows h.threads h.processes then λ threads.
    many 64 pipe_row then λ pipes.
    sleeper_rows h.threads h.config.frames then λ sleepers.
    -- frames
    many h.config.frames (frame_row h.threads)

abbrev pub header_in : SavedGroup → Header
header_in g = record {
  digest = g.digest;
  used = g.used;
  config = g.config;
  rounds = g.rounds;
  threads = g.given;
  processes = length g.processes;
}

abbrev pub to_group : Header × BodyFields → SavedGroup
to_group (h, (processes, (threads, (pipes, (sleepers, frames))))) = record {
  digest = h.digest;
  used = h.used;
  config = h.config;
  rounds = h.rounds;
  given = h.threads;
  processes = processes;
  threads = threads;
  pipes = pipes;
  sleepers = sleepers;
  frames = frames;
}

abbrev pub of_group : SavedGroup → Header × BodyFields
of_group g = (header_in g, (g.processes, (g.threads, (g.pipes, (g.sleepers, g.frames)))))

-- the whole group, of what stands behind its header
abbrev pub body_row : Header → Format SavedGroup
body_row h = seen_as (λ parts. to_group (h, parts)) (λ g. (of_group g).1) (group_body h)

abbrev pub group_fields : Format (Header × BodyFields)
group_fields = header_row then group_body

abbrev pub group_row : Format SavedGroup
group_row = seen_as to_group of_group group_fields

-- `DPGS`
abbrev pub group_magic : List ℕ
group_magic = 0x44 ∷ 0x50 ∷ 0x47 ∷ 0x53 ∷ []

abbrev pub group_version : ℕ
group_version = 1

abbrev pub grouptext : SavedGroup → List ℕ
grouptext g = group_magic ++ to_le_bytes w16 group_version ++ group_row.text g
