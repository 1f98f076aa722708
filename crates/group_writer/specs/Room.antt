-- How long the text of a saved group is, by counts that are at hand. This project's own rule.
use Rattle.std.specs.Prelude.{ℕ, ◌+◌, ◌*◌, ◌-◌, ◌^◌, length, Some, None, min}
use Rattle.std.specs.List.{sum_by}
use Rattle.dos_world.specs.declared.Owner.{Owner}
use Rattle.dos_world.specs.declared.Owner.TheVariants.{Free, Shared, Of}
use Rattle.group_text.specs.declared.records.ProcessRecord.{ProcessRecord}
use Rattle.group_text.specs.declared.records.ThreadRecord.{ThreadRecord}
use Rattle.group_text.specs.declared.records.FrameRecord.{FrameRecord}
use Rattle.group_text.specs.declared.records.GroupRecord.{GroupRecord}

-- at most what a length can be
abbrev pub capped : ℕ → ℕ
capped n = min n (2 ^ 64 - 1)

-- a parent, a kind and a status; where it lives, 31 actions, 32 descriptors, and its pages
abbrev pub process_room : ProcessRecord → ℕ
process_room r = elim r.status [ None ↦ length r.pages.items * 10 + 198 | Some status ↦ 6 ]

-- numbers, a state, registers, signals, and what handlers have saved
abbrev pub thread_room : ThreadRecord → ℕ
thread_room r = length r.saved.items * 137 + 155

-- an owner, and a page where it isn't Free
abbrev pub owner_room : Owner → ℕ
owner_room Free = 5
owner_room Shared = 4101
owner_room (Of t) = 4101

abbrev pub frame_room : FrameRecord → ℕ
frame_room r = owner_room r.owner

abbrev pub room_of : GroupRecord → ℕ
room_of g =
    sum_by process_room g.processes.items + sum_by thread_room g.threads.items
    + sum_by (λ p. length p.items + 2) g.pipes.items + length g.sleepers.items * 10
    + sum_by frame_room g.frames.items + 68
