-- The services of descriptors: pipe, read, write, close, dup. This project's own; error numbers are
-- chosen after Linux's.
use Rattle.std.specs.Prelude.{ℕ, ◌+◌, ◌-◌, min, Bool, not, List, [], ◌++◌, length, filter, find}
use Rattle.std.specs.Prelude.{take, drop, Option, Some, None, is_none, unwrap_or, ◌==◌}
use Rattle.std.specs.Prelude.{if◌then◌else◌, slice_get, slice_index_or, slice_set}
use Rattle.dos_world.specs.Errors.{ebadf, efault, emfile, epipe}
use Rattle.dos_world.specs.Numbered.{run_of}
use Rattle.dos_world.specs.World.{World, Holdings, live_process, first_of, with_holdings, pipe_size}
use Rattle.dos_world.specs.Kernel.{is_open, has_reader, has_writer, tidied, all_reach, copied_in}
use Rattle.dos_world.specs.Kernel.{copied_out}
use Rattle.dos_world.specs.Play.{Play, Answer, input_of}
use Rattle.dos_world.specs.Calls.{Served, Service, Call, asks_shim, returns, returns_in}
use Rattle.dos_world.specs.Calls.{returns_two, refuses, retries}
use Rattle.dos_world.specs.declared.Access.TheVariants.{Load, Store}
use Rattle.dos_world.specs.declared.End.{End}
use Rattle.dos_world.specs.declared.End.TheVariants.{Input, Output, Error, PipeRead, PipeWrite}
use Rattle.dos_world.specs.declared.Question.TheVariants.{Input as input_question}

-- ---- the caller's descriptors

-- the caller's 32 descriptors
abbrev pub descriptors_of : Call → List (Option End)
descriptors_of c = elim (live_process c.world c.process) [ None ↦ [] | Some h ↦ h.descriptors ]

-- what the caller's descriptor of this number names, where it is open
abbrev pub descriptor_at : Call → ℕ → Option End
descriptor_at c number = unwrap_or (slice_get (descriptors_of c) number) None

-- what a0 names
abbrev pub descriptor : Call → Option End
descriptor c = descriptor_at c c.a0

-- what a process has, with one descriptor set
abbrev pub with_end : ℕ → Option End → Holdings → Holdings
with_end number end h = record h { descriptors = slice_set h.descriptors number end }

-- the world with one of the caller's descriptors set
abbrev pub with_descriptor : Call → World → ℕ → Option End → World
with_descriptor c w number end = with_holdings w c.process (with_end number end)

-- the numbers of the caller's free descriptors, in rising order
abbrev pub free_descriptors : Call → List ℕ
free_descriptors c =
    filter (λ number. is_none (descriptor_at c number)) (run_of 0 (length (descriptors_of c)))

-- the second of a list
abbrev pub second_of : List ℕ → Option ℕ
second_of xs = slice_get xs 1

-- ---- 6, 9, 10

-- the lowest pipe that isn't open
abbrev pub lowest_pipe : World → Option ℕ
lowest_pipe w = find (λ pipe. not (is_open w pipe)) (run_of 0 64)

-- what pipe answers by two free descriptors and a pipe that isn't open
abbrev pub pipe_by : Option ℕ → Option ℕ → Option ℕ → Service
pipe_by (Some reading) (Some writing) (Some pipe) c =
    let one : World = with_descriptor c c.world reading (Some (PipeRead pipe)) in
    returns_two (with_descriptor c one writing (Some (PipeWrite pipe))) reading writing c
pipe_by _ _ _ c = refuses emfile c

-- 6: A new pipe: the two lowest free descriptors, the first of which reads and the second writes.
-- Refusal 24 where fewer than two are free or 64 pipes are open.
abbrev pub pipe : Service
pipe c =
    pipe_by (first_of (free_descriptors c)) (second_of (free_descriptors c)) (lowest_pipe c.world) c

-- 9: Closed; 0. Refusal 9 where it isn't open.
abbrev pub close : Service
close c =
    let left : World = tidied (with_descriptor c c.world c.a0 None) in
    elim (descriptor c) [ None ↦ refuses ebadf c | Some end ↦ returns_in left 0 c ]

-- what dup answers by what a0 names and a free descriptor
abbrev pub dup_by : Option End → Option ℕ → Service
dup_by None _ c = refuses ebadf c
dup_by (Some end) None c = refuses emfile c
dup_by (Some end) (Some number) c =
    returns_in (with_descriptor c c.world number (Some end)) number c

-- 10: The lowest free descriptor names the same end; its number. Refusals: 9 where a0 isn't open,
-- 24 where none is free.
abbrev pub dup : Service
dup c = dup_by (descriptor c) (first_of (free_descriptors c)) c

-- ---- 7 and 8: the bytes at a1, as many as a2 says and at most 4096

-- how many bytes one call moves at most
abbrev pub transfer_limit : ℕ
transfer_limit = 4096

-- how many bytes are asked for
abbrev pub count_of : Call → ℕ
count_of c = min c.a2 transfer_limit

-- Where no byte is asked for the answer is 0; where one of them isn't mapped, the refusal is 14.
abbrev pub transfers : Service → Bool → Service
transfers service are_mapped c =
    if count_of c == 0 then returns 0 c else (if are_mapped then service c else refuses efault c)

-- the bytes that a pipe holds
abbrev pub pipe_bytes : World → ℕ → List ℕ
pipe_bytes w pipe = slice_index_or w.pipes pipe []

-- the world in which a pipe holds these bytes
abbrev pub with_pipe : World → ℕ → List ℕ → World
with_pipe w pipe bytes = record w { pipes = slice_set w.pipes pipe bytes }

-- the bytes of an answer are copied, and their number is the answer of the service
abbrev pub input_copied : Call → Answer → Play Served
input_copied c answer =
    returns_in (copied_out c.world c.thread c.a1 (input_of answer)) (length (input_of answer)) c

-- The shim is asked for at most so many bytes, and gives no more.
abbrev pub read_input : Service
read_input c = asks_shim (input_question (c.world.rounds + 1) c.thread (count_of c)) input_copied c

-- An empty pipe without a writer answers 0, and else waits. The first bytes move, as many as are
-- held and asked for.
abbrev pub read_pipe : ℕ → Service
read_pipe pipe c =
    let held : List ℕ = pipe_bytes c.world pipe in
    let k : ℕ = min (count_of c) (length held) in
    let copy : World = copied_out c.world c.thread c.a1 (take k held) in
    if k == 0 then (if has_writer c.world pipe then retries c else returns 0 c)
    else returns_in (with_pipe copy pipe (drop k held)) k c

-- what read does by what a0 names
abbrev pub read_by : Option End → Service
read_by (Some Input) c = transfers read_input (all_reach c.world c.thread c.a1 (count_of c) Store) c
read_by (Some (PipeRead pipe)) c =
    transfers (read_pipe pipe) (all_reach c.world c.thread c.a1 (count_of c) Store) c
read_by _ c = refuses ebadf c

-- 7: Bytes of the input or of a pipe; how many. Refusals: 9 where a0 names neither, 14 where one of
-- the bytes isn't mapped with W.
abbrev pub read : Service
read c = read_by (descriptor c) c

-- the bytes are sent to output
abbrev pub write_output : Service
write_output c =
    let copy : World × List ℕ = copied_in c.world c.thread c.a1 (count_of c) in
    returns_in (record copy.0 { output = copy.0.output ++ copy.1 }) (count_of c) c

-- the bytes are sent to error
abbrev pub write_error : Service
write_error c =
    let copy : World × List ℕ = copied_in c.world c.thread c.a1 (count_of c) in
    returns_in (record copy.0 { error = copy.0.error ++ copy.1 }) (count_of c) c

-- the first k bytes go into a pipe that holds these
abbrev pub write_some : ℕ → List ℕ → ℕ → Service
write_some pipe held k c =
    let copy : World × List ℕ = copied_in c.world c.thread c.a1 k in
    returns_in (with_pipe copy.0 pipe (held ++ copy.1)) k c

-- Refusal 32 where the pipe has no reader; a full pipe, of 4096 bytes, waits. As many bytes go in
-- as there is room for.
abbrev pub write_pipe : ℕ → Service
write_pipe pipe c =
    let held : List ℕ = pipe_bytes c.world pipe in
    let k : ℕ = min (count_of c) (pipe_size - length held) in
    if not (has_reader c.world pipe) then refuses epipe c
    else (if k == 0 then retries c else write_some pipe held k c)

-- what write does by what a0 names
abbrev pub write_by : Option End → Service
write_by (Some Output) c =
    transfers write_output (all_reach c.world c.thread c.a1 (count_of c) Load) c
write_by (Some Error) c =
    transfers write_error (all_reach c.world c.thread c.a1 (count_of c) Load) c
write_by (Some (PipeWrite pipe)) c =
    transfers (write_pipe pipe) (all_reach c.world c.thread c.a1 (count_of c) Load) c
write_by _ c = refuses ebadf c

-- 8: Bytes to output, error or a pipe; how many. Refusals: 9 where a0 names none of them, 14 where
-- one of the bytes isn't mapped.
abbrev pub write : Service
write c = write_by (descriptor c) c
