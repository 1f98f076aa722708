-- What the pipes hold, and how many ends each has. This project's own rules.
use Rattle.std.specs.Prelude.{◌≡◌, ◌≤◌, ℕ, ◌-◌, Bool, not, ◌&&◌, List, [], map, find, length}
use Rattle.std.specs.Prelude.{replicate, Option, All, slice_index, slice_index_or, slice_set, ◌==◌}
use Rattle.std.specs.Prelude.{true}
use Rattle.std.specs.Prelude.{false, if◌then◌else◌}
use Rattle.dos_world.specs.Numbered.{run_of}
use Rattle.circular_buffer.specs.Buffer.{Buffer, buffer}
use Rattle.std.specs.Global.{Vec}

-- For each of 64 pipes the bytes that it holds, and how many reading and writing ends it has. Pipes
-- are numbered from 0.
pub record Pipework : Type 0 where
  pub bytes : List (List ℕ)
  pub readers : List ℕ
  pub writers : List ℕ

-- ---- looking up

-- the bytes of a pipe
abbrev pub bytes_at : Pipework → ℕ → List ℕ
bytes_at s pipe = slice_index_or s.bytes pipe []

-- how many ends of one kind a pipe has
abbrev pub ends_at : Pipework → ℕ → Bool → ℕ
ends_at s pipe true = slice_index s.writers pipe
ends_at s pipe false = slice_index s.readers pipe

-- A pipe is open as long as it has an end.
abbrev pub is_open_at : Pipework → ℕ → Bool
is_open_at s pipe = not ((slice_index s.readers pipe == 0) && (slice_index s.writers pipe == 0))

-- the lowest pipe that isn't open
abbrev pub lowest_closed : Pipework → Option ℕ
lowest_closed s = find (λ pipe. not (is_open_at s pipe)) (run_of 0 (length s.readers))

-- ---- changing

-- no pipe open
abbrev pub none_open : Pipework
none_open = record { bytes = replicate 64 []; readers = replicate 64 0; writers = replicate 64 0 }

-- a pipe with so many ends of one kind
abbrev pub with_ends : Pipework → ℕ → Bool → ℕ → Pipework
with_ends s pipe true count = record s { writers = slice_set s.writers pipe count }
with_ends s pipe false count = record s { readers = slice_set s.readers pipe count }

-- a pipe with these bytes
abbrev pub with_bytes : Pipework → ℕ → List ℕ → Pipework
with_bytes s pipe bytes = record s { bytes = slice_set s.bytes pipe bytes }

-- a pipe with one reader and one writer
abbrev pub with_opened : Pipework → ℕ → Pipework
with_opened s pipe = record s {
  readers = slice_set s.readers pipe 1;
  writers =
      slice_set s.writers pipe 1;
}

-- a pipe with one end less; it is empty where none is left
abbrev pub with_dropped : Pipework → ℕ → Bool → Pipework
with_dropped s pipe writer =
    let left : Pipework = with_ends s pipe writer (ends_at s pipe writer - 1) in
    if is_open_at left pipe then left else with_bytes left pipe []

-- ---- as vectors

-- the bytes of each vector
abbrev pub vector_bytes : List (Vec ℕ) → List (List ℕ)
vector_bytes vectors = map (λ v. v.items) vectors

-- A pipe holds at most 4096 bytes.
abbrev pub FitsPipe : Vec ℕ → Type 0
FitsPipe v = length v.items ≤ 4096

-- a buffer for 4096 bytes that holds those of a vector
abbrev pub filled : Vec ℕ → Buffer ℕ
filled v = buffer v.items 4096

-- a pipe without ends is empty
abbrev pub AreClosedEmpty : List (List ℕ) → List ℕ → List ℕ → Type 0
AreClosedEmpty bytes readers writers = (pipe : ℕ) → slice_index readers pipe ≡ 0
    → slice_index writers pipe ≡ 0 → slice_index_or bytes pipe [] ≡ []

-- ---- what is kept

-- the bytes of each buffer
abbrev pub held_bytes : List (Buffer ℕ) → List (List ℕ)
held_bytes buffers = map (λ b. b.items) buffers

-- a buffer for 4096 bytes
abbrev pub IsPipeBuffer : Buffer ℕ → Type 0
IsPipeBuffer b = b.capacity ≡ 4096

-- 64 buffers for 4096 bytes each; a pipe without ends is empty
pub record AreKept (buffers : List (Buffer ℕ)) (readers writers : List ℕ) : Type 0 where
  pub count : length buffers ≡ 64
  pub rooms : All IsPipeBuffer buffers
  pub closed : (pipe : ℕ) → slice_index readers pipe ≡ 0 → slice_index writers pipe ≡ 0
      → slice_index_or (held_bytes buffers) pipe [] ≡ []
