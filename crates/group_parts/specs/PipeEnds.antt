-- The ends of pipes that the processes of a saved group have. This project's own rules.
use Rattle.std.specs.Prelude.{ℕ, ◌≡◌, ◌≤◌, ◌<◌, ◌+◌, ◌^◌, Bool, true, false, List, [], ◌∷◌}
use Rattle.std.specs.Prelude.{length, count_by, Option, None, Some, slice_index, slice_index_or}
use Rattle.dos_world.specs.Counts.{reads_pipe, writes_pipe}
use Rattle.dos_world.specs.declared.End.{End}
use Rattle.group_text.specs.declared.records.ProcessRecord.{ProcessRecord}

-- whether a descriptor is the writing end of a pipe, or else the reading end
abbrev pub end_test : Bool → ℕ → Option End → Bool
end_test true pipe = writes_pipe pipe
end_test false pipe = reads_pipe pipe

-- where it lives it has at most 32 descriptors
abbrev pub HasFewEnds : ProcessRecord → Type 0
HasFewEnds r = r.status ≡ None → length r.ends.items ≤ 32

-- how many descriptors pass, of a process that lives
abbrev pub own_ends : (Option End → Bool) → ProcessRecord → ℕ
own_ends test r = elim r.status [ None ↦ count_by test r.ends.items | Some status ↦ 0 ]

-- the same of all these processes
abbrev pub all_ends : (Option End → Bool) → List ProcessRecord → ℕ
all_ends test [] = 0
all_ends test (r ∷ rs) = own_ends test r + all_ends test rs

-- each pipe has few enough ends to be counted
abbrev pub HaveFewEnds : List ProcessRecord → Type 0
HaveFewEnds rs = (writer : Bool) (pipe : ℕ) → all_ends (end_test writer pipe) rs < 2 ^ 32

-- the counts of readers and of writers of 64 pipes are those that these processes have
pub record HaveEnds (rs : List ProcessRecord) (readers writers : List ℕ) : Type 0 where
  pub reader_count : length readers ≡ 64
  pub writer_count : length writers ≡ 64
  pub reads : (pipe : ℕ) → pipe < 64 → slice_index readers pipe ≡ all_ends (reads_pipe pipe) rs
  pub writes : (pipe : ℕ) → pipe < 64 → slice_index writers pipe ≡ all_ends (writes_pipe pipe) rs

-- a pipe without ends is empty
abbrev pub AreShut : List ProcessRecord → List (List ℕ) → Type 0
AreShut rs bytes = (pipe : ℕ) → all_ends (reads_pipe pipe) rs ≡ 0
    → all_ends (writes_pipe pipe) rs ≡ 0 → slice_index_or bytes pipe [] ≡ []
