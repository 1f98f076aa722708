-- What the end of a process does to pipes. This project's own rules.
use Rattle.std.specs.Prelude.{◌≡◌, ◌<◌, ◌≤◌, ◌+◌, ℕ, true, false, List, [], length, count_by}
use Rattle.std.specs.Prelude.{Option, Some, None, All, if◌then◌else◌}
use Rattle.dos_world.specs.Counts.{reads_pipe, writes_pipe}
use Rattle.dos_world.specs.Lawful.{IsEnd}
use Rattle.dos_world.specs.declared.End.{End}
use Rattle.dos_world.specs.declared.End.TheVariants.{PipeRead, PipeWrite}
use Rattle.dos_world.specs.Numbered.{numbers_of}
use Rattle.dos_world.specs.World.{belongs_to, first_of}
use Rattle.dos_world.specs.Kernel.{pending_with}
use Rattle.proc_table.specs.Tables.{Tables, thread_by}
use Rattle.kernel_objects.specs.Pipework.{Pipework, bytes_at, ends_at, is_open_at, with_dropped}

-- an end that a descriptor names is one of its pipe's
abbrev pub IsNamed : Option End → Pipework → Type 0
IsNamed (Some (PipeRead pipe)) s = (pipe < 64) × (0 < ends_at s pipe false)
IsNamed (Some (PipeWrite pipe)) s = (pipe < 64) × (0 < ends_at s pipe true)
IsNamed _ s = Unit {0}

-- the pipes without an end that a descriptor names
abbrev pub without_end : Option End → Pipework → Pipework
without_end (Some (PipeRead pipe)) s = with_dropped s pipe false
without_end (Some (PipeWrite pipe)) s = with_dropped s pipe true
without_end _ s = s

-- all ends that these descriptors name are those of their pipes, and a pipe without ends is empty
pub record AreNamed (ends : List (Option End)) (s : Pipework) : Type 0 where
  pub few : All IsEnd ends
  pub readers : (pipe : ℕ) → count_by (reads_pipe pipe) ends ≤ ends_at s pipe false
  pub writers : (pipe : ℕ) → count_by (writes_pipe pipe) ends ≤ ends_at s pipe true
  pub reader_counts : length s.readers ≡ 64
  pub writer_counts : length s.writers ≡ 64
  pub byte_counts : length s.bytes ≡ 64
  pub empty : (pipe : ℕ) → is_open_at s pipe ≡ false → bytes_at s pipe ≡ []

-- The ends that these descriptors name are gone. A pipe that has none left is empty, and the others
-- hold what they held.
pub record AreDropped (ends : List (Option End)) (old new : Pipework) : Type 0 where
  pub readers : (pipe : ℕ)
      → ends_at new pipe false + count_by (reads_pipe pipe) ends ≡ ends_at old pipe false
  pub writers : (pipe : ℕ)
      → ends_at new pipe true + count_by (writes_pipe pipe) ends ≡ ends_at old pipe true
  pub bytes : (pipe : ℕ) → bytes_at new pipe
      ≡ (if is_open_at new pipe then bytes_at old pipe else [])
  pub reader_counts : length new.readers ≡ 64
  pub writer_counts : length new.writers ≡ 64
  pub byte_counts : length new.bytes ≡ 64

-- a signal is pending at a process's lowest live thread, where there is one
abbrev pub posted_in : Tables → ℕ → ℕ → Tables
posted_in table p signal =
    elim (first_of (numbers_of (belongs_to p) table.threads)) [
      | None ↦ table
      | Some t ↦ thread_by (pending_with signal) table t
    ]
