-- What a child's descriptors do to pipes. This project's own rules.
use Rattle.std.specs.Prelude.{◌≡◌, ◌≤◌, ◌+◌, ℕ, true, false, List, length, count_by, Option, Some}
use Rattle.std.specs.Prelude.{None}
use Rattle.dos_world.specs.Counts.{reads_pipe, writes_pipe}
use Rattle.dos_world.specs.declared.End.{End}
use Rattle.kernel_objects.specs.Pipework.{Pipework, ends_at}
use Rattle.kernel_calls.specs.Ending.{AreNamed}
use Rattle.kernel_calls.specs.Ends.{CanHave, with_end_more}

-- a pipe that a descriptor names can have that end more
abbrev pub CanName : Option End → Pipework → Type 0
CanName None s = Unit {0}
CanName (Some end) s = CanHave end s

-- the pipes with the end more that a descriptor names
abbrev pub with_named : Option End → Pipework → Pipework
with_named None s = s
with_named (Some end) s = with_end_more end s

-- All ends that these descriptors name are those of their pipes, and may come once more.
pub record CanComeAgain (ends : List (Option End)) (s : Pipework) : Type 0 where
  pub named : AreNamed ends s
  pub readers : (pipe : ℕ) → ends_at s pipe false + count_by (reads_pipe pipe) ends ≤ 1024
  pub writers : (pipe : ℕ) → ends_at s pipe true + count_by (writes_pipe pipe) ends ≤ 1024

-- The ends that these descriptors name have come once more. No byte moves.
pub record AreAdded (ends : List (Option End)) (old new : Pipework) : Type 0 where
  pub readers : (pipe : ℕ)
      → ends_at new pipe false ≡ ends_at old pipe false + count_by (reads_pipe pipe) ends
  pub writers : (pipe : ℕ)
      → ends_at new pipe true ≡ ends_at old pipe true + count_by (writes_pipe pipe) ends
  pub bytes : new.bytes ≡ old.bytes
  pub reader_counts : length new.readers ≡ 64
  pub writer_counts : length new.writers ≡ 64
