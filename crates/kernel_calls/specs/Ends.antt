-- Ends of pipes that descriptors come to name. This project's own rules.
use Rattle.std.specs.Prelude.{◌≡◌, ◌<◌, ◌+◌, ℕ, Bool, true, false}
use Rattle.dos_world.specs.declared.End.{End}
use Rattle.dos_world.specs.declared.End.TheVariants.{PipeRead, PipeWrite}
use Rattle.kernel_objects.specs.Pipework.{Pipework, ends_at, is_open_at, with_ends}

-- a pipe that is open, and may have an end of this kind more
pub record HasRoomForEnd (pipe : ℕ) (writer : Bool) (s : Pipework) : Type 0 where
  pub number : pipe < 64
  pub opened : is_open_at s pipe ≡ true
  pub few : ends_at s pipe writer < 1024

-- so is the pipe of an end, where it is a pipe's
abbrev pub CanHave : End → Pipework → Type 0
CanHave (PipeRead pipe) s = HasRoomForEnd pipe false s
CanHave (PipeWrite pipe) s = HasRoomForEnd pipe true s
CanHave _ s = Unit {0}

-- the pipes with one end more, where it is a pipe's
abbrev pub with_end_more : End → Pipework → Pipework
with_end_more (PipeRead pipe) s = with_ends s pipe false (ends_at s pipe false + 1)
with_end_more (PipeWrite pipe) s = with_ends s pipe true (ends_at s pipe true + 1)
with_end_more _ s = s
