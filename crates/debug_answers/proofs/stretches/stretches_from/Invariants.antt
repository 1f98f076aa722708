use Rattle.std.proofs.Common.{◌≡◌, ℕ, ◌++◌, length, drop}
use Rattle.dos_world.specs.Lawful.{IsPage}
use Rattle.kernel_objects.specs.Pipework.{vector_bytes}
use Rattle.kernel_calls.specs.StateWorld.{world_of}
use Rattle.debug_session.specs.Pages.{stretches_from, stretches_of}
use Rattle.debug_answers.proofs.stretches.stretches_from.Given as goal

abbrev pub invariant-loop-place : goal.invariant-loop-place
invariant-loop-place l = record {
  told : (q : ℕ)
      → vector_bytes l.lines.items
      ++ stretches_from (world_of q l.state) l.first l.last (drop l.place l.space.entries)
      ≡ stretches_of (world_of q l.state) l.space.entries;
  first : IsPage (length l.state.frames.owners) l.first;
  last : IsPage (length l.state.frames.owners) l.last;
}
