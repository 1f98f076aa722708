-- Pipes as they are told.
use Rattle.std.proofs.Common.{◌≡◌, ℕ, ◌+◌, List, [], length, ap, ◌∙◌, arith, false, true}
use Rattle.std.proofs.Common.{get_or}
use Rattle.kernel_objects.specs.Pipework.{bytes_at, ends_at}
use Rattle.dos_world.specs.Counts.{reads_pipe}
use Rattle.kernel_calls.specs.StateWorld.{IsSound, world_of, ends_of}
use Rattle.kernel_calls.specs.declared.state.State.{State}
use Rattle.kernel_calls.proofs.Keeping.{lawful_now}
use Rattle.debug_session.specs.Tables.{counted_line, pipe_line}

module _ (s : State) (sound : IsSound s) where
  pub pipe_count : length s.pipes.bytes ≡ 64
  pipe_count = (lawful_now s sound).pipes.ranges.0

  pub pipe_row : (q pipe count readers writers : ℕ) → count ≡ length (bytes_at s.pipes pipe)
      → readers ≡ ends_at s.pipes pipe false → writers ≡ ends_at s.pipes pipe true
      → counted_line pipe count readers writers
      ≡ pipe_line (world_of q s) (0 + pipe) (get_or s.pipes.bytes pipe [])
  pipe_row q pipe count readers writers many reading writing =
      let first : pipe ≡ 0 + pipe = omega arith in
      let held : List ℕ = get_or s.pipes.bytes pipe [] in
      ap (λ n. counted_line pipe n readers writers) many
      ∙ ap (λ n. counted_line pipe (length held) n writers)
      (reading ∙ sound.counted.ends.readers pipe)
      ∙ ap (λ n. counted_line pipe (length held) (ends_of (reads_pipe pipe) s.table.processes) n)
      (writing ∙ sound.counted.ends.writers pipe)
      ∙ ap (λ n. pipe_line (world_of q s) n held) first
