use Rattle.std.proofs.Common.{◌≡◌, replicate}
use Rattle.space_map.specs.Mapping.{empty}
use Rattle.proc_table.proofs.processes.empty_spaces.Given as goal

abbrev pub invariant-loop-place : goal.invariant-loop-place
invariant-loop-place l = l.spaces.items ≡ replicate l._place (empty l.frames)
