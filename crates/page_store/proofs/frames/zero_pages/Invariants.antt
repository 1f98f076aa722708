use Rattle.std.proofs.Common.{◌≡◌, Some, replicate}
use Rattle.dos_world.specs.Kernel.{zero_page}
use Rattle.page_store.proofs.frames.zero_pages.Given as goal

abbrev pub invariant-loop-place : goal.invariant-loop-place
invariant-loop-place l = l.pages.items ≡ replicate l._place (Some zero_page)
