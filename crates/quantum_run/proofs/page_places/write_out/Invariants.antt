use Rattle.std.proofs.Common.{◌≡◌, ◌≤◌, length}
use Rattle.std.specs.Vec.{vec_capacity}
use Rattle.quantum_run.specs.PagePlaces.{filled_up}
use Rattle.quantum_run.proofs.page_places.write_out.Given as goal

abbrev pub invariant-loop-place : goal.invariant-loop-place
invariant-loop-place l = (l.pages.items ≡ filled_up l.fn.pages.items l._place)
    × (vec_capacity l.pages ≡ vec_capacity l.fn.pages)
    × (length l.fn.pages.items ≤ l._place)
