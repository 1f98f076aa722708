use Rattle.std.proofs.Common.{ℕ, ◌+◌, List, Option, ◌∷◌, ◌∙◌, sym, ap, arith}
use Rattle.dos_world.specs.World.{Thread, flat}
use Rattle.debug_client.specs.Births.{process_of_thread, homes_behind}
use Rattle.debug_client.proofs.Walked.{one_put, at_place, numbered_next, row_here}
use Rattle.debug_client.proofs.births.note_homes.Goals as goal

pub loop-place-preserved : goal.loop-place-preserved
loop-place-preserved c =
    let threads : List (Option Thread) = c.args.table.now.threads in
    let i = c.loop-place.place in
    let here = at_place threads i
    (omega (arith, c.loop-place-test.true, c.threads-place-end.ensures)) in
    one_put c.loop-place.homes.items _ c.home_at.result c.push.new.self.items
    (homes_behind i threads) (homes_behind (i + 1) threads) c.loop-place.invariant
    (row_here (λ (t : ℕ) (thread : Option Thread). process_of_thread thread) threads i here.0 here.1
    ∙ ap (λ (o : Option ℕ). o ∷ homes_behind (i + 1) threads)
    (sym (c.home_at.ensures
    ∙ ap (λ (o : Option (Option Thread)). process_of_thread (flat o))
    (numbered_next threads i here.0 here.1))))
    c.in_ok-push.ensures.items
