use Rattle.std.proofs.Common.{ℕ, ◌+◌, List, Option, ◌∷◌, ◌∙◌, sym, ap, arith}
use Rattle.dos_world.specs.World.{Process}
use Rattle.debug_client.specs.Births.{first_in, firsts_behind}
use Rattle.debug_client.proofs.Walked.{one_put, at_place, row_here}
use Rattle.debug_client.proofs.births.note_first_threads.Goals as goal

pub loop-place-preserved : goal.loop-place-preserved
loop-place-preserved c =
    let processes : List Process = c.args.table.now.processes in
    let threads = c.args.table.now.threads in
    let i = c.loop-place.place in
    let here = at_place processes i
    (omega (arith, c.loop-place-test.true, c.processes-place-end.ensures)) in
    one_put c.loop-place.firsts.items _ c.first_thread.result c.push.new.self.items
    (firsts_behind i processes threads) (firsts_behind (i + 1) processes threads)
    c.loop-place.invariant
    (row_here (λ (p : ℕ) (process : Process). first_in threads p) processes i here.0 here.1
    ∙ ap (λ (o : Option ℕ). o ∷ firsts_behind (i + 1) processes threads)
    (sym c.first_thread.ensures))
    c.in_ok-push.ensures.items
