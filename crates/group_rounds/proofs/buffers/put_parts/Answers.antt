use Rattle.std.proofs.Common.{◌+◌, ◌∙◌, ◌∷◌, ap, sym, drop, drop_of_length-le}
use Rattle.quantum_run.specs.Shows.{Pack}
use Rattle.kernel_calls.specs.StateWorld.{sent, world_of}
use Rattle.kernel_calls.proofs.Staying.{stays-then}
use Rattle.group_rounds.specs.Buffers.{parts_put}
use Rattle.group_rounds.proofs.BuffersRan.{count-same, drop-pack, still-put}
use Rattle.group_rounds.proofs.buffers.put_parts.Goals as goal

pub loop-place-preserved : goal.loop-place-preserved
loop-place-preserved c =
    let s = c.loop-place.state in
    let s' = c.put_part.new.state in
    let p : Pack = c.index-packs-place.result in
    let puts = c.put_part.ensures.puts in
    let inv = c.loop-place.invariant in
    let ps = c.args.packs.now in
    let i = c.loop-place.place in
    record {
      puts = λ q o e. inv.puts q o e
          ∙ ap (parts_put (sent o e (world_of q s))) (drop-pack ps i p c.loop-place-test.true)
          ∙ ap (λ (first : Pack). parts_put (sent o e (world_of q s)) (first ∷ drop (i + 1) ps))
          (sym c.index-packs-place.is)
          ∙ ap (λ w. parts_put w (drop (i + 1) ps)) (puts q o e);
      sound = c.put_part.ensures.sound;
      round = stays-then c.put_part.ensures.round inv.round;
      count = count-same s s' p puts ∙ inv.count;
      parts = λ k d lt. still-put s s' p puts _ (inv.parts k d lt);
    }

pub returns-clause-puts : goal.returns-clause-puts
returns-clause-puts c = λ q o e.
    c.loop-place.invariant.puts q o e
    ∙ ap (parts_put (sent o e (world_of q c.loop-place.state)))
    (drop_of_length-le c.args.packs.now c.loop-place-test.false)
