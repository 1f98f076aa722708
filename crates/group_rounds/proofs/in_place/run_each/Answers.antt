use Rattle.std.proofs.Common.{ap, ◌∙◌, refl, arith}
use Rattle.std.proofs.lemmas.Option.{slice_get-get_or}
use Rattle.flat_machine.specs.Round.{all_alone}
use Rattle.kernel_calls.specs.StateWorld.{sent, world_of}
use Rattle.kernel_calls.proofs.Staying.{stays-then}
use Rattle.group_rounds.proofs.InPlaceLaws.{alone_next, alone_live, alone_paid}
use Rattle.group_rounds.proofs.PhaseLaws.{drop_out}
use Rattle.group_rounds.proofs.in_place.run_each.Goals as goal

pub loop-tid-preserved : goal.loop-tid-preserved
loop-tid-preserved g c =
    let s = c.loop-tid.state in
    let s' = c.run_alone.new.state in
    let runs = c.run_alone.ensures.runs in
    let xs = c.args.starters.now in
    let i = c.loop-tid.tid-index in
    let inv = c.loop-tid.invariant in
    let before = inv.paid in
    let one = alone_paid s s' _ runs c.run_alone.result xs i c.run_alone.ensures.paid
    (slice_get-get_or xs i 0 c.loop-tid-test.true) c.requires.apart in
    let few = inv.few in
    let more = c.run_alone.type_inv in
    let from = c.from-work.ensures in
    record {
      runs = λ q o e. inv.runs q o e
          ∙ alone_next s s' _ runs xs i c.loop-tid-test.true refl q o e;
      sound = c.run_alone.ensures.sound;
      round = stays-then c.run_alone.ensures.round inv.round;
      count = c.run_alone.ensures.count ∙ inv.count;
      live = alone_live s s' _ runs xs inv.live;
      paid = omega (arith, before, one, from);
      few = omega (arith, few, more, from);
    }

pub returns-clause-parts : goal.returns-clause-parts
returns-clause-parts g c =
    let inv = c.loop-tid.invariant in
    record {
      runs = λ q o e. inv.runs q o e
          ∙ ap (all_alone (sent o e (world_of q c.loop-tid.state)))
          (drop_out c.args.starters.now c.loop-tid.tid-index c.loop-tid-test.false);
      sound = inv.sound;
      round = inv.round;
      count = inv.count;
    }
