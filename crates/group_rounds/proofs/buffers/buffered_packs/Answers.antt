use Rattle.std.proofs.Common.{◌∙◌, ap, sym, subst, arith}
use Rattle.quantum_run.specs.Packs.{empty_writing}
use Rattle.quantum_run.specs.Shows.{Pack}
use Rattle.kernel_calls.specs.StateWorld.{sent, world_of}
use Rattle.kernel_calls.specs.declared.state.State.{State}
use Rattle.worker_pool.specs.Ran.{GrewBy}
use Rattle.group_rounds.proofs.BuffersRan.{all-can-be-put, all-can-write, as-filled, as-left}
use Rattle.group_rounds.proofs.BuffersRan.{none-written}
use Rattle.group_rounds.proofs.BuffersRan.{left-spare, puts-all, work-left}
use Rattle.group_rounds.proofs.buffers.buffered_packs.Goals as goal

pub fill_each-requires-clause-empty : goal.fill_each-requires-clause-empty
fill_each-requires-clause-empty g c =
    λ p here. ap (λ (q : Pack). q.pages) (c.requires.spare p here)

pub run_and_put-requires-clause-count : goal.run_and_put-requires-clause-count
run_and_put-requires-clause-count g c =
    let level = as-filled c.args.state.now c.requires.sound c.args.starters.now c.requires.live
    c.fill_each.new.packs.items (c.fill_each.ensures.fills empty_writing c.requires.spare) in
    omega (arith, level, c.requires.few)

pub run_and_put-requires-clause-can : goal.run_and_put-requires-clause-can
run_and_put-requires-clause-can g c κs within =
    all-can-write c.args.state.now c.requires.sound c.args.starters.now c.requires.live
    c.fill_each.new.packs.items (c.fill_each.ensures.fills empty_writing c.requires.spare)

pub run_and_put-requires-clause-words : goal.run_and_put-requires-clause-words
run_and_put-requires-clause-words g c κs within =
    none-written c.args.state.now c.requires.sound c.args.starters.now c.requires.live
    c.fill_each.new.packs.items (c.fill_each.ensures.fills empty_writing c.requires.spare)

pub run_and_put-requires-clause-parts : goal.run_and_put-requires-clause-parts
run_and_put-requires-clause-parts g c κs within = λ after ran.
    all-can-be-put c.args.state.now c.requires.sound c.args.starters.now c.requires.live
    c.fill_each.new.packs.items (c.fill_each.ensures.fills empty_writing c.requires.spare)
    c.requires.apart after ran

pub keep_each-requires-clause-room : goal.keep_each-requires-clause-room
keep_each-requires-clause-room g c =
    let level = as-left c.args.state.now c.requires.sound c.args.starters.now c.requires.live
    c.fill_each.new.packs.items (c.fill_each.ensures.fills empty_writing c.requires.spare)
    c.requires.apart c.run_and_put.new.packs.items c.run_and_put.ensures.runs in
    omega (
      arith,
      level,
      c.fill_each.ensures.less,
      c.fill_each.ensures.spare_room,
      c.requires.spare_room,
    )

pub keep_each-requires-clause-packs : goal.keep_each-requires-clause-packs
keep_each-requires-clause-packs g c =
    left-spare c.args.state.now c.requires.sound c.args.starters.now c.requires.live
    c.fill_each.new.packs.items (c.fill_each.ensures.fills empty_writing c.requires.spare)
    c.requires.apart c.run_and_put.new.packs.items c.run_and_put.ensures.runs

pub keep_each-requires-clause-spare : goal.keep_each-requires-clause-spare
keep_each-requires-clause-spare g c = c.fill_each.ensures.spare empty_writing c.requires.spare

pub returns-clause-parts : goal.returns-clause-parts
returns-clause-parts g c =
    let s : State = c.args.state.now in
    let e = c.run_and_put.ensures in
    record {
      runs = λ q o e'.
          sym (puts-all s c.requires.sound c.args.starters.now c.requires.live
          c.fill_each.new.packs.items
          (c.fill_each.ensures.fills empty_writing c.requires.spare) c.requires.apart
          c.run_and_put.new.packs.items e.runs (sent o e' (world_of q s)) q o e')
          ∙ e.puts q o e';
      sound = e.sound;
      round = e.round;
      count = e.count;
    }

pub returns-clause-tally : goal.returns-clause-tally
returns-clause-tally g c =
    let s : State = c.args.state.now in
    let s2 : State = c.run_and_put.new.state in
    subst (λ work. GrewBy (g.W.Workers.tally c.args.workers.now)
    (g.W.Workers.tally c.run_and_put.new.workers) work)
    (work-left s c.requires.sound c.args.starters.now c.requires.live
    c.fill_each.new.packs.items (c.fill_each.ensures.fills empty_writing c.requires.spare)
    c.requires.apart c.run_and_put.new.packs.items c.run_and_put.ensures.runs s2
    c.run_and_put.ensures.puts) c.run_and_put.ensures.tally

pub returns-clause-enough : goal.returns-clause-enough
returns-clause-enough g c =
    let level = as-left c.args.state.now c.requires.sound c.args.starters.now c.requires.live
    c.fill_each.new.packs.items (c.fill_each.ensures.fills empty_writing c.requires.spare)
    c.requires.apart c.run_and_put.new.packs.items c.run_and_put.ensures.runs in
    omega (arith, level, c.fill_each.ensures.less, c.keep_each.ensures.count)
