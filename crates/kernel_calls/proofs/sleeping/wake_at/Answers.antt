use Rattle.std.proofs.Common.{List, length, sym, ap, ◌∙◌, arith}
use Rattle.dos_world.specs.World.{World, Process}
use Rattle.dos_world.specs.FutexCalls.{sleepers_at}
use Rattle.dos_world.specs.Play.{done}
use Rattle.dos_world.specs.Services.{Call, went, returns_in}
use Rattle.kernel_calls.specs.StateWorld.{sent, world_of}
use Rattle.kernel_calls.specs.CallResults.{call_in}
use Rattle.kernel_calls.specs.Queued.{queued}
use Rattle.kernel_calls.specs.declared.state.State.{State}
use Rattle.kernel_calls.proofs.Counted.{all_counted, counted-queue, counted-table}
use Rattle.kernel_calls.proofs.Queued.{lawful_queued}
use Rattle.kernel_calls.proofs.sleeping.wake_at.Goals as goal

pub wake_first-woken-requires : goal.wake_first-woken-requires
wake_first-woken-requires c = record {
  queued = lawful_queued (world_of 16 c.args.state.now)
      (c.requires.sound.lawful 16 (omega arith) (omega arith));
}

pub reply-requires : goal.reply-requires
reply-requires c = record {
  live = c.wake_first-woken.ensures.lives c.args.asked.now.thread c.requires.asked.live;
}

pub returns-clause-goes_on : goal.returns-clause-goes_on
returns-clause-goes_on c = λ q o e.
    let w : World = sent o e (world_of q c.args.state.now) in
    let call : Call = call_in w c.args.asked.now in
    ap (λ v. returns_in v (length (sleepers_at c.args.entry call)) call)
    (c.wake_first-woken.ensures.wakes w)
    ∙ ap (λ n. returns_in (queued w c.wake_first-woken.new.table c.wake_first-woken.new.futexes) n
    call) (sym c.wake_first-woken.ensures.count)
    ∙ ap (λ (s : State). done (went (sent o e (world_of q s)))) (sym c.reply.ensures.answers)

pub returns-clause-counted : goal.returns-clause-counted
returns-clause-counted c = counted-table
    (record c.args.state.now { futexes = c.wake_first-woken.new.futexes })
    c.reply.new.state _
    (counted-queue c.args.state.now c.wake_first-woken.new.futexes
    c.requires.sound.counted)
    c.reply.ensures.answers
    (ap (λ (ps : List Process). all_counted ps) c.wake_first-woken.ensures.processes)
    c.wake_first-woken.ensures.room
