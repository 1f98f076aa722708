use Rattle.std.proofs.Common.{◌≡◌, Bool, true, false, cond, List, Option, Some, None, IfSome, refl}
use Rattle.std.proofs.Common.{sym, ap, ◌∙◌, arith}
use Rattle.std.specs.Prelude.{◌==◌}
use Rattle.std.proofs.lemmas.Bool.Decides.{nat_tests}
use Rattle.dos_world.specs.World.{World, Sleeper, Thread}
use Rattle.dos_world.specs.FutexCalls.{asleep_at}
use Rattle.dos_world.specs.Lawful.{turns_asleep}
use Rattle.dos_world.specs.Play.{done}
use Rattle.dos_world.specs.Services.{Call, waits, went, refuses_in}
use Rattle.dos_world.specs.declared.ThreadState.TheVariants.{Ready}
use Rattle.dos_laws.proofs.Mapped.{entry_taken}
use Rattle.proc_table.specs.Tables.{Tables, thread_in}
use Rattle.kernel_mem.specs.MemoryWorld.{in_world}
use Rattle.kernel_calls.specs.StateWorld.{sent, world_of}
use Rattle.kernel_calls.specs.CallResults.{call_in}
use Rattle.kernel_calls.specs.declared.state.State.{State}
use Rattle.kernel_calls.proofs.Counted.{all_counted, counted-frames, counted-queue, counted-table}
use Rattle.kernel_calls.proofs.Keeping.{mapped}
use Rattle.kernel_calls.proofs.Queued.{queue_room}
use Rattle.kernel_calls.proofs.WordCalls.{wait_looked}
use Rattle.kernel_calls.proofs.sleeping.wait_at.Goals as goal

pub grant_load-requires-clause-mapped : goal.grant_load-requires-clause-mapped
grant_load-requires-clause-mapped c =
    mapped c.args.state.now c.requires.sound c.args.asked.now.thread

pub word_at-requires-clause-frame : goal.word_at-requires-clause-frame
word_at-requires-clause-frame c =
    let taken = entry_taken (world_of 16 c.args.state.now) c.args.asked.now.thread
    c.args.asked.now.a0 c.args.entry
    (c.requires.sound.lawful 16 (omega arith) (omega arith)) c.requires.entry in
    omega (arith, c.grant_load.ensures.stays.frames.count, taken.within)

pub add-requires : goal.add-requires
add-requires c = record {
  room = queue_room (world_of 16 c.args.state.now) c.args.asked.now.thread
      (c.requires.sound.lawful 16 (omega arith) (omega arith)) c.requires.asked.live
      (up (thread_in c.args.state.now.table.threads c.args.asked.now.thread)
      c.requires.asked.ready);
}
  where
    up : (o : Option Thread) → IfSome o (λ thread. thread.state ≡ Ready) → turns_asleep o ≡ 0
    up None ready = refl
    up (Some thread) ready = ap (λ s. turns_asleep (Some (record thread { state = s }))) ready

pub returns-then-word_at-asked-clause-goes_on : goal.returns-then-word_at-asked-clause-goes_on
returns-then-word_at-asked-clause-goes_on c = λ q o e.
    let differs : (c.word_at.result == c.args.asked.now.a1) ≡ false =
    grind (arith, nat_tests, c.if-word_at-asked.true) in
    let v : World = in_world (sent o e (world_of q c.args.state.now)) c.grant_load.new.frames
    c.args.state.now.table in
    let call : Call = call_in (sent o e (world_of q c.args.state.now)) c.args.asked.now in
    wait_looked c.args.state.now c.args.asked.now c.args.entry c.word_at.result
    c.grant_load.new.frames c.grant_load.ensures.stays.pages c.grant_load.ensures.opens
    c.word_at.ensures q o e
    ∙ ap (λ (b : Bool). cond b (done (waits (asleep_at v c.args.entry call)))
    (refuses_in v 11 call)) differs
    ∙ ap (λ (s : State). done (went (sent o e (world_of q s)))) (sym c.refuse_call.ensures.answers)

pub returns-then-word_at-asked-clause-counted : goal.returns-then-word_at-asked-clause-counted
returns-then-word_at-asked-clause-counted c = counted-table
    (record c.args.state.now { frames = c.grant_load.new.frames }) c.refuse_call.new.state _
    (counted-frames c.args.state.now c.grant_load.new.frames c.grant_load.ensures.stays
    c.requires.sound.counted) c.refuse_call.ensures.answers refl refl

pub returns-clause-goes_on : goal.returns-clause-goes_on
returns-clause-goes_on c = λ q o e.
    let same : (c.word_at.result == c.args.asked.now.a1) ≡ true =
    grind (arith, nat_tests, c.if-word_at-asked.false) in
    let v : World = in_world (sent o e (world_of q c.args.state.now)) c.grant_load.new.frames
    c.args.state.now.table in
    let call : Call = call_in (sent o e (world_of q c.args.state.now)) c.args.asked.now in
    wait_looked c.args.state.now c.args.asked.now c.args.entry c.word_at.result
    c.grant_load.new.frames c.grant_load.ensures.stays.pages c.grant_load.ensures.opens
    c.word_at.ensures q o e
    ∙ ap (λ (b : Bool). cond b (done (waits (asleep_at v c.args.entry call)))
    (refuses_in v 11 call)) same
    ∙ ap (λ (T : Tables). done (waits (sent o e (world_of q (record c.args.state.now {
      frames = c.grant_load.new.frames;
      table = T;
      futexes = (asleep_at v c.args.entry call).sleepers;
    }))))) (sym c.set_state.ensures)
    ∙ ap (λ (queue : List Sleeper). done (waits (sent o e (world_of q (record c.args.state.now {
      frames = c.grant_load.new.frames;
      table = c.set_state.new.self;
      futexes = queue;
    }))))) (sym c.add.ensures)

pub returns-clause-counted : goal.returns-clause-counted
returns-clause-counted c =
    let granted : State = record c.args.state.now { frames = c.grant_load.new.frames } in
    let asleep : State = record granted { table = c.set_state.new.self } in
    counted-queue asleep c.add.new.self
    (counted-table granted asleep c.set_state.new.self
    (counted-frames c.args.state.now c.grant_load.new.frames c.grant_load.ensures.stays
    c.requires.sound.counted) refl
    (ap (λ (T : Tables). all_counted T.processes) c.set_state.ensures)
    (ap (λ (T : Tables). T.room) c.set_state.ensures))
