use Rattle.std.proofs.Common.{take, ap, sym, ◌∙◌, arith}
use Rattle.dos_world.specs.declared.Access.TheVariants.{Load}
use Rattle.proc_table.specs.Tables.{Tables}
use Rattle.kernel_mem.specs.MemoryWorld.{in_world}
use Rattle.kernel_objects.specs.Pipework.{Pipework}
use Rattle.kernel_calls.specs.declared.state.State.{State}
use Rattle.kernel_calls.proofs.Keeping.{mapped}
use Rattle.kernel_calls.proofs.PipeBytes.{awaits_room, given, no_reader, retry_counted, room_is}
use Rattle.kernel_calls.proofs.Transferring.{counted_moved, reach_first, still_home}
use Rattle.kernel_calls.proofs.piping.give_some.Goals as goal

pub returns-then-ends-eq0-clause-goes_on : goal.returns-then-ends-eq0-clause-goes_on
returns-then-ends-eq0-clause-goes_on c =
    no_reader c.args.state.now c.requires.sound.counted c.args.asked.now c.args.pipe
    c.refuse_call.new.state (sym c.ends.ensures ∙ c.if-ends-eq0.true)
    c.refuse_call.ensures.answers

pub returns-then-moved-eq0-clause-goes_on : goal.returns-then-moved-eq0-clause-goes_on
returns-then-moved-eq0-clause-goes_on c =
    awaits_room c.args.state.now c.requires.sound.counted c.args.asked.now c.args.pipe _
    (λ e. c.if-ends-eq0.false (c.ends.ensures ∙ e))
    (sym (room_is c.args.state.now c.requires.sound.counted c.args.asked.now c.args.pipe
    c.min-moved.result c.args.count c.len.result c.min-moved.ensures c.requires.count
    c.len.ensures) ∙ c.if-moved-eq0.true)
    (ap (λ (T : Tables). with_table c.args.state.now T) c.set_state.ensures)
  where
    with_table : State → Tables → State
    with_table s T = record s { table = T }

pub returns-then-moved-eq0-clause-counted : goal.returns-then-moved-eq0-clause-counted
returns-then-moved-eq0-clause-counted c = retry_counted c.args.state.now c.args.asked.now.thread
    c.set_state.new.self c.set_state.ensures c.requires.sound.counted

pub fill-requires-clause-mapped : goal.fill-requires-clause-mapped
fill-requires-clause-mapped c = mapped c.args.state.now c.requires.sound c.args.asked.now.thread

pub fill-requires-clause-reach : goal.fill-requires-clause-reach
fill-requires-clause-reach c = λ w frames.
    reach_first (in_world w frames c.args.state.now.table) c.args.asked.now.thread
    c.args.asked.now.a1 c.min-moved.result c.args.count Load
    (omega (arith, c.min-moved.ensures)) (c.requires.reach w frames)

pub returns-clause-goes_on : goal.returns-clause-goes_on
returns-clause-goes_on c =
    given c.args.state.now c.requires.sound.counted c.args.asked.now c.args.pipe
    c.min-moved.result c.fill.new.frames c.give_bytes.new.pipes
    (take c.min-moved.result c.fill.new.buffer) c.fill.new.buffer c.reply.new.state
    (λ e. c.if-ends-eq0.false (c.ends.ensures ∙ e))
    (room_is c.args.state.now c.requires.sound.counted c.args.asked.now c.args.pipe
    c.min-moved.result c.args.count c.len.result c.min-moved.ensures c.requires.count
    c.len.ensures) c.if-moved-eq0.false c.fill.ensures.copies c.give_bytes.ensures
    c.reply.ensures.answers

pub returns-clause-counted : goal.returns-clause-counted
returns-clause-counted c =
    c.reply.ensures.counted
    (counted_moved c.args.state.now c.fill.new.frames c.give_bytes.new.pipes c.fill.new.buffer
    (still_home c.args.state.now.frames c.fill.new.frames c.fill.ensures.stays
    c.requires.sound.counted.home) c.fill.ensures.stays.uses c.fill.ensures.stays.frames.count
    (ap (λ (P : Pipework). P.readers) c.give_bytes.ensures)
    (ap (λ (P : Pipework). P.writers) c.give_bytes.ensures) c.requires.sound.counted)
