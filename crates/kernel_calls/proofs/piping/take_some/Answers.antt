use Rattle.std.proofs.Common.{length, ap, sym, ◌∙◌, arith}
use Rattle.std.specs.Prelude.{min}
use Rattle.dos_world.specs.Kernel.{copied_out}
use Rattle.dos_world.specs.declared.Access.TheVariants.{Store}
use Rattle.kernel_mem.specs.MemoryWorld.{in_world}
use Rattle.kernel_objects.specs.Pipework.{Pipework, bytes_at}
use Rattle.kernel_calls.proofs.Keeping.{mapped}
use Rattle.kernel_calls.proofs.PipeBytes.{some_least, taken}
use Rattle.kernel_calls.proofs.Transferring.{counted_moved, reach_first}
use Rattle.kernel_calls.proofs.piping.take_some.Goals as goal

pub put_out-requires-clause-mapped : goal.put_out-requires-clause-mapped
put_out-requires-clause-mapped c =
    mapped c.args.state.now c.requires.sound c.args.asked.now.thread

pub put_out-requires-clause-reach : goal.put_out-requires-clause-reach
put_out-requires-clause-reach c = λ w frames.
    reach_first (in_world w frames c.args.state.now.table) c.args.asked.now.thread
    c.args.asked.now.a1 c.take_bytes-moved.result c.args.count Store
    (omega (arith, c.take_bytes-moved.ensures.count)) (c.requires.reach w frames)

pub returns-clause-goes_on : goal.returns-clause-goes_on
returns-clause-goes_on c =
    taken c.args.state.now c.requires.sound.counted c.args.asked.now c.args.pipe
    c.take_bytes-moved.result c.put_out.new.frames c.take_bytes-moved.new.pipes
    c.take_bytes-moved.new.buffer c.reply.new.state
    (c.take_bytes-moved.ensures.count
    ∙ ap (λ n. min n (length (bytes_at c.args.state.now.pipes c.args.pipe))) c.requires.count)
    (some_least c.take_bytes-moved.result c.args.count
    (length (bytes_at c.args.state.now.pipes c.args.pipe)) c.take_bytes-moved.ensures.count
    c.requires.some (λ e. c.if-len-eq0.false (c.len.ensures ∙ e)))
    (λ w. ap (λ bytes. copied_out (in_world w c.args.state.now.frames c.args.state.now.table)
    c.args.asked.now.thread c.args.asked.now.a1 bytes) (sym c.take_bytes-moved.ensures.moved)
    ∙ c.put_out.ensures.copies w)
    c.take_bytes-moved.ensures.left c.reply.ensures.answers

pub returns-clause-counted : goal.returns-clause-counted
returns-clause-counted c =
    c.reply.ensures.counted
    (counted_moved c.args.state.now c.put_out.new.frames c.take_bytes-moved.new.pipes
    c.take_bytes-moved.new.buffer c.put_out.ensures.stays.home c.put_out.ensures.stays.uses
    c.put_out.ensures.stays.frames.count
    (ap (λ (P : Pipework). P.readers) c.take_bytes-moved.ensures.left)
    (ap (λ (P : Pipework). P.writers) c.take_bytes-moved.ensures.left) c.requires.sound.counted)
