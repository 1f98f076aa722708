use Rattle.std.proofs.Common.{refl, ap}
use Rattle.dos_world.specs.Play.{asks}
use Rattle.dos_world.specs.Services.{read_input}
use Rattle.dos_world.specs.declared.Access.TheVariants.{Store}
use Rattle.dos_world.specs.declared.Question.TheVariants.{Input as input_question}
use Rattle.kernel_mem.specs.MemoryWorld.{in_world}
use Rattle.kernel_calls.specs.CallResults.{call_in}
use Rattle.kernel_calls.proofs.InputRows.{input_asked, input_plays}
use Rattle.kernel_calls.proofs.Keeping.{mapped}
use Rattle.kernel_calls.proofs.ServicePlays.{plays_stopped}
use Rattle.kernel_calls.proofs.Transferring.{counted_moved, reach_first}
use Rattle.kernel_calls.proofs.reading.ask_input.Goals as goal

pub put_out-requires-clause-mapped : goal.put_out-requires-clause-mapped
put_out-requires-clause-mapped g c =
    mapped c.args.state.now c.requires.sound c.args.asked.now.thread

pub put_out-requires-clause-reach : goal.put_out-requires-clause-reach
put_out-requires-clause-reach g c = λ w frames.
    reach_first (in_world w frames c.args.state.now.table) c.args.asked.now.thread
    c.args.asked.now.a1 c.in-Ok.moved c.args.count Store c.in-Ok.ensures.within
    (c.requires.reach w frames)

pub returns-in-Ok-clause-plays : goal.returns-in-Ok-clause-plays
returns-in-Ok-clause-plays g c =
    input_plays c.args.state.now c.args.asked.now c.args.count c.in-Ok.moved
    c.put_out.new.frames c.input_into.new.buffer (g.B.Border.state c.args.border.now)
    (g.B.Border.state c.input_into.new.border) c.reply.new.state c.requires.sound.counted.round
    c.requires.count c.in-Ok.ensures.within c.in-Ok.ensures.length c.in-Ok.ensures.bytes
    c.in-Ok.ensures.ok c.put_out.ensures.copies c.reply.ensures.answers

pub returns-in-Ok-clause-counted : goal.returns-in-Ok-clause-counted
returns-in-Ok-clause-counted g c =
    c.reply.ensures.counted
    (counted_moved c.args.state.now c.put_out.new.frames c.args.state.now.pipes
    c.input_into.new.buffer c.put_out.ensures.stays.home c.put_out.ensures.stays.uses
    c.put_out.ensures.stays.frames.count refl refl c.requires.sound.counted)

pub returns-in-Err-clause-plays : goal.returns-in-Err-clause-plays
returns-in-Err-clause-plays g c =
    let s = c.args.state.now in
    let a = c.args.asked.now in
    plays_stopped (λ w. read_input (call_in w a)) (input_question s.round a.thread c.args.count) s
    (record s { buffer = c.input_into.new.buffer }) c.run_stop.result c.in-Err.stop _ _ tt
    (λ q o e. ap (λ question. asks question o e)
    (input_asked s a c.args.count c.requires.sound.counted.round c.requires.count))
    c.run_stop.ensures c.in-Err.ensures.err
