use Rattle.std.proofs.Common.{Some, subst}
use Rattle.dos_world.specs.Lawful.{IsEnd}
use Rattle.kernel_calls.proofs.Keeping.{process_alive}
use Rattle.kernel_calls.proofs.Waits.{named_range}
use Rattle.kernel_calls.proofs.waiting.awaits_bytes.Goals as goal

pub awaits_writer-requires-clause-pipe : goal.awaits_writer-requires-clause-pipe
awaits_writer-requires-clause-pipe c =
    subst (λ end. IsEnd (Some end)) c.in-Some-PipeRead.field-0-is
    (named_range c.args.state.now c.requires.sound c.args.asked.now.process c.args.asked.now.a0
    c.in-Some-PipeRead.field-0
    (process_alive c.args.state.now c.requires.sound c.args.asked.now.thread
    c.args.asked.now.process c.requires.calling.live c.requires.calling.process)
    c.in-Some-PipeRead.ensures)
