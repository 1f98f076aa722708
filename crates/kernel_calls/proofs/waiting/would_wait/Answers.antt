use Rattle.std.proofs.Common.{sym, ap, ◌∙◌}
use Rattle.dos_world.specs.Calls.{Call, Service}
use Rattle.dos_world.specs.Signals.{play_waits}
use Rattle.kernel_calls.specs.StateWorld.{sent, world_of}
use Rattle.kernel_calls.specs.CallResults.{call_in, paid_state}
use Rattle.kernel_calls.proofs.Called.{asked, called}
use Rattle.kernel_calls.proofs.Named.{named_is}
use Rattle.kernel_calls.proofs.waiting.would_wait.Goals as goal

pub returns : goal.returns
returns c = λ q o e.
    let call : Call = call_in (sent o e (world_of q (paid_state c.args.state.now c.args.tid)))
    (asked c.args.tid c.process_of.result c.get.result c.get-2.result c.get-3.result) in
    c.waits.ensures q o e
    ∙ sym (ap play_waits
    (called c.args.state.now c.args.tid c.process_of.result c.get.result c.get-2.result
    c.get-3.result c.get-4.result c.regs.result.now c.requires.live c.regs.ensures
    c.process_of.ensures c.get.ensures c.get-2.ensures c.get-3.ensures c.get-4.ensures q o e
    ∙ ap (λ (f : Service). f call) (sym (named_is c.get-4.result))))
