use Rattle.std.proofs.Common.{sym, ap, ◌∙◌}
use Rattle.kernel_calls.specs.StateWorld.{sent, world_of}
use Rattle.kernel_calls.specs.Built.{definition_by}
use Rattle.kernel_calls.specs.CallResults.{call_in, paid_state}
use Rattle.kernel_calls.proofs.Called.{asked, called}
use Rattle.kernel_calls.proofs.Keeping.{asked_charged}
use Rattle.kernel_calls.proofs.services.call_by.Goals as goal

pub returns-clause-asked : goal.returns-clause-asked
returns-clause-asked c =
    asked_charged c.args.state.now
    (asked c.args.tid c.process_of.result c.get.result c.get-2.result c.get-3.result)
    c.requires.live c.requires.ready c.process_of.ensures

pub returns-clause-calls : goal.returns-clause-calls
returns-clause-calls c = λ q o e.
    called c.args.state.now c.args.tid c.process_of.result c.get.result c.get-2.result
    c.get-3.result c.get-4.result c.regs.result.now c.requires.live c.regs.ensures
    c.process_of.ensures c.get.ensures c.get-2.ensures c.get-3.ensures c.get-4.ensures q o e
    ∙ ap (λ found. definition_by found
    (call_in (sent o e (world_of q (paid_state c.args.state.now c.args.tid)))
    (asked c.args.tid c.process_of.result c.get.result c.get-2.result c.get-3.result)))
    (sym c.service_named.ensures)
