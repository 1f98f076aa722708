use Rattle.std.proofs.Common.{sym, ap, ◌∙◌}
use Rattle.proc_table.specs.Tables.{Tables}
use Rattle.kernel_calls.specs.declared.state.State.{State}
use Rattle.kernel_calls.proofs.PipeBytes.{at_end, awaits_bytes, retry_counted}
use Rattle.kernel_calls.proofs.piping.read_empty.Goals as goal

pub returns-then-ends-eq0-clause-goes_on : goal.returns-then-ends-eq0-clause-goes_on
returns-then-ends-eq0-clause-goes_on c =
    at_end c.args.state.now c.requires.sound.counted c.args.asked.now c.args.pipe c.reply.new.state
    c.requires.empty (sym c.ends.ensures ∙ c.if-ends-eq0.true) c.reply.ensures.answers

pub returns-clause-goes_on : goal.returns-clause-goes_on
returns-clause-goes_on c =
    awaits_bytes c.args.state.now c.requires.sound.counted c.args.asked.now c.args.pipe _
    c.requires.empty (λ e. c.if-ends-eq0.false (c.ends.ensures ∙ e))
    (ap (λ (T : Tables). with_table c.args.state.now T) c.set_state.ensures)
  where
    with_table : State → Tables → State
    with_table s T = record s { table = T }

pub returns-clause-counted : goal.returns-clause-counted
returns-clause-counted c = retry_counted c.args.state.now c.args.asked.now.thread
    c.set_state.new.self c.set_state.ensures c.requires.sound.counted
