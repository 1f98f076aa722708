use Rattle.std.proofs.Common.{sym, ap, subst, ◌∙◌}
use Rattle.dos_world.specs.Kernel.{answered, minus}
use Rattle.dos_world.specs.World.{in_state, registers_by}
use Rattle.dos_world.specs.declared.ThreadState.TheVariants.{Retry}
use Rattle.proc_table.specs.Tables.{Tables, thread_by}
use Rattle.kernel_calls.specs.StateWorld.{IsCounted}
use Rattle.kernel_calls.proofs.Counted.{counted-thread_by}
use Rattle.kernel_calls.proofs.Collecting.{collects_child, counted-collected}
use Rattle.kernel_calls.proofs.children.wait.Goals as goal

pub returns-in-Got-clause-goes_on : goal.returns-in-Got-clause-goes_on
returns-in-Got-clause-goes_on c =
    collects_child c.args.state.now c.reply_two.new.state c.args.asked.now c.in-Got.pid
    c.in-Got.status c.from.result c.collect.new.self c.in-Got.ensures.is
    c.in-Got.ensures.collects c.from.ensures
    c.reply_two.ensures.answers

pub returns-in-Got-clause-counted : goal.returns-in-Got-clause-counted
returns-in-Got-clause-counted c =
    counted-collected c.args.state.now c.reply_two.new.state c.args.asked.now c.in-Got.pid
    c.in-Got.status c.from.result c.collect.new.self c.in-Got.ensures.is
    c.in-Got.ensures.collects c.from.ensures
    c.reply_two.ensures.answers c.requires.sound

pub returns-in-Wait-clause-counted : goal.returns-in-Wait-clause-counted
returns-in-Wait-clause-counted c =
    subst (λ (T : Tables). IsCounted (record c.args.state.now { table = T }))
    (sym (c.set_state.ensures
    ∙ ap (λ (T : Tables). thread_by (in_state Retry) T c.args.asked.now.thread)
    c.in-Wait.ensures.collects))
    (counted-thread_by c.args.state.now c.args.asked.now.thread (in_state Retry)
    c.requires.sound.counted)

pub returns-in-NoChild-clause-counted : goal.returns-in-NoChild-clause-counted
returns-in-NoChild-clause-counted c =
    subst IsCounted
    (sym (c.refuse_call.ensures.answers
    ∙ ap (λ (T : Tables). record c.args.state.now {
      table = thread_by (registers_by (answered (minus 10))) T c.args.asked.now.thread;
    }) c.in-NoChild.ensures.collects))
    (counted-thread_by c.args.state.now c.args.asked.now.thread
    (registers_by (answered (minus 10)))
    c.requires.sound.counted)
