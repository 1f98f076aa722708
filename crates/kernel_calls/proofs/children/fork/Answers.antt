use Rattle.kernel_calls.proofs.Forks.{caller_stays, child_count, child_lives, child_room}
use Rattle.kernel_calls.proofs.Forks.{counted-forked, counted-refused, forks_child, refusal_number}
use Rattle.kernel_calls.proofs.Forks.{refuses_fork, takes, uses_few}
use Rattle.kernel_calls.proofs.children.fork.Goals as goal

pub fork-requires-clause-taken : goal.fork-requires-clause-taken
fork-requires-clause-taken c =
    takes c.args.state.now c.args.asked.now c.requires.sound c.requires.asked

pub fork-requires-clause-few : goal.fork-requires-clause-few
fork-requires-clause-few c =
    uses_few c.args.state.now c.args.asked.now c.requires.sound c.requires.asked

pub add_ends-requires-clause-live : goal.add_ends-requires-clause-live
add_ends-requires-clause-live c =
    child_lives c.args.state.now c.args.asked.now c.requires.sound c.requires.asked
    c.fork.new.frames c.fork.new.table c.in-Ok.child c.in-Ok.ensures.forks
    c.in-Ok.ensures.number

pub add_ends-requires-clause-count : goal.add_ends-requires-clause-count
add_ends-requires-clause-count c =
    child_count c.args.state.now c.args.asked.now c.requires.sound c.requires.asked
    c.fork.new.frames c.fork.new.table c.in-Ok.child c.in-Ok.ensures.forks
    c.in-Ok.ensures.number

pub add_ends-requires-clause-room : goal.add_ends-requires-clause-room
add_ends-requires-clause-room c =
    child_room c.args.state.now c.args.asked.now c.requires.sound c.requires.asked
    c.fork.new.frames c.fork.new.table c.in-Ok.child c.in-Ok.ensures.forks
    c.in-Ok.ensures.number

pub reply-requires : goal.reply-requires
reply-requires c = record {
  live = caller_stays c.args.state.now c.args.asked.now c.requires.sound c.requires.asked
      c.fork.new.frames c.fork.new.table c.in-Ok.child c.in-Ok.ensures.forks
      c.in-Ok.ensures.number;
}

pub refuse_call-requires-clause-number : goal.refuse_call-requires-clause-number
refuse_call-requires-clause-number c =
    refusal_number c.args.state.now c.args.asked.now c.requires.sound c.requires.asked
    c.fork.new.frames c.fork.new.table c.in-Err.number c.in-Err.ensures.forks

pub returns-in-Ok-clause-goes_on : goal.returns-in-Ok-clause-goes_on
returns-in-Ok-clause-goes_on c =
    forks_child c.args.state.now c.args.asked.now c.requires.sound c.requires.asked
    c.fork.new.frames c.fork.new.table c.in-Ok.child c.in-Ok.ensures.forks
    c.in-Ok.ensures.number c.add_ends.new.pipes c.reply.new.state c.add_ends.ensures
    c.reply.ensures.answers

pub returns-in-Ok-clause-counted : goal.returns-in-Ok-clause-counted
returns-in-Ok-clause-counted c =
    counted-forked c.args.state.now c.args.asked.now c.requires.sound c.requires.asked
    c.fork.new.frames c.fork.new.table c.in-Ok.child c.in-Ok.ensures.forks
    c.in-Ok.ensures.number c.add_ends.new.pipes c.reply.new.state c.add_ends.ensures
    c.reply.ensures.answers c.in-Ok.ensures.home c.in-Ok.ensures.frames.count c.in-Ok.ensures.room
    c.in-Ok.ensures.uses

pub returns-in-Err-clause-goes_on : goal.returns-in-Err-clause-goes_on
returns-in-Err-clause-goes_on c =
    refuses_fork c.args.state.now c.args.asked.now c.requires.sound c.requires.asked
    c.fork.new.frames c.fork.new.table c.in-Err.number c.in-Err.ensures.forks
    c.refuse_call.new.state c.in-Err.ensures.stays c.refuse_call.ensures.answers

pub returns-in-Err-clause-counted : goal.returns-in-Err-clause-counted
returns-in-Err-clause-counted c =
    counted-refused c.args.state.now c.args.asked.now c.requires.sound c.requires.asked
    c.fork.new.frames c.fork.new.table c.in-Err.number c.in-Err.ensures.forks
    c.refuse_call.new.state c.in-Err.ensures.stays c.refuse_call.ensures.answers
