use Rattle.std.proofs.Common.{◌≡◌, refl, sym, subst, ap, ◌∙◌, arith}
use Rattle.dos_world.specs.Kernel.{minus}
use Rattle.dos_world.specs.DescriptorCalls.{pipe}
use Rattle.dos_world.specs.declared.End.TheVariants.{PipeRead}
use Rattle.kernel_objects.specs.Pipework.{Pipework}
use Rattle.kernel_calls.specs.StateWorld.{IsCounted}
use Rattle.kernel_calls.specs.CallResults.{ActsQuietly}
use Rattle.kernel_calls.specs.declared.state.Served.TheVariants.{Went}
use Rattle.kernel_calls.proofs.Callers.{process_lives}
use Rattle.kernel_calls.proofs.PipeRow.{have_32, lives_still, one_free, pipe_few, pipe_full}
use Rattle.kernel_calls.proofs.PipeRow.{pipe_row}
use Rattle.kernel_calls.proofs.Sending.{answering}
use Rattle.kernel_calls.proofs.descriptors.pipe.Goals as goal

pub free_descriptors-requires-clause-count : goal.free_descriptors-requires-clause-count
free_descriptors-requires-clause-count c =
    have_32 c.args.state.now c.requires.sound c.args.asked.now c.requires.asked

pub returns-then-free_descriptors-lt2-clause-goes_on :
    goal.returns-then-free_descriptors-lt2-clause-goes_on
returns-then-free_descriptors-lt2-clause-goes_on c =
    pipe_few c.args.state.now c.requires.sound c.args.asked.now c.requires.asked
    c.refuse_call.new.state c.free_descriptors.result c.free_descriptors.ensures
    (omega (arith, c.if-free_descriptors-lt2.true)) c.refuse_call.ensures.answers

pub open_free-reading-requires-clause-live : goal.open_free-reading-requires-clause-live
open_free-reading-requires-clause-live c =
    process_lives c.args.state.now c.args.asked.now c.requires.sound c.requires.asked

pub open_free-writing-requires-clause-live : goal.open_free-writing-requires-clause-live
open_free-writing-requires-clause-live c =
    lives_still c.args.state.now c.requires.sound c.args.asked.now c.requires.asked
    c.open_free-reading.result _ c.open_free-reading.new.table c.open_free-reading.ensures.opens

pub open_free-writing-requires-clause-some : goal.open_free-writing-requires-clause-some
open_free-writing-requires-clause-some c =
    one_free c.args.state.now c.requires.sound c.args.asked.now c.requires.asked
    c.free_descriptors.result c.open_free-reading.result (PipeRead c.in-Some.pipe)
    c.open_free-reading.new.table c.free_descriptors.ensures
    (omega (arith, c.if-free_descriptors-lt2.false)) c.open_free-reading.ensures.lowest
    c.open_free-reading.ensures.opens

row : (c : goal.After-reply_two)
    → ActsQuietly pipe c.args.state.now c.args.asked.now Went c.reply_two.new.state
    × IsCounted c.reply_two.new.state
row c = pipe_row c.args.state.now c.requires.sound c.args.asked.now c.requires.asked
    c.in-Some.pipe c.open_free-reading.result c.open_free-writing.result
    c.open_free-reading.new.table c.open_free-writing.new.table c.open.new.self
    c.reply_two.new.state c.in-Some.ensures.lowest c.in-Some.ensures.opens
    c.open_free-reading.ensures.lowest c.open_free-reading.ensures.opens
    c.open_free-writing.ensures.lowest c.open_free-writing.ensures.opens
    c.reply_two.ensures.answers

pub returns-in-Some-clause-goes_on : goal.returns-in-Some-clause-goes_on
returns-in-Some-clause-goes_on c = (row c).0

pub returns-in-Some-clause-counted : goal.returns-in-Some-clause-counted
returns-in-Some-clause-counted c = (row c).1

-- no pipe is opened
stays : (c : goal.After-refuse_call-in-None)
    → c.refuse_call-in-None.new.state ≡ answering c.args.state.now c.args.asked.now.thread
    (minus 24)
stays c = c.refuse_call-in-None.ensures.answers
    ∙ ap (λ (P : Pipework). answering (record c.args.state.now { pipes = P })
    c.args.asked.now.thread (minus 24)) (c.in-None.ensures.none refl)

pub returns-in-None-clause-goes_on : goal.returns-in-None-clause-goes_on
returns-in-None-clause-goes_on c =
    pipe_full c.args.state.now c.requires.sound c.args.asked.now c.requires.asked
    c.refuse_call-in-None.new.state c.in-None.ensures.lowest (stays c)

pub returns-in-None-clause-counted : goal.returns-in-None-clause-counted
returns-in-None-clause-counted c =
    c.refuse_call-in-None.ensures.counted
    (subst (λ (P : Pipework). IsCounted (record c.args.state.now { pipes = P }))
    (sym (c.in-None.ensures.none refl)) c.requires.sound.counted)
