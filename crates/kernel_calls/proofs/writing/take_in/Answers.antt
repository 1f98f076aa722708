use Rattle.std.proofs.Common.{refl}
use Rattle.kernel_calls.proofs.Keeping.{counted-stands, mapped}
use Rattle.kernel_calls.proofs.writing.take_in.Goals as goal

pub fill-requires-clause-mapped : goal.fill-requires-clause-mapped
fill-requires-clause-mapped c = mapped c.args.state.now c.requires.sound c.args.asked.now.thread

pub returns-clause-counted : goal.returns-clause-counted
returns-clause-counted c =
    counted-stands c.args.state.now
    (record c.args.state.now { frames = c.fill.new.frames; buffer = c.fill.new.buffer })
    (record { table = refl; frames = c.fill.ensures.stays; pipes = refl; futexes = refl }) refl
    c.requires.sound.counted
