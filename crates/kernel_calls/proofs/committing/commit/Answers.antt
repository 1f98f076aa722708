use Rattle.kernel_calls.proofs.PutWords.{part-sound, part-world}
use Rattle.kernel_calls.proofs.committing.commit.Goals as goal

pub returns-clause-commits : goal.returns-clause-commits
returns-clause-commits c = part-world c.args.state.now c.set_run.new.self c.put_words.new.frames
    c.args.tid c.args.budget c.args.regs c.args.words.now c.set_run.ensures
    c.put_words.ensures.stays c.put_words.ensures.puts

pub returns-clause-sound : goal.returns-clause-sound
returns-clause-sound c = part-sound c.args.state.now c.set_run.new.self c.put_words.new.frames
    c.args.tid c.args.budget c.args.regs c.args.words.now c.set_run.ensures
    c.put_words.ensures.stays c.put_words.ensures.puts c.requires.part c.requires.sound
