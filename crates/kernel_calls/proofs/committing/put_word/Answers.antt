use Rattle.kernel_calls.proofs.PutWords.{word-home, word-joined}
use Rattle.kernel_calls.proofs.committing.put_word.Goals as goal

pub lend_mut-requires : goal.lend_mut-requires
lend_mut-requires c = word-home c.requires.home c.requires.word

pub returns-clause-puts : goal.returns-clause-puts
returns-clause-puts c = word-joined c.args.frames.now c.args.word c.lend_mut.result.now
    c.write_word.new.page c.requires.word c.lend_mut.ensures.page c.write_word.ensures
