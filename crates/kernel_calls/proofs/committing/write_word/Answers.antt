use Rattle.std.proofs.Common.{arith}
use Rattle.kernel_calls.proofs.PutWords.{word-written}
use Rattle.kernel_calls.proofs.committing.write_word.Goals as goal

pub returns : goal.returns
returns c = word-written c.args.word.mask c.args.word.offset c.args.word.value c.args.page.now
    c.copy_from.new.self c.bytes-bytes.result.now c.bytes_over.result (omega arith)
    c.bytes-bytes.ensures.value c.bytes_over.ensures c.copy_from.ensures
