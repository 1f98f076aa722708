use Rattle.std.proofs.Common.{ap, codes}
use Rattle.debug_session.specs.Tables.{word_part}
use Rattle.debug_answers.proofs.Behind.{put_as}
use Rattle.debug_answers.proofs.tables.put_pending.Goals as goal

pub returns : goal.returns
returns c =
    put_as c.put_word_part.result c.args.out.now.items c.put_word_part.new.out.items _ _
    (ap (word_part (codes "pending")) c.pending.ensures) c.put_word_part.ensures
