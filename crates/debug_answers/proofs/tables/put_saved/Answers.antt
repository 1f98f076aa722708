use Rattle.std.proofs.Common.{ap}
use Rattle.debug_session.specs.Tables.{saved_part}
use Rattle.debug_answers.proofs.Behind.{put_as}
use Rattle.debug_answers.proofs.tables.put_saved.Goals as goal

pub returns : goal.returns
returns c =
    put_as c.put_saved_part.result c.args.out.now.items c.put_saved_part.new.out.items _ _
    (ap saved_part c.depth.ensures) c.put_saved_part.ensures
