use Rattle.dos_world.specs.Numbered.{numbered}
use Rattle.debug_answers.proofs.Absences.{ended_with}
use Rattle.debug_answers.proofs.Behind.{put_as}
use Rattle.debug_answers.proofs.waits.put_ended.Goals as goal

pub returns-in-Some : goal.returns-in-Some
returns-in-Some c =
    put_as c.put_words.result c.args.out.now.items c.put_words.new.out.items _ _
    (ended_with (numbered c.args.state.now.table.processes c.args.process) c.in-Some.status
    c.requires c.in-Some.ensures) c.put_words.ensures
