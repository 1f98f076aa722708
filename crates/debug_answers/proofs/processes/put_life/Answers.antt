use Rattle.std.proofs.Common.{◌++◌, codes}
use Rattle.std.specs.Prelude.{decimal}
use Rattle.dos_world.specs.Numbered.{numbered}
use Rattle.debug_answers.proofs.Behind.{two, two_put}
use Rattle.debug_answers.proofs.Lives.{life_put}
use Rattle.debug_answers.proofs.processes.put_life.Goals as goal

pub returns-in_ok-put_text-in-None : goal.returns-in_ok-put_text-in-None
returns-in_ok-put_text-in-None c =
    let old = c.args.out.now.items in
    let words = c.put_words.new.out.items in
    let text = c.put_text.new.out.items in
    let all = c.put_bytes.new.out.items in
    let parent = codes "live, parent " ++ decimal c.parent.result in
    let image = codes ", image " in
    life_put c.put_bytes.result (numbered c.args.state.now.table.processes c.args.process)
    c.args.name.now old all c.parent.result c.requires c.in-None.ensures c.parent.ensures
    (two_put c.put_bytes.result old text all (parent ++ image) c.args.name.now
    (two old words text parent image c.in_ok-put_words-in-None.ensures
    c.in_ok-put_text-in-None.ensures)
    c.put_bytes.ensures)
