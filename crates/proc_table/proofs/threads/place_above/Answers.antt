use Rattle.proc_table.proofs.Spread.{above_at}
use Rattle.proc_table.proofs.threads.place_above.Goals as goal

pub returns-in-Ok : goal.returns-in-Ok
returns-in-Ok c = above_at c.requires.0 c.args.live.now c.args.after c.in-Ok.place c.requires.1
    c.in-Ok.ensures.found
