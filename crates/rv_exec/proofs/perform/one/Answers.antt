use Rattle.rv_exec.proofs.Beside.{follows_put}
use Rattle.rv_exec.proofs.perform.one.Goals as goal

pub returns : goal.returns
returns g c = λ f m shows.
    follows_put (g.M.Memory.answers f) (g.M.Memory.shows c.args.memory.now f)
    (g.M.Memory.shows c.fetch_and_perform-next.new.memory f) m c.args.regs.now
    c.fetch_and_perform-next.new.regs c.arrive.new.regs c.pc-pc.result
    c.fetch_and_perform-next.new.why c.fetch_and_perform-next.result c.arrive.result
    c.pc-pc.ensures c.arrive.ensures.registers c.arrive.ensures.went
    (c.fetch_and_perform-next.ensures f m) shows
