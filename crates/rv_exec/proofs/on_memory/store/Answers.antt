use Rattle.dos_world.specs.World.{with_pc}
use Rattle.flat_machine.specs.Effect.{onward}
use Rattle.rv_exec.proofs.Stored.{store_refused}
use Rattle.rv_exec.proofs.on_memory.store.Goals as goal

pub returns-in-Err : goal.returns-in-Err
returns-in-Err g c = λ size pc f m shows.
    let h = c.in-Err.ensures f m shows in
    store_refused (g.M.Memory.answers f) (g.M.Memory.shows c.store.new.self f) m
    (with_pc c.args.regs.now pc) (onward size (with_pc c.args.regs.now pc)) _ _ _ _ _ _
    c.in-Err.reason
    c.address_of-address.ensures c.store_size.ensures c.second-value.ensures h.0 h.1
