use Rattle.std.proofs.Common.{Bool, cond, sym, ap, ◌∙◌, subst}
use Rattle.dos_world.specs.World.{World, without_thread}
use Rattle.dos_world.specs.Kernel.{process_ended}
use Rattle.dos_world.specs.Play.{done}
use Rattle.dos_world.specs.Services.{gone}
use Rattle.proc_table.specs.Tables.{Tables}
use Rattle.kernel_calls.specs.StateWorld.{IsCounted, sent, world_of}
use Rattle.kernel_calls.proofs.Counted.{counted-threads}
use Rattle.kernel_calls.proofs.threads.thread_exit.Goals as goal

pub returns-then-has_one_thread-clause-goes_on : goal.returns-then-has_one_thread-clause-goes_on
returns-then-has_one_thread-clause-goes_on c = λ q o e.
    let w : World = sent o e (world_of q c.args.state.now) in
    ap (λ (b : Bool). done
    (gone (cond b (process_ended w c.args.asked.now.process 0)
    (without_thread w c.args.asked.now.thread))))
    (sym c.has_one_thread.ensures ∙ c.if-has_one_thread.true)
    ∙ ap (λ v. done (gone v)) (c.end_process.ensures.ends q o e)

pub returns-else-has_one_thread-clause-counted : goal.returns-else-has_one_thread-clause-counted
returns-else-has_one_thread-clause-counted c =
    subst (λ (T : Tables). IsCounted (record c.args.state.now { table = T }))
    (sym c.end_thread.ensures)
    (counted-threads c.args.state.now _ c.requires.sound.counted)
