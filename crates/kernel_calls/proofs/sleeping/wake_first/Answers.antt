use Rattle.std.proofs.Common.{◌+◌, List, refl, sym, subst, arith}
use Rattle.dos_world.specs.World.{Sleeper}
use Rattle.dos_world.specs.Kernel.{awake}
use Rattle.proc_table.specs.Tables.{Tables, IsLiveThread, thread_by}
use Rattle.kernel_calls.specs.Queued.{AreWoken}
use Rattle.kernel_calls.proofs.Queued.{AreWaking, first_all, waking_more, woken_out}
use Rattle.kernel_calls.proofs.sleeping.wake_first.Goals as goal

pub wake-requires : goal.wake-requires
wake-requires c = first_all (IsLiveThread c.loop-count.table.threads) c.args.frame c.args.offset
    c.loop-count.futexes c.in-Some.tid c.loop-count.invariant.are.live
    (sym c.in-Some.ensures.first)

pub returns-in-None : goal.returns-in-None
returns-in-None c = subst (λ (queue : List Sleeper).
    AreWoken c.args.frame c.args.offset c.args.most c.args.table.now c.args.futexes.now
    c.loop-count.count c.loop-count.table queue)
    (sym (c.in-None.ensures.none refl))
    (woken_out c.args.frame c.args.offset c.args.most c.args.table.now c.args.futexes.now
    c.loop-count.count c.loop-count.table c.loop-count.futexes c.loop-count.invariant
    c.in-None.ensures.first)

pub loop-count-preserved : goal.loop-count-preserved
loop-count-preserved c = subst (λ (T : Tables).
    AreWaking c.args.frame c.args.offset c.args.most c.args.table.now c.args.futexes.now
    (c.loop-count.count + 1) T c.wake_one.new.self)
    (sym c.wake.ensures)
    (subst (λ (queue : List Sleeper).
    AreWaking c.args.frame c.args.offset c.args.most c.args.table.now c.args.futexes.now
    (c.loop-count.count + 1) (thread_by (awake 0) c.loop-count.table c.in-Some.tid) queue)
    (sym c.in-Some.ensures.out)
    (waking_more c.args.frame c.args.offset c.args.most c.args.table.now c.args.futexes.now
    c.loop-count.count c.loop-count.table c.loop-count.futexes c.loop-count.invariant
    c.in-Some.tid (omega arith) c.in-Some.ensures.first))
