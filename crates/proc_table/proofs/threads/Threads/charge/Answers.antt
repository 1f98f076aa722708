use Rattle.std.proofs.Common.{◌<◌, Option, IfSome, refl, ap, subst, arith}
use Rattle.dos_world.specs.World.{Thread}
use Rattle.dos_world.specs.Calls.{charged}
use Rattle.proc_table.proofs.Shown.{at_in, kept_set, lives_in, reads, written}
use Rattle.proc_table.proofs.threads.Threads.charge.Goals as goal

pub place_of-place-requires-clause-live : goal.place_of-place-requires-clause-live
place_of-place-requires-clause-live c =
    lives_in c.self.view_is c.self.invariant c.args.tid c.deref.ensures.value c.requires.live

pub overflow_sub-thread : goal.overflow_sub-thread
overflow_sub-thread c =
    let left : 0 < c.index_mut.result.now.1.budget =
    subst (λ (o : Option Thread). IfSome o (λ thread. 0 < thread.budget))
    (reads c.self.view_is c.self.invariant (at_in c.deref.ensures.value c.place_of-place.ensures)
    c.index_mut.ensures.value) c.requires.budget in
    omega (arith, left, ap (λ (thread : Thread). thread.budget) c.thread.view_is)

pub invariant_of-self : goal.invariant_of-self
invariant_of-self c =
    kept_set c.self.view_is c.self.invariant _
    (at_in c.deref.ensures.value c.place_of-place.ensures) c.index_mut.ensures.value refl refl

pub returns : goal.returns
returns c =
    written c.self.view_is c.self.invariant charged
    (at_in c.deref.ensures.value c.place_of-place.ensures) c.index_mut.ensures.value
    (rw (← c.thread.view_is, c.set_held.ensures) refl)
