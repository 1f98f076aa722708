use Rattle.std.proofs.Common.{refl}
use Rattle.proc_table.proofs.Shown.{at_in, kept_set, lives_in, reads, written}
use Rattle.proc_table.proofs.threads.Threads.get_mut.Goals as goal

pub place_of-place-requires-clause-live : goal.place_of-place-requires-clause-live
place_of-place-requires-clause-live c =
    lives_in c.self.view_is c.self.invariant c.args.tid c.deref.ensures.value c.requires

pub invariant_of-self-lent : goal.invariant_of-self-lent
invariant_of-self-lent c =
    λ w. kept_set c.self.view_is c.self.invariant (c.index_mut.result.now.0, w)
    (at_in c.deref.ensures.value c.place_of-place.ensures) c.index_mut.ensures.value refl refl

pub returns : goal.returns
returns c =
    let at = at_in c.deref.ensures.value c.place_of-place.ensures in (
      (
        refl,
        λ w. written c.self.view_is c.self.invariant (λ _. w)
            {y = (c.index_mut.result.now.0, w)} at c.index_mut.ensures.value refl,
      ),
      record {
        is = reads c.self.view_is c.self.invariant at c.index_mut.ensures.value;
        writes_back = tt;
      },
    )
