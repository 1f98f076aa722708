use Rattle.std.proofs.Common.{◌≡◌, false, sym, subst, get_or}
use Rattle.dos_world.specs.World.{is_free}
use Rattle.dos_world.specs.declared.Owner.TheVariants.{Free}
use Rattle.page_store.specs.Store.{Store}
use Rattle.page_store.proofs.Counts.{kept-more}
use Rattle.page_store.proofs.frames.Frames.use_more.Goals as goal

pub invariant_of-self : goal.invariant_of-self
invariant_of-self c =
    let owned : is_free (get_or c.self.inside.owners.items c.args.frame Free) ≡ false =
    subst (λ (s : Store). is_free (get_or s.owners c.args.frame Free) ≡ false)
    (sym c.self.view_is) c.requires.owned in (
      kept-more c.args.frame c.index_mut.result.now c.self.invariant.0 owned,
      c.self.invariant.1,
      c.self.invariant.2,
      c.self.invariant.3,
      c.self.invariant.4,
    )
