use Rattle.std.proofs.Common.{◌≡◌, false, sym, subst, get_or}
use Rattle.dos_world.specs.World.{is_free}
use Rattle.dos_world.specs.declared.Owner.TheVariants.{Free}
use Rattle.page_store.specs.Store.{Store}
use Rattle.page_store.proofs.Counts.{kept-granted, free-set, owned-low}
use Rattle.page_store.proofs.frames.Frames.grant.Goals as goal

pub invariant_of-self : goal.invariant_of-self
invariant_of-self c =
    let owned : is_free (get_or c.self.inside.owners.items c.args.frame Free) ≡ false =
    subst (λ (s : Store). is_free (get_or s.owners c.args.frame Free) ≡ false)
    (sym c.self.view_is) c.requires in (
      kept-granted c.args.frame c.granted-owner.result c.self.invariant.0 owned
          c.granted-owner.ensures.used,
      free-set c.self.inside.owners.items c.self.inside.high c.args.frame c.granted-owner.result
          c.self.invariant.1
          (owned-low c.self.inside.owners.items c.self.inside.high c.args.frame
          c.self.invariant.1 owned),
      c.self.invariant.2,
      c.note.ensures.noted c.self.inside.owners.items c.self.invariant.3,
      c.self.invariant.4,
    )
