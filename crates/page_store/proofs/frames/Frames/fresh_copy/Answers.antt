use Rattle.std.proofs.Common.{◌≡◌, All, IsSome, length, length-set, sym, ap, subst, ◌∙◌, arith}
use Rattle.std.proofs.lemmas.List.Quantifiers.{position-Some}
use Rattle.dos_world.specs.World.{is_free}
use Rattle.dos_world.specs.declared.Owner.TheVariants.{Free, Of}
use Rattle.page_store.specs.Store.{Store}
use Rattle.page_store.proofs.Counts.{owned-within}
use Rattle.page_store.proofs.Joined.{home-at}
use Rattle.page_store.proofs.Copied.{owned-apart}
use Rattle.page_store.proofs.frames.Frames.fresh_copy.Goals as goal

pub copy_page-requires : goal.copy_page-requires
copy_page-requires c =
    let now = c.self.view_is ∙ c.in-Some.ensures.one in
    let home : All IsSome c.self.inside.pages.items =
    subst (All IsSome) (sym (ap (λ (s : Store). s.pages) now)) c.requires.home in
    let count : length c.args.self.now.owners ≡ length c.self.inside.pages.items =
    sym (length-set c.args.self.now.owners c.in-Some.frame (Of c.args.tid))
    ∙ sym (ap (λ (s : Store). length s.owners) now) ∙ c.self.invariant.0.each in
    record {
      apart = owned-apart c.args.self.now.owners c.args.from c.in-Some.frame c.requires.owned
          (sym c.in-Some.ensures.found);
      source = home-at c.self.inside.pages.items c.args.from home
          (omega (
            arith,
            count,
            owned-within c.args.self.now.owners c.args.from c.requires.owned,
          ));
      target = home-at c.self.inside.pages.items c.in-Some.frame home
          (omega (
            arith,
            count,
            (position-Some is_free c.args.self.now.owners c.in-Some.frame Free
                (sym c.in-Some.ensures.found)).0,
          ));
    }
