use Rattle.std.proofs.Common.{◌≡◌, ◌+◌, ◌<◌, ◌≤◌, sym, ◌∙◌, subst, get_or, set, length}
use Rattle.std.proofs.Common.{length-set, arith}
use Rattle.std.proofs.lemmas.List.{get_or_read}
use Rattle.dos_world.specs.declared.Owner.TheVariants.{Free}
use Rattle.page_store.specs.Store.{Store, AreTallied}
use Rattle.page_store.proofs.Counts.{free-freed, kept-fewer, kept-freed, kept-room, used-within}
use Rattle.page_store.proofs.frames.Frames.use_less.Goals as goal

pub overflow_add-self : goal.overflow_add-self
overflow_add-self c =
    let used : 0 < get_or c.self.inside.uses.items c.args.frame 0 =
    subst (λ (s : Store). 0 < get_or s.uses c.args.frame 0) (sym c.self.view_is) c.requires in
    omega (
      arith,
      kept-room c.args.frame c.self.invariant.0 used,
    )

pub invariant_of-self : goal.invariant_of-self
invariant_of-self c =
    let used : 0 < get_or c.self.inside.uses.items c.args.frame 0 =
    subst (λ (s : Store). 0 < get_or s.uses c.args.frame 0) (sym c.self.view_is) c.requires in
    let count : length (set c.self.inside.pages.items c.args.frame c.clear_home.new.slot)
    ≡ length c.self.inside.pages.items =
    length-set c.self.inside.pages.items c.args.frame c.clear_home.new.slot in (
      subst (λ n. AreTallied n (set c.self.inside.owners.items c.args.frame Free)
          (set c.self.inside.uses.items c.args.frame 0) (c.self.inside.free + 1) c.set.new.self)
          (sym count)
          (kept-freed c.args.frame c.self.invariant.0 used c.set.ensures),
      free-freed c.self.inside.owners.items c.self.inside.high c.args.frame
          c.self.invariant.1,
      subst (λ n. c.self.inside.high ≤ n) (sym count) c.self.invariant.2,
      c.note.ensures.noted c.self.inside.owners.items c.self.invariant.3,
      λ same. absurd (cc),
    )

pub invariant_of-self-else-index-eq1 : goal.invariant_of-self-else-index-eq1
invariant_of-self-else-index-eq1 c =
    let used : 0 < get_or c.self.inside.uses.items c.args.frame 0 =
    subst (λ (s : Store). 0 < get_or s.uses c.args.frame 0) (sym c.self.view_is) c.requires in
    let within : c.args.frame < length c.self.inside.uses.items =
    used-within c.self.inside.uses.items c.args.frame used in
    let tested : c.index.result.now ≡ get_or c.self.inside.uses.items c.args.frame 0 =
    get_or_read _ c.args.frame _ within c.index.ensures 0 in
    let written : c.index_mut-else-index-eq1.result.now
    ≡ get_or c.self.inside.uses.items c.args.frame 0 =
    get_or_read _ c.args.frame _ within c.index_mut-else-index-eq1.ensures.value 0 in (
      kept-fewer c.args.frame c.self.invariant.0 used written
          (λ e. c.if-index-eq1.false (tested ∙ sym written ∙ e)),
      c.self.invariant.1,
      c.self.invariant.2,
      c.self.invariant.3,
      c.self.invariant.4,
    )
