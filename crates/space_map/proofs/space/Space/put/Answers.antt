use Rattle.std.proofs.Common.{◌<◌, ◌∙◌, sym, subst, length}
use Rattle.dos_world.specs.Kernel.{put}
use Rattle.space_map.specs.Mapping.{Mapping, IsGapFor}
use Rattle.space_map.proofs.Places.{Rises, look-at, shown-changed}
use Rattle.space_map.proofs.PutRun.{insert-put, kept-put}
use Rattle.space_map.proofs.space.Space.put.Goals as goal

pub unreachable-requires : goal.unreachable-requires
unreachable-requires c =
    let rises = subst (λ (m : Mapping). Rises m.entries) c.self.view_is c.self.invariant.rising in
    let never = sym (look-at c.args.self.now.entries c.args.page c.in-Ok.field-0 rises
    c.in-Ok.ensures.found) ∙ c.requires.unmapped in
    cc

pub invariant_of-self : goal.invariant_of-self
invariant_of-self c =
    let gap = subst (λ (m : Mapping). IsGapFor m.entries c.args.page c.in-Err.place)
    (sym c.self.view_is) c.in-Err.ensures.gap in
    let room = subst (λ (m : Mapping). length m.entries < m.room)
    (sym c.self.view_is) c.requires.room in
    kept-put c.args.entry gap c.self.invariant room c.in-Ok-insert.ensures.items
    c.in-Ok-insert.ensures.capacity

pub returns : goal.returns
returns c =
    let gap = subst (λ (m : Mapping). IsGapFor m.entries c.args.page c.in-Err.place)
    (sym c.self.view_is) c.in-Err.ensures.gap in
    shown-changed (put c.args.page c.args.entry) c.self.view_is
    (c.in-Ok-insert.ensures.items
    ∙ insert-put c.args.entry gap)
