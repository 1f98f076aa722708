use Rattle.std.proofs.Common.{◌≡◌, ◌∙◌, ℕ, Some, get_or, ap, sym, subst}
use Rattle.std.proofs.lemmas.List.{get_or_read}
use Rattle.dos_world.specs.declared.Entry.{Entry}
use Rattle.dos_world.specs.World.{look}
use Rattle.space_map.specs.Mapping.{Mapping, IsAt, no_entry, all_but}
use Rattle.space_map.proofs.Places.{look-at, look-gap, remove-without, kept-remove, shown-changed}
use Rattle.space_map.proofs.Places.{nothing}
use Rattle.space_map.proofs.space.Space.remove.Goals as goal

pub unreachable-requires : goal.unreachable-requires
unreachable-requires c = nothing _
    (look-gap c.args.self.now.entries c.args.page c.in-Err.field-0 c.in-Err.ensures.gap)
    c.requires

pub invariant_of-self : goal.invariant_of-self
invariant_of-self c =
    let at = subst (λ (m : Mapping). IsAt m.entries c.args.page c.in-Ok.place)
    (sym c.self.view_is) c.in-Ok.ensures.found in
    kept-remove c.in-Ok.place c.self.invariant
    at.within c.remove.ensures.items c.remove.ensures.capacity

pub returns-clause-entry : goal.returns-clause-entry
returns-clause-entry c =
    let at : IsAt c.self.inside.entries.items c.args.page c.in-Ok.place =
    subst (λ (m : Mapping). IsAt m.entries c.args.page c.in-Ok.place)
    (sym c.self.view_is) c.in-Ok.ensures.found in
    let read : c.remove.result ≡ get_or c.self.inside.entries.items c.in-Ok.place (0, no_entry) =
    get_or_read _ _ _ at.within c.remove.ensures.value _ in
    ap (λ (m : Mapping). look m.entries c.args.page) (sym c.self.view_is)
    ∙ look-at c.self.inside.entries.items c.args.page c.in-Ok.place c.self.invariant.rising at ∙
    ap (λ (e : ℕ × Entry). Some e.1) (sym read)

pub returns-clause-others : goal.returns-clause-others
returns-clause-others c =
    let at = subst (λ (m : Mapping). IsAt m.entries c.args.page c.in-Ok.place)
    (sym c.self.view_is) c.in-Ok.ensures.found in
    shown-changed (all_but c.args.page) c.self.view_is
    (c.remove.ensures.items
    ∙ remove-without c.self.inside.entries.items c.args.page c.in-Ok.place
    c.self.invariant.rising at)
