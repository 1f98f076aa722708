use Rattle.std.proofs.Common.{◌≡◌, ℕ, get_or, Some, sym, ap, ◌∙◌, subst}
use Rattle.std.proofs.lemmas.List.{get_or_read}
use Rattle.dos_world.specs.declared.Entry.{Entry}
use Rattle.dos_world.specs.World.{look}
use Rattle.space_map.specs.Mapping.{Mapping, IsAt, no_entry}
use Rattle.space_map.proofs.Places.{look-at, look-gap}
use Rattle.space_map.proofs.space.Space.look_far.Goals as goal

pub returns-in-Ok-clause-entry : goal.returns-in-Ok-clause-entry
returns-in-Ok-clause-entry c =
    let at : IsAt c.self.inside.entries.items c.args.page c.in-Ok.place =
    subst (λ (m : Mapping). IsAt m.entries c.args.page c.in-Ok.place)
    (sym c.self.view_is) c.in-Ok.ensures.found in
    let read : c.index.result.now ≡ get_or c.self.inside.entries.items c.in-Ok.place (0, no_entry) =
    get_or_read _ _ _ at.within c.index.ensures _ in
    ap (λ (e : ℕ × Entry). Some e.1) read
    ∙ sym (look-at c.self.inside.entries.items c.args.page c.in-Ok.place c.self.invariant.rising
    at) ∙ ap (λ (m : Mapping). look m.entries c.args.page) c.self.view_is

pub returns-in-Err-clause-entry : goal.returns-in-Err-clause-entry
returns-in-Err-clause-entry c = sym (look-gap c.args.self.now.entries c.args.page c.in-Err.field-0
    c.in-Err.ensures.gap)
