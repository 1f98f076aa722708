use Rattle.std.proofs.Common.{◌≡◌, ℕ, true, get_or, refl}
use Rattle.std.proofs.Common.{ap}
use Rattle.std.proofs.lemmas.List.{get_or_read}
use Rattle.dos_world.specs.declared.Entry.{Entry}
use Rattle.space_map.specs.Mapping.{no_entry, with_page_shared}
use Rattle.space_map.proofs.Places.{look-gap, set-shared, shown-changed, nothing, kept-set}
use Rattle.space_map.proofs.Places.{at-inside, index-of}
use Rattle.space_map.proofs.space.Space.mark_shared.Goals as goal

pub index-requires : goal.index-requires
index-requires c =
    index-of c.self.inside.entries (at-inside c.self.view_is c.in-Ok.ensures.found)

pub index_mut-requires : goal.index_mut-requires
index_mut-requires c =
    index-of c.self.inside.entries (at-inside c.self.view_is c.in-Ok.ensures.found)

pub invariant_of-self : goal.invariant_of-self
invariant_of-self c =
    let at = at-inside c.self.view_is c.in-Ok.ensures.found in
    kept-set (record c.index.result.now.1 { shared = true }) c.self.invariant at

pub same-self : goal.same-self
same-self c = refl

pub unreachable-requires : goal.unreachable-requires
unreachable-requires c = nothing _
    (look-gap c.args.self.now.entries c.args.page c.in-Err.field-0 c.in-Err.ensures.gap)
    c.requires

pub unreachable-unreachable : goal.unreachable-unreachable
unreachable-unreachable c = c.unreachable.result

pub returns : goal.returns
returns c =
    let at = at-inside c.self.view_is c.in-Ok.ensures.found in
    let read : c.index.result.now ≡ get_or c.self.inside.entries.items c.in-Ok.place (0, no_entry) =
    get_or_read _ _ _ at.within c.index.ensures _ in
    shown-changed (with_page_shared c.args.page) c.self.view_is
    (set-shared c.self.inside.entries.items c.args.page c.in-Ok.place
    (c.args.page, record c.index.result.now.1 { shared = true }) c.self.invariant.rising
    at (ap (λ (e : ℕ × Entry). (c.args.page, record e.1 { shared = true })) read))
