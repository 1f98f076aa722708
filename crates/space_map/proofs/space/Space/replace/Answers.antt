use Rattle.std.proofs.Common.{refl}
use Rattle.space_map.specs.Mapping.{with_replaced}
use Rattle.space_map.proofs.Places.{look-gap, set-replaced, shown-changed, nothing, kept-set}
use Rattle.space_map.proofs.Places.{at-inside, index-of}
use Rattle.space_map.proofs.space.Space.replace.Goals as goal

pub index_mut-requires : goal.index_mut-requires
index_mut-requires c =
    index-of c.self.inside.entries (at-inside c.self.view_is c.in-Ok.ensures.found)

pub invariant_of-self : goal.invariant_of-self
invariant_of-self c =
    let at = at-inside c.self.view_is c.in-Ok.ensures.found in
    kept-set c.args.entry c.self.invariant
    at

pub same-self : goal.same-self
same-self c = refl

pub unreachable-requires : goal.unreachable-requires
unreachable-requires c = nothing _
    (look-gap c.args.self.now.entries c.args.page c.in-Err.field-0 c.in-Err.ensures.gap)
    c.requires

pub unreachable-unreachable : goal.unreachable-unreachable
unreachable-unreachable c = c.unreachable.result

pub returns : goal.returns
returns c =
    let at = at-inside c.self.view_is c.in-Ok.ensures.found in
    shown-changed (with_replaced c.args.page c.args.entry) c.self.view_is
    (set-replaced c.self.inside.entries.items c.args.page c.in-Ok.place c.args.entry
    c.self.invariant.rising at)
