use Rattle.std.proofs.Common.{◌∙◌, ◌+◌, ◌≤◌, length, sym, ap, subst}
use Rattle.std.specs.List.{list_any}
use Rattle.space_map.specs.Mapping.{Mapping, in_run, put_run}
use Rattle.space_map.proofs.Places.{first-inside, shown-changed}
use Rattle.space_map.proofs.PutRun.{IsRunGap, run-gap, put-run-at, kept-run}
use Rattle.space_map.proofs.space.Space.put_run.Goals as goal

gap : (c : goal.After-insert_run) → IsRunGap c.self.inside.entries.items c.args.page c.args.count
    c.first_from-first.result
gap c = run-gap c.self.inside.entries.items c.args.page c.args.count c.first_from-first.result
    (first-inside c.self.view_is c.first_from-first.ensures)
    (ap (λ (m : Mapping). list_any (in_run c.args.page c.args.count) m.entries) c.self.view_is
    ∙ c.requires.unmapped)

pub invariant_of-self : goal.invariant_of-self
invariant_of-self c =
    let room = subst (λ (m : Mapping). length m.entries + c.args.count ≤ m.room)
    (sym c.self.view_is) c.requires.room in
    kept-run c.args.entry c.self.invariant (gap c) room
    c.insert_run.ensures.items c.insert_run.ensures.capacity

pub returns : goal.returns
returns c = shown-changed (put_run c.args.page c.args.count c.args.entry) c.self.view_is
    (c.insert_run.ensures.items
    ∙ put-run-at c.self.inside.entries.items c.args.page c.args.count c.first_from-first.result
    c.args.entry (gap c))
