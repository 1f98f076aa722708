use Rattle.std.proofs.Common.{◌≡◌, ◌∙◌, ℕ, List, subst}
use Rattle.std.specs.Prelude.{not}
use Rattle.dos_world.specs.declared.Entry.{Entry}
use Rattle.space_map.specs.Mapping.{IsRun, in_run, without_run}
use Rattle.space_map.proofs.Places.{first-inside, kept-filter, shown-changed}
use Rattle.space_map.proofs.Runs.{run-removed}
use Rattle.space_map.proofs.space.Space.remove_run.Goals as goal

left : (c : goal.After-cut)
    → c.cut.new.entries.items ≡ without_run c.args.page c.args.count
    c.self.inside.entries.items
left c =
    let from = first-inside c.self.view_is c.first_from-first.ensures in
    let run = subst (λ (xs : List (ℕ × Entry)). IsRun xs c.args.page c.args.count
    c.first_from-first.result c.end_of_run-end.result) c.deref.ensures.value
    c.end_of_run-end.ensures in
    c.cut.ensures.items
    ∙ run-removed c.self.inside.entries.items c.args.page c.args.count c.first_from-first.result
    c.end_of_run-end.result c.self.invariant.rising from run

pub invariant_of-self : goal.invariant_of-self
invariant_of-self c =
    kept-filter (λ e. not (in_run c.args.page c.args.count e)) c.self.invariant (left c)
    c.cut.ensures.capacity

pub returns : goal.returns
returns c = shown-changed (without_run c.args.page c.args.count) c.self.view_is (left c)
