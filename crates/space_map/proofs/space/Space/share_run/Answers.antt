use Rattle.std.proofs.Common.{◌≡◌, ◌∙◌, ℕ, List, subst}
use Rattle.dos_world.specs.declared.Entry.{Entry}
use Rattle.space_map.specs.Mapping.{IsRun, with_shared_run}
use Rattle.space_map.proofs.Places.{first-inside, kept-shared, shown-changed}
use Rattle.space_map.proofs.Runs.{run-shared}
use Rattle.space_map.proofs.space.Space.share_run.Goals as goal

marked : (c : goal.After-share_part)
    → c.share_part.new.entries.items
    ≡ with_shared_run c.args.page c.args.count c.self.inside.entries.items
marked c =
    let from = first-inside c.self.view_is c.first_from-first.ensures in
    let run = subst (λ (xs : List (ℕ × Entry)). IsRun xs c.args.page c.args.count
    c.first_from-first.result c.end_of_run-end.result) c.deref.ensures.value
    c.end_of_run-end.ensures in
    c.share_part.ensures.items
    ∙ run-shared c.self.inside.entries.items c.args.page c.args.count c.first_from-first.result
    c.end_of_run-end.result c.self.invariant.rising from run

pub invariant_of-self : goal.invariant_of-self
invariant_of-self c =
    kept-shared c.args.page c.args.count c.self.invariant (marked c) c.share_part.ensures.capacity

pub returns : goal.returns
returns c = shown-changed (with_shared_run c.args.page c.args.count) c.self.view_is (marked c)
