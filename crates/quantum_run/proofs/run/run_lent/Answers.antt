use Rattle.std.proofs.Common.{ℕ, ◌≡◌, ◌<◌, ◌-◌, ◌∙◌, List, Option, Some, Err, MatchOption, ap, map}
use Rattle.std.proofs.Common.{is_some, length, sym, subst}
use Rattle.dos_world.specs.World.{World}
use Rattle.flat_machine.specs.Step.{step}
use Rattle.quantum_run.specs.Pages.{overlay}
use Rattle.quantum_run.specs.ThreadRuns.{IsRunOf, run_to, store_of}
use Rattle.flat_machine.specs.Laws.{after_steps}
use Rattle.quantum_run.proofs.Filling.{filled-kept, length-kept}
use Rattle.quantum_run.proofs.run.run_lent.Goals as goal

all-written : (c : goal.After-run_written) → length c.run_written.new.own.items ≡ c.own.inside.count
all-written c =
    length-kept c.own.inside.pages.items c.run_written.new.own.items c.own.inside.count
    c.own.invariant.0 (c.run_written.ensures.here ∙ ap (map is_some) c.write_out.ensures.items)

pub run_written-requires-clause-right : goal.run_written-requires-clause-right
run_written-requires-clause-right c = c.nothing-compared.ensures.right

pub returns-clause-runs : goal.returns-clause-runs
returns-clause-runs c = λ w is.
    let pages = c.args.frames.now.pages in
    let n = c.run_written.new in
    let was = c.write_out.ensures.items ∙ c.own.view_is in
    let runs = c.run_written.ensures.runs w (subst (λ (own : List (Option (List ℕ))).
    IsRunOf w (store_of c.args.frames.now.owners (overlay own pages)) c.args.space.now.entries
    c.args.tid c.args.regs.now c.args.budget.now) (sym was) is) in
    subst (λ (own : List (Option (List ℕ))).
    after_steps (c.args.budget.now - n.budget) w c.args.tid
    ≡ Some (run_to w c.args.tid (overlay own pages) n.regs n.budget))
    (sym (filled-kept n.own.items c.own.inside.count (all-written c))) runs

pub returns-clause-stop : goal.returns-clause-stop
returns-clause-stop c =
    let pages = c.args.frames.now.pages in
    let n = c.run_written.new in
    let P = λ (old new : List (Option (List ℕ))). MatchOption c.run_written.result
    (n.budget ≡ c.args.floor) (λ reason. (0 < n.budget) × ((w : World)
    → IsRunOf w (store_of c.args.frames.now.owners (overlay old pages)) c.args.space.now.entries
    c.args.tid c.args.regs.now c.args.budget.now
    → step (run_to w c.args.tid (overlay new pages) n.regs n.budget) c.args.tid ≡ Err reason)) in
    subst (λ (new : List (Option (List ℕ))). P c.args.own.now new)
    (sym (filled-kept n.own.items c.own.inside.count (all-written c)))
    (subst (λ (old : List (Option (List ℕ))). P old n.own.items)
    (c.write_out.ensures.items ∙ c.own.view_is) c.run_written.ensures.stop)

pub returns-clause-here : goal.returns-clause-here
returns-clause-here c =
    let n = c.run_written.new in
    ap (map is_some) (filled-kept n.own.items c.own.inside.count (all-written c))
    ∙ c.run_written.ensures.here ∙ ap (map is_some) (c.write_out.ensures.items ∙ c.own.view_is)
