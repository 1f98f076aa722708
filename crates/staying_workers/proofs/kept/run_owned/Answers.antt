use Rattle.std.proofs.Common.{List, ap, arith, subst, sym, ◌∙◌}
use Rattle.quantum_run.specs.Packs.{seen_in}
use Rattle.quantum_run.specs.Shows.{Pack}
use Rattle.quantum_run.specs.declared.pack.Shared.{Shared}
use Rattle.worker_pool.specs.Ran.{AllCanRun, AllRan}
use Rattle.worker_pool.proofs.RanPacks.{as-many}
use Rattle.staying_workers.specs.Lending.{AreOfTerm, IsHeldFinished, packs_held}
use Rattle.staying_workers.specs.declared.held.Held.{Held}
use Rattle.staying_workers.proofs.RanPacks.{all_ran, ready_of, still_of_term}
use Rattle.staying_workers.proofs.kept.run_owned.Goals as goal

pub run_each-requires-clause-ready : goal.run_each-requires-clause-ready
run_each-requires-clause-ready g c =
    let s = c.args.lender.value in
    λ κs κ. ready_of s c.lend-lender.new.held.items
    (subst (λ (l : List Pack). AllCanRun (seen_in s) l)
    (sym c.lend-lender.ensures.packs) c.requires.can) c.lend-lender.ensures.share

pub take_back-requires-clause-room : goal.take_back-requires-clause-room
take_back-requires-clause-room g c =
    let f = as-many IsHeldFinished _ _ c.in-Ok-run_each.ensures.ok.0 in
    let lent = c.lend-lender.ensures in
    let a = lent.len in let b = lent.capacity in let e = lent.empty in
    let x = c.in-Ok-run_each.held.ok in let y = c.lend-lender.new.held.ok in
    let z = c.args.packs.now.ok in
    (e, omega arith)

pub take_back-requires-clause-term : goal.take_back-requires-clause-term
take_back-requires-clause-term g c =
    subst (λ t. AreOfTerm t c.in-Ok-run_each.held.items) (sym c.lend-lender.ensures.lender.1)
    (still_of_term c.args.lender.term _ _ c.in-Ok-run_each.ensures.ok.0 c.lend-lender.ensures.term)

pub take_back-requires-clause-out : goal.take_back-requires-clause-out
take_back-requires-clause-out g c =
    let f = as-many IsHeldFinished _ _ c.in-Ok-run_each.ensures.ok.0 in
    let lent = c.lend-lender.ensures in
    let a = lent.len in let o = lent.lender.2 in let n = c.requires.count in
    let x = c.in-Ok-run_each.held.ok in let y = c.lend-lender.new.held.ok in
    (omega arith, omega arith)

pub take_back-lender-requires-clause-term : goal.take_back-lender-requires-clause-term
take_back-lender-requires-clause-term g c =
    let lent = c.lend-lender.ensures in
    subst (λ t. AreOfTerm t c.in-Err.held.items) (sym lent.lender.1)
    (subst (λ (hs : List Held). AreOfTerm c.args.lender.term hs) (sym c.in-Err.ensures.err.0)
    lent.term)

pub run_beside-requires-in-Err-clause-can : goal.run_beside-requires-in-Err-clause-can
run_beside-requires-in-Err-clause-can g c =
    let back = c.take_back-lender.ensures in
    let lent = c.lend-lender.ensures in
    subst (λ (s : Shared). AllCanRun (seen_in s) c.take_back-lender.new.packs.items)
    (sym (back.lender.0 ∙ lent.lender.0))
    (subst (λ (l : List Pack). AllCanRun (seen_in c.args.lender.value) l)
    (sym (back.packs ∙ ap packs_held c.in-Err.ensures.err.0 ∙ lent.packs)) c.requires.can)

pub returns-in-Ok-run_each-clause-runs : goal.returns-in-Ok-run_each-clause-runs
returns-in-Ok-run_each-clause-runs g c =
    let s = c.args.lender.value in
    subst (λ (l : List Pack). AllRan (seen_in s) c.args.packs.now.items l)
    (sym c.take_back.ensures.packs)
    (subst (λ (l : List Pack). AllRan (seen_in s) l (packs_held c.in-Ok-run_each.held.items))
    c.lend-lender.ensures.packs
    (all_ran s _ _ c.in-Ok-run_each.ensures.ok.0 c.lend-lender.ensures.share))
