use Rattle.std.proofs.Common.{◌≡◌, ◌∙◌, ◌++◌, ℕ, List, length, take, drop, ap, sym, subst, arith}
use Rattle.std.proofs.Common.{take_all}
use Rattle.std.proofs.lemmas.List.{take-append-le}
use Rattle.quantum_run.specs.Packs.{seen_by_view}
use Rattle.quantum_run.specs.Shows.{Pack}
use Rattle.worker_pool.specs.Ran.{EachRan}
use Rattle.worker_pool.proofs.ways.run_spread.Goals as goal

-- as many packs, written over the whole vector, are what it has then
written-over : (now old : List Pack) (n : ℕ) → n ≡ length old → length now ≡ length old
    → take n (now ++ drop (length now) old) ≡ now
written-over now old n all level =
    take-append-le n now (drop (length now) old) (omega (arith, all, level))
    ∙ take_all n now (omega (arith, all, level))

pub returns-clause-number : goal.returns-clause-number
returns-clause-number g c =
    let now : List Pack = c.run_evenly.new.packs in
    let old : List Pack = c.args.packs.now.items in
    let level : length now ≡ length old =
    c.run_evenly.ensures.number ∙ ap (λ (l : List Pack). length l) c.as_mut_slice.ensures.value in
    ap (λ (l : List Pack). length l) (written-over now old _ c.args.packs.now.ok.0 level) ∙ level

pub returns-clause-each : goal.returns-clause-each
returns-clause-each g c =
    let v = seen_by_view c.args.view.now in
    let now : List Pack = c.run_evenly.new.packs in
    let old : List Pack = c.args.packs.now.items in
    let level : length now ≡ length old =
    c.run_evenly.ensures.number ∙ ap (λ (l : List Pack). length l) c.as_mut_slice.ensures.value in
    subst (EachRan v old) (sym (written-over now old _ c.args.packs.now.ok.0 level))
    (subst (λ (l : List Pack). EachRan v l now) c.as_mut_slice.ensures.value
    c.run_evenly.ensures.each)
