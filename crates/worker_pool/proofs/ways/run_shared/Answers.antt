use Rattle.std.proofs.Common.{◌≡◌, ◌∙◌, length, sym, subst, ap, arith, List}
use Rattle.quantum_run.specs.Packs.{seen_by_view}
use Rattle.quantum_run.specs.Shows.{Pack}
use Rattle.worker_pool.specs.Lending.{packs_of, IsFinished}
use Rattle.worker_pool.specs.Ran.{AllRunnable, EachRan}
use Rattle.worker_pool.proofs.RanPacks.{ready-of, as-many, finished-ran, packs-length}
use Rattle.worker_pool.proofs.ways.run_shared.Goals as goal

pub run_each-requires-clause-ready : goal.run_each-requires-clause-ready
run_each-requires-clause-ready g c κs within =
    ready-of (seen_by_view c.args.view.now) _
    (subst (AllRunnable (seen_by_view c.args.view.now)) (sym c.lend.ensures.packs) c.requires.can)
    c.lend.ensures.views

pub take_back-requires : goal.take_back-requires
take_back-requires g c =
    let f = as-many IsFinished _ _ c.in-Ok-run_each.ensures.ok.0 in
    let a = c.lend.ensures.len in let b = c.lend.ensures.capacity in let e = c.lend.ensures.empty in
    let x = c.in-Ok-run_each.lent.ok in let y = c.lend.new.lent.ok in let z = c.args.packs.now.ok in
    (e, omega arith)

pub returns-in-Ok-run_each : goal.returns-in-Ok-run_each
returns-in-Ok-run_each g c =
    let v = seen_by_view c.args.view.now in
    let old : List Pack = c.args.packs.now.items in
    let now : List Pack = packs_of c.in-Ok-run_each.lent.items in
    let back : c.take_back.new.packs.items ≡ now = c.take_back.ensures.packs in
    let ran : EachRan v old now =
    subst (λ (l : List Pack). EachRan v l now) c.lend.ensures.packs
    (finished-ran v _ _ c.in-Ok-run_each.ensures.ok.0 c.lend.ensures.views) in
    let lent : length c.in-Ok-run_each.lent.items ≡ length c.lend.new.lent.items =
    as-many IsFinished _ _ c.in-Ok-run_each.ensures.ok.0 in
    record {
      number = ap (λ (l : List Pack). length l) back ∙ packs-length c.in-Ok-run_each.lent.items
          ∙ lent ∙ sym (packs-length c.lend.new.lent.items)
          ∙ ap (λ (l : List Pack). length l) c.lend.ensures.packs;
      each = subst (λ (l : List Pack). EachRan v old l) (sym back) ran;
      room = c.take_back.ensures.capacity ∙ c.lend.ensures.capacity;
    }

-- where the board isn't made the packs are as they were
pub run_spread-requires-in-Err-clause-can : goal.run_spread-requires-in-Err-clause-can
run_spread-requires-in-Err-clause-can g c κs within =
    let same : c.take_back-in-Err.new.packs.items ≡ c.args.packs.now.items =
    c.take_back-in-Err.ensures.packs ∙ ap packs_of c.in-Err.ensures.err.0
    ∙ c.lend.ensures.packs in
    subst (AllRunnable (seen_by_view c.args.view.now)) (sym same) c.requires.can

pub returns-in-Err : goal.returns-in-Err
returns-in-Err g c =
    let same : c.take_back-in-Err.new.packs.items ≡ c.args.packs.now.items =
    c.take_back-in-Err.ensures.packs ∙ ap packs_of c.in-Err.ensures.err.0
    ∙ c.lend.ensures.packs in
    let ran = c.run_spread-in-Err.ensures in
    record {
      number = ran.number ∙ ap (λ (l : List Pack). length l) same;
      each = subst (λ (l : List Pack). EachRan (seen_by_view c.args.view.now) l
          c.run_spread-in-Err.new.packs.items) same ran.each;
      room = ran.room ∙ c.take_back-in-Err.ensures.capacity ∙ c.lend.ensures.capacity;
    }
