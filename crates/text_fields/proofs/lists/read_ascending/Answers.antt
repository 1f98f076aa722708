use Rattle.std.proofs.Common.{arith, ℕ, ◌-◌, suc, map, subst}
use Rattle.std.proofs.lemmas.Result.{err_from_is_err_and}
use Rattle.text_fields.proofs.ListLoops.{HasRead, begins, goes_on, stops, ends}
use Rattle.text_fields.proofs.lists.read_ascending.Goals as goal

pub loop-init : goal.loop-init
loop-init g c = (
  c.args.count,
  omega arith,
  begins g.R.NumberedRow.seen _ _ c.args.end c.args.count c.args.least c.args.bytes.now
      c.new-list.result.items c.new-list.ensures.items,
)

pub returns-in_err-item : goal.returns-in_err-item
returns-in_err-item g c =
    let so = c.loop.invariant in
    let p = err_from_is_err_and c.from_residual.result c.from_residual.ensures.1 in
    rw (p.1, p.2)
    (stops g.R.NumberedRow.seen _ _ c.args.end c.args.count c.args.least c.args.bytes.now _ so.0
    (so.0 - 1) c.loop.least c.loop.rest.now c.in_err-item.field-0.0
    (omega (arith, so.1, c.loop-test.true)) so.2 c.in_err-item.ensures.row)

pub loop-preserved : goal.loop-preserved
loop-preserved g c =
    let so = c.loop.invariant in (
      so.0 - 1,
      omega (arith, so.1, c.loop-test.true),
      subst (λ (k : ℕ). HasRead (g.R.NumberedRow.reading c.args.row.now)
          (λ s x. suc (g.R.NumberedRow.number x)) c.args.end c.args.count c.args.least
          c.args.bytes.now (map g.R.NumberedRow.seen c.push.new.self.items) (so.0 - 1) k
          c.in_ok-item.after.now)
          (omega (arith, c.number_of-least.ensures))
          (goes_on g.R.NumberedRow.seen _ _ c.args.end c.args.count c.args.least
          c.args.bytes.now c.loop.list.items so.0 (so.0 - 1) c.loop.least c.loop.rest.now
          c.in_ok-item.item c.in_ok-item.after.now c.push.new.self.items
          (omega (arith, so.1, c.loop-test.true)) so.2 c.in_ok-item.ensures.row
          c.in_ok-push.ensures.items),
    )

pub returns : goal.returns
returns g c =
    let so = c.loop.invariant in
    ends g.R.NumberedRow.seen _ _ c.args.end c.args.count c.args.least c.args.bytes.now _ so.0
    c.loop.least c.loop.rest.now (omega (arith, so.1, c.loop-test.false)) so.2
