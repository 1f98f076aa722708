use Rattle.std.proofs.Common.{arith, ◌-◌}
use Rattle.std.proofs.lemmas.Result.{err_from_is_err_and}
use Rattle.text_fields.proofs.ListLoops.{begins, goes_on, stops, ends}
use Rattle.text_fields.proofs.lists.read_many.Goals as goal

pub loop-init : goal.loop-init
loop-init g c = (
  c.args.count,
  omega arith,
  begins g.R.Row.seen _ _ c.args.end c.args.count 0 c.args.bytes.now c.new-list.result.items
      c.new-list.ensures.items,
)

pub returns-in_err-item : goal.returns-in_err-item
returns-in_err-item g c =
    let so = c.loop.invariant in
    let p = err_from_is_err_and c.from_residual.result c.from_residual.ensures.1 in
    rw (p.1, p.2)
    (stops g.R.Row.seen _ _ c.args.end c.args.count 0 c.args.bytes.now _ so.0 (so.0 - 1) 0
    c.loop.rest.now c.in_err-item.field-0.0 (omega (arith, so.1, c.loop-test.true)) so.2
    c.in_err-item.ensures)

pub loop-preserved : goal.loop-preserved
loop-preserved g c =
    let so = c.loop.invariant in (
      so.0 - 1,
      omega (arith, so.1, c.loop-test.true),
      goes_on g.R.Row.seen _ _ c.args.end c.args.count 0 c.args.bytes.now c.loop.list.items so.0
          (so.0 - 1) 0 c.loop.rest.now c.in_ok-item.item c.in_ok-item.after.now
          c.push.new.self.items (omega (arith, so.1, c.loop-test.true)) so.2
          c.in_ok-item.ensures c.in_ok-push.ensures.items,
    )

pub returns : goal.returns
returns g c =
    let so = c.loop.invariant in
    ends g.R.Row.seen _ _ c.args.end c.args.count 0 c.args.bytes.now _ so.0 0 c.loop.rest.now
    (omega (arith, so.1, c.loop-test.false)) so.2
