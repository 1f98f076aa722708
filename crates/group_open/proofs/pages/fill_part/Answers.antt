use Rattle.std.proofs.Common.{◌-◌, ◌*◌, take, drop, ap, arith}
use Rattle.page_store.specs.Store.{whole}
use Rattle.page_store.proofs.Pages.{length-whole}
use Rattle.group_open.proofs.PageLaws.{laid_by_copy}
use Rattle.group_open.proofs.pages.fill_part.Goals as goal

pub returns-then-start-end : goal.returns-then-start-end
returns-then-start-end c =
    let part = c.args.part.now in
    let from = c.max-start.result - part.address in
    let count = c.min-end.result - part.address - from in
    laid_by_copy part (4096 * c.args.page) c.max-start.result c.min-end.result
    (whole c.args.target.now) (whole c.copy_from.new.self)
    (take count (drop from c.as_slice.result.now))
    (omega arith) (omega arith) c.if-start-end.true
    (ap (λ bytes. take count (drop from bytes)) c.as_slice.ensures)
    (length-whole c.args.target.now) c.copy_from.ensures
