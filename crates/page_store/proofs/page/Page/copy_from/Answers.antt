use Rattle.std.proofs.Common.{◌≡◌, ◌+◌, ◌-◌, length, arith}
use Rattle.page_store.proofs.Pages.{written-put_mid}
use Rattle.page_store.proofs.page.Page.copy_from.Goals as goal

pub returns : goal.returns
returns c =
    let count : (c.args.offset + length c.args.bytes.now) - c.args.offset
    ≡ length c.args.bytes.now = omega arith in
    written-put_mid c.args.self.now c.deref_mut.result.now c.copy_from_slice.new.self
    c.args.bytes.now c.args.offset _ (cc (c.self.invariant))
    (cc) c.copy_from_slice.ensures.after count c.requires
