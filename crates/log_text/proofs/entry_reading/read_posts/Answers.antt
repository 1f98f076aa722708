use Rattle.std.proofs.Common.{arith}
use Rattle.log_text.proofs.PostTexts.{posts_in}
use Rattle.log_text.proofs.entry_reading.read_posts.Goals as goal

pub overflow_sub-bytes : goal.overflow_sub-bytes
overflow_sub-bytes c = (posts_in c.args.count c.args.end c.args.bytes.now c.in_ok-rest.rest.now
    (λ i. omega (arith, c.type_inv.bytes i)) c.in_ok-rest.ensures).short

pub returns : goal.returns
returns c =
    let found = posts_in c.args.count c.args.end c.args.bytes.now c.in_ok-rest.rest.now
    (λ i. omega (arith, c.type_inv.bytes i)) c.in_ok-rest.ensures in
    rw (c.split_at.ensures.front, c.split_at.ensures.back) found.read
