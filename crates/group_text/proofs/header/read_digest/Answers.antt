use Rattle.std.proofs.Common.{arith}
use Rattle.group_text.proofs.ReadingLaws.{bytes_len}
use Rattle.group_text.proofs.header.read_digest.Goals as goal

pub copy_from_slice-requires : goal.copy_from_slice-requires
copy_from_slice-requires c =
    let len = bytes_len 32 c.args.end c.args.bytes.now
    (c.in_ok-front.front.now, c.in_ok-front.rest.now) c.in_ok-front.ensures in
    omega (arith, len)
