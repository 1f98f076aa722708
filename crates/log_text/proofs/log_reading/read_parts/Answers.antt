use Rattle.std.proofs.Common.{length, arith}
use Rattle.log_text.proofs.LogLaws.{header_takes}
use Rattle.log_text.proofs.log_reading.read_parts.Goals as goal

pub returns-clause-header : goal.returns-clause-header
returns-clause-header c =
    (header_takes (length c.args.bytes.now) c.args.bytes.now
    ((c.in_ok-version.version, c.in_ok-version.header), c.in_ok-version.rest.now)
    (λ i. omega (arith, c.type_inv.bytes i)) c.in_ok-version.ensures).fits
