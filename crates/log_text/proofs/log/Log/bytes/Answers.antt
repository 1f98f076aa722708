use Rattle.std.proofs.Common.{length, ap, arith}
use Rattle.log_text.specs.declared.header.LogHeader.{LogHeader}
use Rattle.log_text.proofs.LengthLaws.{header_length, text_length}
use Rattle.log_text.proofs.log.Log.bytes.Goals as goal

pub returns : goal.returns
returns c =
    let log = c.args.self.now in
    omega (
      arith,
      text_length log,
      header_length log.version log.header c.len-len.ensures.fits.header.digests,
      ap (λ (h : LogHeader). length h.digests) c.header.ensures,
      c.len.ensures.value,
      ap length c.text.ensures.text,
    )
