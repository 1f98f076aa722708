use Rattle.std.proofs.Common.{append_assoc}
use Rattle.log_text.proofs.log_writing.put_header.Goals as goal

pub returns : goal.returns
returns c = rw (
  c.in_ok-put_digests.ensures,
  c.in_ok-put_numbers.ensures,
  c.in_ok-put_start.ensures,
  c.len-images.ensures.value,
) (simp append_assoc)
