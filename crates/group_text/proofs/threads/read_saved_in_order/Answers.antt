use Rattle.std.proofs.Common.{sym}
use Rattle.text_fields.specs.Formats.{many, u8_in, from_to}
use Rattle.group_text.specs.GroupText.{saved_row}
use Rattle.group_text.proofs.ReadingLaws.{counted_is, plain}
use Rattle.group_text.proofs.threads.read_saved_in_order.Goals as goal

pub returns : goal.returns
returns c =
    rw (counted_is (u8_in (from_to 0 4)) (λ depth. many depth saved_row) c.args.end
    c.args.bytes.now (c.in_ok-depth.depth, c.in_ok-depth.rest.now) c.in_ok-depth.ensures.value)
    (plain (λ v. v.items) (λ b. b.now) c.read_many.result _
    (rw (sym c.from.ensures) c.read_many.ensures))
