use Rattle.std.proofs.Common.{sym, refl}
use Rattle.text_fields.specs.Formats.{many, u8_in, any}
use Rattle.group_text.specs.GroupText.{sleeper_row}
use Rattle.group_text.proofs.ReadingLaws.{counted_is}
use Rattle.group_text.proofs.parts.read_sleepers.Goals as goal

pub returns : goal.returns
returns c =
    rw (counted_is (u8_in any) (λ n. many n (sleeper_row c.args.given c.args.frames)) c.args.end
    c.args.bytes.now (c.in_ok-count.count, c.in_ok-count.rest.now) (rw c.in_ok-count.ensures refl))
    (rw (sym c.from.ensures) c.read_many.ensures)
