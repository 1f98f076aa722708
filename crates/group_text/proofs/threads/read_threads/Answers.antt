use Rattle.std.proofs.Common.{sym}
use Rattle.text_fields.specs.Formats.{ascending, u8_in, from_to}
use Rattle.group_text.specs.GroupText.{thread_row}
use Rattle.group_text.proofs.ReadingLaws.{counted_is}
use Rattle.group_text.proofs.threads.read_threads.Goals as goal

pub returns : goal.returns
returns c =
    rw (counted_is (u8_in (from_to 0 64))
    (λ n. ascending (λ t. t.0) (thread_row c.args.given c.args.processes) n 1) c.args.end
    c.args.bytes.now (c.in_ok-count.count, c.in_ok-count.rest.now) c.in_ok-count.ensures.value)
    (rw (sym c.from.ensures) c.read_ascending.ensures)
