use Rattle.text_fields.specs.Formats.{ascending, u32_in, from_to}
use Rattle.group_text.specs.GroupText.{page_row}
use Rattle.group_text.proofs.ReadingLaws.{counted_is, plain}
use Rattle.group_text.proofs.processes.read_space.Goals as goal

pub returns : goal.returns
returns c =
    rw (counted_is (u32_in (from_to 0 c.args.frames))
    (λ n. ascending (λ e. e.0) (page_row c.args.frames) n 1) c.args.end
    c.args.bytes.now (c.in_ok-count.count, c.in_ok-count.rest.now) c.in_ok-count.ensures.value)
    (plain (λ v. v.items) (λ b. b.now) c.read_ascending.result _ c.read_ascending.ensures)
