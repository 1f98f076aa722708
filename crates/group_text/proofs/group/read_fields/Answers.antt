use Rattle.group_text.specs.Records.{header_of_record}
use Rattle.group_text.proofs.ReadingLaws.{group_is}
use Rattle.group_text.proofs.group.read_fields.Goals as goal

pub returns : goal.returns
returns c =
    rw (group_is c.args.end c.args.bytes.now
    (header_of_record c.in_ok-header.header, c.in_ok-header.rest.now) c.in_ok-header.ensures)
    c.read_body.ensures
