use Rattle.std.proofs.Common.{arith}
use Rattle.text_fields.specs.Formats.{from_to}
use Rattle.group_text.specs.GroupText.{owner_code, frame_by_code}
use Rattle.group_text.proofs.ReadingLaws.{tagged_is, owned_is}
use Rattle.group_text.proofs.parts.read_frame.Goals as goal

pub returns-clause-gives : goal.returns-clause-gives
returns-clause-gives c =
    rw (
      tagged_is owner_code (from_to 0 2) (frame_by_code c.args.given) c.args.end c.args.bytes.now
          (c.in_ok-kind.kind, c.in_ok-kind.rest.now) c.in_ok-kind.ensures.value,
      owned_is c.args.given c.in_ok-kind.kind
          (omega (arith, c.if-kind-eq0.false, c.if-kind-eq1.false)),
    ) c.read_owned.ensures.gives
