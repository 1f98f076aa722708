use Rattle.std.proofs.Common.{arith}
use Rattle.text_fields.specs.Formats.{from_to}
use Rattle.group_text.specs.GroupText.{life_code, life_by_code}
use Rattle.group_text.proofs.ReadingLaws.{tagged_is, ended_is}
use Rattle.group_text.proofs.processes.read_life.Goals as goal

pub returns-clause-life : goal.returns-clause-life
returns-clause-life c =
    rw (
      tagged_is life_code (from_to 0 2) (life_by_code c.args.frames) c.args.end c.args.bytes.now
          (c.in_ok-kind.kind, c.in_ok-kind.rest.now) c.in_ok-kind.ensures.value,
      ended_is c.args.frames c.in_ok-kind.kind (omega (arith, c.if-kind-eq0.false))
          (omega (arith, c.in_ok-kind.ensures.range)),
    ) c.read_ended.ensures.life
