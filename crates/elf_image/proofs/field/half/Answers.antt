use Rattle.std.proofs.Common.{◌∙◌}
use Rattle.elf_image.proofs.FieldLaws.{half_is}
use Rattle.elf_image.proofs.field.half.Goals as goal

pub returns : goal.returns
returns c = c.read_u16.ensures ∙ half_is c.args.bytes.now c.args.place
