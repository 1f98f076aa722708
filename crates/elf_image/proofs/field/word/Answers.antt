use Rattle.std.proofs.Common.{◌∙◌}
use Rattle.elf_image.proofs.FieldLaws.{word_is}
use Rattle.elf_image.proofs.field.word.Goals as goal

pub returns : goal.returns
returns c = c.read_u32.ensures ∙ word_is c.args.bytes.now c.args.place
