use Rattle.generated_group.proofs.FileLaws.{finished-told, image-told}
use Rattle.generated_group.proofs.image.program_file.Goals as goal

pub unreachable-requires : goal.unreachable-requires
unreachable-requires c =
    finished-told c.args.number c.args.threads c.in-Err.error c.requires
    (rw c.in_ok-program.ensures at (c.in-Err.ensures.refused c.in_default.not-Memory))

pub returns-in-Ok : goal.returns-in-Ok
returns-in-Ok c =
    image-told c.args.number c.args.threads c.in-Ok.file.items
    (rw c.in_ok-program.ensures at c.in-Ok.ensures.read)
