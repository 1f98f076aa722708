use Rattle.dos_twin.proofs.TwinOpenings.{both_opened}
use Rattle.dos_twin.proofs.opening.open_named.Goals as goal

pub returns-clause-opened : goal.returns-clause-opened
returns-clause-opened g c =
    let load = c.in_ok-images.ensures in
    let opened = c.open_both-opened.ensures in
    both_opened c.open_both-opened.result (g.F.Files.content c.args.files.now) c.args.names.now
    c.deref.result.now c.in_ok-images.images.items c.deref.ensures.value load.accepted opened.room
    opened.opened opened.second_opened
