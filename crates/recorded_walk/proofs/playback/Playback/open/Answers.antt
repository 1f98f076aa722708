use Rattle.std.proofs.Common.{List, false, subst}
use Rattle.elf_image.specs.Image.{Image}
use Rattle.flat_machine.specs.Opening.{opening}
use Rattle.group_moves.specs.Moments.{first_moment}
use Rattle.recorded_walk.specs.Tracks.{HasCome}
use Rattle.recorded_walk.proofs.Places.{stands_there}
use Rattle.recorded_walk.proofs.playback.Playback.open.Goals as goal

pub returns-in-Ok-clause-stands : goal.returns-in-Ok-clause-stands
returns-in-Ok-clause-stands c =
    stands_there c.args.images.items c.args.config c.in-Ok.track 0 false
    (subst (λ (images : List Image). HasCome (first_moment (opening images c.args.config))
    c.in-Ok.track) c.deref.ensures.value c.in-Ok.ensures.come) c.in-Ok.ensures.config
    c.in-Ok.ensures.on_track.used
