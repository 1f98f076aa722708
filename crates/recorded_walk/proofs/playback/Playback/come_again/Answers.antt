use Rattle.std.proofs.Common.{subst, ◌∙◌, false, List}
use Rattle.elf_image.specs.Image.{Image}
use Rattle.flat_machine.specs.Opening.{opening}
use Rattle.group_moves.specs.Moments.{first_moment}
use Rattle.recorded_walk.specs.Tracks.{HasCome}
use Rattle.recorded_walk.proofs.Places.{stands_there}
use Rattle.recorded_walk.proofs.playback.Playback.come_again.Goals as goal

pub returns-clause-stands : goal.returns-clause-stands
returns-clause-stands c =
    let begun = c.in_ok-begin_again.ensures in
    let went = c.in_ok-go_on.ensures in
    stands_there c.self.inside.images.items c.self.inside.config c.go_on.new.self
    c.self.inside.reached false
    (subst (λ (images : List Image). HasCome (first_moment (opening images c.self.inside.config))
    c.go_on.new.self) c.deref.ensures.value (went.come _ begun.come))
    (went.same.config ∙ begun.config) went.on_track.used
