use Rattle.dos_laws.proofs.StandsFrames.{lowest_in, lowest_is}
use Rattle.dos_laws.proofs.Zeros.{free_page}
use Rattle.dos_laws.proofs.laws.new_pages_are_zero.Goals as goal

pub returns : goal.returns
returns c = λ w t p rights page l room. let there = lowest_is w.owners room in
    free_page w (lowest_in w.owners) l there.0 there.1
