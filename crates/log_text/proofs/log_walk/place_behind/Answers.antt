use Rattle.log_text.proofs.PlaceLaws.{stands_first}
use Rattle.log_text.proofs.log_walk.place_behind.Goals as goal

pub loop-index-init : goal.loop-index-init
loop-index-init c = stands_first c.args.log.now c.len-len.ensures.fits
