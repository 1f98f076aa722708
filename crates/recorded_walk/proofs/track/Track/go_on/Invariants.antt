use Rattle.std.proofs.Common.{◌-◌, ◌≤◌}
use Rattle.group_moves.specs.Moments.{Moment}
use Rattle.recorded_walk.specs.Tracks.{HasCome, IsOfSameRun, IsOnTrack}
use Rattle.recorded_walk.proofs.track.Track.go_on.Given as goal

abbrev pub invariant-loop-self : goal.invariant-loop-self
invariant-loop-self l = record {
  on_track : IsOnTrack l.self;
  later : l.self.moves ≤ l.moves;
  come : (first : Moment) → HasCome first l.fn.self → HasCome first l.self;
  same : IsOfSameRun l.fn.self l.self;
}

abbrev pub decreases-loop-self : goal.decreases-loop-self
decreases-loop-self l = l.moves - l.self.moves
