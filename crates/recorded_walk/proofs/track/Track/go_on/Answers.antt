use Rattle.std.proofs.Common.{Option, arith, subst}
use Rattle.group_walk.specs.declared.walker.MoveKind.{MoveKind as kind_type}
use Rattle.recorded_walk.specs.Tracks.{HasStepped}
use Rattle.recorded_walk.proofs.Coming.{has_moved_on, same_run_on}
use Rattle.recorded_walk.proofs.track.Track.go_on.Goals as goal

pub loop-self-preserved-in-Some-1 : goal.loop-self-preserved-in-Some-1
loop-self-preserved-in-Some-1 c =
    let inv = c.loop-self.invariant in
    let ran = c.run_on.ensures in
    let e = c.in-Ok-Some.ensures in
    let stepped = subst (λ (k : Option kind_type). HasStepped k c.run_on.new.self c.step.new.self)
    c.in-Ok-Some.field-0-is e.steps in
    record {
      on_track = e.on_track;
      later = (let test = c.loop-self-test.true in let none = c.if-run_on-eq0.true in
          let here = ran.moves in let more = stepped.0 in omega (arith, test, none, here, more));
      come = λ first begun. has_moved_on first c.in-Ok-Some.field-0-0 c.run_on.new.self
          c.step.new.self stepped e.same (ran.come first (inv.come first begun));
      same = same_run_on c.args.self.now c.run_on.new.self c.step.new.self
          (same_run_on c.args.self.now c.loop-self.self c.run_on.new.self inv.same ran.same)
          e.same;
    }
