use Rattle.group_walk.proofs.RunningOn.{has-run}
use Rattle.group_walk.proofs.walker.Walker.run_on.Goals as goal
use Rattle.group_walk.proofs.walker.Walker.run_on.Goals.{in-Parallel, in-Serial}

pub returns-clause-runs : goal.returns-clause-runs
returns-clause-runs c =
    elim c.match-self.branch [
      | in-Parallel w ↦
          has-run c.self.inside c.args.self.now c.self.view_is c.args.stops.now c.args.kept.now _
          w.run_part.new.state _ w.in-Parallel.is w.deref.result.now w.deref.ensures.value
          w.run_part.result w.run_part.ensures.runs c.match-self.count c.match-self.self-inside
          c.from.result w.count-is w.self-inside-is c.from.ensures
      | in-Serial w ↦
          has-run c.self.inside c.args.self.now c.self.view_is c.args.stops.now c.args.kept.now _
          w.run_rest.new.state _ w.in-Serial.is w.deref-in-Serial.result.now
          w.deref-in-Serial.ensures.value w.run_rest.result w.run_rest.ensures.runs
          c.match-self.count c.match-self.self-inside c.from.result w.count-is w.self-inside-is
          c.from.ensures
    ]
