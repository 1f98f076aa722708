use Rattle.std.proofs.Common.{ap, arith, max, ◌∙◌}
use Rattle.debugger.specs.Standing.{SessionView}
use Rattle.debugger.proofs.Silent.{ready_silent}
use Rattle.debugger.proofs.session.Session.run_on.Goals as goal

pub invariant_of-self : goal.invariant_of-self
invariant_of-self c = λ _.
    let ready = c.self.invariant (ap (λ (k : SessionView). k.failed) c.self.view_is ∙ c.requires) in
    let reach = ready.reach in
    let e = c.run_on-count.ensures in
    let further = e.reached in
    ready_silent c.histories_start.ensures _ ready c.run_on-count.new.self e.same e.running
    e.stands c.args.stops.now c.args.kept.now c.run_on-count.result c.max-self-inside.result
    e.moves e.silent
    (c.max-self-inside.ensures ∙ ap (max c.self.inside.furthest) c.moves.ensures.moves)
    (omega (arith, reach, further))
    (let moves = c.moves.ensures.moves in
    let reached = c.moves.ensures.reached e.running in omega (arith, moves, reached))
