use Rattle.group_rounds.proofs.Marked.{between-marked}
use Rattle.group_rounds.proofs.kernel.Kernel.settle.Goals as goal

pub invariant_of-self : goal.invariant_of-self
invariant_of-self c =
    let s = c.self.inside.state in
    let config = c.self.inside.config in
    let held = c.self.invariant in (
      held.0,
      held.1,
      held.2,
      λ running. rw c.settle.ensures (between-marked s _ config (held.3 running)),
    )
