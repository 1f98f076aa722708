use Rattle.group_rounds.specs.Kernels.{IsBetweenRounds}
use Rattle.group_rounds.proofs.Marked.{between-marked, of_either}
use Rattle.group_rounds.proofs.kernel.Kernel.mark.Goals as goal

pub invariant_of-self : goal.invariant_of-self
invariant_of-self c =
    let s = c.self.inside.state in
    let config = c.self.inside.config in
    let held = c.self.invariant in (
      held.0,
      held.1,
      held.2,
      λ running. of_either c.mark.result (λ frames. IsBetweenRounds (record s { frames = frames })
          config) c.mark.new.self _ s.frames c.mark.ensures.ok c.mark.ensures.err
          (between-marked s s.frames.owners config (held.3 running)) (held.3 running),
    )
