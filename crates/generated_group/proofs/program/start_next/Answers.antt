use Rattle.generated_group.proofs.StartLaws.{next_started}
use Rattle.generated_group.proofs.program.start_next.Goals as goal

pub returns : goal.returns
returns c =
    next_started c.args.builder.now c.push.new.self c.branch-builder.new.self
    c.push_all.new.builder c.jump.new.self c.args.threads c.args.next.number c.args.first.number
    c.requires c.in_ok-push.ensures.ok c.in_ok-branch.ensures.ok c.in_ok-push_all.ensures
    c.in_ok-jump.ensures.ok
