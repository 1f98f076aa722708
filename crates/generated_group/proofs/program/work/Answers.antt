use Rattle.generated_group.proofs.WorkLaws.{worked_by}
use Rattle.generated_group.proofs.program.work.Goals as goal

pub returns : goal.returns
returns c =
    worked_by c.args.builder.now c.label.new.self c.label-2.new.self c.here.new.self
    c.push_all.new.builder c.branch-builder.new.self c.push_all-2.new.builder c.here-2.new.self
    c.push.new.self c.branch-builder-2.new.self c.in_ok-body.body.number c.in_ok-skip.skip.number
    c.requires.labels c.requires.place c.in_ok-body.ensures.ok c.in_ok-body.ensures.number
    c.in_ok-skip.ensures.ok c.in_ok-skip.ensures.number c.here.ensures c.in_ok-push_all.ensures
    c.in_ok-branch.ensures.ok c.in_ok-push_all-2.ensures c.here-2.ensures c.in_ok-push.ensures.ok
    c.in_ok-branch-2.ensures.ok
