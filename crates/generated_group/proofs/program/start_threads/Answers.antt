use Rattle.generated_group.proofs.StartLaws.{all_started}
use Rattle.generated_group.proofs.program.start_threads.Goals as goal

pub returns : goal.returns
returns c =
    all_started c.args.builder.now c.label.new.self c.label-2.new.self c.push.new.self
    c.here.new.self c.start_next.new.builder c.here-2.new.self c.args.threads
    c.in_ok-next.next.number c.in_ok-first.first.number c.requires.empty c.in_ok-next.ensures.ok
    c.in_ok-next.ensures.number c.in_ok-first.ensures.ok c.in_ok-first.ensures.number
    c.in_ok-push.ensures.ok c.here.ensures c.in_ok-start_next.ensures c.here-2.ensures
