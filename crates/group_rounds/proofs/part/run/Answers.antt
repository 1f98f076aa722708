use Rattle.group_rounds.proofs.ThreadRunLaws.{part_ran}
use Rattle.group_rounds.proofs.part.run.Goals as goal

pub returns-clause-ran : goal.returns-clause-ran
returns-clause-ran c =
    part_ran c.args.state.now c.args.tid c.run_until_address.new.state c.run_until_address.result
    c.run_until_address.ensures.ran
