use Rattle.group_text.proofs.ReadingLaws.{plain}
use Rattle.group_text.proofs.processes.read_actions.Goals as goal

pub returns : goal.returns
returns c = plain (λ v. v.items) (λ b. b.now) c.read_many.result _ c.read_many.ensures
