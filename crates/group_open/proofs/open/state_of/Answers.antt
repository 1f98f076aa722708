use Rattle.std.proofs.Common.{refl}
use Rattle.group_open.proofs.open.state_of.Goals as goal

pub returns-in-Ok : goal.returns-in-Ok
returns-in-Ok c = rw c.new_state.ensures (record {
  opened = c.in-Ok.ensures;
  pipes = c.in_ok-pipes.ensures.pipes;
  futexes = c.in_ok-pipes.ensures.futexes;
  round = refl;
})
