use Rattle.round_core.specs.Protocol.{any_protocol}
use Rattle.round_core.proofs.SameRun.{same_run_kept}
use Rattle.round_core.proofs.laws.runs_stay_same.Goals as goal

pub returns : goal.returns
returns c = λ quantum rounds.
    same_run_kept quantum rounds any_protocol (λ question output error. tt)
