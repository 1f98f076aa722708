use Rattle.log_tests.proofs.NoEnd.{after_answer}
use Rattle.log_tests.proofs.shims.signals.Goals as goal

pub returns : goal.returns
returns g c =
    after_answer c.signals.result (g.S.Shim.state c.args.shim.now)
    (g.S.Shim.state c.signals.new.self) _ _ c.requires tt c.signals.ensures.ok
    c.signals.ensures.err
