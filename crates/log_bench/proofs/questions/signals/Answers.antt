use Rattle.dos_io.specs.declared.exchange.Exchange.TheVariants.{Signals}
use Rattle.log_bench.proofs.NoEnd.{asked}
use Rattle.log_bench.proofs.questions.signals.Goals as goal

pub returns : goal.returns
returns g c =
    asked c.signals.result (g.S.Shim.state c.args.shim.now)
    (g.S.Shim.state c.signals.new.self) _ (λ _. Signals c.args.round c.signals.new.list) c.requires
    (λ _. tt) c.signals.ensures.ok c.signals.ensures.err
