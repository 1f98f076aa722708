use Rattle.dos_io.specs.declared.exchange.Exchange.TheVariants.{Clock}
use Rattle.log_bench.proofs.NoEnd.{asked}
use Rattle.log_bench.proofs.questions.clock.Goals as goal

pub returns : goal.returns
returns g c =
    asked c.clock.result (g.S.Shim.state c.args.shim.now) (g.S.Shim.state c.clock.new.self) _
    (λ n. Clock 1 1 n) c.requires (λ _. tt) c.clock.ensures.ok c.clock.ensures.err
