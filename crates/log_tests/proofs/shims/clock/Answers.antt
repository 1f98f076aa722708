use Rattle.dos_io.specs.declared.exchange.Exchange.TheVariants.{Clock}
use Rattle.log_tests.proofs.NoEnd.{after_value}
use Rattle.log_tests.proofs.shims.clock.Goals as goal

pub returns : goal.returns
returns g c =
    after_value c.clock.result (g.S.Shim.state c.args.shim.now) (g.S.Shim.state c.clock.new.self) _
    (λ n. Clock 1 1 n) c.requires (λ _. tt) c.clock.ensures.ok c.clock.ensures.err
