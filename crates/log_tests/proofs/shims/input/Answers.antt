use Rattle.std.proofs.Common.{length, take}
use Rattle.dos_io.specs.declared.exchange.Exchange.TheVariants.{Input}
use Rattle.log_tests.proofs.NoEnd.{after_value}
use Rattle.log_tests.proofs.shims.input.Goals as goal

pub returns-clause-told : goal.returns-clause-told
returns-clause-told g c =
    after_value c.input.result (g.S.Shim.state c.args.shim.now) (g.S.Shim.state c.input.new.self) _
    (λ k. Input 1 1 (length c.args.buf.now) (take k c.input.new.buf)) c.requires.told (λ _. tt)
    c.input.ensures.ok c.input.ensures.err
