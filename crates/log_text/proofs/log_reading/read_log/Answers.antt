use Rattle.std.proofs.Common.{◌∙◌, ap, subst, arith}
use Rattle.log_text.specs.Gives.{ReadsAs}
use Rattle.log_text.specs.Reading.{log_at}
use Rattle.log_text.proofs.LogLaws.{log_again}
use Rattle.log_text.proofs.WholeLaws.{is_found}
use Rattle.log_text.proofs.log_reading.read_log.Goals as goal

pub returns-clause-found : goal.returns-clause-found
returns-clause-found c =
    is_found c.args.bytes.now c.read_whole.result (λ i. omega (arith, c.type_inv.bytes i))
    c.read_whole.ensures

pub returns-clause-only : goal.returns-clause-only
returns-clause-only c = λ log fits e.
    subst (λ read. ReadsAs c.read_whole.result read) (ap log_at e ∙ log_again log fits)
    c.read_whole.ensures
