use Rattle.std.proofs.Common.{◌≡◌, subst}
use Rattle.std.specs.Prelude.{IfOk}
use Rattle.log_text.specs.declared.version.LogVersion.{LogVersion}
use Rattle.log_text.specs.LogText.{logtext}
use Rattle.log_files.proofs.storing.text_of.Goals as goal

pub returns : goal.returns
returns c =
    subst (λ (v : LogVersion). IfOk c.write_log.result
    (λ text. text.items ≡ logtext (record c.args.log.now { version = v }))) c.version.ensures
    c.write_log.ensures
