use Rattle.log_text.specs.declared.version.LogVersion.TheVariants.{Two}
use Rattle.dos_texts.specs.Migration.{version_line}
use Rattle.dos_texts.proofs.Pieces.{on_err, first_fails, both_steady, both_told, second_fails}
use Rattle.dos_texts.proofs.migration.put_migrated.Goals as goal

pub returns-in_err-put_line-clause-front : goal.returns-in_err-put_line-clause-front
returns-in_err-put_line-clause-front g c =
    on_err c.from_residual.result _
    (first_fails _ _ _ (version_line c.args.version c.args.bytes)
    (version_line Two c.args.written) c.version_line-first.ensures
    c.in_err-put_line.ensures.front)

pub returns-clause-told : goal.returns-clause-told
returns-clause-told g c =
    both_told c.put_line-2.result _ _ _ _ (version_line c.args.version c.args.bytes) _
    (version_line Two c.args.written) c.version_line-first.ensures c.version_line-last.ensures
    c.in_ok-put_line.ensures.told c.put_line-2.ensures.told

pub returns-clause-front : goal.returns-clause-front
returns-clause-front g c =
    second_fails c.put_line-2.result _ _ _ _ (version_line c.args.version c.args.bytes) _
    (version_line Two c.args.written) c.version_line-first.ensures c.version_line-last.ensures
    c.in_ok-put_line.ensures.told c.put_line-2.ensures.front

pub returns-clause-steady : goal.returns-clause-steady
returns-clause-steady g c =
    both_steady c.put_line-2.result _ _ _ c.in_ok-put_line.ensures.steady
    c.put_line-2.ensures.steady
