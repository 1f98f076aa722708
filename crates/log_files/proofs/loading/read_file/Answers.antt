use Rattle.log_files.proofs.Verdicts.{accepted_as, refused_as}
use Rattle.log_files.proofs.loading.read_file.Goals as goal

pub returns-in-Ok-clause-accepted : goal.returns-in-Ok-clause-accepted
returns-in-Ok-clause-accepted c =
    accepted_as c.args.bytes.now c.in-Ok.log c.requires c.in-Ok.ensures.exact

pub returns-in-Err-Refused-clause-refused : goal.returns-in-Err-Refused-clause-refused
returns-in-Err-Refused-clause-refused c = refused_as c.args.bytes.now c.in-Err-Refused.field-0
    c.in-Err-Refused.error c.requires c.in-Err-Refused.field-0-is c.in-Err-Refused.ensures.exact
