use Rattle.group_text.specs.Records.{group_of_record}
use Rattle.group_files.proofs.GroupVerdicts.{group_accepted, text_refused, world_refused}
use Rattle.group_files.proofs.loading.read_file.Goals as goal

pub returns-in-Ok-clause-accepted : goal.returns-in-Ok-clause-accepted
returns-in-Ok-clause-accepted c =
    group_accepted c.args.bytes.now (group_of_record c.in-Ok.group) c.requires
    c.in-Ok.ensures.gives.0 c.in-Ok.ensures.gives.1

pub returns-in-Ok-clause-lawful : goal.returns-in-Ok-clause-lawful
returns-in-Ok-clause-lawful c = c.in-Ok.ensures.gives.1

pub returns-in-Err-Refused-clause-refused : goal.returns-in-Err-Refused-clause-refused
returns-in-Err-Refused-clause-refused c =
    text_refused c.args.bytes.now c.in-Err-Refused.field-0 c.in-Err-Refused.error c.requires
    c.in-Err-Refused.field-0-is c.in-Err-Refused.ensures.gives

pub returns-in-Err-Unlawful-clause-refused : goal.returns-in-Err-Unlawful-clause-refused
returns-in-Err-Unlawful-clause-refused c =
    world_refused c.args.bytes.now c.in-Err-Unlawful.field-0 c.requires
    c.in-Err-Unlawful.field-0-is c.in-Err-Unlawful.ensures.gives
