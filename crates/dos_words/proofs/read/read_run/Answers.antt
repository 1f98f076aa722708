use Rattle.std.proofs.Common.{rules}
use Rattle.dos_words.proofs.RunParts.{run_in_parts}
use Rattle.dos_words.proofs.read.read_run.Goals as goal

pub returns-in_default : goal.returns-in_default
returns-in_default c = rw run_in_parts (search rules)

pub returns-in_default-scheme_of : goal.returns-in_default-scheme_of
returns-in_default-scheme_of c = rw run_in_parts (search rules)

pub returns-in_default-clock_of : goal.returns-in_default-clock_of
returns-in_default-clock_of c = rw run_in_parts (search rules)

pub returns-in_err-posts : goal.returns-in_err-posts
returns-in_err-posts c = rw run_in_parts (search rules)

pub returns-in_err-log : goal.returns-in_err-log
returns-in_err-log c = rw run_in_parts (search rules)

pub returns : goal.returns
returns c = rw run_in_parts (search rules)
