use Rattle.std.proofs.Common.{◌≡◌, Option, Some, None}
use Rattle.std.specs.Option.{option_or}
use Rattle.std.proofs.lemmas.Result.{err_from_is_err_and}
use Rattle.elf_image.specs.Image.{refusal, format_refusal, machine_refusal, table_refusal}
use Rattle.elf_image.specs.declared.error.ImageError.{ImageError}
use Rattle.elf_image.proofs.read.accepted_headers.Goals as goal

-- what comes behind a refusal doesn't matter
among_three : (a b c rest : Option ImageError) (error : ImageError)
    → option_or a (option_or b c) ≡ Some error
    → option_or a (option_or b (option_or c rest)) ≡ Some error
among_three (Some x) b c rest error is = is
among_three None (Some x) c rest error is = is
among_three None None (Some x) rest error is = is
among_three None None None rest error is = absurd (cc)

pub returns-in_err-check_bytes-clause-refused : goal.returns-in_err-check_bytes-clause-refused
unfolding refusal
returns-in_err-check_bytes-clause-refused c =
    let p = err_from_is_err_and c.from_residual.result c.from_residual.ensures.1 in
    rw (p.1, p.2) (among_three (format_refusal c.args.bytes.now)
    (machine_refusal c.args.bytes.now) (table_refusal c.args.bytes.now) _
    c.in_err-check_bytes.field-0.0 c.in_err-check_bytes.ensures.refused)
