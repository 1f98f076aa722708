use Rattle.std.proofs.Common.{◌∙◌, refl}
use Rattle.std.proofs.lemmas.Result.{err_from_is_err_and}
use Rattle.elf_image.proofs.ImageLaws.{image-refused, image-accepted, image-made, sound_made}
use Rattle.elf_image.proofs.ImageLaws.{loadable_of}
use Rattle.elf_image.proofs.read.read_image.Goals as goal

pub returns-in_err-headers-clause-refused : goal.returns-in_err-headers-clause-refused
returns-in_err-headers-clause-refused c =
    let p = err_from_is_err_and c.from_residual.result c.from_residual.ensures.1 in
    rw (p.1, p.2) (λ not_memory.
    image-refused c.args.bytes.now c.in_err-headers.field-0.0
    c.in_err-headers.ensures.refused)

pub parts_of-requires : goal.parts_of-requires
parts_of-requires c = loadable_of c.args.bytes.now c.deref.result.now
    c.in_ok-headers.ensures.accepted (c.deref.ensures.0 ∙ c.in_ok-headers.ensures.parts)

pub invariant_of-result : goal.invariant_of-result
invariant_of-result c = sound_made c.args.bytes.now c.word.result c.in-Ok.parts c.deref.result.now
    c.in_ok-headers.ensures.accepted c.word.ensures
    (c.deref.ensures.0 ∙ c.in_ok-headers.ensures.parts) c.in-Ok.ensures

pub returns-in-Ok-clause-accepted : goal.returns-in-Ok-clause-accepted
returns-in-Ok-clause-accepted c =
    image-made c.args.bytes.now c.word.result c.in-Ok.parts c.deref.result.now
    c.in_ok-headers.ensures.accepted c.word.ensures
    (c.deref.ensures.0 ∙ c.in_ok-headers.ensures.parts) c.in-Ok.ensures

pub returns-in_err-headers-clause-certain : goal.returns-in_err-headers-clause-certain
returns-in_err-headers-clause-certain c =
    let p = err_from_is_err_and c.from_residual.result c.from_residual.ensures.1 in
    rw (
      image-refused c.args.bytes.now c.in_err-headers.field-0.0 c.in_err-headers.ensures.refused,
      p.1,
      p.2,
    ) refl

pub returns-in-Ok-clause-certain : goal.returns-in-Ok-clause-certain
returns-in-Ok-clause-certain c =
    rw (image-accepted c.args.bytes.now c.in_ok-headers.ensures.accepted) tt

pub returns-in-Err-clause-certain : goal.returns-in-Err-clause-certain
returns-in-Err-clause-certain c =
    rw (image-accepted c.args.bytes.now c.in_ok-headers.ensures.accepted) tt
