use Rattle.std.proofs.Common.{◌≡◌, Ok, refl, sym, ap, ◌∙◌}
use Rattle.elf_image.specs.Image.{image}
use Rattle.dos_cmd.proofs.RunEnds.{is_err_of, ok_no_err}
use Rattle.dos_cmd.proofs.RunFiles.{long_no_fault, memory_no_fault, not_read_no_fault}
use Rattle.dos_cmd.proofs.RunFiles.{not_read_numbered}
use Rattle.dos_cmd.proofs.RunFiles.{told_accepted, told_digest, told_long, told_not_read}
use Rattle.dos_cmd.proofs.images.load.Goals as goal

pub returns-in-Err-TooLong : goal.returns-in-Err-TooLong
returns-in-Err-TooLong g c =
    let get = c.in-Err-TooLong.ensures in
    record {
      accepted = tt;
      digest = tt;
      fits = tt;
      content = tt;
      refused = told_long c.args.image (g.F.Files.content c.args.files.now c.args.name.now)
          (get.too_long (is_err_of _ _ c.in-Err-TooLong.field-0-is));
      fault = λ is. absurd (long_no_fault _ is);
      numbered = refl;
      asked = get.asked;
      later = get.later;
      stays = get.stays;
      tells = get.tells;
    }

pub returns-in-Err-Fault : goal.returns-in-Err-Fault
returns-in-Err-Fault g c =
    let get = c.in-Err-Fault.ensures in
    record {
      accepted = tt;
      digest = tt;
      fits = tt;
      content = tt;
      refused = tt;
      fault = λ is. get.fault (is_err_of _ _ c.in-Err-Fault.field-0-is);
      numbered = tt;
      asked = get.asked;
      later = get.later;
      stays = get.stays;
      tells = get.tells;
    }

pub returns-in-Err-Memory : goal.returns-in-Err-Memory
returns-in-Err-Memory g c =
    let get = c.in-Err-Memory.ensures in
    record {
      accepted = tt;
      digest = tt;
      fits = tt;
      content = tt;
      refused = tt;
      fault = λ is. absurd (memory_no_fault is);
      numbered = tt;
      asked = get.asked;
      later = get.later;
      stays = get.stays;
      tells = get.tells;
    }

pub returns-in-Ok-read_image-clause-accepted : goal.returns-in-Ok-read_image-clause-accepted
returns-in-Ok-read_image-clause-accepted g c =
    let read : image c.in-Ok.bytes.items ≡ Ok c.in-Ok-read_image.parsed =
    ap image (sym c.deref.ensures.value) ∙ c.in-Ok-read_image.ensures.accepted in
    told_accepted c.args.image
    (g.F.Files.content c.args.files.now c.args.name.now) c.in-Ok.bytes.items _
    c.in-Ok.ensures.bytes c.in-Ok.ensures.within read

pub returns-in-Ok-read_image-clause-digest : goal.returns-in-Ok-read_image-clause-digest
returns-in-Ok-read_image-clause-digest g c =
    told_digest (g.F.Files.content c.args.files.now c.args.name.now) c.in-Ok.bytes.items
    c.deref-in-Ok-read_image.result.now _ c.in-Ok.ensures.bytes
    c.deref-in-Ok-read_image.ensures.value c.digest_of-digest.ensures

pub returns-in-Ok-read_image-clause-fault : goal.returns-in-Ok-read_image-clause-fault
returns-in-Ok-read_image-clause-fault g c = λ is. absurd (ok_no_err _ _ is)

pub returns-in-Ok-read_image-clause-content : goal.returns-in-Ok-read_image-clause-content
returns-in-Ok-read_image-clause-content g c = c.in-Ok.ensures.bytes

pub returns-in-Err : goal.returns-in-Err
returns-in-Err g c =
    let get = c.in-Ok.ensures in
    record {
      accepted = tt;
      digest = tt;
      fits = tt;
      content = tt;
      refused = told_not_read c.args.image
          (g.F.Files.content c.args.files.now c.args.name.now) c.in-Ok.bytes.items
          c.in-Err.error _ c.refusal_of.ensures get.bytes get.within
          (λ not. ap image (sym c.deref.ensures.value) ∙ c.in-Err.ensures.refused not);
      fault = λ is. absurd
          (not_read_no_fault c.args.image c.in-Err.error _ c.refusal_of.ensures is);
      numbered = not_read_numbered c.args.image c.in-Err.error _ c.refusal_of.ensures;
      asked = get.asked;
      later = get.later;
      stays = get.stays;
      tells = get.tells;
    }
