use Rattle.std.proofs.Common.{◌∙◌, ℕ, List, Some, ap, sym, arith}
use Rattle.std.specs.Prelude.{slice_get}
use Rattle.std.proofs.lemmas.Option.{slice_get-get_or}
use Rattle.debug_session.specs.Files.{status_told}
use Rattle.debug_answers.proofs.Behind.{put_as}
use Rattle.debug_answers.proofs.Places.{bytes_at}
use Rattle.debug_answers.proofs.files.put_file_status.Goals as goal

pub returns-in-Some : goal.returns-in-Some
returns-in-Some c s are =
    let files = c.args.files.now in
    let file = c.args.file in
    let v = c.in-Some.bytes.now in
    let at = c.in-Some.ensures.lookup in
    put_as c.put_status.result c.args.out.now.items c.put_status.new.out.items _ _
    (ap status_told
    (ap Some c.as_slice.ensures.value
    ∙ sym (bytes_at files file v
    (slice_get-get_or files file v (omega (arith, at.3.0)) ∙ ap Some (sym at.1)))
    ∙ ap (λ (fs : List (List ℕ)). slice_get fs file) (sym are)))
    c.put_status.ensures
