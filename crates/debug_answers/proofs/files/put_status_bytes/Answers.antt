use Rattle.std.proofs.Common.{List, ℕ, ◌++◌, ◌∙◌, ap, sym}
use Rattle.std.specs.Prelude.{replicate}
use Rattle.std.specs.Int.{to_be_bytes, w64}
use Rattle.gdb_packets.specs.Escapes.{escaped}
use Rattle.debug_answers.proofs.Behind.{put_as, two, two_put}
use Rattle.debug_answers.proofs.Statuses.{mode, status_is}
use Rattle.debug_answers.proofs.files.put_status_bytes.Goals as goal

pub returns : goal.returns
returns c =
    let count = c.args.count in
    let old = c.args.out.now.items in
    let first = c.put_bytes.new.out.items in
    let second = c.put_escaped.new.out.items in
    let all = c.put_bytes-2.new.out.items in
    let bytes : List ℕ = escaped (to_be_bytes w64 count) in
    put_as c.put_bytes-2.result old all _ _ (sym (status_is count))
    (two_put c.put_bytes-2.result old second all (mode ++ bytes) (replicate 28 0)
    (two old first second mode bytes c.in_ok-put_bytes.ensures
    (c.in_ok-put_escaped.ensures
    ∙ ap (λ (t : List ℕ). first ++ escaped t) c.to_be_bytes.ensures))
    c.put_bytes-2.ensures)
