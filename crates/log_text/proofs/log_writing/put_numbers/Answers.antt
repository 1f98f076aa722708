use Rattle.std.proofs.Common.{◌++◌, ◌∙◌, List, ℕ, ap}
use Rattle.std.specs.Int.{w32, to_le_bytes}
use Rattle.log_text.proofs.Steps.{put_more}
use Rattle.log_text.proofs.log_writing.put_numbers.Goals as goal

pub returns : goal.returns
returns c =
    let old : List ℕ = c.args.out.now.items in
    let header = c.args.header.now in
    let quantum = to_le_bytes w32 header.quantum in
    let rounds = to_le_bytes w32 header.rounds in
    let to_quantum = c.in_ok-extend_from_slice.ensures.items
    ∙ ap (λ (x : List ℕ). old ++ x) c.to_le_bytes.ensures in
    let to_rounds = put_more old quantum _ rounds _ _ to_quantum c.to_le_bytes-2.ensures
    c.in_ok-extend_from_slice-2.ensures.items in
    put_more old (quantum ++ rounds) _ (to_le_bytes w32 header.frames) _ _ to_rounds
    c.to_le_bytes-3.ensures c.in_ok-extend_from_slice-3.ensures.items
