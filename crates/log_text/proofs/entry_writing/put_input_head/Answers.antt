use Rattle.std.proofs.Common.{◌++◌, ◌∷◌, [], List, ℕ}
use Rattle.std.specs.Int.{w16, w32, to_le_bytes}
use Rattle.log_text.proofs.Steps.{put_more}
use Rattle.log_text.proofs.entry_writing.put_input_head.Goals as goal

pub returns-clause-items : goal.returns-clause-items
returns-clause-items c =
    let old : List ℕ = c.args.out.now.items in
    let round = to_le_bytes w32 c.args.round in
    let tid = to_le_bytes w32 c.args.tid in
    let max = to_le_bytes w16 c.args.max in
    let to_round = put_more old (2 ∷ []) _ round _ _ c.put_byte.ensures.items
    c.to_le_bytes.ensures c.put_bytes.ensures.items in
    let to_tid = put_more old (2 ∷ round) _ tid _ _ to_round c.to_le_bytes-2.ensures
    c.put_bytes-2.ensures.items in
    let to_max = put_more old (2 ∷ round ++ tid) _ max _ _ to_tid c.to_le_bytes-3.ensures
    c.put_bytes-3.ensures.items in
    put_more old (2 ∷ (round ++ tid) ++ max) _ (to_le_bytes w16 c.args.len) _ _ to_max
    c.to_le_bytes-4.ensures c.put_bytes-4.ensures.items
