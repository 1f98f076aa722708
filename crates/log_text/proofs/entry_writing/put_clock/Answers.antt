use Rattle.std.proofs.Common.{◌++◌, ◌∷◌, [], List, ℕ}
use Rattle.std.specs.Int.{w32, w64, to_le_bytes}
use Rattle.log_text.proofs.Steps.{put_more}
use Rattle.log_text.proofs.entry_writing.put_clock.Goals as goal

pub returns-clause-items : goal.returns-clause-items
returns-clause-items c =
    let old : List ℕ = c.args.out.now.items in
    let kind = c.put_byte.ensures.items in
    let round = put_more old (3 ∷ []) _ (to_le_bytes w32 c.args.round) _ _ kind
    c.to_le_bytes.ensures c.put_bytes.ensures.items in
    let tid = put_more old (3 ∷ to_le_bytes w32 c.args.round) _ (to_le_bytes w32 c.args.tid) _ _
    round c.to_le_bytes-2.ensures c.put_bytes-2.ensures.items in
    put_more old (3 ∷ to_le_bytes w32 c.args.round ++ to_le_bytes w32 c.args.tid) _
    (to_le_bytes w64 c.args.reading) _ _ tid c.to_le_bytes-3.ensures c.put_bytes-3.ensures.items
