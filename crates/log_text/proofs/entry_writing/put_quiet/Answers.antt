use Rattle.std.proofs.Common.{◌∷◌, [], List, ℕ}
use Rattle.std.specs.Int.{w32, to_le_bytes}
use Rattle.log_text.proofs.Steps.{put_more}
use Rattle.log_text.proofs.entry_writing.put_quiet.Goals as goal

pub returns-clause-items : goal.returns-clause-items
returns-clause-items c =
    let old : List ℕ = c.args.out.now.items in
    let kind = c.put_byte.ensures.items in
    let round = put_more old (4 ∷ []) _ (to_le_bytes w32 c.args.round) _ _ kind
    c.to_le_bytes.ensures c.put_bytes.ensures.items in
    put_more old (4 ∷ to_le_bytes w32 c.args.round) _ (to_le_bytes w32 c.args.count) _ _
    round c.to_le_bytes-2.ensures c.put_bytes-2.ensures.items
