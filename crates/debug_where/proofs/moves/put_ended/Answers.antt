use Rattle.std.proofs.Common.{ℕ, List, ◌++◌, codes, ap}
use Rattle.debug_session.specs.Where.{ending_text}
use Rattle.debug_answers.proofs.Behind.{put_as, two_put}
use Rattle.debug_where.proofs.moves.put_ended.Goals as goal

pub returns : goal.returns
returns c =
    let old = c.args.out.now.items in
    let first = c.put_text.new.out.items in
    let all = c.put_text-2.new.out.items in
    let words = codes "none, the group is " in
    put_as c.put_text-2.result old all _ _
    (ap (λ (t : List ℕ). words ++ t) c.ending_text.ensures)
    (two_put c.put_text-2.result old first all words _ c.in_ok-put_text.ensures
    c.put_text-2.ensures)
