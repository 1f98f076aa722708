use Rattle.std.proofs.Common.{ℕ, List, ◌++◌, codes, sym, append_assoc}
use Rattle.std.specs.Prelude.{decimal}
use Rattle.debug_answers.proofs.Behind.{put_as, two_put}
use Rattle.debug_where.proofs.questions.put_clock.Goals as goal

pub returns : goal.returns
returns c =
    let old = c.args.out.now.items in
    let first = c.put_words.new.out.items in
    let all = c.put_words-2.new.out.items in
    let round : List ℕ = codes "clock round " ++ decimal c.args.round in
    let thread = codes " thread " in
    let tid : List ℕ = decimal c.args.tid in
    put_as c.put_words-2.result old all _ _ (sym (append_assoc round thread tid))
    (two_put c.put_words-2.result old first all round (thread ++ tid) c.in_ok-put_words.ensures
    c.put_words-2.ensures)
