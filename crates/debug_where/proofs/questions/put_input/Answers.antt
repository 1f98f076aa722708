use Rattle.std.proofs.Common.{ℕ, List, ◌++◌, codes}
use Rattle.std.specs.Prelude.{decimal}
use Rattle.debug_answers.proofs.Behind.{put_as, two, two_put, joined_all}
use Rattle.debug_where.proofs.questions.put_input.Goals as goal

pub returns : goal.returns
returns c =
    let old = c.args.out.now.items in
    let first = c.put_words.new.out.items in
    let second = c.put_words-2.new.out.items in
    let all = c.put_words-3.new.out.items in
    let input = codes "input round " in
    let round : List ℕ = decimal c.args.round in
    let thread = codes " thread " in
    let tid : List ℕ = decimal c.args.tid in
    let most = codes " max " in
    let max : List ℕ = decimal c.args.max in
    put_as c.put_words-3.result old all _ _ (joined_all input round thread tid most max)
    (two_put c.put_words-3.result old second all ((input ++ round) ++ (thread ++ tid))
    (most ++ max)
    (two old first second (input ++ round) (thread ++ tid) c.in_ok-put_words.ensures
    c.in_ok-put_words-2.ensures)
    c.put_words-3.ensures)
