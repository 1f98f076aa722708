use Rattle.std.proofs.Common.{ℕ, List, ◌++◌, codes}
use Rattle.std.specs.Prelude.{decimal}
use Rattle.debug_answers.proofs.Behind.{put_as, two, two_put, joined}
use Rattle.debug_answers.proofs.features.put_goal_line.Goals as goal

pub returns : goal.returns
returns c =
    let old = c.args.out.now.items in
    let first = c.put_words.new.out.items in
    let second = c.put_words-2.new.out.items in
    let all = c.put_text.new.out.items in
    let words = codes "the next continue goes to round " in
    let round : List ℕ = decimal c.args.round in
    let move = codes " move " in
    let made : List ℕ = decimal c.args.made in
    put_as c.put_text.result old all _ _ (joined words round move made (codes "\n"))
    (two_put c.put_text.result old second all ((words ++ round) ++ (move ++ made)) (codes "\n")
    (two old first second (words ++ round) (move ++ made) c.in_ok-put_words.ensures
    c.in_ok-put_words-2.ensures)
    c.put_text.ensures)
