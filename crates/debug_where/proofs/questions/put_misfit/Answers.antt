use Rattle.std.proofs.Common.{ℕ, List, ◌++◌, codes}
use Rattle.std.specs.Prelude.{decimal}
use Rattle.dos_texts.specs.Lines.{question_text}
use Rattle.debug_answers.proofs.Behind.{two, two_put}
use Rattle.debug_where.proofs.questions.put_misfit.Goals as goal

pub returns : goal.returns
returns c =
    let found = c.args.found in
    let old = c.args.out.now.items in
    let first = c.put_words.new.out.items in
    let second = c.put_text.new.out.items in
    let third = c.put_question.new.out.items in
    let fourth = c.put_text-2.new.out.items in
    let all = c.put_question-2.new.out.items in
    let entry : List ℕ = codes "none, log entry " ++ decimal found.entry in
    let is = codes " is " in
    let kept : List ℕ = question_text found.kept in
    let comma = codes ", asked " in
    two_put c.put_question-2.result old fourth all (entry ++ is ++ kept ++ comma)
    (question_text found.asked)
    (two old third fourth (entry ++ is ++ kept) comma
    (two old second third (entry ++ is) kept
    (two old first second entry is c.in_ok-put_words.ensures c.in_ok-put_text.ensures)
    c.in_ok-put_question.ensures)
    c.in_ok-put_text-2.ensures)
    c.put_question-2.ensures
