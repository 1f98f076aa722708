use Rattle.std.proofs.Common.{List, ℕ, [], ◌++◌, ◌∷◌, ◌∙◌, ap, codes}
use Rattle.std.specs.Prelude.{decimal}
use Rattle.kernel_calls.specs.StateWorld.{world_of}
use Rattle.debug_session.specs.Pages.{page_digits, entry_words}
use Rattle.debug_answers.proofs.Behind.{two}
use Rattle.debug_answers.proofs.Stretching.{flat}
use Rattle.debug_answers.proofs.stretches.stretch_line.Goals as goal

pub returns : goal.returns
returns c q =
    let first = c.args.first in
    let last = c.args.last in
    let none = c.new-line.result.items in
    let paged = c.put_pages.new.out.items in
    let framed = c.put_frames.new.out.items in
    let told = c.put_entry.new.out.items in
    let pages : List ℕ =
    codes "pages " ++ page_digits first.0 ++ codes " to " ++ page_digits last.0 in
    let from : List ℕ = codes ": frames " in
    let start : List ℕ = decimal first.1.frame in
    let to : List ℕ = codes " to " in
    let end : List ℕ = decimal last.1.frame in
    let comma : List ℕ = codes ", " in
    let words : List ℕ = entry_words (world_of q c.args.state.now) first.1 in
    c.in_ok-push.ensures.items
    ∙ ap (λ (t : List ℕ). t ++ 10 ∷ [])
    (two none framed told (pages ++ (from ++ start ++ to ++ end ++ comma)) words
    (two none paged framed pages (from ++ start ++ to ++ end ++ comma) c.in_ok-put_pages.ensures
    c.in_ok-put_frames.ensures)
    (c.in_ok-put_entry.ensures q)
    ∙ ap (λ (t : List ℕ). t ++ ((pages ++ (from ++ start ++ to ++ end ++ comma)) ++ words))
    c.new-line.ensures.items
    ∙ ap (λ (t : List ℕ). t ++ words) (flat pages from start to end comma))
