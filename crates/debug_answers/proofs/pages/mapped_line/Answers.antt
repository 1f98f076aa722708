use Rattle.std.proofs.Common.{List, ℕ, [], ◌++◌, ◌∷◌, ◌∙◌, ap, sym, append_assoc, codes}
use Rattle.std.specs.Prelude.{decimal}
use Rattle.kernel_calls.specs.StateWorld.{world_of}
use Rattle.debug_session.specs.Pages.{page_words, entry_words}
use Rattle.debug_answers.proofs.Behind.{two}
use Rattle.debug_answers.proofs.pages.mapped_line.Goals as goal

pub returns : goal.returns
returns c q =
    let e = c.args.entry in
    let none = c.new-line.result.items in
    let named = c.put_page.new.out.items in
    let framed = c.put_words.new.out.items in
    let parted = c.put_text.new.out.items in
    let told = c.put_entry.new.out.items in
    let page : List ℕ = page_words c.args.process c.args.page in
    let frame : List ℕ = codes ": frame " in
    let number : List ℕ = decimal e.frame in
    let words : List ℕ = entry_words (world_of q c.args.state.now) e in
    let all : List ℕ = page ++ frame ++ number ++ codes ", " ++ words in
    c.in_ok-push.ensures.items
    ∙ ap (λ (t : List ℕ). t ++ 10 ∷ [])
    (two none parted told (page ++ frame ++ number ++ codes ", ") words
    (two none framed parted (page ++ frame ++ number) (codes ", ")
    (two none named framed page (frame ++ number) c.in_ok-put_page.ensures
    c.in_ok-put_words.ensures
    ∙ ap (λ (t : List ℕ). none ++ t) (sym (append_assoc page frame number)))
    c.in_ok-put_text.ensures)
    (c.in_ok-put_entry.ensures q)
    ∙ ap (λ (t : List ℕ). t ++ all) c.new-line.ensures.items)
