use Rattle.std.proofs.Common.{ap, ◌∙◌, ◌++◌, List, ℕ, sym, length}
use Rattle.std.specs.Int.{w32, to_le_bytes}
use Rattle.text_fields.specs.Formats.{ascending}
use Rattle.group_text.specs.GroupText.{page_row}
use Rattle.group_writer.proofs.TextLaws.{behind, pages_text}
use Rattle.group_writer.proofs.processes.put_space.Goals as goal

pub returns : goal.returns
returns c =
    let pages = c.args.pages.now in
    let n = length pages in
    behind c.args.out.now.items _ _ (to_le_bytes w32 n)
    ((ascending (λ e. e.0) (page_row 0) n 1).text pages)
    c.in_ok-put_u32.ensures (c.in_ok-put_pages.ensures
    ∙ ap (λ (t : List ℕ). c.put_u32.new.out.items ++ t) (sym (pages_text n pages)))
