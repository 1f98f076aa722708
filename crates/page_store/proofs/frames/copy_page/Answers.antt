use Rattle.std.proofs.Common.{ℕ, List, ap, ◌∙◌}
use Rattle.dos_world.specs.Reach.{written}
use Rattle.page_store.specs.Store.{whole}
use Rattle.page_store.proofs.Copied.{copied-page}
use Rattle.page_store.proofs.frames.copy_page.Goals as goal

pub returns : goal.returns
returns c = copied-page c.args.pages.now.items c.args.from c.args.to _ c.index.result.now
    c.in-Some.page c.copy_from.new.self c.in-Some-index.source c.requires.apart
    c.requires.source c.index.ensures c.in-Some-index.is
    (c.copy_from.ensures ∙ ap (λ (xs : List ℕ). written (whole c.in-Some.page) 0 xs)
    c.bytes.ensures.value)
