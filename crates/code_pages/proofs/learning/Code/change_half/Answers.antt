use Rattle.std.proofs.Common.{sym, subst, ℕ, suc}
use Rattle.code_pages.specs.Lines.{CodePage, IsKnownPage, IsUnlearnt}
use Rattle.code_pages.proofs.LineLaws.{kept-all, kept-then, known-kept, known-put, page-is}
use Rattle.code_pages.proofs.LineLaws.{stale-kept}
use Rattle.code_pages.proofs.learning.Code.change_half.Goals as goal

pub returns-clause-known : goal.returns-clause-known
returns-clause-known c =
    let page = c.args.self.now in
    let first = c.unlearn.new.lines.items in
    let last = c.unlearn-2.new.lines.items in
    subst (λ (p : CodePage). IsKnownPage last p)
    (sym (page-is c.put.new.self _ _ (sym c.put.ensures.bytes) (sym c.put.ensures.starts)))
    (known-put last page c.args.half _ _
    (λ at got. stale-kept first last (suc at) c.unlearn-2.ensures.kept.keeps
    (c.unlearn.ensures.stale at got))
    (subst (λ (n : ℕ). IsUnlearnt last page n) c.saturating_sub.ensures c.unlearn-2.ensures.stale)
    (known-kept first last page c.unlearn-2.ensures.kept.keeps
    (known-kept c.args.lines.now.items first page c.unlearn.ensures.kept.keeps c.requires.known)))

pub returns-then-deref-half-2-clause-lines : goal.returns-then-deref-half-2-clause-lines
returns-then-deref-half-2-clause-lines c = kept-all c.args.lines.now.items

pub unlearn-requires-2-clause-known : goal.unlearn-requires-2-clause-known
unlearn-requires-2-clause-known c =
    known-kept c.args.lines.now.items c.unlearn.new.lines.items c.args.self.now
    c.unlearn.ensures.kept.keeps c.requires.known

pub returns-clause-lines : goal.returns-clause-lines
returns-clause-lines c =
    kept-then c.args.lines.now.items c.unlearn.new.lines.items c.unlearn-2.new.lines.items
    c.unlearn.ensures.kept c.unlearn-2.ensures.kept
