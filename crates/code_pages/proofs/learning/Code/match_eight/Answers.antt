use Rattle.std.proofs.Common.{◌*◌, ◌+◌, ◌∙◌, ap, subst, List, ℕ}
use Rattle.code_pages.specs.Lines.{CodePage, AreSameIn}
use Rattle.code_pages.proofs.Bytes.{written-same}
use Rattle.code_pages.proofs.LineLaws.{kept-all}
use Rattle.code_pages.proofs.learning.Code.match_eight.Goals as goal

pub returns-else-eight_differ-clause-lines : goal.returns-else-eight_differ-clause-lines
returns-else-eight_differ-clause-lines c = kept-all c.args.lines.now.items

pub returns-else-eight_differ-clause-bytes : goal.returns-else-eight_differ-clause-bytes
returns-else-eight_differ-clause-bytes c =
    written-same (8 * c.args.eight) (8 * c.args.eight + 8) c.args.self.now.bytes c.args.bytes.now
    (subst (λ (xs : List ℕ). AreSameIn (8 * c.args.eight) (8 * c.args.eight + 8) xs
    c.args.bytes.now) (c.deref.ensures ∙ ap (λ (p : CodePage). p.bytes) c.self.view_is)
    (c.eight_differ.ensures c.if-eight_differ.false))
