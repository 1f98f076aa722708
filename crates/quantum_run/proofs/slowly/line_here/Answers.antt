use Rattle.std.proofs.Common.{◌<◌, List, ap, inr, length, subst, sym, ◌∙◌}
use Rattle.std.specs.Prelude.{slice_get}
use Rattle.code_pages.specs.declared.line.Line.{Line}
use Rattle.quantum_run.specs.Finding.{page_start}
use Rattle.quantum_run.proofs.Walking.{got-within, not-left, not-none, placed}
use Rattle.quantum_run.proofs.slowly.line_here.Goals as goal

pub line_in-requires : goal.line_in-requires
line_in-requires g c =
    let m = c.args.memory.now in
    let known = c.args.code.now in
    let here = placed m.shown m.compared.now.blocks known known.lines (page_start c.args.pc)
    c.args.pc c.args.at (not-none c.args.at c.if-at-eq0.false)
    (not-left c.args.at c.requires c.if-at-eq0.false) in
    subst (λ (xs : List Line). c.args.at < length xs) (sym c.lines.ensures.lines)
    (got-within known.lines c.args.at here.0 here.1)

pub returns-clause-live : goal.returns-clause-live
returns-clause-live g c = inr (record {
  line = c.line_in.result.now;
  is = ap (λ (xs : List Line). slice_get xs c.args.at) (sym c.lines.ensures.lines)
      ∙ c.line_in.ensures;
  size = not-none c.line_in.result.now.size c.if-line_in-eq0.false;
})
