use Rattle.std.proofs.Common.{ℕ, List, Option, subst, sym}
use Rattle.code_pages.specs.Lines.{bytes_of_pages}
use Rattle.quantum_run.specs.Knowing.{AreRight}
use Rattle.quantum_run.proofs.thread_memory.Running.line_to_perform.Goals as goal

pub returns-then-not-find_code-clause-right : goal.returns-then-not-find_code-clause-right
returns-then-not-find_code-clause-right g c =
    c.find_code.ensures.right (bytes_of_pages c.args.code.now)

pub returns-then-not-compare-clause-right : goal.returns-then-not-compare-clause-right
returns-then-not-compare-clause-right g c = λ are.
    c.compare.ensures.right (c.find_code.ensures.right (bytes_of_pages c.args.code.now) are)

pub returns-clause-right : goal.returns-clause-right
returns-clause-right g c = λ are.
    let n = c.compare.new.self in
    subst (λ (known : List (Option (List ℕ))). AreRight n.compared.now.slots n.compared.now.blocks
    (g.P.Pages.pages n.pages) known) (sym c.line.ensures.pages)
    (c.compare.ensures.right (c.find_code.ensures.right (bytes_of_pages c.args.code.now) are))
