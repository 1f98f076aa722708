use Rattle.std.proofs.Common.{◌≡◌, ◌∙◌, ap, refl, Some, sym}
use Rattle.code_pages.specs.Lines.{bytes_of_pages}
use Rattle.quantum_run.specs.Showing.{ShowsKnown}
use Rattle.quantum_run.specs.Answering.{Still, run_answers, still}
use Rattle.quantum_run.proofs.Whole.{stops-by}
use Rattle.quantum_run.proofs.run.run.Goals as goal

pub returns : goal.returns
returns g c =
    let m = c.args.memory.now in
    let n = c.go-stop.new.memory in
    let e = c.go-stop.ensures in
    let old = still m.tid (g.P.Pages.owners m.pages) m.space.now.entries in
    let fixed = g.P.Pages.fixed m.pages in
    let left = c.go-stop.new.budget in
    let regs = c.go-stop.new.regs in
    let begun : ShowsKnown old (fixed, m.compared.ghost_name) (g.P.Pages.state m.pages)
    (g.P.Pages.pages m.pages) m.compared.now.slots m.compared.now.blocks
    ((old, (fixed, m.compared.ghost_name)), bytes_of_pages c.args.code.now)
    (g.P.Pages.state m.pages) =
    record {
      shows = record { still = refl; fixed_is = refl; state_is = refl };
      right = c.requires.right;
    } in
    let gone = e.runs (old, (fixed, m.compared.ghost_name)) (g.P.Pages.state m.pages) begun in
    let shown = gone.reaches.shown.shows in
    record {
      runs = gone.reaches.ran ∙ ap (λ u. Some (regs, u)) (sym shown.state_is);
      stop = stops-by (run_answers old (g.P.Pages.places fixed)) (left ≡ c.args.floor)
          c.go-stop.result left regs gone.reaches.now (g.P.Pages.state n.pages) shown.state_is
          e.stop gone.stops;
      within = e.within;
      right = gone.reaches.shown.right;
      name = ap (λ x. x.1) shown.fixed_is;
      owners = ap (λ (x : Still). x.owners) shown.still;
      fixed = ap (λ x. x.0) shown.fixed_is;
    }
