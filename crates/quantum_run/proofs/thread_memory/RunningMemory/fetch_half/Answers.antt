use Rattle.quantum_run.specs.Showing.{beside_name}
use Rattle.std.proofs.Common.{◌%◌, ◌≡◌, ◌∙◌, Err, Ok, ap, rules, sym}
use Rattle.dos_world.specs.declared.Access.TheVariants.{Fetch}
use Rattle.dos_world.specs.declared.Size.TheVariants.{Half}
use Rattle.flat_machine.specs.Over.{MemoryAnswers}
use Rattle.page_store.specs.Store.{joined}
use Rattle.quantum_run.specs.Answering.{still}
use Rattle.quantum_run.proofs.Comparing.{keeps-same}
use Rattle.quantum_run.proofs.Places.{sized}
use Rattle.quantum_run.proofs.Reaching.{as-shown, read-found, read-refused, shows-known}
use Rattle.quantum_run.proofs.thread_memory.RunningMemory.fetch_half.Goals as goal

pub returns-in-Some : goal.returns-in-Some
returns-in-Some g c = λ f u s.
    let e = c.in-Some.ensures in
    let m = c.args.self.now in
    let n = c.find.new.self in
    let owners = g.P.Pages.owners m.pages in
    let entries = m.space.now.entries in
    let now = still m.tid owners entries in
    let fixed = g.P.Pages.fixed m.pages in
    let state = g.P.Pages.state m.pages in
    let even : c.args.address % 2 ≡ 0 = search rules in (
      shows-known g.P.Pages.fixed g.P.Pages.state g.P.Pages.pages m.pages n.pages _ _ _ _ _ _ _ _ f
          u e.still e.pages (ap (λ x. x.ghost_name) e.same.1)
          (keeps-same g.P.Pages.pages m.pages n.pages m.compared n.compared e.same.1 e.pages) s,
      as-shown (beside_name g.P.Pages.places) now (fixed, m.compared.ghost_name) state f.0 u
          (λ (answers : MemoryAnswers g.P.Pages.State) (x : g.P.Pages.State).
          Ok c.read.result ≡ answers.fetch x c.args.address) s.shows
          (read-found now (g.P.Pages.places fixed) state c.args.address Half Fetch
          (joined (g.P.Pages.pages n.pages)) c.in-Some.entry.frame c.read.result
          (g.P.Pages.bytes_are m.pages ∙ ap (λ p. joined (g.P.Pages.pages p)) (sym e.pages))
          (e.value ∙ sym (sized m.tid owners entries Fetch Half c.args.address even))
          c.read.ensures.value),
    )

pub returns-in-None : goal.returns-in-None
returns-in-None g c = λ f u s.
    let e = c.in-None.ensures in
    let m = c.args.self.now in
    let n = c.find.new.self in
    let owners = g.P.Pages.owners m.pages in
    let entries = m.space.now.entries in
    let now = still m.tid owners entries in
    let fixed = g.P.Pages.fixed m.pages in
    let state = g.P.Pages.state m.pages in
    let even : c.args.address % 2 ≡ 0 = search rules in (
      shows-known g.P.Pages.fixed g.P.Pages.state g.P.Pages.pages m.pages n.pages _ _ _ _ _ _ _ _ f
          u e.still e.pages (ap (λ x. x.ghost_name) e.same.1)
          (keeps-same g.P.Pages.pages m.pages n.pages m.compared n.compared e.same.1 e.pages) s,
      as-shown (beside_name g.P.Pages.places) now (fixed, m.compared.ghost_name) state f.0 u
          (λ (answers : MemoryAnswers g.P.Pages.State) (x : g.P.Pages.State).
          Err n.refused ≡ answers.fetch x c.args.address) s.shows
          (read-refused now (g.P.Pages.places fixed) state c.args.address Half Fetch n.refused
          (e.value ∙ sym (sized m.tid owners entries Fetch Half c.args.address even))),
    )
