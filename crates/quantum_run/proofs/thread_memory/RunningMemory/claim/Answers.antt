use Rattle.quantum_run.specs.Showing.{beside_name}
use Rattle.std.proofs.Common.{◌≡◌, ◌∙◌, Err, Ok, ap, sym}
use Rattle.dos_world.specs.declared.Access.TheVariants.{Claim}
use Rattle.dos_world.specs.declared.Reason.TheVariants.{Page}
use Rattle.flat_machine.specs.Over.{MemoryAnswers}
use Rattle.page_store.specs.Store.{joined}
use Rattle.quantum_run.specs.Answering.{still}
use Rattle.quantum_run.proofs.Reaching.{as-shown, claim-found, claim-refused, claim-stopped}
use Rattle.quantum_run.proofs.Reaching.{shows-known}
use Rattle.quantum_run.proofs.thread_memory.RunningMemory.claim.Goals as goal

pub returns-then-claims : goal.returns-then-claims
returns-then-claims g c = λ f u s.
    let e = c.in-Some.ensures in
    let m = c.args.self.now in
    let n = c.frame_to_write.new.self in
    let now = still m.tid (g.P.Pages.owners m.pages) m.space.now.entries in
    let fixed = g.P.Pages.fixed m.pages in
    let state = g.P.Pages.state m.pages in (
      shows-known g.P.Pages.fixed g.P.Pages.state g.P.Pages.pages m.pages n.pages _ _ _ _ _ _ _ _ f
          u e.still e.pages e.name e.right s,
      as-shown (beside_name g.P.Pages.places) now (fixed, m.compared.ghost_name) state f.0 u
          (λ (answers : MemoryAnswers g.P.Pages.State) (x : g.P.Pages.State).
          Ok c.read_aligned.result ≡ answers.claim x c.args.address) s.shows
          (claim-found now (g.P.Pages.places fixed) state c.args.address
          (joined (g.P.Pages.pages n.pages)) c.in-Some.frame c.read_aligned.result
          (g.P.Pages.bytes_are m.pages ∙ ap (λ p. joined (g.P.Pages.pages p)) (sym e.pages)) e.value
          (sym c.if-claims.true ∙ c.claims.ensures
          ∙ ap (λ p. (g.P.Pages.places (g.P.Pages.fixed p)).claims) e.pages)
          c.read_aligned.ensures.value),
    )

pub returns-else-claims : goal.returns-else-claims
returns-else-claims g c = λ f u s.
    let e = c.in-Some.ensures in
    let m = c.args.self.now in
    let n = c.frame_to_write.new.self in
    let now = still m.tid (g.P.Pages.owners m.pages) m.space.now.entries in
    let fixed = g.P.Pages.fixed m.pages in
    let state = g.P.Pages.state m.pages in (
      shows-known g.P.Pages.fixed g.P.Pages.state g.P.Pages.pages m.pages n.pages _ _ _ _ _ _ _ _ f
          u e.still e.pages e.name e.right s,
      as-shown (beside_name g.P.Pages.places) now (fixed, m.compared.ghost_name) state f.0 u
          (λ (answers : MemoryAnswers g.P.Pages.State) (x : g.P.Pages.State).
          Err (Page c.args.address Claim) ≡ answers.claim x c.args.address) s.shows
          (claim-stopped now (g.P.Pages.places fixed) state c.args.address c.in-Some.frame e.value
          (sym c.if-claims.false ∙ c.claims.ensures
          ∙ ap (λ p. (g.P.Pages.places (g.P.Pages.fixed p)).claims) e.pages)),
    )

pub returns-in-None : goal.returns-in-None
returns-in-None g c = λ f u s.
    let e = c.in-None.ensures in
    let m = c.args.self.now in
    let n = c.frame_to_write.new.self in
    let now = still m.tid (g.P.Pages.owners m.pages) m.space.now.entries in
    let fixed = g.P.Pages.fixed m.pages in
    let state = g.P.Pages.state m.pages in (
      shows-known g.P.Pages.fixed g.P.Pages.state g.P.Pages.pages m.pages n.pages _ _ _ _ _ _ _ _ f
          u e.still e.pages e.name e.right s,
      as-shown (beside_name g.P.Pages.places) now (fixed, m.compared.ghost_name) state f.0 u
          (λ (answers : MemoryAnswers g.P.Pages.State) (x : g.P.Pages.State).
          Err n.refused ≡ answers.claim x c.args.address) s.shows
          (claim-refused now (g.P.Pages.places fixed) state c.args.address n.refused e.value),
    )
