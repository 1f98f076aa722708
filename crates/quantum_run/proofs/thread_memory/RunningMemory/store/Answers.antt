use Rattle.quantum_run.specs.Showing.{beside_name}
use Rattle.std.proofs.Common.{◌≡◌, ◌+◌, ◌*◌, ◌%◌, ◌∙◌, Err, None, Ok, Option, Result, Some, ap}
use Rattle.std.proofs.Common.{refl}
use Rattle.std.proofs.Common.{subst, sym}
use Rattle.dos_world.specs.Reach.{bytes_of, width}
use Rattle.dos_world.specs.declared.Access.TheVariants.{Store}
use Rattle.dos_world.specs.declared.Reason.{Reason}
use Rattle.dos_world.specs.declared.Reason.TheVariants.{Page}
use Rattle.flat_machine.specs.Over.{MemoryAnswers}
use Rattle.rv_exec.specs.Follows.{after_of, answer_of_store}
use Rattle.quantum_run.specs.Answering.{still}
use Rattle.quantum_run.specs.Showing.{ShowsKnown, answers_of}
use Rattle.quantum_run.proofs.Reaching.{as-shown, shows-known, stored-found, stored-refused}
use Rattle.quantum_run.proofs.thread_memory.RunningMemory.store.Goals as goal

pub returns-then-write : goal.returns-then-write
returns-then-write g c = λ f u s.
    let e = c.in-Some.ensures in
    let w = c.write.ensures in
    let m = c.args.self.now in
    let k = c.frame_to_write.new.self in
    let n = c.write.new.self in
    let now = still m.tid (g.P.Pages.owners m.pages) m.space.now.entries in
    let fixed = g.P.Pages.fixed m.pages in
    let state = g.P.Pages.state m.pages in
    let left = g.P.Pages.state n.pages in
    let done : (answers_of (beside_name g.P.Pages.places) f).store u c.args.address c.args.size
    c.args.value ≡ Ok left =
    as-shown (beside_name g.P.Pages.places) now (fixed, m.compared.ghost_name) state f.0 u
    (λ (answers : MemoryAnswers g.P.Pages.State) (x : g.P.Pages.State).
    answers.store x c.args.address c.args.size c.args.value ≡ Ok left) s.shows
    (stored-found now (g.P.Pages.places fixed) state c.args.address c.args.size c.args.value
    c.in-Some.frame (Some left) e.value
    (subst (λ p. (g.P.Pages.places (g.P.Pages.fixed p)).write (g.P.Pages.state p)
    (4096 * c.in-Some.frame + c.args.address % 4096) (bytes_of (width c.args.size) c.args.value)
    ≡ Some left) e.pages (w.stored c.if-write.true))) in (
      subst (λ (o : Result g.P.Pages.State Reason).
          ShowsKnown (still n.tid (g.P.Pages.owners n.pages) n.space.now.entries)
          (g.P.Pages.fixed n.pages, n.compared.ghost_name) left (g.P.Pages.pages n.pages)
          n.compared.now.slots n.compared.now.blocks f (after_of u o)) (sym done)
          (record {
            shows = record {
              still = w.still ∙ e.still ∙ s.shows.still;
              fixed_is = ap (λ x. (x, n.compared.ghost_name)) (w.fixed ∙ ap g.P.Pages.fixed e.pages)
                  ∙ ap (λ x. (fixed, x)) (w.name ∙ e.name) ∙ s.shows.fixed_is;
              state_is = refl;
            };
            right = w.right f.1 (e.right f.1 s.right);
          }),
      sym (ap answer_of_store done),
    )

pub returns-else-write : goal.returns-else-write
returns-else-write g c = λ f u s.
    let e = c.in-Some.ensures in
    let w = c.write.ensures in
    let m = c.args.self.now in
    let k = c.frame_to_write.new.self in
    let n = c.write.new.self in
    let now = still m.tid (g.P.Pages.owners m.pages) m.space.now.entries in
    let fixed = g.P.Pages.fixed m.pages in
    let state = g.P.Pages.state m.pages in
    let none : Option g.P.Pages.State = None in
    let full : (answers_of (beside_name g.P.Pages.places) f).store u c.args.address c.args.size
    c.args.value ≡ Err (Page c.args.address Store) =
    as-shown (beside_name g.P.Pages.places) now (fixed, m.compared.ghost_name) state f.0 u
    (λ (answers : MemoryAnswers g.P.Pages.State) (x : g.P.Pages.State).
    answers.store x c.args.address c.args.size c.args.value ≡ Err (Page c.args.address Store))
    s.shows (stored-found now (g.P.Pages.places fixed) state
    c.args.address c.args.size c.args.value c.in-Some.frame none e.value
    (subst (λ p. (g.P.Pages.places (g.P.Pages.fixed p)).write (g.P.Pages.state p)
    (4096 * c.in-Some.frame + c.args.address % 4096) (bytes_of (width c.args.size) c.args.value)
    ≡ none) e.pages (w.full c.if-write.false))) in (
      subst (λ (o : Result g.P.Pages.State Reason).
          ShowsKnown (still n.tid (g.P.Pages.owners n.pages) n.space.now.entries)
          (g.P.Pages.fixed n.pages, n.compared.ghost_name) (g.P.Pages.state n.pages)
          (g.P.Pages.pages n.pages) n.compared.now.slots n.compared.now.blocks f (after_of u o))
          (sym full)
          (record {
            shows = record {
              still = w.still ∙ e.still ∙ s.shows.still;
              fixed_is = ap (λ x. (x, n.compared.ghost_name)) (w.fixed ∙ ap g.P.Pages.fixed e.pages)
                  ∙ ap (λ x. (fixed, x)) (w.name ∙ e.name) ∙ s.shows.fixed_is;
              state_is = w.state c.if-write.false ∙ ap g.P.Pages.state e.pages ∙ s.shows.state_is;
            };
            right = w.right f.1 (e.right f.1 s.right);
          }),
      sym (ap answer_of_store full),
    )

pub returns-in-None : goal.returns-in-None
returns-in-None g c = λ f u s.
    let e = c.in-None.ensures in
    let m = c.args.self.now in
    let n = c.frame_to_write.new.self in
    let now = still m.tid (g.P.Pages.owners m.pages) m.space.now.entries in
    let fixed = g.P.Pages.fixed m.pages in
    let state = g.P.Pages.state m.pages in
    let refused : (answers_of (beside_name g.P.Pages.places) f).store u c.args.address c.args.size
    c.args.value ≡ Err n.refused =
    as-shown (beside_name g.P.Pages.places) now (fixed, m.compared.ghost_name) state f.0 u
    (λ (answers : MemoryAnswers g.P.Pages.State) (x : g.P.Pages.State).
    answers.store x c.args.address c.args.size c.args.value ≡ Err n.refused) s.shows
    (stored-refused now (g.P.Pages.places fixed) state c.args.address c.args.size
    c.args.value n.refused e.value) in (
      subst (λ (o : Result g.P.Pages.State Reason).
          ShowsKnown (still n.tid (g.P.Pages.owners n.pages) n.space.now.entries)
          (g.P.Pages.fixed n.pages, n.compared.ghost_name) (g.P.Pages.state n.pages)
          (g.P.Pages.pages n.pages) n.compared.now.slots n.compared.now.blocks f (after_of u o))
          (sym refused)
          (shows-known g.P.Pages.fixed g.P.Pages.state g.P.Pages.pages m.pages n.pages
          _ _ _ _ _ _ _ _ f u e.still e.pages e.name e.right s),
      sym (ap answer_of_store refused),
    )
