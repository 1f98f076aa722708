use Rattle.quantum_run.specs.Showing.{beside_name}
use Rattle.std.proofs.Common.{◌<◌, ◌∙◌, ◌≡◌, Bool, Ok, Result, Some, arith, length, refl, rules}
use Rattle.std.proofs.Common.{ap, true, false}
use Rattle.dos_world.specs.declared.Reason.{Reason}
use Rattle.dos_world.specs.declared.Access.TheVariants.{Store}
use Rattle.flat_machine.specs.Over.{MemoryAnswers}
use Rattle.quantum_run.specs.Answering.{still}
use Rattle.quantum_run.specs.Showing.{ShowsKnown, StoresOrNot, answers_of}
use Rattle.page_store.specs.declared.compared.Slot.{Slot}
use Rattle.quantum_run.proofs.Places.{aligned-found}
use Rattle.quantum_run.proofs.Reaching.{aligned-frame, as-shown, stored-found}
use Rattle.quantum_run.proofs.thread_memory.Running.quick_store.Goals as goal
use Rattle.std.specs.Prelude.{slice_index_or}

pub write-requires : goal.write-requires
write-requires g c =
    let m = c.args.self.now in
    let owners = g.P.Pages.owners m.pages in
    let empty : Slot = record { start = 0; frame = 0 } in
    let small : c.slot_place.result < length m.stored = search rules in
    let start = c.if-slot-aligned_start.false ∙ c.aligned_start.ensures in
    let found = aligned-found m.tid owners m.space.now.entries Store _ _ c.args.address c.args.size
    (m.stored_are c.slot_place.result empty small) c.ranges.address.fits start in
    let aligned = found.0 in
    record {
      own = m.own Store c.args.address _ tt found.1;
      free = m.apart c.slot_place.result empty small
          (omega (arith, start, aligned, c.ranges.address.fits));
      aligned = aligned;
    }

-- what came of it, by whether it is done
stores-by : (M : Type 0) (done : Bool) (answer : Result M Reason) (m : M) (shows : M → Type 0)
    → (done ≡ true → (after : M) × (answer ≡ Ok after) × shows after)
    → (done ≡ false → shows m) → StoresOrNot done answer m shows
stores-by M true answer m shows did didnt = did refl
stores-by M false answer m shows did didnt = didnt refl

pub returns : goal.returns
returns g c = record {
  stored = λ f u s.
      let m = c.args.self.now in
      let n = c.write.new.self in
      let e = c.write.ensures in
      let owners = g.P.Pages.owners m.pages in
      let none : Slot = record { start = 0; frame = 0 } in
      let frame = (slice_index_or m.stored c.slot_place.result none).frame in
      let small : c.slot_place.result < length m.stored = search rules in
      let found = aligned-found m.tid owners m.space.now.entries Store _ _ c.args.address
      c.args.size (m.stored_are c.slot_place.result none small)
      c.ranges.address.fits (c.if-slot-aligned_start.false ∙ c.aligned_start.ensures) in
      let now = still m.tid owners m.space.now.entries in
      let fixed = g.P.Pages.fixed m.pages in
      let state = g.P.Pages.state m.pages in
      let places = g.P.Pages.places fixed in
      let left = g.P.Pages.state n.pages in
      let new = ShowsKnown (still n.tid (g.P.Pages.owners n.pages) n.space.now.entries)
      (g.P.Pages.fixed n.pages, n.compared.ghost_name) left (g.P.Pages.pages n.pages)
      n.compared.now.slots n.compared.now.blocks f in
      stores-by g.P.Pages.State c.write.result
      ((answers_of (beside_name g.P.Pages.places) f).store u c.args.address c.args.size
      c.args.value) u new
      (λ did. (
        left,
        as-shown (beside_name g.P.Pages.places) now (fixed, m.compared.ghost_name) state f.0 u
            (λ (answers : MemoryAnswers g.P.Pages.State) (x : g.P.Pages.State).
            answers.store x c.args.address c.args.size c.args.value ≡ Ok left) s.shows
            (stored-found now places state c.args.address c.args.size c.args.value frame (Some left)
            (aligned-frame now places state c.args.address c.args.size Store frame found.0 found.1)
            (e.stored did)),
        record {
          shows = record {
            still = e.still ∙ s.shows.still;
            fixed_is = ap (λ x. (x, n.compared.ghost_name)) e.fixed ∙ ap (λ x. (fixed, x)) e.name
                ∙ s.shows.fixed_is;
            state_is = refl;
          };
          right = e.right f.1 s.right;
        },
      ))
      (λ didnt. record {
        shows = record {
          still = e.still ∙ s.shows.still;
          fixed_is = ap (λ x. (x, n.compared.ghost_name)) e.fixed ∙ ap (λ x. (fixed, x)) e.name
              ∙ s.shows.fixed_is;
          state_is = e.state didnt ∙ s.shows.state_is;
        };
        right = e.right f.1 s.right;
      });
  same = c.write.ensures.same;
}
