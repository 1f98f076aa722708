use Rattle.quantum_run.specs.Showing.{beside_name}
use Rattle.std.proofs.Common.{◌<◌, ◌∙◌, ◌≡◌, Ok, length, rules, sym}
use Rattle.dos_world.specs.declared.Access.TheVariants.{Load}
use Rattle.flat_machine.specs.Over.{MemoryAnswers}
use Rattle.page_store.specs.Store.{joined}
use Rattle.quantum_run.specs.Answering.{still}
use Rattle.page_store.specs.declared.compared.Slot.{Slot}
use Rattle.quantum_run.proofs.Places.{aligned-found}
use Rattle.quantum_run.proofs.Reaching.{aligned-frame, as-shown, read-found}
use Rattle.quantum_run.proofs.thread_memory.Running.quick_load.Goals as goal
use Rattle.std.specs.Prelude.{slice_index_or}

pub read_aligned-requires : goal.read_aligned-requires
read_aligned-requires g c =
    let m = c.args.self.now in
    let owners = g.P.Pages.owners m.pages in
    let small : c.slot_place.result < length m.loaded = search rules in
    let found = aligned-found m.tid owners m.space.now.entries Load _ _ c.args.address c.args.size
    (m.loaded_are c.slot_place.result (record { start = 0; frame = 0 }) small)
    c.ranges.address.fits (c.if-slot-aligned_start.false ∙ c.aligned_start.ensures) in
    record { home = m.reached Load c.args.address _ found.1; aligned = found.0 }

pub returns : goal.returns
returns g c = record {
  number = λ f u s.
      let m = c.args.self.now in
      let owners = g.P.Pages.owners m.pages in
      let none : Slot = record { start = 0; frame = 0 } in
      let frame = (slice_index_or m.loaded c.slot_place.result none).frame in
      let small : c.slot_place.result < length m.loaded = search rules in
      let found = aligned-found m.tid owners m.space.now.entries Load _ _ c.args.address c.args.size
      (m.loaded_are c.slot_place.result none small)
      c.ranges.address.fits (c.if-slot-aligned_start.false ∙ c.aligned_start.ensures) in
      let now = still m.tid owners m.space.now.entries in
      let fixed = g.P.Pages.fixed m.pages in
      let state = g.P.Pages.state m.pages in
      let places = g.P.Pages.places fixed in
      as-shown (beside_name g.P.Pages.places) now (fixed, m.compared.ghost_name) state f.0 u
      (λ (answers : MemoryAnswers g.P.Pages.State) (x : g.P.Pages.State).
      answers.load x c.args.address c.args.size ≡ Ok c.read_aligned.result) s.shows
      (sym (read-found now places state c.args.address c.args.size Load
      (joined (g.P.Pages.pages m.pages)) frame c.read_aligned.result (g.P.Pages.bytes_are m.pages)
      (aligned-frame now places state c.args.address c.args.size Load frame found.0 found.1)
      c.read_aligned.ensures.value));
}
