use Rattle.std.proofs.Common.{◌≡◌, ◌∙◌, ℕ, ap, sym, subst, refl, List, map, MutBor}
use Rattle.code_pages.specs.Lines.{bytes_of_pages}
use Rattle.page_store.specs.declared.compared.Compared.{Compared}
use Rattle.quantum_run.specs.Knowing.{AreRight}
use Rattle.dos_world.specs.declared.Entry.{Entry}
use Rattle.page_store.specs.Store.{joined}
use Rattle.flat_machine.specs.Buffered.{owner_for}
use Rattle.flat_machine.specs.Over.{MemoryAnswers}
use Rattle.written_words.specs.declared.Written.{Written}
use Rattle.quantum_run.specs.Answering.{run_answers, still}
use Rattle.quantum_run.specs.Buffering.{buffer_places, pages_read, still_for}
use Rattle.quantum_run.proofs.Buffers.{ran-over}
use Rattle.quantum_run.proofs.Owned.{all-owned, all-read, all-within}
use Rattle.quantum_run.proofs.run.run_beside.Goals as goal

pub new-memory-requires-clause-reached : goal.new-memory-requires-clause-reached
new-memory-requires-clause-reached c =
    all-read c.args.tid c.args.frames.now c.args.space.now.entries c.requires.home
    c.requires.mapped c.in-Some.own

pub new-memory-requires-clause-own : goal.new-memory-requires-clause-own
new-memory-requires-clause-own c =
    all-owned c.args.tid c.args.frames.now c.args.space.now.entries c.requires.home
    c.requires.mapped

pub new-memory-requires-clause-within : goal.new-memory-requires-clause-within
new-memory-requires-clause-within c =
    all-within c.args.tid c.args.frames.now c.args.space.now.entries c.requires.home
    c.requires.mapped

pub run-stop-requires-clause-right : goal.run-stop-requires-clause-right
run-stop-requires-clause-right c =
    let m = c.new-memory.result in
    let pages = pages_read m.pages.frames.now.pages m.pages.words in
    let known = bytes_of_pages c.args.code.now in
    subst (λ (x : MutBor Compared). AreRight x.now.slots x.now.blocks pages known)
    (sym c.new-memory.ensures.compared) (c.requires.right pages known)

pub returns : goal.returns
returns c =
    let m = c.new-memory.result in
    let s = c.args.frames.now in
    let e = c.new-memory.ensures in
    let ran = c.run-stop.ensures in
    let a : MemoryAnswers (List Written) =
    run_answers (still m.tid (map (owner_for m.pages.tid) m.pages.frames.now.owners)
    m.space.now.entries) (buffer_places (joined m.pages.frames.now.pages)) in
    let b : MemoryAnswers (List Written) =
    run_answers (still_for c.args.tid s.owners c.args.space.now.entries)
    (buffer_places (joined s.pages)) in
    let same : a ≡ b =
    ap (λ t. run_answers
    (still t (map (owner_for m.pages.tid) m.pages.frames.now.owners)
    m.space.now.entries) (buffer_places (joined m.pages.frames.now.pages))) e.thread
    ∙ ap (λ (entries : List (ℕ × Entry)). run_answers
    (still c.args.tid (map (owner_for m.pages.tid) m.pages.frames.now.owners)
    entries) (buffer_places (joined m.pages.frames.now.pages))) (ap (λ x. x.entries) e.space)
    ∙ ap (λ p. run_answers
    (still c.args.tid (map (owner_for p.tid) p.frames.now.owners)
    c.args.space.now.entries) (buffer_places (joined p.frames.now.pages))) e.pages in
    record {
      before = c.in-Some.own;
      later = c.run-stop.new.memory.pages.words;
      was = sym c.take.ensures.value ∙ c.in-Some.is;
      is = refl;
      over = ran-over s c.args.space.now.entries c.args.tid a same c.args.regs.now
          c.run-stop.new.regs c.in-Some.own m.pages.words c.run-stop.new.memory.pages.words
          c.run-stop.new.memory.pages.words (ap (λ p. p.words) e.pages) refl c.args.budget.now
          c.run-stop.new.budget c.args.floor c.run-stop.result ran.within ran.runs ran.stop;
    }
