use Rattle.std.proofs.Common.{◌∙◌, List, ap, map, rules}
use Rattle.page_store.specs.Store.{joined}
use Rattle.flat_machine.specs.Buffered.{owner_for}
use Rattle.written_words.specs.declared.Written.{Written}
use Rattle.code_pages.specs.Lines.{bytes_of_pages}
use Rattle.quantum_run.proofs.AtOnce.{through-over, through-puts}
use Rattle.quantum_run.proofs.Comparing.{right-same}
use Rattle.quantum_run.proofs.Owned.{all-here, all-owned, all-within}
use Rattle.quantum_run.proofs.Places.{home-kept}
use Rattle.quantum_run.proofs.run.run_with.Goals as goal

pub new-memory-requires-clause-reached : goal.new-memory-requires-clause-reached
new-memory-requires-clause-reached c =
    all-here c.args.tid c.args.frames.now c.args.space.now.entries c.requires.home
    c.requires.mapped

pub new-memory-requires-clause-own : goal.new-memory-requires-clause-own
new-memory-requires-clause-own c =
    all-owned c.args.tid c.args.frames.now c.args.space.now.entries c.requires.home
    c.requires.mapped

pub new-memory-requires-clause-within : goal.new-memory-requires-clause-within
new-memory-requires-clause-within c =
    all-within c.args.tid c.args.frames.now c.args.space.now.entries c.requires.home
    c.requires.mapped

pub returns-clause-right : goal.returns-clause-right
returns-clause-right c =
    right-same _ _ _ _ _ _ _ _ (search rules) (search rules) (search rules)
    (ap bytes_of_pages c.keep_hints.ensures) c.run-stop.ensures.right

pub returns-clause-home : goal.returns-clause-home
returns-clause-home c = home-kept c.args.frames.now.pages _ (search rules) c.requires.home

pub returns-clause-written : goal.returns-clause-written
returns-clause-written c =
    let m = c.new-memory.result in
    let n = c.run-stop.new.memory in
    let e = c.new-memory.ensures in
    let ran = c.run-stop.ensures in
    through-over c.args.frames.now c.args.space.now.entries m.space.now.entries c.args.tid m.tid
    (map (owner_for m.pages.tid) m.pages.place.frames.now.owners) e.thread
    (ap (λ p. map (owner_for p.tid) p.place.frames.now.owners) e.pages)
    (ap (λ x. x.entries) e.space) c.args.regs.now c.run-stop.new.regs
    (joined m.pages.place.frames.now.pages, m.pages.words.now)
    (joined n.pages.place.frames.now.pages, n.pages.words.now)
    (ap (λ p. (joined p.place.frames.now.pages, p.words.now)) e.pages
    ∙ ap (λ (words : List Written). (joined c.args.frames.now.pages, words)) c.requires.words)
    c.args.budget.now c.run-stop.new.budget ran.runs _ (search rules) c.run-stop.result ran.within
    ran.stop

pub returns-clause-puts : goal.returns-clause-puts
returns-clause-puts c = λ now is.
    let m = c.new-memory.result in
    let n = c.run-stop.new.memory in
    let e = c.new-memory.ensures in
    through-puts c.args.frames.now c.args.space.now.entries m.space.now.entries c.args.tid m.tid
    (map (owner_for m.pages.tid) m.pages.place.frames.now.owners) e.thread
    (ap (λ p. map (owner_for p.tid) p.place.frames.now.owners) e.pages)
    (ap (λ x. x.entries) e.space) c.args.regs.now c.run-stop.new.regs
    (joined m.pages.place.frames.now.pages, m.pages.words.now)
    (joined n.pages.place.frames.now.pages, n.pages.words.now)
    (ap (λ p. (joined p.place.frames.now.pages, p.words.now)) e.pages
    ∙ ap (λ (words : List Written). (joined c.args.frames.now.pages, words)) c.requires.words)
    c.args.budget.now c.run-stop.new.budget c.run-stop.ensures.runs _ now (search rules)
    (search rules)
