use Rattle.std.proofs.Common.{[], ap, rules}
use Rattle.page_store.specs.Store.{joined}
use Rattle.code_pages.specs.Lines.{bytes_of_pages}
use Rattle.page_store.proofs.Counts.{owned-within}
use Rattle.quantum_run.specs.declared.pages.InPlace.{InPlace}
use Rattle.quantum_run.proofs.Comparing.{keeps-same, right-same}
use Rattle.quantum_run.proofs.FlatRuns.{run-elsewhere, run-ends, same-elsewhere}
use Rattle.quantum_run.proofs.Places.{found-within, home-here, home-kept}
use Rattle.quantum_run.proofs.Whole.{out-or, stops-flat}
use Rattle.quantum_run.proofs.run.run_in_place.Goals as goal

pub new-memory-requires-clause-reached : goal.new-memory-requires-clause-reached
new-memory-requires-clause-reached c = λ access address frame h.
    home-here c.args.frames.now.pages frame c.requires.home
    (found-within c.args.tid c.args.frames.now c.args.space.now.entries access address frame
    c.requires.mapped h)

pub new-memory-requires-clause-own : goal.new-memory-requires-clause-own
new-memory-requires-clause-own c = λ access address frame writes h.
    home-here c.args.frames.now.pages frame c.requires.home
    (found-within c.args.tid c.args.frames.now c.args.space.now.entries access address frame
    c.requires.mapped h)

pub new-memory-requires-clause-within : goal.new-memory-requires-clause-within
new-memory-requires-clause-within c =
    λ page e is. owned-within c.args.frames.now.owners e.frame (c.requires.mapped page e is).1

pub new-memory-requires-2-clause-reached : goal.new-memory-requires-2-clause-reached
new-memory-requires-2-clause-reached c = λ access address frame h.
    home-here c.args.frames.now.pages frame c.requires.home
    (found-within c.args.tid c.args.frames.now c.args.space.now.entries access address frame
    c.requires.mapped h)

pub new-memory-requires-2-clause-own : goal.new-memory-requires-2-clause-own
new-memory-requires-2-clause-own c = λ access address frame writes h.
    home-here c.args.frames.now.pages frame c.requires.home
    (found-within c.args.tid c.args.frames.now c.args.space.now.entries access address frame
    c.requires.mapped h)

pub new-memory-requires-2-clause-within : goal.new-memory-requires-2-clause-within
new-memory-requires-2-clause-within c =
    λ page e is. owned-within c.args.frames.now.owners e.frame (c.requires.mapped page e is).1

pub run-stop-requires-clause-right : goal.run-stop-requires-clause-right
run-stop-requires-clause-right c =
    keeps-same (λ (p : InPlace). p.frames.now.pages) _ _ _ _ c.new-memory.ensures.compared
    c.new-memory.ensures.pages (bytes_of_pages c.args.code.now) c.requires.right

pub run_up_to-stop-requires : goal.run_up_to-stop-requires
run_up_to-stop-requires c = record {
  right = keeps-same (λ (p : InPlace). p.frames.now.pages) _ _ _ _
      c.new-memory-2.ensures.compared c.new-memory-2.ensures.pages
      (bytes_of_pages c.args.code.now) c.requires.right;
}

pub returns-then-is_empty-clause-right : goal.returns-then-is_empty-clause-right
returns-then-is_empty-clause-right c =
    right-same _ _ _ _ _ _ _ _ (search rules) (search rules) (search rules)
    (ap bytes_of_pages c.keep_hints.ensures) c.run-stop.ensures.right

pub returns-clause-right : goal.returns-clause-right
returns-clause-right c =
    right-same _ _ _ _ _ _ _ _ (search rules) (search rules) (search rules)
    (ap bytes_of_pages c.keep_hints-2.ensures) c.run_up_to-stop.ensures.right

pub returns-clause-home : goal.returns-clause-home
returns-clause-home c = home-kept c.args.frames.now.pages _ (search rules) c.requires.home

pub returns-then-is_empty-clause-home : goal.returns-then-is_empty-clause-home
returns-then-is_empty-clause-home c =
    home-kept c.args.frames.now.pages _ (search rules) c.requires.home

pub returns-clause-runs : goal.returns-clause-runs
returns-clause-runs c =
    run-ends c.args.tid c.args.frames.now c.args.space.now.entries _ c.args.regs.now
    c.run_up_to-stop.new.regs c.args.budget.now c.run_up_to-stop.new.budget
    c.run_up_to-stop.ensures.within (search rules)

pub returns-clause-stop : goal.returns-clause-stop
returns-clause-stop c =
    stops-flat _ c.args.tid c.args.frames.now c.args.space.now.entries _ c.args.regs.now
    c.run_up_to-stop.new.regs c.args.budget.now c.run_up_to-stop.new.budget c.run_up_to-stop.result
    (search rules)

pub returns-clause-elsewhere : goal.returns-clause-elsewhere
returns-clause-elsewhere c =
    run-elsewhere c.args.tid c.args.frames.now c.args.space.now.entries [] c.args.regs.now
    c.run_up_to-stop.new.regs c.args.budget.now c.run_up_to-stop.new.budget c.args.stops.now
    (same-elsewhere c.args.tid _ c.args.frames.now.owners _ c.args.space.now.entries _
    (joined c.args.frames.now.pages) _ c.args.stops.now _ _ (search rules) (search rules)
    (search rules) (search rules) c.run_up_to-stop.ensures.elsewhere)

pub returns-then-is_empty-clause-runs : goal.returns-then-is_empty-clause-runs
returns-then-is_empty-clause-runs c =
    run-ends c.args.tid c.args.frames.now c.args.space.now.entries _ c.args.regs.now
    c.run-stop.new.regs c.args.budget.now c.run-stop.new.budget c.run-stop.ensures.within
    (search rules)

pub returns-then-is_empty-clause-stop : goal.returns-then-is_empty-clause-stop
returns-then-is_empty-clause-stop c =
    out-or _ _ _ c.run-stop.result
    (stops-flat _ c.args.tid c.args.frames.now c.args.space.now.entries _ c.args.regs.now
    c.run-stop.new.regs c.args.budget.now c.run-stop.new.budget c.run-stop.result (search rules))
