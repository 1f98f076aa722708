use Rattle.std.proofs.Common.{◌≡◌, Some, sym, ap, ◌∙◌}
use Rattle.crossbeam_queue.specs.Passes.{view}
use Rattle.dos_io.specs.Shims.{shim_answered}
use Rattle.twin_shims.specs.declared.note.Note.{Note}
use Rattle.twin_shims.specs.declared.note.Note.TheVariants.{Told}
use Rattle.twin_shims.specs.Follower.{ReaderState, follower_state}
use Rattle.twin_shims.proofs.Readers.{answered_is, answered_same, shows_answer}
use Rattle.twin_shims.proofs.reader.Reader.answer.Goals.{After-self-in-Some-Told-1}
use Rattle.twin_shims.proofs.reader.Reader.answer.Goals as goal

-- what it was
abbrev was : After-self-in-Some-Told-1 → ReaderState
was c = record {
  line = c.self.inside.pass.table_id;
  taken = (view c.self.inside.pass).popped;
  next = c.self.inside.next;
  answered = c.self.inside.answered;
  stops = c.self.inside.stops;
  last = c.self.inside.last;
  asked = c.self.inside.asked;
}

-- the next note is of this exchange
next_is : (c : After-self-in-Some-Told-1)
    → c.self.inside.next ≡ Some (Told c.in-Some-Told.exchange)
next_is c = sym c.take.ensures.value ∙ c.in-Some-Told.is
    ∙ ap (λ (n : Note). Some n) c.in-Some-Told.field-0-is

pub invariant_of-self : goal.invariant_of-self
invariant_of-self c = (
  c.self.invariant.0,
  c.self.invariant.1,
  answered_is _ (was c) _ c.in-Some-Told.exchange c.self.invariant.2 (next_is c)
      (answered_same (was c) _ _ c.take.ensures.after c.saturating_add-self-inside.ensures),
)

pub returns-clause-told : goal.returns-clause-told
returns-clause-told c =
    ap follower_state
    (answered_same (was c) _ _ c.take.ensures.after c.saturating_add-self-inside.ensures)
    ∙ shows_answer _ (was c) c.in-Some-Told.exchange c.self.invariant.2 (next_is c)
    ∙ ap (λ (r : ReaderState). shim_answered (follower_state r) c.in-Some-Told.exchange)
    c.self.view_is
