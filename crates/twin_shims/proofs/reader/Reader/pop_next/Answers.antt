use Rattle.std.proofs.Common.{subst, sym, ap, ◌∙◌}
use Rattle.crossbeam_queue.specs.Passes.{view}
use Rattle.dos_io.specs.Shims.{HasNoEnd}
use Rattle.twin_shims.specs.Follower.{ReaderState, reader_told}
use Rattle.twin_shims.proofs.Lines.{pops}
use Rattle.twin_shims.proofs.Readers.{took_is, took_same}
use Rattle.twin_shims.proofs.reader.Reader.pop_next.Goals as goal

pub invariant_of-self : goal.invariant_of-self
invariant_of-self g c =
    let r : ReaderState = record {
      line = c.self.inside.pass.table_id;
      taken = (view c.self.inside.pass).popped;
      next = c.self.inside.next;
      answered = c.self.inside.answered;
      stops = c.self.inside.stops;
      last = c.self.inside.last;
      asked = c.self.inside.asked;
    } in
    let popped = pops _ _ _ c.self.invariant.1 c.pop-note.ensures.popped in (
      (
        c.pop-note.ensures.pass.0 ∙ c.self.invariant.0.0,
        c.pop-note.ensures.pass.2 ∙ c.self.invariant.0.1,
      ),
      popped.hand_is,
      took_is _ _ r _ c.pop-note.result c.self.invariant.2
          (ap (λ (r : ReaderState). r.next) c.self.view_is ∙ c.requires.none)
          (ap (λ (r : ReaderState). r.asked) c.self.view_is ∙ c.requires.asked)
          (subst (λ (r : ReaderState). HasNoEnd (reader_told r)) (sym c.self.view_is)
          c.requires.told)
          c.closes-self-inside.ensures c.pop-note.ensures.popped.1
          (took_same r _ _ _ c.pop-note.ensures.pass.0 popped.popped_is),
    )
