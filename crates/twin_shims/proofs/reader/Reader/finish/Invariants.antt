use Rattle.std.proofs.Common.{◌≡◌, ◌++◌, [], List, true, false}
use Rattle.crossbeam_queue.specs.Passes.{view, IsPassOf}
use Rattle.twin_shims.specs.declared.note.Note.{Note}
use Rattle.twin_shims.specs.Notes.{IsLine}
use Rattle.twin_shims.specs.Order.{hand}
use Rattle.twin_shims.proofs.reader.Reader.finish.Given as goal

abbrev pub invariant-loop : goal.invariant-loop
invariant-loop g l = record {
  of_line : IsPassOf l.line.queue l.pass;
  same : l.pass.table_id ≡ l.fn.self.line;
  hand_is : view l.pass ≡ hand false true [] (view l.pass).popped;
  line_is : IsLine l.closed (view l.pass).popped;
  more : (more : List Note) × ((view l.pass).popped ≡ l.fn.self.taken ++ more);
}
