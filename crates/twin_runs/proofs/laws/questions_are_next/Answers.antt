use Rattle.twin_runs.proofs.Asking.{next_of_whole, no_end_before, questions_next}
use Rattle.twin_runs.proofs.laws.questions_are_next.Goals as goal

pub returns : goal.returns
returns c = record {
  whole = next_of_whole;
  no_end = no_end_before;
  both = questions_next;
}
