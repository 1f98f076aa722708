use Rattle.group_rounds.proofs.round.open_round.Goals as goal

pub returns-in-Ok-clause-opened : goal.returns-in-Ok-clause-opened
returns-in-Ok-clause-opened g c = record {
  list = c.ask_signals.new.list;
  crosses = c.in-Ok.ensures.answered;
  begins = c.begin_round.ensures.begins;
}
