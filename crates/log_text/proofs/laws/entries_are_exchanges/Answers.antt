use Rattle.log_text.proofs.ItemLaws.{items_expanded, items_joined, joined_again}
use Rattle.log_text.proofs.laws.entries_are_exchanges.Goals as goal

pub returns : goal.returns
returns c = record {
  back = items_expanded;
  joined = items_joined;
  again = joined_again;
}
