use Rattle.std.proofs.Common.{◌≡◌, [], List, ℕ, None, refl, arith, ap, ◌∙◌}
use Rattle.log_text.specs.Items.{exchanges_of_items}
use Rattle.log_text.specs.EntriesText.{IsGrowing, items_in_text, items_within, grown_items}
use Rattle.log_text.proofs.growing.GrowingEntries.new.Goals as goal

none : exchanges_of_items (grown_items [] None) ≡ []
unfolding items_in_text items_within
none = refl

none_kept : IsGrowing [] None 0
unfolding items_in_text items_within
none_kept = record { text_is = refl; spelled = tt; shut = refl; count_is = refl }

pub invariant_of-result : goal.invariant_of-result
invariant_of-result c = (rw c.new.ensures.items none_kept, omega arith)

pub returns : goal.returns
returns c =
    ap (λ (text : List ℕ). exchanges_of_items (grown_items text None)) c.new.ensures.items ∙ none
