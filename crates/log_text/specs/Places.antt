-- Where an exchange of a log stands in its text. This project's own rule.
use Rattle.std.specs.Prelude.{◌≡◌, ◌≤◌, ◌<◌, [], ◌∷◌, ℕ, List, drop, length}
use Rattle.log_text.specs.declared.progress.Progress.{Progress}
use Rattle.log_text.specs.Items.{Item, quiet, kept, exchanges_of_items}
use Rattle.log_text.specs.LogText.{Log, entries_text, items_text}
use Rattle.log_text.specs.Spelling.{AreSpelled}

-- so many of the first entry's exchanges, and not all of them
abbrev pub IsWithin : ℕ → List Item → Type 0
IsWithin within [] = within ≡ 0
IsWithin within (quiet round count ∷ items) = within < count
IsWithin within (kept e ∷ items) = within ≡ 0

-- At this place of the text stand entries of which so many exchanges were passed; what is left of
-- them is what is left of the log's.
pub record StandsAt (log : Log) (passed place within : ℕ) : Type 0 where
  pub progress : Progress
  pub items : List Item
  pub text_is : drop place (entries_text log.version log.entries) ≡ items_text items
  pub spelled : AreSpelled log.version progress items
  pub left : drop passed log.entries ≡ drop within (exchanges_of_items items)
  pub within_first : IsWithin within items
  pub inside : place ≤ length (entries_text log.version log.entries)
