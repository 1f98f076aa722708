-- The entries that stand for some exchanges, as they are read. This project's own rule.
use Rattle.std.specs.Prelude.{◌≡◌, ◌≤◌, ◌<◌, ◌+◌, ◌^◌, ℕ, List, [], ◌∷◌, Some, ⊤}
use Rattle.dos_io.specs.declared.exchange.Exchange.{Exchange}
use Rattle.dos_io.specs.declared.exchange.Exchange.TheVariants.{End}
use Rattle.log_text.specs.declared.version.LogVersion.{LogVersion}
use Rattle.log_text.specs.declared.version.LogVersion.TheVariants.{One, Two}
use Rattle.log_text.specs.declared.progress.Progress.{Progress}
use Rattle.log_text.specs.Items.{Item, quiet, kept}
use Rattle.log_text.specs.Ranges.{InRange, NotEnd, HasPosts, least_posts, most_exchanges}
use Rattle.log_text.specs.Reading.{after_item}

-- a quiet entry behind what was read so far: it doesn't go on with the last entry
pub record FitsQuiet (p : Progress) (round count : ℕ) : Type 0 where
  pub apart : p.goes_on ≡ Some round → ⊥
  pub some : 1 ≤ count
  pub last : round + count ≤ 2 ^ 32
  pub held : p.held + count ≤ most_exchanges

-- Version 1 has none.
abbrev pub FitsQuietIn : LogVersion → Progress → (round count : ℕ) → Type 0
FitsQuietIn One p round count = ⊥
FitsQuietIn Two p round count = FitsQuiet p round count

-- an exchange as an entry of its own
pub record FitsKept (v : LogVersion) (p : Progress) (e : Exchange) : Type 0 where
  pub range : InRange e
  pub no_end : NotEnd e
  pub posts : HasPosts (least_posts v) e
  pub held : p.held + 1 ≤ most_exchanges

-- an entry but the end that may stand behind what was read so far
abbrev pub FitsItem : LogVersion → Progress → Item → Type 0
FitsItem v p (quiet round count) = FitsQuietIn v p round count
FitsItem v p (kept e) = FitsKept v p e

-- the same of each entry, the end too
abbrev pub MayCome : LogVersion → Progress → Item → Type 0
MayCome v p (kept (End ending rounds)) = rounds < 2 ^ 32
MayCome v p item = FitsItem v p item

-- each of these may stand behind what stands in front of it
abbrev pub AreSpelled : LogVersion → Progress → List Item → Type 0
AreSpelled v p [] = ⊤
AreSpelled v p (item ∷ items) = FitsItem v p item × AreSpelled v (after_item p item) items

-- what was read after some entries more
abbrev pub after_items : Progress → List Item → Progress
after_items p [] = p
after_items p (item ∷ items) = after_items (after_item p item) items
