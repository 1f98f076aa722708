-- What passing an entry answers, beside what reading it is.
use Rattle.std.specs.Prelude.{◌≡◌, ℕ, List, ◌++◌, Option, Some, None, Ok}
use Rattle.dos_world.specs.declared.Ending.{Ending}
use Rattle.dos_io.specs.declared.exchange.Exchange.TheVariants.{End}
use Rattle.log_text.specs.declared.version.LogVersion.{LogVersion}
use Rattle.log_text.specs.declared.progress.Progress.{Progress}
use Rattle.log_text.specs.Items.{Item, kept}
use Rattle.log_text.specs.LogText.{item_text}
use Rattle.log_text.specs.Reading.{item_at, after_item}
use Rattle.log_text.specs.Spelling.{FitsItem}

-- An entry but the end is read of these bytes, with others behind it.
pub record PassesItem (v : LogVersion) (p : Progress) (end : ℕ) (bytes : List ℕ) (q : Progress)
    (after : List ℕ) : Type 0 where
  pub item : Item
  pub read : item_at v p end bytes ≡ Ok (item, after)
  pub fits : FitsItem v p item
  pub parts : bytes ≡ item_text item ++ after
  pub progress : q ≡ after_item p item

-- The end is read of these bytes, or an entry in front of it.
abbrev pub Passes : LogVersion → Progress → ℕ → List ℕ → Option (Ending × ℕ) → Progress → List ℕ
    → Type 0
Passes v p end bytes (Some last) q after =
    item_at v p end bytes ≡ Ok (kept (End last.0 last.1), after)
Passes v p end bytes None q after = PassesItem v p end bytes q after
