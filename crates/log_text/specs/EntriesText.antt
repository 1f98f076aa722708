-- Entries kept as their text.
use Rattle.std.specs.Prelude.{◌≡◌, ◌+◌, ℕ, zero, suc, List, [], ◌∷◌, ◌++◌, length, Result, Ok, Err}
use Rattle.std.specs.Prelude.{Option, Some, None, ⊤, ◌==◌, if◌then◌else◌}
use Rattle.dos_io.specs.declared.exchange.Exchange.{Exchange}
use Rattle.log_text.specs.declared.refusal.LogError.{LogError}
use Rattle.log_text.specs.declared.version.LogVersion.{LogVersion}
use Rattle.log_text.specs.declared.version.LogVersion.TheVariants.{Two}
use Rattle.log_text.specs.declared.progress.Progress.{Progress}
use Rattle.log_text.specs.Items.{Item, quiet, exchanges_of_items}
use Rattle.log_text.specs.LogText.{entries_text, items_text}
use Rattle.log_text.specs.Reading.{item_at, nothing_read, after_item}
use Rattle.log_text.specs.Spelling.{AreSpelled, after_items}

abbrev pub one_of : Result (Item × List ℕ) LogError → (Item → List ℕ → List Item) → List Item
one_of (Ok read) others = read.0 ∷ others read.0 read.1
one_of (Err refusal) others = []

-- at most n entries, as far as they can be read
unfoldable pub items_within : LogVersion → ℕ → Progress → List ℕ → List Item
items_within v zero p text = []
items_within v (suc n) p text =
    one_of (item_at v p 0 text) (λ item rest. items_within v n (after_item p item) rest)

unfoldable pub items_in_text : LogVersion → List ℕ → List Item
items_in_text v text = items_within v (length text) nothing_read text

-- the exchanges that they stand for
abbrev pub entries_in_text : LogVersion → List ℕ → List Exchange
entries_in_text v text = exchanges_of_items (items_in_text v text)

-- The text is that of the entries that it has, which stand for so many exchanges.
pub record IsEntriesText (v : LogVersion) (text : List ℕ) (count : ℕ) : Type 0 where
  pub text_is : text ≡ items_text (items_in_text v text)
  pub spelled : AreSpelled v nothing_read (items_in_text v text)
  pub count_is : count ≡ length (entries_in_text v text)

-- what entries are seen as
pub record EntriesState : Type 0 where
  pub version : LogVersion
  pub list : List Exchange

-- ---- entries of version 2 that grow, the last of them kept out of the text while it is quiet

abbrev pub stretch_items : Option (ℕ × ℕ) → List Item
stretch_items None = []
stretch_items (Some s) = quiet s.0 s.1 ∷ []

-- a stretch with one round more, where this round goes on with it
abbrev pub counted_up : Option (ℕ × ℕ) → ℕ → Option (ℕ × ℕ)
counted_up None round = None
counted_up (Some s) round =
    if s.0 + s.1 == round then Some (s.0, s.1 + 1) else None

-- Where no entry is kept out, none goes on with the last one of the text.
abbrev pub IsShut : Option (ℕ × ℕ) → List Item → Type 0
IsShut None items = (after_items nothing_read items).goes_on ≡ None
IsShut (Some s) items = ⊤

-- all of them
abbrev pub grown_items : List ℕ → Option (ℕ × ℕ) → List Item
grown_items text stretch = items_in_text Two text ++ stretch_items stretch

pub record IsGrowing (text : List ℕ) (stretch : Option (ℕ × ℕ)) (count : ℕ) : Type 0 where
  pub text_is : text ≡ items_text (items_in_text Two text)
  pub spelled : AreSpelled Two nothing_read (grown_items text stretch)
  pub shut : IsShut stretch (items_in_text Two text)
  pub count_is : count ≡ length (exchanges_of_items (grown_items text stretch))

-- The text of version 2 grows by so many bytes with this exchange.
unfoldable pub GrowsBy : List Exchange → Exchange → ℕ → Type 0
GrowsBy es e bytes =
    length (entries_text Two (es ++ e ∷ [])) ≡ length (entries_text Two es) + bytes

-- what they are seen as: their list, and for how many more bytes memory is taken
pub record GrowingState : Type 0 where
  pub list : List Exchange
  pub room : ℕ
