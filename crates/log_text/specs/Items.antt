-- The entries of a log. In version 2 a stretch of rounds without a signal is one entry. This
-- project's own format.
use Rattle.std.specs.Prelude.{◌≢◌, ◌≤◌, ◌+◌, ℕ, zero, suc, List, [], ◌∷◌, ◌++◌, ◌==◌}
use Rattle.std.specs.Prelude.{if◌then◌else◌, ⊤}
use Rattle.dos_io.specs.declared.exchange.Exchange.{Exchange}
use Rattle.dos_io.specs.declared.exchange.Exchange.TheVariants.{Signals, Input, Clock, End}
use Rattle.log_text.specs.declared.version.LogVersion.{LogVersion}
use Rattle.log_text.specs.declared.version.LogVersion.TheVariants.{One, Two}

-- so many rounds without a signal, from this one on; or one exchange
pub data Item : Type 0 where
  quiet : (round count : ℕ) → Item
  kept : Exchange → Item

-- ---- from exchanges to entries: each stretch is as long as it can be

-- a round without a signal, in front of these entries
abbrev pub joined_round : ℕ → List Item → List Item
joined_round round [] = quiet round 1 ∷ []
joined_round round (quiet next count ∷ items) =
    if next == round + 1 then quiet round (count + 1) ∷ items
    else quiet round 1 ∷ quiet next count ∷ items
joined_round round (kept e ∷ items) = quiet round 1 ∷ kept e ∷ items

-- an exchange in front of these entries
abbrev pub in_front : Exchange → List Item → List Item
in_front (Signals round []) items = joined_round round items
in_front (Signals round (post ∷ posts)) items = kept (Signals round (post ∷ posts)) ∷ items
in_front (Input round tid max bytes) items = kept (Input round tid max bytes) ∷ items
in_front (Clock round tid n) items = kept (Clock round tid n) ∷ items
in_front (End ending rounds) items = kept (End ending rounds) ∷ items

abbrev pub items_of : List Exchange → List Item
items_of [] = []
items_of (e ∷ es) = in_front e (items_of es)

-- an entry for each, as in version 1
abbrev pub each_kept : List Exchange → List Item
each_kept [] = []
each_kept (e ∷ es) = kept e ∷ each_kept es

-- the entries of some exchanges
abbrev pub items_in : LogVersion → List Exchange → List Item
items_in One es = each_kept es
items_in Two es = items_of es

-- ---- and back

-- so many rounds without a signal
unfoldable pub quiet_rounds : (round count : ℕ) → List Exchange
quiet_rounds round zero = []
quiet_rounds round (suc n) = Signals round [] ∷ quiet_rounds (suc round) n

-- what an entry stands for
abbrev pub exchanges_of_item : Item → List Exchange
exchanges_of_item (quiet round count) = quiet_rounds round count
exchanges_of_item (kept e) = e ∷ []

abbrev pub exchanges_of_items : List Item → List Exchange
exchanges_of_items [] = []
exchanges_of_items (item ∷ items) = exchanges_of_item item ++ exchanges_of_items items

-- ---- the entries that stand for some exchanges

-- an exchange that no quiet entry stands for
abbrev pub IsLoud : Exchange → Type 0
IsLoud (Signals round []) = ⊥
IsLoud (Signals round (post ∷ posts)) = ⊤
IsLoud (Input round tid max bytes) = ⊤
IsLoud (Clock round tid n) = ⊤
IsLoud (End ending rounds) = ⊤

-- the first of these isn't a quiet entry from this round on
abbrev pub GoesNotOn : ℕ → List Item → Type 0
GoesNotOn round [] = ⊤
GoesNotOn round (quiet next count ∷ items) = next ≢ round
GoesNotOn round (kept e ∷ items) = ⊤

-- No quiet entry is empty, none goes on with the one before it, and no other stands for a round
-- without a signal.
abbrev pub AreJoined : List Item → Type 0
AreJoined [] = ⊤
AreJoined (quiet round count ∷ items) =
    (1 ≤ count) × GoesNotOn (round + count) items × AreJoined items
AreJoined (kept e ∷ items) = IsLoud e × AreJoined items
