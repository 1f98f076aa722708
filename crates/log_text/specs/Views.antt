-- What an entry and a log stand for, as they are read.
use Rattle.std.specs.Prelude.{ℕ, List, [], ◌∷◌, Option, Some, None}
use Rattle.std.specs.Int.{w32, from_le_bytes}
use Rattle.dos_world.specs.declared.Post.{Post}
use Rattle.dos_world.specs.declared.Ending.{Ending}
use Rattle.dos_io.specs.declared.exchange.Exchange.{Exchange}
use Rattle.dos_io.specs.declared.exchange.Exchange.TheVariants as exchange
use Rattle.log_text.specs.declared.entry.Entry.{Entry}
use Rattle.log_text.specs.declared.entry.Entry.TheVariants.{Signals, Input, Clock, End}
use Rattle.log_text.specs.declared.item.Item.{Item as CodeItem}
use Rattle.log_text.specs.declared.item.Item.TheVariants.{Quiet, Kept}
use Rattle.log_text.specs.declared.log_reading.Tail.{Tail}
use Rattle.log_text.specs.declared.version.LogVersion.{LogVersion}
use Rattle.log_text.specs.Items.{Item, quiet, kept}
use Rattle.log_text.specs.Reading.{Body}
use Rattle.log_text.specs.EntriesText.{items_in_text}

-- The posts of these bytes, one behind the other: a process in four bytes and a signal in one.
abbrev pub posts_in_text : List ℕ → List Post
posts_in_text (a ∷ b ∷ c ∷ d ∷ signal ∷ bytes) =
    record { pid = from_le_bytes w32 (a ∷ b ∷ c ∷ d ∷ []); signal = signal } ∷ posts_in_text bytes
posts_in_text bytes = []

abbrev pub exchange_of : Entry → Exchange
exchange_of (Signals round posts) = exchange.Signals round (posts_in_text posts.now)
exchange_of (Input round tid max bytes) = exchange.Input round tid max bytes.now
exchange_of (Clock round tid n) = exchange.Clock round tid n
exchange_of (End ending rounds) = exchange.End ending rounds

-- how the run ended, and after how many rounds, where it is the end
abbrev pub ending_of : Exchange → Option (Ending × ℕ)
ending_of (exchange.Signals round list) = None
ending_of (exchange.Input round tid max bytes) = None
ending_of (exchange.Clock round tid n) = None
ending_of (exchange.End ending rounds) = Some (ending, rounds)

abbrev pub item_of : CodeItem → Item
item_of (Quiet round count) = quiet round count
item_of (Kept entry) = kept (exchange_of entry)

abbrev pub item_ending : Item → Option (Ending × ℕ)
item_ending (quiet round count) = None
item_ending (kept e) = ending_of e

-- what stands behind a header, as its text
abbrev pub body_of : LogVersion → Tail → Body
body_of v tail = record {
  items = items_in_text v tail.text.now;
  ending = tail.ending;
  rounds = tail.rounds;
}
