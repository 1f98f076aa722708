-- The one text of a log in each version: a header, any number of entries, the end, and nothing
-- more. This project's own format. All numbers are little-endian.
use Rattle.std.specs.Prelude.{ℕ, List, [], ◌∷◌, ◌++◌, drop, length}
use Rattle.std.specs.List.{concat, flat_map}
use Rattle.std.specs.Int.{w16, w32, w64, to_le_bytes}
use Rattle.dos_world.specs.declared.Post.{Post}
use Rattle.dos_world.specs.declared.Ending.{Ending}
use Rattle.dos_world.specs.declared.Ending.TheVariants.{Done, Limit, Stalled}
use Rattle.dos_io.specs.declared.exchange.Exchange.{Exchange}
use Rattle.dos_io.specs.declared.exchange.Exchange.TheVariants.{Signals, Input, Clock, End}
use Rattle.log_text.specs.declared.header.LogHeader.{LogHeader}
use Rattle.log_text.specs.declared.version.LogVersion.{LogVersion}
use Rattle.log_text.specs.declared.version.LogVersion.TheVariants.{One, Two}
use Rattle.log_text.specs.Items.{Item, quiet, kept, items_in}

-- The version is that of its text. The end isn't among the entries.
pub record Log : Type 0 where
  pub version : LogVersion
  pub header : LogHeader
  pub entries : List Exchange
  pub ending : Ending
  pub rounds : ℕ

-- all of it, as the exchanges of a run
abbrev pub exchanges : Log → List Exchange
exchanges log = log.entries ++ End log.ending log.rounds ∷ []

-- what is left of them behind so many
abbrev pub exchanges_from : ℕ → Log → List Exchange
exchanges_from start log = drop start (exchanges log)

-- ---- the header

-- `DPGL`
abbrev pub log_magic : List ℕ
log_magic = 0x44 ∷ 0x50 ∷ 0x47 ∷ 0x4C ∷ []

-- what stands for the version
abbrev pub version_number : LogVersion → ℕ
version_number One = 1
version_number Two = 2

-- `DPGL`, the version, how many images, the quantum, the limit of rounds, the frames, and a digest
-- for each image
abbrev pub header_text : LogVersion → LogHeader → List ℕ
header_text v h =
    log_magic ++ to_le_bytes w16 (version_number v) ++ to_le_bytes w16 (length h.digests)
    ++ to_le_bytes w32 h.quantum ++ to_le_bytes w32 h.rounds ++ to_le_bytes w32 h.frames
    ++ concat h.digests

-- ---- an entry

-- a process in four bytes and a signal in one
abbrev pub post_text : Post → List ℕ
post_text post = to_le_bytes w32 post.pid ++ post.signal ∷ []

-- the byte of an ending
abbrev pub ending_code : Ending → ℕ
ending_code Done = 0
ending_code Limit = 1
ending_code Stalled = 2

-- An entry's kind is one byte. Behind it stand:
-- for the end, the ending, and the rounds that were run;
-- for signals, the round, how many posts in one byte, and the posts;
-- for an input, the round, the thread, how many bytes were asked for, how many came, and these;
-- for a reading of the clock, the round, the thread, and the reading in eight bytes.
abbrev pub entry_text : Exchange → List ℕ
entry_text (End ending rounds) = 0 ∷ ending_code ending ∷ to_le_bytes w32 rounds
entry_text (Signals round list) =
    1 ∷ to_le_bytes w32 round ++ length list ∷ flat_map post_text list
entry_text (Input round tid max bytes) =
    2 ∷ to_le_bytes w32 round ++ to_le_bytes w32 tid
    ++ to_le_bytes w16 max ++ to_le_bytes w16 (length bytes) ++ bytes
entry_text (Clock round tid n) =
    3 ∷ to_le_bytes w32 round ++ to_le_bytes w32 tid ++ to_le_bytes w64 n

-- A quiet entry, of version 2 alone, has the first of its rounds, and how many they are.
abbrev pub item_text : Item → List ℕ
item_text (quiet round count) = 4 ∷ to_le_bytes w32 round ++ to_le_bytes w32 count
item_text (kept e) = entry_text e

-- one behind the other
abbrev pub items_text : List Item → List ℕ
items_text = flat_map item_text

-- the entries of some exchanges
abbrev pub entries_text : LogVersion → List Exchange → List ℕ
entries_text v es = items_text (items_in v es)

-- the whole text
abbrev pub logtext : Log → List ℕ
logtext log =
    header_text log.version log.header ++ entries_text log.version log.entries
    ++ entry_text (End log.ending log.rounds)
