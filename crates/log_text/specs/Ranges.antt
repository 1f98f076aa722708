-- The ranges of a log's fields. This project's own rule. Of a digest, a process, a round, a thread
-- and a reading each value may stand.
use Rattle.std.specs.Prelude.{◌≤◌, ◌<◌, ◌^◌, ℕ, List, length, ⊤}
use Rattle.std.specs.List.{AllByRecursion}
use Rattle.std.specs.Int.{IsInRange}
use Rattle.dos_world.specs.declared.Post.{Post}
use Rattle.dos_io.specs.declared.exchange.Exchange.{Exchange}
use Rattle.dos_io.specs.declared.exchange.Exchange.TheVariants.{Signals, Input, Clock, End}
use Rattle.dos_io.specs.Posts.{ArePosts}
use Rattle.log_text.specs.declared.header.LogHeader.{LogHeader}
use Rattle.log_text.specs.Bytes.{IsBytes, AreDigests}
use Rattle.log_text.specs.declared.version.LogVersion.{LogVersion}
use Rattle.log_text.specs.declared.version.LogVersion.TheVariants.{One, Two}
use Rattle.log_text.specs.LogText.{Log}

-- the numbers that the words allow, and one to eight digests
pub record FitsHeader (h : LogHeader) : Type 0 where
  pub quantum : IsInRange 16 65536 h.quantum
  pub rounds : IsInRange 1 1000000 h.rounds
  pub frames : IsInRange 16 16384 h.frames
  pub count : IsInRange 1 8 (length h.digests)
  pub digests : AreDigests h.digests

-- at most 32 posts
pub record FitsSignals (round : ℕ) (list : List Post) : Type 0 where
  pub round_fits : round < 2 ^ 32
  pub count : length list ≤ 32
  pub posts : ArePosts list

-- no more bytes than were asked for, and never more than a page
pub record FitsInput (round tid max : ℕ) (bytes : List ℕ) : Type 0 where
  pub round_fits : round < 2 ^ 32
  pub tid_fits : tid < 2 ^ 32
  pub max_fits : IsInRange 1 4096 max
  pub short : length bytes ≤ max
  pub bytes_fit : IsBytes bytes

-- any reading of 64 bits
pub record FitsClock (round tid n : ℕ) : Type 0 where
  pub round_fits : round < 2 ^ 32
  pub tid_fits : tid < 2 ^ 32
  pub reading : n < 2 ^ 64

-- an exchange that may stand in a log
abbrev pub InRange : Exchange → Type 0
InRange (Signals round list) = FitsSignals round list
InRange (Input round tid max bytes) = FitsInput round tid max bytes
InRange (Clock round tid n) = FitsClock round tid n
InRange (End ending rounds) = rounds < 2 ^ 32

-- The end is no entry.
abbrev pub NotEnd : Exchange → Type 0
NotEnd (End ending rounds) = ⊥
NotEnd _ = ⊤

-- each of these
abbrev pub AreEntries : List Exchange → Type 0
AreEntries = AllByRecursion (λ exchange. InRange exchange × NotEnd exchange)

-- a log has at most so many exchanges before its end
abbrev pub most_exchanges : ℕ
most_exchanges = 16777216

-- and its text at most so many bytes, 64 MiB
abbrev pub most_bytes : ℕ
most_bytes = 67108864

-- All of it.
pub record FitsLog (log : Log) : Type 0 where
  pub header : FitsHeader log.header
  pub entries : AreEntries log.entries
  pub few : length log.entries ≤ most_exchanges
  pub rounds : log.rounds < 2 ^ 32

-- ---- signals, in each version

-- the fewest posts of an entry of signals
abbrev pub least_posts : LogVersion → ℕ
least_posts One = 0
least_posts Two = 1

abbrev pub HasPosts : ℕ → Exchange → Type 0
HasPosts least (Signals round list) = least ≤ length list
HasPosts least _ = ⊤
