-- What a recorder keeps, beside its host, and what it makes of it. This project's own rule.
use Rattle.std.specs.Prelude.{◌≡◌, ◌≤◌, ◌+◌, ◌++◌, ◌⊎◌, ℕ, List, [], ◌∷◌, length, Option, Some}
use Rattle.std.specs.Prelude.{None, ⊤, IfSome}
use Rattle.std.specs.List.{AllByRecursion}
use Rattle.dos_world.specs.declared.Post.{Post}
use Rattle.dos_world.specs.declared.Ending.{Ending}
use Rattle.dos_world.specs.declared.Question.{Question}
use Rattle.dos_world.specs.declared.Question.TheVariants.{Signals, Input, Clock}
use Rattle.dos_world.specs.declared.Question.TheVariants.{End as end_question}
use Rattle.dos_io.specs.declared.exchange.Exchange.{Exchange}
use Rattle.dos_io.specs.declared.exchange.Exchange.TheVariants.{End}
use Rattle.dos_io.specs.declared.exchange.ClockRule.{ClockRule}
use Rattle.dos_io.specs.declared.exchange.ClockRule.TheVariants.{FromHost, Counted}
use Rattle.dos_io.specs.declared.shim.ShimStop.{ShimStop}
use Rattle.dos_io.specs.declared.shim.ShimStop.TheVariants.{LogFull, HostFault, Memory, Misfit}
use Rattle.dos_io.specs.Posts.{FitsPost}
use Rattle.dos_io.specs.Hosts.{Told}
use Rattle.dos_io.specs.Given.{readings, counted_reading, Given}
use Rattle.dos_io.specs.Outside.{counted_to_limit, Rose}
use Rattle.dos_io.specs.Shims.{ShimState}
use Rattle.log_text.specs.declared.header.LogHeader.{LogHeader}
use Rattle.log_text.specs.declared.version.LogVersion.TheVariants.{Two}
use Rattle.log_text.specs.LogText.{header_text, entries_text}
use Rattle.log_text.specs.Ranges.{FitsHeader, AreEntries, most_bytes, most_exchanges}
use Rattle.shim_log.specs.Room.{NoRoom, HadRoom}

-- the words' posts and clock, the log's header and entries so far, its end once it is told, the
-- stops, and for how many more bytes memory is taken
pub record LedgerState : Type 0 where
  pub posts : List (ℕ × Post)
  pub clock : ClockRule
  pub header : LogHeader
  pub entries : List Exchange
  pub ended : Option (Ending × ℕ)
  pub stops : ℕ
  pub last : Option ShimStop
  pub asked : Option Question
  pub room : ℕ

abbrev pub end_of_ledger : Option (Ending × ℕ) → List Exchange
end_of_ledger None = []
end_of_ledger (Some e) = End e.0 e.1 ∷ []

-- as of every shim
abbrev pub recorder_state : LedgerState → ShimState
recorder_state b = record {
  told = b.entries ++ end_of_ledger b.ended;
  stops = b.stops;
  last = b.last;
  asked = b.asked;
}

-- each is a post that may be made
abbrev pub ArePlanned : List (ℕ × Post) → Type 0
ArePlanned = AllByRecursion (λ post. FitsPost post.1)

-- the host is asked this question
abbrev pub AsksHost : ClockRule → Question → Type 0
AsksHost clock (Input round tid max) = ⊤
AsksHost FromHost (Clock round tid) = ⊤
AsksHost (Counted start step) (Clock round tid) = ⊥
AsksHost clock (Signals round) = ⊥
AsksHost clock (end_question ending rounds) = ⊥

-- The answer is kept as an entry. The end has its room from the beginning, and takes no memory.
abbrev pub AddsEntry : Question → Type 0
AddsEntry (end_question ending rounds) = ⊥
AddsEntry _ = ⊤

-- It may stop so at this question. The log is full exactly where there is no room: where there is
-- none, neither the host's fault nor want of memory is answered. The host fails only where it is
-- asked, memory runs out only where an entry is to be added, and there is never a misfit.
abbrev pub MayStop : LedgerState → Question → ShimStop → Type 0
MayStop s q LogFull = NoRoom s.header s.posts s.entries q
MayStop s q HostFault = AsksHost s.clock q × (NoRoom s.header s.posts s.entries q → ⊥)
MayStop s q Memory = AddsEntry q × (NoRoom s.header s.posts s.entries q → ⊥)
MayStop s q (Misfit misfit) = ⊥

abbrev pub IsNoMisfit : ShimStop → Type 0
IsNoMisfit LogFull = ⊤
IsNoMisfit HostFault = ⊤
IsNoMisfit Memory = ⊤
IsNoMisfit (Misfit misfit) = ⊥

pub record IsLedger (b : LedgerState) : Type 0 where
  pub posts : ArePlanned b.posts
  pub posts_few : length b.posts ≤ 32
  pub header : FitsHeader b.header
  pub entries : AreEntries b.entries
  pub had_room : HadRoom b.header b.posts [] b.entries
  pub stop : IfSome b.asked (λ q. IfSome b.last (MayStop b q))
  pub never : IfSome b.last IsNoMisfit
  pub few : length b.entries ≤ most_exchanges
  pub small : length (header_text Two b.header) + length (entries_text Two b.entries) + 6
      ≤ most_bytes

-- before the first question
abbrev pub empty_ledger : List (ℕ × Post) → ClockRule → LogHeader → (room : ℕ) → LedgerState
empty_ledger posts clock header room = record {
  posts = posts;
  clock = clock;
  header = header;
  entries = [];
  ended = None;
  stops = 0;
  last = None;
  asked = None;
  room = room;
}

-- after a stop
abbrev pub stopped : LedgerState → Question → ShimStop → LedgerState
stopped b q stop = record b { stops = counted_to_limit b.stops; last = Some stop; asked = Some q }

-- after an answer
abbrev pub added : LedgerState → Exchange → LedgerState
added b e = record b { entries = b.entries ++ e ∷ []; asked = None }

-- after the end
abbrev pub ledger_closed : LedgerState → Ending → ℕ → LedgerState
ledger_closed b ending rounds = record b { ended = Some (ending, rounds); asked = None }

-- From s to t: what a recorder did, where its host told a and had the count m before, and tells b
-- and has n now.
pub record RecorderFollows (s t : LedgerState) (a b : Option Told) (m n : ℕ) : Type 0 where
  pub header_same : t.header ≡ s.header
  pub posts_same : t.posts ≡ s.posts
  pub clock_same : t.clock ≡ s.clock
  pub more : List Exchange
  pub told_is : (recorder_state t).told ≡ (recorder_state s).told ++ more
  pub given : Given s.posts s.clock (length (readings (recorder_state s).told)) a b more
  pub grows : m ≤ n
  pub cause : ((t.stops ≡ s.stops) × (t.last ≡ s.last)) ⊎ (t.last ≡ Some HostFault → Rose m n)

-- the next counted reading, or none where readings are the host's
abbrev pub next_reading : ClockRule → ℕ → Option ℕ
next_reading FromHost k = None
next_reading (Counted start step) k = Some (counted_reading start step k)
