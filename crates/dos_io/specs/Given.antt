-- The answers of these exchanges are those that the words and the host give, none skipped and none
-- invented. This project's own rule.
use Rattle.std.specs.Prelude.{ℕ, suc, ◌≡◌, ◌+◌, ◌*◌, ◌%◌, ◌^◌, List, [], ◌∷◌, ◌++◌, map, filter}
use Rattle.std.specs.Prelude.{Option, Some, None, ◌==◌, ⊤}
use Rattle.dos_world.specs.declared.Post.{Post}
use Rattle.dos_io.specs.declared.exchange.Exchange.{Exchange}
use Rattle.dos_io.specs.declared.exchange.Exchange.TheVariants.{Signals, Input, Clock, End}
use Rattle.dos_io.specs.declared.exchange.ClockRule.{ClockRule}
use Rattle.dos_io.specs.declared.exchange.ClockRule.TheVariants.{FromHost, Counted}
use Rattle.dos_io.specs.Hosts.{Told, taken}

-- ---- signals: the answer is the round's posts of the words, in their order

-- of all posts of the words, those of a round
abbrev pub posts_in : List (ℕ × Post) → ℕ → List Post
posts_in all round = map (λ post. post.1) (filter (λ post. post.0 == round) all)

-- so for each question for signals
abbrev pub GivesPosts : List (ℕ × Post) → List Exchange → Type 0
GivesPosts all [] = ⊤
GivesPosts all (Signals round list ∷ es) = (list ≡ posts_in all round) × GivesPosts all es
GivesPosts all (Input round tid max bytes ∷ es) = GivesPosts all es
GivesPosts all (Clock round tid n ∷ es) = GivesPosts all es
GivesPosts all (End ending rounds ∷ es) = GivesPosts all es

-- ---- input: the answers leave the front of the pieces before, one after another, and those after
-- are left

-- so for each input
abbrev pub GivesInputs : List (List ℕ) → List (List ℕ) → List Exchange → Type 0
GivesInputs before after [] = after ≡ before
GivesInputs before after (Signals round list ∷ es) = GivesInputs before after es
GivesInputs before after (Input round tid max bytes ∷ es) =
    (bytes ≡ (taken max before).0) × GivesInputs (taken max before).1 after es
GivesInputs before after (Clock round tid n ∷ es) = GivesInputs before after es
GivesInputs before after (End ending rounds ∷ es) = GivesInputs before after es

-- ---- the clock

-- the readings among the exchanges
abbrev pub readings : List Exchange → List ℕ
readings [] = []
readings (Signals round list ∷ es) = readings es
readings (Input round tid max bytes ∷ es) = readings es
readings (Clock round tid n ∷ es) = n ∷ readings es
readings (End ending rounds ∷ es) = readings es

-- reading k, counted from 0, of a clock that is counted
abbrev pub counted_reading : (start step k : ℕ) → ℕ
counted_reading start step k = (start + k * step) % 2 ^ 64

-- the readings k, k + 1 and on
abbrev pub AreCountedFrom : (start step k : ℕ) → List ℕ → Type 0
AreCountedFrom start step k [] = ⊤
AreCountedFrom start step k (n ∷ ns) = (n ≡ counted_reading start step k)
    × AreCountedFrom start step (suc k) ns

-- what is said of them whatever the host tells: a counted clock goes on from number k
abbrev pub GivesCounted : ClockRule → ℕ → List Exchange → Type 0
GivesCounted FromHost k es = ⊤
GivesCounted (Counted start step) k es = AreCountedFrom start step k (readings es)

-- of the host: its readings are the ones that left the front, and a counted clock leaves them all
abbrev pub GivesReadings : ClockRule → List ℕ → List ℕ → List Exchange → Type 0
GivesReadings FromHost before after es = readings es ++ after ≡ before
GivesReadings (Counted start step) before after es = after ≡ before

-- ---- all of it

-- A host that tells nothing goes on so, and nothing is said of its answers.
abbrev pub GivesHost : ClockRule → Option Told → Option Told → List Exchange → Type 0
GivesHost clock None after es = after ≡ None
GivesHost clock (Some b) after es = (a : Told) × (after ≡ Some a) × GivesInputs b.pieces a.pieces es
    × GivesReadings clock b.readings a.readings es

-- The exchanges es are given by the words' posts and clock, where k readings were given before them
-- and the host told `before` and then `after`.
pub record Given (posts : List (ℕ × Post)) (clock : ClockRule) (k : ℕ) (before after : Option Told)
    (es : List Exchange) : Type 0 where
  pub signals : GivesPosts posts es
  pub counted : GivesCounted clock k es
  pub host : GivesHost clock before after es
