-- The threads of a table by number, spread from those that live. This project's own rules.
use Rattle.std.specs.Prelude.{◌≡◌, ◌<◌, ◌≤◌, ℕ, suc, ◌+◌, List, [], ◌∷◌, map, length, find, Option}
use Rattle.std.specs.Prelude.{Some, None, option_map, ◌==◌, slice_index_or}
use Rattle.dos_world.specs.Numbered.{run_of}
use Rattle.dos_world.specs.World.{Thread, blank}
use Rattle.dos_world.specs.ThreadCalls.{ready_thread}

-- the thread of this number, among those that live with their numbers
abbrev pub live_in : List (ℕ × Thread) → ℕ → Option Thread
live_in live t = option_map (λ e. e.1) (find (λ e. e.0 == t) live)

-- the threads of the numbers from 1 to given; a thread that doesn't live is None
unfoldable pub spread : List (ℕ × Thread) → ℕ → List (Option Thread)
spread live given = map (live_in live) (run_of 1 given)

-- the live threads of a list with their numbers, the first of which is n
abbrev pub living_from : ℕ → List (Option Thread) → List (ℕ × Thread)
living_from n [] = []
living_from n (None ∷ threads) = living_from (suc n) threads
living_from n (Some thread ∷ threads) = (n, thread) ∷ living_from (suc n) threads

-- each number is above the one before it; the first is at least low, and all are below high
abbrev pub AreRising : ℕ → ℕ → List (ℕ × Thread) → Type 0
AreRising low high [] = Unit {0}
AreRising low high (e ∷ live) = (low ≤ e.0) × (e.0 < high) × AreRising (suc e.0) high live

-- At most 64 threads live, in rising number, and their memory was taken.
pub record IsSpreadKept (live : List (ℕ × Thread)) (given capacity : ℕ) : Type 0 where
  pub rising : AreRising 1 (given + 1) live
  pub few : length live ≤ 64
  pub numbers : given ≤ 65535
  pub taken : 64 ≤ capacity

-- ---- what a search finds

-- the numbers rise, below whatever
abbrev pub AreInOrder : List (ℕ × Thread) → Type 0
AreInOrder live = (high : ℕ) × AreRising 1 high live

abbrev pub no_thread_entry : ℕ × Thread
no_thread_entry = (0, ready_thread 0 (blank 0) 0 [])

abbrev pub thread_number_at : List (ℕ × Thread) → ℕ → ℕ
thread_number_at live place = let e : ℕ × Thread = slice_index_or live place no_thread_entry in e.0

-- the thread of this number stands at this place
pub record IsThreadAt (live : List (ℕ × Thread)) (t place : ℕ) : Type 0 where
  pub within : place < length live
  pub is : thread_number_at live place ≡ t

-- the thread of this number would stand at this place: lower numbers before it, and higher ones
-- from it on
pub record IsGapForThread (live : List (ℕ × Thread)) (t place : ℕ) : Type 0 where
  pub within : place ≤ length live
  pub lower : (i : ℕ) → i < place → thread_number_at live i < t
  pub higher : (i : ℕ) → place ≤ i → i < length live → t < thread_number_at live i

-- the threads above this number begin at this place
pub record IsGapAbove (live : List (ℕ × Thread)) (t place : ℕ) : Type 0 where
  pub within : place ≤ length live
  pub lower : (i : ℕ) → i < place → thread_number_at live i ≤ t
  pub higher : (i : ℕ) → place ≤ i → i < length live → t < thread_number_at live i
