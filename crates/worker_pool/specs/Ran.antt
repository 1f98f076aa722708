-- What workers need of packs, and what they leave. This project's own rules.
use Rattle.std.specs.Prelude.{ℕ, ◌≡◌, ◌+◌, ◌%◌, ◌^◌, ◌<◌, ◌≤◌, List, [], ◌∷◌, All, length, Some}
use Rattle.std.specs.Prelude.{slice_get, slice_index_or}
use Rattle.quantum_run.specs.Shows.{Pack, View, CanRun, Finished, RanOut, frames_of}

-- The later pack is the earlier one after a run that ended in this way, and else the same.
pub record HasRunBy (ended : Pack → View → Pack → Type 0) (v : View) (p q : Pack) : Type 0 where
  pub finished : ended p v q
  pub thread : q.thread ≡ p.thread
  pub process : q.process ≡ p.process
  pub frames : frames_of q.pages ≡ frames_of p.pages
  pub budget : q.budget ≤ p.budget
  pub room : q.room ≡ p.room

-- the pack as its thread's whole part has left it
abbrev pub HasRun : View → Pack → Pack → Type 0
HasRun = HasRunBy Finished

-- the pack as its thread has left it, run out from where it stood
abbrev pub HasRunOut : View → Pack → Pack → Type 0
HasRunOut = HasRunBy RanOut

-- as many packs, each run, in order
pub record AllRan (v : View) (old new : List Pack) : Type 0 where
  pub level : length new ≡ length old
  pub each : (i : ℕ) (p : Pack) → slice_get old i ≡ Some p → (q : Pack) × (slice_get new i ≡ Some q)
      × HasRun v p q

abbrev pub AllCanRun : View → List Pack → Type 0
AllCanRun v packs = (i : ℕ) (p : Pack) → slice_get packs i ≡ Some p → CanRun p v

-- what is left of all budgets
abbrev pub budgets_left : List Pack → ℕ
budgets_left [] = 0
budgets_left (p ∷ ps) = p.budget + budgets_left ps

-- A tally, which counts modulo 2^64, has grown by so many instructions.
abbrev pub GrewBy : (before after work : ℕ) → Type 0
GrewBy before after work = after % 2 ^ 64 ≡ (before + work) % 2 ^ 64

-- ---- the same by index, as std's calls over slices say it

abbrev pub AllRunnable : View → List Pack → Type 0
AllRunnable v = All (λ p. CanRun p v)

abbrev pub EachRan : View → List Pack → List Pack → Type 0
EachRan v old new = (i : ℕ) (d : Pack) → i < length old
    → HasRun v (slice_index_or old i d) (slice_index_or new i d)
