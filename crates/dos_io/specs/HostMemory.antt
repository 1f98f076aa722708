-- A host in memory: its input in pieces, its readings, and its calls. This project's own rules.
use Rattle.std.specs.Prelude.{ℕ, zero, suc, ◌-◌, Bool, true, false, List, [], ◌∷◌, length, take}
use Rattle.std.specs.Prelude.{drop, Option, Some, ◌==◌, if◌then◌else◌}
use Rattle.dos_io.specs.Hosts.{Told}
use Rattle.dos_io.specs.Calls.{CallState, succeeds}
use Rattle.dos_io.specs.declared.host_question.HostQuestion.{HostQuestion}

-- At most n pieces of these bytes: the first of so many bytes, the others of `size` bytes, the last
-- one perhaps shorter. Each has a byte at least.
abbrev pub cut : ℕ → (first size : ℕ) → List ℕ → List (List ℕ)
cut zero first size bytes = []
cut (suc n) first size [] = []
cut (suc n) first size (b ∷ bytes) = (b ∷ take (first - 1) bytes) ∷ cut n size size
    (drop (first - 1) bytes)

-- all of them; there are no more pieces than bytes
abbrev pub pieces_of : (first size : ℕ) → List ℕ → List (List ℕ)
pieces_of first size bytes = cut (length bytes) first size bytes

-- The bytes of input that are left, how many of them the first piece has, and each other piece; the
-- readings that are left; its calls; and what it was asked.
pub record HostState : Type 0 where
  pub left : List ℕ
  pub first : ℕ
  pub size : ℕ
  pub readings : List ℕ
  pub calls : CallState
  pub asked : List HostQuestion

-- what it tells
abbrev pub told_by : HostState → Option Told
told_by h = Some (record { pieces = pieces_of h.first h.size h.left; readings = h.readings })

abbrev some_left : List ℕ → Bool
some_left [] = false
some_left (n ∷ ns) = true

-- the next call succeeds, if it is for input, or for a reading: one is left
abbrev pub input_succeeds : HostState → Bool
input_succeeds h = succeeds h.calls true

abbrev pub clock_succeeds : HostState → Bool
clock_succeeds h = succeeds h.calls (some_left h.readings)

-- after so many bytes left the front, no more than the first piece has; an emptied piece goes
abbrev pub after_taking : ℕ → HostState → HostState
after_taking count h = record h {
  left = drop count h.left;
  first = if count == h.first then h.size else h.first - count;
}
