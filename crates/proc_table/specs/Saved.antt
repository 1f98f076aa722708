-- Four slots in which a thread's registers and masks are saved, and which signal comes first. This
-- project's own
-- rules.
use Rattle.std.specs.Prelude.{ℕ, zero, suc, Bool, not, ◌&&◌, List, [], ◌∷◌, find, Option, Some}
use Rattle.std.specs.Prelude.{None, if◌then◌else◌}
use Rattle.dos_world.specs.Numbered.{run_of}
use Rattle.dos_world.specs.World.{Registers, has_bit, with_bit, without_bit}
use Rattle.proc_table.specs.Tables.{Signals}

-- ---- slots

-- what is in the slots, up to the first that is empty
abbrev pub kept_slots : {A : Type 0} → List (Option A) → List A
kept_slots [] = []
kept_slots (None ∷ slots) = []
kept_slots (Some x ∷ slots) = x ∷ kept_slots slots

-- the values in so many slots, and the rest empty
abbrev pub slots_of : {A : Type 0} → ℕ → List A → List (Option A)
slots_of zero xs = []
slots_of (suc n) [] = None ∷ slots_of n []
slots_of (suc n) (x ∷ xs) = Some x ∷ slots_of n xs

-- ---- which signal comes

-- whether a signal is pending and not masked
abbrev pub is_deliverable : ℕ → ℕ → ℕ → Bool
is_deliverable pending mask signal = has_bit pending signal && not (has_bit mask signal)

-- the lowest signal that is pending and not masked
abbrev pub lowest_open : ℕ → ℕ → Option ℕ
lowest_open pending mask = find (is_deliverable pending mask) (run_of 1 31)

-- 9 where it is pending, else the lowest pending signal that isn't masked
abbrev pub first_signal : ℕ → ℕ → Option ℕ
first_signal pending mask = if has_bit pending 9 then Some 9 else lowest_open pending mask

-- the signals of a thread at which a handler of this signal has begun, with these registers saved
abbrev pub handled : Signals → ℕ → Registers → Signals
handled s signal regs = record {
  pending = without_bit s.pending signal;
  mask = with_bit s.mask signal;
  saved = (regs, s.mask) ∷ s.saved;
}
