-- Registers stay in range, and so does a thread whose registers or budget change.
use Rattle.std.proofs.Common.{ℕ, zero, suc, ◌+◌, ◌%◌, ◌^◌, ◌<◌, ◌≤◌, ◌≡◌, ◌⊎◌, inl, inr, refl, ◌∙◌}
use Rattle.std.proofs.Common.{List, [], ◌∷◌, length, Option, None, arith, length-set}
use Rattle.std.specs.Prelude.{IfSome, slice_index, slice_set}
use Rattle.std.proofs.lemmas.List.Elements.{All-set, All-replicate}
use Rattle.std.proofs.lemmas.Bool.{cases_lt}
use Rattle.std.proofs.lemmas.List.{get_or_past}
use Rattle.dos_world.specs.Registers.{Registers, get, set, with_pc, with_held, blank}
use Rattle.dos_world.specs.Registers.{past}
use Rattle.dos_world.specs.Kernel.{answered}
use Rattle.dos_world.specs.Calls.{charged}
use Rattle.dos_world.specs.ThreadCalls.{new_registers}
use Rattle.dos_world.specs.Lawful.{AreRegisters, IsWord}
use Rattle.dos_laws.proofs.Threads.{ChangesRun}

-- ---- registers

first_stays : (xs : List ℕ) (i v : ℕ) → slice_index (slice_set xs (suc i) v) 0 ≡ slice_index xs 0
first_stays [] i v = refl
first_stays (x ∷ xs) i v = refl

pub set_ranges : (r : Registers) (i v : ℕ) → v < 2 ^ 32 → AreRegisters r → AreRegisters (set r i v)
set_ranges r zero v h a = a
set_ranges r (suc i) v h a = record {
  pc = a.pc;
  count = length-set {A = ℕ} r.numbers (suc i) v ∙ a.count;
  words = All-set IsWord r.numbers (suc i) v h a.words;
  first = first_stays r.numbers i v ∙ a.first;
  held = a.held;
}

pub with_pc_ranges : (r : Registers) (pc : ℕ) → pc < 2 ^ 32 → AreRegisters r
    → AreRegisters (with_pc r pc)
with_pc_ranges r pc h a =
    record { pc = h; count = a.count; words = a.words; first = a.first; held = a.held }

pub with_held_ranges : (r : Registers) (held : Option ℕ) → IfSome held IsWord → AreRegisters r
    → AreRegisters (with_held r held)
with_held_ranges r held h a =
    record { pc = a.pc; count = a.count; words = a.words; first = a.first; held = h }

pub blank_ranges : (pc : ℕ) → pc < 2 ^ 32 → AreRegisters (blank pc)
blank_ranges pc h = record {
  pc = h;
  count = refl;
  words = All-replicate IsWord 32 0 (omega arith);
  first = refl;
  held = tt;
}

pub get_range : (r : Registers) (i : ℕ) → AreRegisters r → get r i < 2 ^ 32
get_range r i a = by_place (cases_lt i (length r.numbers))
  where
    by_place : (i < length r.numbers) ⊎ (length r.numbers ≤ i) → get r i < 2 ^ 32
    by_place (inl lt) = a.words i 0 lt
    by_place (inr past) =
        let none : get r i ≡ 0 = get_or_past r.numbers i 0 past in omega (arith, none)

pub answered_ranges : (v : ℕ) (r : Registers) → v < 2 ^ 32 → AreRegisters r
    → AreRegisters (answered v r)
answered_ranges v r h a =
    with_pc_ranges (set r 10 v) ((r.pc + 4) % 2 ^ 32) (omega arith) (set_ranges r 10 v h a)

pub new_ranges : (pc sp argument : ℕ) → pc < 2 ^ 32 → sp < 2 ^ 32 → argument < 2 ^ 32
    → AreRegisters (new_registers pc sp argument)
new_ranges pc sp argument p s a =
    set_ranges (set (blank pc) 2 sp) 10 argument a
    (set_ranges (blank pc) 2 sp s (blank_ranges pc p))

-- ---- changes of a thread's run

-- the cost of a service
pub charged_change : ChangesRun charged
charged_change = record {
  rest = λ thread. refl;
  ranges =
      λ thread a. with_held_ranges thread.registers None tt a;
}
