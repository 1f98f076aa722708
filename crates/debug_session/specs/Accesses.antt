-- Which bytes an instruction loads from and stores to. RISC-V unprivileged manual, edition
-- 20191213, chapter 8, for the atomic ones; that they are told apart so is this project's own rule.
use Rattle.std.specs.Prelude.{ℕ, ◌+◌, ◌&&◌, Bool, true, false, Option, Some, None}
use Rattle.std.specs.Prelude.{Result, Ok, nat_le, nat_lt, is_some}
use Rattle.dos_world.specs.World.{World, Thread, thread_at}
use Rattle.dos_world.specs.Reach.{width, loaded}
use Rattle.dos_world.specs.declared.Reason.{Reason}
use Rattle.rv_isa.specs.declared.AmoOp.{AmoOp}
use Rattle.rv_isa.specs.declared.AmoOp.TheVariants.{ScW}
use Rattle.rv_isa.specs.declared.Instr.{Instr}
use Rattle.rv_isa.specs.declared.Instr.TheVariants.{Amo}
use Rattle.flat_machine.specs.Effect.{Effect, loads, stores, claims, effect}
use Rattle.flat_machine.specs.Step.{instruction_at}
use Rattle.flat_machine.specs.Rest.{settled}
use Rattle.debug_session.specs.Told.{place_of_address}

-- A stretch of a process's addresses, and whether it is loaded from and stored to.
pub record Touch : Type 0 where
  pub address : ℕ
  pub count : ℕ
  pub is_read : Bool
  pub is_written : Bool

-- ---- of an instruction

-- sc.w loads nothing; where it fails it stores nothing either. lr.w stores nothing, and the others
-- do both.
abbrev pub atomic_touch : AmoOp → (address : ℕ) → (stored : Option ℕ) → Touch
atomic_touch ScW address stored =
    record { address = address; count = 4; is_read = false; is_written = is_some stored }
atomic_touch op address stored =
    record { address = address; count = 4; is_read = true; is_written = is_some stored }

-- the number that lies at an address of a process
abbrev pub word_under : World → (p address : ℕ) → ℕ
word_under w p address =
    elim (place_of_address w p address) [ None ↦ 0 | Some place ↦ loaded w place 4 ]

abbrev pub claimed_touch : World → (p address : ℕ) → (ℕ → Option ℕ) → Instr → Option Touch
claimed_touch w p address new (Amo op rd rs1 rs2 aq rl) =
    Some (atomic_touch op address (new (word_under w p address)))
claimed_touch w p address new _ = None

abbrev pub touch_by : World → (p : ℕ) → Instr → Effect → Option Touch
touch_by w p instr (loads address size next) =
    Some (record { address = address; count = width size; is_read = true; is_written = false })
touch_by w p instr (stores address size value r) =
    Some (record { address = address; count = width size; is_read = false; is_written = true })
touch_by w p instr (claims address next new) = claimed_touch w p address new instr
touch_by w p instr _ = None

abbrev pub touch_found : World → Thread → Result (Option Instr × ℕ) Reason → Option Touch
touch_found w thread (Ok (Some instr, size)) =
    touch_by w thread.process instr (effect instr size thread.registers)
touch_found w thread _ = None

abbrev pub touch_of_thread : World → ℕ → Option Thread → Option Touch
touch_of_thread w t None = None
touch_of_thread w t (Some thread) =
    touch_found w thread (instruction_at w t thread.registers.pc)

-- What the instruction of t touches that is next, its pages granted.
abbrev pub touch_of : World → ℕ → Option Touch
touch_of w t = let granted : World = (settled 3 w t).0 in
    touch_of_thread granted t (thread_at granted t)

-- ---- in the bytes of the world

-- A byte lies in a touched stretch of this process, by place.
abbrev pub is_place_in : World → (p : ℕ) → Touch → Option ℕ → Bool
is_place_in w p touch None = false
is_place_in w p touch (Some place) =
    elim (place_of_address w p touch.address) [
      | None ↦ false
      | Some first ↦ nat_le first place && nat_lt place (first + touch.count)
    ]
