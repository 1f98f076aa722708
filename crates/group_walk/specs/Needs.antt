-- Why an instruction stops, without running it: what it needs of memory before it does anything.
-- This project's own rule, over the effects of the manual's instructions.
use Rattle.std.specs.Prelude.{ℕ, ◌+◌, ◌*◌, ◌%◌, Bool, map, Option, Some, None, Result, Ok, Err}
use Rattle.std.specs.Prelude.{if◌then◌else◌}
use Rattle.dos_world.specs.World.{World}
use Rattle.dos_world.specs.declared.Access.TheVariants.{Load, Store, Claim}
use Rattle.dos_world.specs.declared.Owner.{Owner}
use Rattle.dos_world.specs.declared.Owner.TheVariants.{Of}
use Rattle.dos_world.specs.declared.Reason.{Reason}
use Rattle.dos_world.specs.declared.Size.TheVariants.{Word}
use Rattle.rv_isa.specs.declared.Instr.{Instr}
use Rattle.flat_machine.specs.Effect.{Effect, goes, loads, stores, claims, stops}
use Rattle.flat_machine.specs.Step.{reached}
use Rattle.group_walk.specs.declared.need.Need.{Need}
use Rattle.group_walk.specs.declared.need.Need.TheVariants.{Nothing, Reach, Stop}

-- ---- reasons

-- why it isn't done, where it isn't
abbrev pub reason_of : {A : Type 0} → Result A Reason → Option Reason
reason_of (Ok a) = None
reason_of (Err reason) = Some reason

-- ---- needs

-- what an effect needs
abbrev pub need_of : Effect → Need
need_of (goes r) = Nothing
need_of (loads address size next) = Reach address size Load
need_of (stores address size value r) = Reach address size Store
need_of (claims address next new) = Reach address Word Claim
need_of (stops reason) = Stop reason

-- why t doesn't have what it needs, where it doesn't
abbrev pub unmet : World → ℕ → Need → Option Reason
unmet w t Nothing = None
unmet w t (Reach address size access) = reason_of (reached w t address size access)
unmet w t (Stop reason) = Some reason

-- an instruction that was found, without its size
abbrev pub instructions_of : Result (Option Instr × ℕ) Reason → Result (Option Instr) Reason
instructions_of (Ok found) = Ok found.0
instructions_of (Err reason) = Err reason

-- ---- worlds in which pages are granted

-- the world in which each frame is t's
abbrev pub all_granted : ℕ → World → World
all_granted t w = record w { owners = map (λ (owner : Owner). Of t) w.owners }

-- the world as it is, or with each frame granted to t
abbrev pub seen_by : (is_granted : Bool) → ℕ → World → World
seen_by is_granted t w = if is_granted then all_granted t w else w

-- the place of an address in this frame, or the reason for which it isn't reached
abbrev pub place_in_frame : ℕ → Result ℕ Reason → Result ℕ Reason
place_in_frame address (Ok frame) = Ok (4096 * frame + address % 4096)
place_in_frame address (Err reason) = Err reason
