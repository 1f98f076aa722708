-- The services of signals: sig_handler, sig_mask, sig_return, kill. This project's own; error and
-- signal numbers are chosen after Linux's.
use Rattle.std.specs.Prelude.{ℕ, ◌-◌, ◌%◌, Bool, not, ◌&&◌, ◌||◌, List, [], ◌∷◌, Some, None}
use Rattle.std.specs.Prelude.{is_none, ◌==◌, nat_lt, nat_le, if◌then◌else◌, slice_set}
use Rattle.dos_world.specs.Errors.{einval, esrch}
use Rattle.dos_world.specs.World.{Holdings, Thread, Registers, code_unit, live_process, thread_at}
use Rattle.dos_world.specs.World.{action_of, with_thread, with_registers, with_holdings, set}
use Rattle.dos_world.specs.World.{released, allowed_mask}
use Rattle.dos_world.specs.Kernel.{minus, posted}
use Rattle.dos_world.specs.Play.{done}
use Rattle.dos_world.specs.Calls.{Service, Call, went, mask_of, returns_in, refuses}

-- whether a signal has an action of its own: 1 to 31
abbrev pub is_signal : ℕ → Bool
is_signal n = nat_le 1 n && nat_le n 31

-- whether a number is an action: 0 default, 1 ignore, or a handler where an instruction may stand,
-- below 0xF0000000
abbrev pub is_action : ℕ → Bool
is_action a = (a == 1) || ((a % code_unit == 0) && nat_lt a 0xF0000000)

-- what a process has, with the action of a signal set
abbrev pub with_action : ℕ → ℕ → Holdings → Holdings
with_action signal action h = record h { actions = slice_set h.actions (signal - 1) action }

-- 16: The action of signal a0 is a1; the former action. Refusal 22 where a0 is no signal or 9, or
-- a1 no action.
abbrev pub sig_handler : Service
sig_handler c =
    let former : ℕ = action_of c.world c.process c.a0 in
    if not (is_signal c.a0) || (c.a0 == 9) || not (is_action c.a1) then refuses einval c
    else returns_in (with_holdings c.world c.process (with_action c.a0 c.a1)) former c

-- a thread with this mask, less the bits that none may have
abbrev pub masked : ℕ → Thread → Thread
masked set thread = record thread { mask = allowed_mask set }

-- 17: The mask is a0, less bits 0 and 9; the former mask.
abbrev pub sig_mask : Service
sig_mask c = returns_in (with_thread c.world c.thread (masked c.a0)) (mask_of c) c

-- a thread with these registers and this mask, and these that are still saved; every ecall empties
-- the reservation
abbrev pub restored : Registers × ℕ → List (Registers × ℕ) → Thread → Thread
restored last others thread =
    record thread { registers = released last.0; mask = last.1; saved = others }

-- registers with -22 in a0, and pc still at the ecall
abbrev pub refused_in_place : Registers → Registers
refused_in_place r = set r 10 (minus einval)

-- what sig_return does by what is saved
abbrev pub sig_return_by : List (Registers × ℕ) → Service
sig_return_by [] c = done (went (with_registers c.world c.thread refused_in_place))
sig_return_by (last ∷ others) c = done (went (with_thread c.world c.thread (restored last others)))

-- the registers and masks that the caller has saved, the last first
abbrev pub saved_of : Call → List (Registers × ℕ)
saved_of c = elim (thread_at c.world c.thread) [ None ↦ [] | Some thread ↦ thread.saved ]

-- 18: The last saved registers and mask come back whole, pc and a0 among them. Where nothing is
-- saved, a0 is -22. In no case does pc move past the ecall.
abbrev pub sig_return : Service
sig_return c = sig_return_by (saved_of c) c

-- 19: Signal a1 is posted to process a0, and 0 only tests whether it lives; 0. Refusals: 22 where
-- a1 is over 31, 3 where no such process lives.
abbrev pub kill : Service
kill c =
    if nat_lt 31 c.a1 then refuses einval c
    else (if is_none (live_process c.world c.a0) then refuses esrch c
    else returns_in (if c.a1 == 0 then c.world else posted c.world c.a0 c.a1) 0 c)
