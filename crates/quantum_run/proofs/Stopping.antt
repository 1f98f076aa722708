-- An instruction that stops leaves the registers as they were.
use Rattle.std.proofs.Common.{ℕ, ◌≡◌, ap, Result, Ok, Err}
use Rattle.dos_world.specs.World.{Registers, with_pc}
use Rattle.dos_world.specs.declared.Reason.{Reason}
use Rattle.rv_exec.specs.Follows.{Follows}
use Rattle.rv_exec.specs.declared.Went.TheVariants.{Step, Stop}

Stop≢Step : (reason : Reason) → Stop reason ≡ Step → ⊥
Stop≢Step reason q = cc

pub stop-there : {M : Type 0} (shows : M → Type 0) (m : M) (r new : Registers) (pc : ℕ)
    (reason : Reason) (o : Result (Registers × M) Reason)
    → Follows shows m (with_pc r pc) new (Stop reason) o
    → Follows shows m (with_pc r pc) (with_pc new pc) (Stop reason) o
stop-there shows m r new pc reason (Ok next) follows = absurd (Stop≢Step reason follows.went_is)
stop-there shows m r new pc reason (Err cause) follows = record {
  went_is = follows.went_is;
  registers = ap (λ (x : Registers). with_pc x pc) follows.registers;
  memory = follows.memory;
}
