-- The numbers of faults are small.
use Rattle.std.proofs.Common.{ℕ, ◌+◌, ◌*◌, ◌%◌, ◌^◌, ◌≤◌, ◌≡◌, ap, Bool, cond, true, false, not}
use Rattle.std.proofs.Common.{Option, Some, None, Result, Ok, Err, arith}
use Rattle.std.specs.Prelude.{◌==◌}
use Rattle.dos_world.specs.World.{World, Thread, Registers, code_unit, get, set, with_pc, entry_at}
use Rattle.dos_world.specs.World.{owner_of, thread_at}
use Rattle.dos_world.specs.Reach.{fault, foreign, at, in_frame, is_foreign, has_right, width}
use Rattle.dos_world.specs.Reach.{loaded, stored, bytes_of}
use Rattle.dos_world.specs.declared.Entry.{Entry}
use Rattle.dos_world.specs.declared.Access.{Access}
use Rattle.dos_world.specs.declared.Access.TheVariants.{Fetch, Load, Store, Claim}
use Rattle.dos_world.specs.declared.Size.{Size}
use Rattle.dos_world.specs.declared.Size.TheVariants.{Half, Word}
use Rattle.dos_world.specs.declared.Reason.{Reason}
use Rattle.dos_world.specs.declared.Reason.TheVariants.{Fault}
use Rattle.rv_isa.specs.declared.Instr.{Instr}
use Rattle.rv_isa.specs.declared.Instr.TheVariants.{Upper, Jal, Jalr, Branch, Load as Instr_Load}
use Rattle.rv_isa.specs.declared.Instr.TheVariants.{Store as Instr_Store, Imm, Shift, Reg, Amo}
use Rattle.rv_isa.specs.declared.Instr.TheVariants.{Fence, Ecall, Ebreak}
use Rattle.rv_isa.specs.declared.AmoOp.{AmoOp}
use Rattle.rv_isa.specs.declared.AmoOp.TheVariants.{LrW, ScW, AmoswapW, AmoaddW, AmoxorW, AmoandW}
use Rattle.rv_isa.specs.declared.AmoOp.TheVariants.{AmoorW, AmominW, AmomaxW, AmominuW, AmomaxuW}
use Rattle.flat_machine.specs.Effect.{Effect, goes, loads, stores, claims, stops, effect, jumps}
use Rattle.flat_machine.specs.Effect.{atomic}
use Rattle.flat_machine.specs.Effect.{is_taken, plus}
use Rattle.flat_machine.specs.Step.{step, step_of, step_by, performed, reached, place_or_reason}
use Rattle.flat_machine.specs.Step.{half_at}
use Rattle.flat_machine.specs.Step.{instruction_at, whole_word, lone_half, paid, with_word, ◌>>=◌}

-- where it is a fault, its number is at most 11
abbrev IsSmall : {A : Type 0} → Result A Reason → Type 0
IsSmall r = (n : ℕ) → r ≡ Err (Fault n) → n ≤ 11

Ok-small : {A : Type 0} (a : A) → IsSmall (Ok a)
Ok-small a n e = absurd cc

then_small : {A B : Type 0} (r : Result A Reason) (f : A → Result B Reason) → IsSmall r
    → ((a : A) → IsSmall (f a)) → IsSmall (r >>= f)
then_small (Ok a) f first rest n e = rest a n e
then_small {A} (Err reason) f first rest n e = first n (ap Err (same e))
  where
    same : {B : Type 0} → ◌≡◌ {A = Result B Reason} (Err reason) (Err (Fault n)) → reason ≡ Fault n
    same x = cc

-- ---- an access

reached-small : (w : World) (t address : ℕ) (size : Size) (access : Access)
    → IsSmall (reached w t address size access)
reached-small w t address size access =
    by_alignment (address % width size == 0) (entry_at w t address)
  where
    by_owner : (b : Bool) (frame place : ℕ)
        → IsSmall (place_or_reason address access (cond b (foreign frame) (at place)))
    by_owner true frame place n e = absurd cc
    by_owner false frame place n e = absurd cc

    fault-small : (k : ℕ) → k ≤ 11 → IsSmall (place_or_reason address access (fault k))
    fault-small k small n e = let same : k ≡ n = cc in omega (arith, same)

    by_right : (b : Bool) (e : Entry)
        → IsSmall (place_or_reason address access
        (cond (not b) (fault 11)
        (cond (is_foreign t access (owner_of w e.frame)) (foreign e.frame)
        (at (4096 * e.frame + address % 4096)))))
    by_right true e =
        by_owner (is_foreign t access (owner_of w e.frame)) e.frame
        (4096 * e.frame + address % 4096)
    by_right false e = fault-small 11 (omega arith)

    by_entry : (o : Option Entry)
        → IsSmall (place_or_reason address access (in_frame w t address access o))
    by_entry None = fault-small 11 (omega arith)
    by_entry (Some e) = by_right (has_right access e) e

    by_alignment : (b : Bool) (o : Option Entry)
        → IsSmall (place_or_reason address access
        (cond (not b) (fault 7) (in_frame w t address access o)))
    by_alignment true o = by_entry o
    by_alignment false o = fault-small 7 (omega arith)

-- ---- an effect

-- where an effect stops with a fault, its number is small
abbrev StopsSmall : Effect → Type 0
StopsSmall e = (n : ℕ) → e ≡ stops (Fault n) → n ≤ 11

performed-small : (w : World) (t : ℕ) (e : Effect) → StopsSmall e → IsSmall (performed w t e)
performed-small w t (goes r) small n e = Ok-small (paid w t r) n e
performed-small w t (loads address size next) small n e =
    then_small (reached w t address size Load) _ (reached-small w t address size Load)
    (λ place. Ok-small (paid w t (next (loaded w place (width size))))) n e
performed-small w t (stores address size value r) small n e =
    then_small (reached w t address size Store) _ (reached-small w t address size Store)
    (λ place. Ok-small (paid (stored w place (bytes_of (width size) value)) t r)) n e
performed-small w t (claims address next new) small n e =
    then_small (reached w t address Word Claim) _ (reached-small w t address Word Claim)
    (λ place. Ok-small
    (paid (with_word w place (new (loaded w place 4))) t (next (loaded w place 4)))) n e
performed-small w t (stops reason) small n e = small n (ap stops (same e))
  where
    same : ◌≡◌ {A = Result World Reason} (Err reason) (Err (Fault n)) → reason ≡ Fault n
    same x = cc

jumps-small : (target : ℕ) (r : Registers) → StopsSmall (jumps target r)
jumps-small target r = go (target % code_unit == 0)
  where
    go : (b : Bool) → StopsSmall (cond b (goes (with_pc r target)) (stops (Fault 7)))
    go true n e = absurd cc
    go false n e = let same : 7 ≡ n = cc in omega (arith, same)

branch-small : (taken : Bool) (target next : ℕ) (r : Registers)
    → StopsSmall (cond taken (jumps target r) (goes (with_pc r next)))
branch-small true target next r n e = jumps-small target r n e
branch-small false target next r n e = absurd cc

atomic-small : (op : AmoOp) (rd address b : ℕ) (r : Registers)
    → StopsSmall (atomic op rd address b r)
atomic-small LrW rd address b r n e = absurd cc
atomic-small ScW rd address b r n e = absurd cc
atomic-small AmoswapW rd address b r n e = absurd cc
atomic-small AmoaddW rd address b r n e = absurd cc
atomic-small AmoxorW rd address b r n e = absurd cc
atomic-small AmoandW rd address b r n e = absurd cc
atomic-small AmoorW rd address b r n e = absurd cc
atomic-small AmominW rd address b r n e = absurd cc
atomic-small AmomaxW rd address b r n e = absurd cc
atomic-small AmominuW rd address b r n e = absurd cc
atomic-small AmomaxuW rd address b r n e = absurd cc

effect-small : (i : Instr) (size : ℕ) (r : Registers) → StopsSmall (effect i size r)
unfolding effect
effect-small (Upper false rd imm) size r n e = absurd cc
effect-small (Upper true rd imm) size r n e = absurd cc
effect-small (Jal rd offset) size r n e = jumps-small _ (set r rd ((r.pc + size) % 2 ^ 32)) n e
effect-small (Jalr rd rs1 offset) size r n e = jumps-small _ (set r rd ((r.pc + size) % 2 ^ 32)) n e
effect-small (Branch op rs1 rs2 offset) size r n e =
    branch-small (is_taken op (get r rs1) (get r rs2)) (plus r.pc offset) ((r.pc + size) % 2 ^ 32) r
    n e
effect-small (Instr_Load op rd rs1 offset) size r n e = absurd cc
effect-small (Instr_Store op rs1 rs2 offset) size r n e = absurd cc
effect-small (Imm op rd rs1 imm) size r n e = absurd cc
effect-small (Shift op rd rs1 amount) size r n e = absurd cc
effect-small (Reg op rd rs1 rs2) size r n e = absurd cc
effect-small (Amo op rd rs1 rs2 aq rl) size r n e = atomic-small op rd _ _ _ n e
effect-small (Fence fetch rd rs1 imm) size r n e = absurd cc
effect-small Ecall size r n e = absurd cc
effect-small Ebreak size r n e = let same : 5 ≡ n = cc in omega (arith, same)

-- ---- the step

half-small : (w : World) (t address : ℕ) → IsSmall (half_at w t address)
half-small w t address =
    then_small (reached w t address Half Fetch) _ (reached-small w t address Half Fetch)
    (λ place. Ok-small (loaded w place 2))

fetch-small : (w : World) (t pc : ℕ) → IsSmall (instruction_at w t pc)
fetch-small w t pc =
    then_small (half_at w t pc) _ (half-small w t pc) (λ low. by_low low (low % 4 == 3))
  where
    by_low : (low : ℕ) (b : Bool)
        → IsSmall (cond b (half_at w t ((pc + 2) % 2 ^ 32) >>= λ high. Ok (whole_word low high))
        (Ok (lone_half low)))
    by_low low true =
        then_small (half_at w t ((pc + 2) % 2 ^ 32)) _ (half-small w t ((pc + 2) % 2 ^ 32))
        (λ high. Ok-small (whole_word low high))
    by_low low false = Ok-small (lone_half low)

-- The faults of a step: 4, 5, 7 and 11.
pub step-small : (w : World) (t n : ℕ) → step w t ≡ Err (Fault n) → n ≤ 11
step-small w t = go (thread_at w t)
  where
    by_found : (r : Registers) (size : ℕ) (o : Option Instr) → IsSmall (step_by w t r (o, size))
    by_found r size None n e = let same : 4 ≡ n = cc in omega (arith, same)
    by_found r size (Some instr) n e =
        performed-small w t (effect instr size r) (effect-small instr size r) n e

    go : (o : Option Thread) → IsSmall (step_of w t o)
    go None n e = absurd cc
    go (Some thread) n e =
        then_small (instruction_at w t thread.registers.pc) _ (fetch-small w t thread.registers.pc)
        (λ found. by_found thread.registers found.1 found.0) n e
