-- step is one_in over the flat world, and one of the budget.
use Rattle.std.proofs.Common.{ℕ, ◌+◌, ◌*◌, ◌%◌, ◌≡◌, refl, sym, ap, ◌∙◌, cond, not, eqb, Option}
use Rattle.std.proofs.Common.{Some, None, Result, Ok, Err}
use Rattle.dos_world.specs.World.{World, Thread, Registers, entry_at, owner_of, thread_at}
use Rattle.dos_world.specs.Reach.{Reached, fault, foreign, at, reach, in_frame, is_foreign, width}
use Rattle.dos_world.specs.Reach.{loaded, stored, bytes_of}
use Rattle.dos_world.specs.declared.Entry.{Entry}
use Rattle.dos_world.specs.declared.Access.TheVariants.{Load, Store, Claim}
use Rattle.dos_world.specs.declared.Size.TheVariants.{Word}
use Rattle.dos_world.specs.declared.Owner.{Owner}
use Rattle.dos_world.specs.declared.Owner.TheVariants.{Free, Shared, Of}
use Rattle.dos_world.specs.declared.Reason.{Reason}
use Rattle.dos_world.specs.declared.Reason.TheVariants.{Page, Fault, Service}
use Rattle.rv_isa.specs.declared.Instr.{Instr}
use Rattle.flat_machine.specs.Effect.{Effect, goes, loads, stores, claims, stops, effect}
use Rattle.flat_machine.specs.Step.{◌>>=◌, reached, step, step_by, performed, paid, with_word}
use Rattle.flat_machine.specs.Step.{instruction_at}
use Rattle.flat_machine.specs.Laws.{pays}
use Rattle.flat_machine.specs.Over.{one_in, effect_in, store_if, world_answers}

same_foreign : (t : ℕ) (o : Owner) → is_foreign t Claim o ≡ is_foreign t Store o
same_foreign t (Of s) = refl
same_foreign t Shared = refl
same_foreign t Free = refl

-- a claim and a word store reach the same
claim-store : (w : World) (t address : ℕ)
    → reach w t address Word Claim ≡ reach w t address Word Store
claim-store w t address = go (entry_at w t address)
  where
    go : (o : Option Entry)
        → cond (not (eqb (address % 4) 0)) (fault 7) (in_frame w t address Claim o)
        ≡ cond (not (eqb (address % 4) 0)) (fault 7) (in_frame w t address Store o)
    go None = refl
    go (Some e) = ap (λ b. cond (not (eqb (address % 4) 0)) (fault 7)
        (cond (not e.write) (fault 11)
        (cond b (foreign e.frame) (at (4096 * e.frame + address % 4096)))))
        (same_foreign t (owner_of w e.frame))

performed-in : (w : World) (t : ℕ) (e : Effect)
    → (effect_in (world_answers t) w e >>= pays t) ≡ performed w t e
performed-in w t (goes r) = refl
performed-in w t (loads address size next) = go (reached w t address size Load)
  where
    go : (r : Result ℕ Reason)
        → ((r >>= λ place. Ok (loaded w place (width size))) >>= (λ n. Ok (next n, w)) >>= pays t)
        ≡ (r >>= λ place. Ok (paid w t (next (loaded w place (width size)))))
    go (Ok p) = refl
    go (Err reason) = refl
performed-in w t (stores address size value regs) = go (reached w t address size Store)
  where
    go : (r : Result ℕ Reason)
        → ((r >>= λ place. Ok (stored w place (bytes_of (width size) value)))
        >>= (λ after. Ok (regs, after)) >>= pays t)
        ≡ (r >>= λ place. Ok (paid (stored w place (bytes_of (width size) value)) t regs))
    go (Ok p) = refl
    go (Err reason) = refl
performed-in w t (claims address next new) = go (reach w t address Word Claim) refl
  where
    claimed : Reached → Result ℕ Reason
    claimed r = elim r as (λ _. Result ℕ Reason) [
      | fault n ↦ Err (Fault n)
      | foreign frame ↦ Err (Page address Claim)
      | at place ↦ Ok place
    ]

    by_new : (p : ℕ) → reach w t address Word Store ≡ at p → (o : Option ℕ)
        → ((store_if (world_answers t) w address o >>= λ after. Ok (next (loaded w p 4), after))
        >>= pays t) ≡ Ok (paid (with_word w p o) t (next (loaded w p 4)))
    by_new p is None = refl
    by_new p is (Some word) =
        ap (λ r. (((elim r as (λ _. Result ℕ Reason) [
          | fault n ↦ Err (Fault n)
          | foreign frame ↦ Err (Page address Store)
          | at place ↦ Ok place
        ])
        >>= λ place. Ok (stored w place (bytes_of 4 word)))
        >>= λ after. Ok (next (loaded w p 4), after)) >>= pays t) is

    go : (r : Reached) → reach w t address Word Claim ≡ r
        → (((claimed r >>= λ place. Ok (loaded w place 4))
        >>= λ old.
        (store_if (world_answers t) w address (new old)
        >>= λ after. Ok (next old, after))) >>= pays t)
        ≡ (claimed r >>= λ place.
        Ok (paid (with_word w place (new (loaded w place 4))) t
        (next (loaded w place 4))))
    go (fault n) is = refl
    go (foreign f) is = refl
    go (at p) is = by_new p (sym (claim-store w t address) ∙ is) (new (loaded w p 4))
performed-in w t (stops reason) = refl

-- t's step is one instruction over the flat world, and one of its budget
pub step-in : (w : World) (t : ℕ) (thread : Thread) → thread_at w t ≡ Some thread
    → step w t ≡ (one_in (world_answers t) thread.registers w >>= pays t)
step-in w t thread is =
    ap (λ o. elim o as (λ _. Result World Reason) [
      | None ↦ Err Service
      | Some th ↦ instruction_at w t th.registers.pc >>= step_by w t th.registers
    ]) is
    ∙ go (instruction_at w t thread.registers.pc)
  where
    by_row : (o : Option Instr) (size : ℕ)
        → (elim o as (λ _. Result World Reason) [
          | None ↦ Err (Fault 4)
          | Some instr ↦ performed w t (effect instr size thread.registers)
        ])
        ≡ ((elim o as (λ _. Result (Registers × World) Reason) [
          | None ↦ Err (Fault 4)
          | Some instr ↦
              effect_in (world_answers t) w (effect instr size thread.registers)
        ])
        >>= pays t)
    by_row None size = refl
    by_row (Some instr) size = sym (performed-in w t (effect instr size thread.registers))

    go : (r : Result (Option Instr × ℕ) Reason)
        → (r >>= step_by w t thread.registers)
        ≡ ((r >>= λ found.
        elim found.0 as (λ _. Result (Registers × World) Reason) [
          | None ↦
              Err (Fault 4)
          | Some instr ↦
              effect_in (world_answers t) w (effect instr found.1 thread.registers)
        ])
        >>= pays t)
    go (Ok found) = by_row found.0 found.1
    go (Err reason) = refl
