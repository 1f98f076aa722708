-- What a step changes, and what it writes: the forms of a step.
use Rattle.std.proofs.Common.{ℕ, suc, ◌+◌, ◌/◌, ◌<◌, ◌≤◌, ◌≡◌, refl, ap, ◌∙◌, List, [], ◌∷◌, length}
use Rattle.std.proofs.Common.{Option, Some, None, Result, Ok, Err, arith, length-set}
use Rattle.dos_world.specs.World.{World, Thread, Registers, owner_of, thread_at}
use Rattle.dos_world.specs.Bytes.{loaded, written, bytes_of}
use Rattle.dos_world.specs.Reach.{width}
use Rattle.dos_world.specs.declared.Access.TheVariants.{Load, Store, Claim}
use Rattle.dos_world.specs.declared.Size.TheVariants.{Word}
use Rattle.dos_world.specs.declared.Owner.TheVariants.{Of}
use Rattle.dos_world.specs.declared.Reason.{Reason}
use Rattle.dos_world.specs.declared.Reason.TheVariants.{Fault}
use Rattle.rv_isa.specs.declared.Instr.{Instr}
use Rattle.flat_machine.specs.Effect.{Effect, goes, loads, stores, claims, stops, effect}
use Rattle.flat_machine.specs.Step.{step, step_of, step_by, performed, reached, instruction_at}
use Rattle.flat_machine.specs.Step.{paid}
use Rattle.flat_machine.specs.Step.{with_word}
use Rattle.flat_machine.proofs.Keeps.{bind_ok, Own}

-- ---- what a step changes: bytes, as many as before, and its thread

pub written_length : (bytes : List ℕ) (place : ℕ) (new : List ℕ)
    → length (written bytes place new) ≡ length bytes
written_length bytes place [] = refl
written_length bytes place (b ∷ new) = written_length _ (suc place) new ∙ length-set bytes place b

pub record Stepped (w w' : World) (s : ℕ) : Type 0 where
  pub bytes : List ℕ
  pub registers : Registers
  pub count : length bytes ≡ length w.bytes
  pub is : w' ≡ paid (record w { bytes = bytes }) s registers

pub Ok-is : {w w' : World} → ◌≡◌ {A = Result World Reason} (Ok w) (Ok w') → w' ≡ w
Ok-is h = cc

performed-form : (w w' : World) (s : ℕ) (e : Effect) → performed w s e ≡ Ok w' → Stepped w w' s
performed-form w w' s (goes r) h =
    record { bytes = w.bytes; registers = r; count = refl; is = Ok-is h }
performed-form w w' s (loads address size next) h =
    let r = bind_ok (reached w s address size Load) _ w' h in
    record {
      bytes = w.bytes;
      registers = next (loaded w r.0 (width size));
      count = refl;
      is =
          Ok-is r.2;
    }
performed-form w w' s (stores address size value regs) h =
    let r = bind_ok (reached w s address size Store) _ w' h in
    record {
      bytes = written w.bytes r.0 (bytes_of (width size) value);
      registers = regs;
      count =
          written_length w.bytes r.0 (bytes_of (width size) value);
      is = Ok-is r.2;
    }
performed-form w w' s (claims address next new) h =
    let r = bind_ok (reached w s address Word Claim) _ w' h in
    by_new r.0 (new (loaded w r.0 4)) r.2
  where
    by_new : (p : ℕ) (o : Option ℕ)
        → ◌≡◌ {A = Result World Reason} (Ok (paid (with_word w p o) s (next (loaded w p 4))))
        (Ok w') → Stepped w w' s
    by_new p None q = record {
      bytes = w.bytes;
      registers = next (loaded w p 4);
      count = refl;
      is =
          Ok-is q;
    }
    by_new p (Some word) q =
        record {
          bytes = written w.bytes p (bytes_of 4 word);
          registers = next (loaded w p 4);
          count = written_length w.bytes p (bytes_of 4 word);
          is = Ok-is q;
        }
performed-form w w' s (stops reason) h = absurd (grind arith)

pub step-form : (w w' : World) (s : ℕ) → step w s ≡ Ok w' → Stepped w w' s
step-form w w' s h = by_thread (thread_at w s) h
  where
    by_instr : (r : Registers) (found : Option Instr × ℕ) (o : Option Instr)
        → (elim o as (λ _. Result World Reason) [
          | None ↦ Err (Fault 4)
          | Some instr ↦ performed w s (effect instr found.1 r)
        ]) ≡ Ok w' → Stepped w w' s
    by_instr r found None q = absurd (grind arith)
    by_instr r found (Some instr) q = performed-form w w' s (effect instr found.1 r) q

    by_thread : (o : Option Thread) → step_of w s o ≡ Ok w' → Stepped w w' s
    by_thread None q = absurd (grind arith)
    by_thread (Some thread) q =
        let r = bind_ok (instruction_at w s thread.registers.pc)
        (step_by w s thread.registers) w' q in
        by_instr thread.registers r.0 r.0.0 r.2

-- ---- what a step writes, and where

-- t wrote these bytes at a place of frames of its own, and has these registers
pub record Wrote (w w' : World) (t : ℕ) : Type 0 where
  pub place : ℕ
  pub new : List ℕ
  pub registers : Registers
  pub is : w' ≡ paid (record w { bytes = written w.bytes place new }) t registers
  pub own : (i : ℕ) → place ≤ i → i < place + length new → owner_of w (i / 4096) ≡ Of t

pub own-frame : (w : World) (t p count : ℕ) (new : List ℕ) → length new ≡ count → Own w t p count
    → (i : ℕ) → p ≤ i → i < p + length new → owner_of w (i / 4096) ≡ Of t
own-frame w t p count new len own i low high =
    let bottom = own.low in
    let top = own.high in
    let same : i / 4096 ≡ own.frame = omega arith in
    ap (owner_of w) same ∙ own.owner
