-- An instruction of any thread keeps a world standing.
use Rattle.std.proofs.Common.{ℕ, ◌≡◌, refl, sym, length, subst, List, Option, Some, None, Result}
use Rattle.std.proofs.Common.{Ok, Err, arith}
use Rattle.std.proofs.Common.{◌+◌, ◌*◌, ◌%◌, ◌^◌, ◌<◌, Bool, true, false, cond}
use Rattle.std.specs.Prelude.{IfSome, ◌==◌}
use Rattle.dos_world.specs.World.{World, Thread, Registers, thread_at}
use Rattle.dos_world.specs.Reach.{width, loaded, stored, bytes_of}
use Rattle.dos_world.specs.Lawful.{IsThread, AreRegisters, Lawful}
use Rattle.dos_world.specs.declared.Access.{Access}
use Rattle.dos_world.specs.declared.Access.TheVariants.{Load, Store, Claim, Fetch}
use Rattle.dos_world.specs.declared.Size.{Size}
use Rattle.dos_world.specs.declared.Size.TheVariants.{Word, Half}
use Rattle.dos_world.specs.declared.Reason.{Reason}
use Rattle.dos_world.specs.declared.Reason.TheVariants.{Fault}
use Rattle.rv_isa.specs.declared.Instr.{Instr}
use Rattle.rv_isa.specs.Valid.{IsValid}
use Rattle.flat_machine.specs.Effect.{Effect, goes, loads, stores, claims, stops, effect}
use Rattle.flat_machine.specs.Step.{step, step_of, step_by, performed, paid, paid_by, with_word}
use Rattle.flat_machine.specs.Step.{reached}
use Rattle.flat_machine.specs.Step.{instruction_at, half_at, lone_half, whole_word, ◌>>=◌}
use Rattle.flat_machine.proofs.Keeps.{bind_ok, length-bytes_of, reached-at, reach-own, Own, Writes}
use Rattle.flat_machine.proofs.Keeps.{store, claim}
use Rattle.dos_laws.specs.Standing.{LawfulWith}
use Rattle.dos_laws.proofs.Mapped.{of_thread}
use Rattle.dos_laws.proofs.Numerals.{loaded_word, loaded_below}
use Rattle.dos_laws.proofs.Frames.{bytes_of_bytes}
use Rattle.dos_laws.proofs.Effects.{IsInRange, effect_ranges}
use Rattle.dos_laws.proofs.Stands.{with_run, stands-with_thread}
use Rattle.dos_laws.proofs.StandsCopies.{stands-stored}
use Rattle.rv_isa.proofs.Back.{meaning_valid}
use Rattle.rv_isa.proofs.Short.{expansion_valid}

-- ---- what is found at pc is valid

half_below : (w : World) (t address n : ℕ) → Lawful w → half_at w t address ≡ Ok n → n < 2 ^ 16
half_below w t address n l h =
    let r = bind_ok (reached w t address Half Fetch) (λ place. Ok (loaded w place 2)) n h in
    let is : loaded w r.0 2 ≡ n = same_number r.2 in
    omega (arith, is, loaded_below w r.0 2 l)
  where
    same_number : {m : ℕ} → ◌≡◌ {A = Result ℕ Reason} (Ok m) (Ok n) → m ≡ n
    same_number e = cc

Found_is : {x y : Option Instr × ℕ} → ◌≡◌ {A = Result (Option Instr × ℕ) Reason} (Ok x) (Ok y)
    → x ≡ y
Found_is e = cc

pub found_valid : (w : World) (t pc : ℕ) (found : Option Instr × ℕ) → Lawful w
    → instruction_at w t pc ≡ Ok found → IfSome found.0 IsValid
found_valid w t pc found l h =
    by_low first.0 (half_below w t pc first.0 l first.1) (first.0 % 4 == 3) first.2
  where
    second : ℕ
    second = (pc + 2) % 2 ^ 32

    first :
        (low : ℕ) × (half_at w t pc ≡ Ok low)
        × (cond (low % 4 == 3) (half_at w t second >>= λ high. Ok (whole_word low high))
        (Ok (lone_half low)) ≡ Ok found)
    first =
        bind_ok (half_at w t pc)
        (λ low. cond (low % 4 == 3) (half_at w t second >>= λ high. Ok (whole_word low high))
        (Ok (lone_half low))) found h

    by_low : (low : ℕ) → low < 2 ^ 16 → (b : Bool)
        → cond b (half_at w t second >>= λ high. Ok (whole_word low high)) (Ok (lone_half low))
        ≡ Ok found
        → IfSome found.0 IsValid
    by_low low small true q =
        let r = bind_ok (half_at w t second) (λ high. Ok (whole_word low high)) found q in
        let high : r.0 < 2 ^ 16 = half_below w t second r.0 l r.1 in
        subst (λ f. IfSome f.0 IsValid) (Found_is r.2)
        (meaning_valid (low + 2 ^ 16 * r.0) (omega arith))
    by_low low small false q =
        subst (λ f. IfSome f.0 IsValid) (Found_is q) (expansion_valid low)

-- ---- what is done with it

pub World_is : {x y : World} → ◌≡◌ {A = Result World Reason} (Ok x) (Ok y) → x ≡ y
World_is e = cc

stands-paid : (ts : List ℕ) (w : World) (t : ℕ) (r : Registers) → AreRegisters r → LawfulWith ts w
    → LawfulWith ts (paid w t r)
stands-paid ts w t r a k = stands-with_thread ts w t (paid_by r) (record {
  process = λ thread. refl;
  state = λ thread. refl;
  ranges =
      λ thread at is. with_run w.processes thread _ _ _ a is;
}) k

-- the bytes of a number that is written lie in a frame of t
number_own : (w : World) (t address : ℕ) (size : Size) (access : Access) (place number : ℕ)
    → Writes access → reached w t address size access ≡ Ok place
    → Own w t place (length (bytes_of (width size) number))
number_own w t address size access place number writes e =
    subst (Own w t place) (sym (length-bytes_of (width size) number))
    (reach-own w t address size access writes place (reached-at w t address size access place e))

with_word_stands : (ts : List ℕ) (w : World) (t place : ℕ) (o : Option ℕ)
    → ((word : ℕ) → Own w t place (length (bytes_of 4 word))) → LawfulWith ts w
    → LawfulWith ts (with_word w place o)
with_word_stands ts w t place None own k = k
with_word_stands ts w t place (Some word) own k =
    stands-stored ts w t place (bytes_of 4 word) (bytes_of_bytes 4 word) (own word) k

performed_stands : (ts : List ℕ) (w w' : World) (t : ℕ) (e : Effect) → performed w t e ≡ Ok w'
    → IsInRange e → LawfulWith ts w → LawfulWith ts w'
performed_stands ts w w' t (goes r) h range k =
    subst (LawfulWith ts) (World_is h) (stands-paid ts w t r range k)
performed_stands ts w w' t (loads address size next) h range k =
    let p =
    bind_ok (reached w t address size Load)
    (λ place. Ok (paid w t (next (loaded w place (width size))))) w' h in
    let word : ℕ = loaded w p.0 (width size) in
    subst (LawfulWith ts) (World_is p.2)
    (stands-paid ts w t (next word) (range word (loaded_word w p.0 size k.lawful)) k)
performed_stands ts w w' t (stores address size value r) h range k =
    let p =
    bind_ok (reached w t address size Store)
    (λ place. Ok (paid (stored w place (bytes_of (width size) value)) t r)) w' h in
    let bytes = bytes_of (width size) value in
    subst (LawfulWith ts) (World_is p.2)
    (stands-paid ts (stored w p.0 bytes) t r range
    (stands-stored ts w t p.0 bytes (bytes_of_bytes (width size) value)
    (number_own w t address size Store p.0 value store p.1) k))
performed_stands ts w w' t (claims address next new) h range k =
    let p =
    bind_ok (reached w t address Word Claim)
    (λ place. Ok (paid (with_word w place (new (loaded w place 4))) t (next (loaded w place 4)))) w'
    h in
    let word : ℕ = loaded w p.0 4 in
    subst (LawfulWith ts) (World_is p.2)
    (stands-paid ts (with_word w p.0 (new word)) t (next word)
    (range word (loaded_word w p.0 Word k.lawful))
    (with_word_stands ts w t p.0 (new word)
    (λ n. number_own w t address Word Claim p.0 n claim p.1) k))
performed_stands ts w w' t (stops reason) h range k = absurd (grind arith)

-- A step of any thread.
pub stands-step : (ts : List ℕ) (w w' : World) (t : ℕ) → step w t ≡ Ok w' → LawfulWith ts w
    → LawfulWith ts w'
stands-step ts w w' t h k = by_thread (thread_at w t) refl h
  where
    by_instr : (r : Registers) (size : ℕ) → AreRegisters r → (o : Option Instr) → IfSome o IsValid
        → (elim o as (λ _. Result World Reason) [
          | None ↦ Err (Fault 4)
          | Some instr ↦ performed w t (effect instr size r)
        ]) ≡ Ok w'
        → LawfulWith ts w'
    by_instr r size a None valid q = absurd (grind arith)
    by_instr r size a (Some instr) valid q =
        performed_stands ts w w' t (effect instr size r) q (effect_ranges instr size r valid a) k

    by_thread : (o : Option Thread) → thread_at w t ≡ o → step_of w t o ≡ Ok w' → LawfulWith ts w'
    by_thread None is q = absurd (grind arith)
    by_thread (Some thread) is q =
        let f =
        bind_ok (instruction_at w t thread.registers.pc) (step_by w t thread.registers) w' q in
        by_instr thread.registers f.0.1
        (of_thread (IsThread w.processes) w t thread k.lawful.threads.ranges is).registers f.0.0
        (found_valid w t thread.registers.pc f.0 k.lawful f.1) f.2
