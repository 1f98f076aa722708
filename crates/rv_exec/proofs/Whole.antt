-- One instruction by its code: what is fetched, and then done.
use Rattle.std.proofs.Common.{ℕ, ◌+◌, ◌*◌, ◌%◌, ◌^◌, ◌≡◌, refl, sym, ap, ◌∙◌, subst, cond}
use Rattle.std.proofs.Common.{Bool, true, false, eqb, eq-eqb, Option, Some, None, Result, Ok, Err}
use Rattle.std.proofs.Common.{arith}
use Rattle.std.specs.Prelude.{option_map}
use Rattle.std.proofs.lemmas.Bool.{eqb-true}
use Rattle.dos_world.specs.World.{Registers}
use Rattle.dos_world.specs.declared.Reason.{Reason}
use Rattle.dos_world.specs.declared.Reason.TheVariants.{Fault}
use Rattle.rv_isa.specs.Meaning.{meaning}
use Rattle.rv_isa.specs.Compressed.{expansion, instruction, sized}
use Rattle.rv_isa.specs.declared.Instr.{Instr}
use Rattle.rv_exec.specs.declared.Went.TheVariants.{Stop}
use Rattle.flat_machine.specs.Effect.{effect}
use Rattle.flat_machine.specs.Step.{◌>>=◌, lone_half}
use Rattle.flat_machine.specs.Over.{MemoryAnswers, one_in, effect_in}
use Rattle.rv_exec.specs.Follows.{Follows, word_in}
use Rattle.rv_exec.specs.Instruction.{effect_by, effect_of_code}

pub follows_err : {M : Type 0} (shows : M → Type 0) (m : M) (old : Registers) (reason : Reason)
    (o : Result (Registers × M) Reason) → o ≡ Err reason → shows m
    → Follows shows m old old (Stop reason) o
follows_err {M} shows m old reason o e s =
    subst (λ (x : Result (Registers × M) Reason). Follows shows m old old (Stop reason) x)
    (sym e) (record { went_is = refl; registers = refl; memory = s })

-- a code is a word where its low halfword says so
code_whole : (low high : ℕ) → eqb (low % 4) 3 ≡ true
    → instruction (low + 2 ^ 16 * high) ≡ option_map (sized 4) (meaning (low + 2 ^ 16 * high))
code_whole low high is =
    let code = low + 2 ^ 16 * high in
    let same : code % 4 ≡ 3 = omega (arith, eqb-true (low % 4) 3 is) in
    ap (λ b. cond b (option_map (sized 4) (meaning code)) (option_map (sized 2) (expansion code)))
    (eq-eqb (code % 4) 3 same)

code_lone : (low : ℕ) → eqb (low % 4) 3 ≡ false
    → instruction low ≡ option_map (sized 2) (expansion low)
code_lone low is =
    ap (λ b. cond b (option_map (sized 4) (meaning low)) (option_map (sized 2) (expansion low))) is

module _ {M : Type 0} (answers : MemoryAnswers M) (m : M) (r : Registers) where
  abbrev rest : Option Instr × ℕ → Result (Registers × M) Reason
  rest found = elim found.0 [
    | None ↦ Err (Fault 4)
    | Some instr ↦ effect_in answers m (effect instr found.1 r)
  ]

  abbrev words : Result ℕ Reason → Result ℕ Reason → Result ℕ Reason
  words first second = first
      >>= λ low. cond (eqb (low % 4) 3) (second >>= λ high. Ok (low + 2 ^ 16 * high)) (Ok low)

  abbrev found_in : Result ℕ Reason → Result ℕ Reason → Result (Option Instr × ℕ) Reason
  found_in first second =
      first >>= λ low. cond (eqb (low % 4) 3)
      (second >>= λ high. Ok (meaning (low + 2 ^ 16 * high), 4)) (Ok (lone_half low))

  abbrev decoded : ℕ → ℕ → Result (Option Instr × ℕ) Reason
  decoded low high = Ok (meaning (low + 2 ^ 16 * high), 4)

  abbrev alone : ℕ → Result (Option Instr × ℕ) Reason
  alone low = Ok (lone_half low)

  by_effect : (o : Option Instr) (size : ℕ)
      → rest (o, size) ≡ effect_in answers m (effect_by (option_map (sized size) o) r)
  by_effect None size = refl
  by_effect (Some instr) size = refl

  err_by : (first second : Result ℕ Reason) (reason : Reason) → Err reason ≡ words first second
      → found_in first second ≡ Err reason
  err_by (Err other) second reason q = let e : other ≡ reason = cc in ap (λ x. Err x) e
  err_by (Ok low) second reason q = by_test (eqb (low % 4) 3) second q
    where
      by_test : (b : Bool) (second : Result ℕ Reason)
          → Err reason ≡ cond b (second >>= λ high. Ok (low + 2 ^ 16 * high)) (Ok low)
          → cond b (second >>= decoded low) (alone low) ≡ Err reason
      by_test true (Ok high) q = cc
      by_test true (Err other) q = let e : other ≡ reason = cc in ap (λ x. Err x) e
      by_test false second q = cc

  ok_by : (first second : Result ℕ Reason) (word : ℕ) → Ok word ≡ words first second
      → (found_in first second >>= rest) ≡ effect_in answers m (effect_of_code word r)
  ok_by (Err other) second word q = cc
  ok_by (Ok low) second word q = by_test (eqb (low % 4) 3) refl second q
    where
      by_test : (b : Bool) → eqb (low % 4) 3 ≡ b → (second : Result ℕ Reason)
          → Ok word ≡ cond b (second >>= λ high. Ok (low + 2 ^ 16 * high)) (Ok low)
          → (cond b (second >>= decoded low) (alone low) >>= rest)
          ≡ effect_in answers m (effect_of_code word r)
      by_test true is (Ok high) q = let e : word ≡ low + 2 ^ 16 * high = cc in
          by_effect (meaning (low + 2 ^ 16 * high)) 4
          ∙ ap (λ o. effect_in answers m (effect_by o r)) (sym (code_whole low high is))
          ∙ ap (λ x. effect_in answers m (effect_of_code x r)) (sym e)
      by_test true is (Err other) q = cc
      by_test false is second q =
          let e : word ≡ low = cc in
          by_effect (expansion low) 2
          ∙ ap (λ o. effect_in answers m (effect_by o r)) (sym (code_lone low is))
          ∙ ap (λ x. effect_in answers m (effect_of_code x r)) (sym e)

  pub one_err : (reason : Reason) → Err reason ≡ word_in answers m r.pc
      → one_in answers r m ≡ Err reason
  one_err reason h = ap (λ x. x >>= rest)
      (err_by (answers.fetch m r.pc) (answers.fetch m ((r.pc + 2) % 2 ^ 32)) reason h)

  pub one_word : (word : ℕ) → Ok word ≡ word_in answers m r.pc
      → one_in answers r m ≡ effect_in answers m (effect_of_code word r)
  one_word word h = ok_by (answers.fetch m r.pc) (answers.fetch m ((r.pc + 2) % 2 ^ 32)) word h
