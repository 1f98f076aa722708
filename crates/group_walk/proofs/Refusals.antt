-- Why a step stops, by what its instruction needs.
use Rattle.std.proofs.Common.{ℕ, ◌+◌, ◌*◌, ◌%◌, ◌^◌, ◌≡◌, ◌≢◌, refl, ap, ◌∙◌, Bool}
use Rattle.std.proofs.Common.{cond, true, false, eqb, Option, Some, None, Result, Ok, Err}
use Rattle.std.proofs.lemmas.Bool.{ne_eqb}
use Rattle.std.proofs.Common.{eq-eqb}
use Rattle.dos_world.specs.World.{World, Thread, Registers, thread_at}
use Rattle.dos_world.specs.Reach.{width, loaded, bytes_of, stored}
use Rattle.dos_world.specs.declared.Access.TheVariants.{Load, Store, Claim}
use Rattle.dos_world.specs.declared.Reason.{Reason}
use Rattle.dos_world.specs.declared.Reason.TheVariants.{Fault}
use Rattle.dos_world.specs.declared.Size.TheVariants.{Word}
use Rattle.rv_isa.specs.declared.Instr.{Instr}
use Rattle.rv_isa.specs.Meaning.{meaning}
use Rattle.rv_isa.specs.Compressed.{expansion}
use Rattle.flat_machine.specs.Effect.{Effect, goes, loads, stores, claims, stops, effect}
use Rattle.flat_machine.specs.Step.{◌>>=◌, step, step_of, step_by, performed, reached, half_at}
use Rattle.flat_machine.specs.Step.{instruction_at, whole_word, lone_half, paid, with_word}
use Rattle.group_walk.specs.declared.need.Need.{Need}
use Rattle.group_walk.specs.Needs.{reason_of, need_of, unmet, instructions_of, seen_by}

-- ---- an effect

refusal-then : {A : Type 0} (r : Result ℕ Reason) (f : ℕ → A)
    → reason_of (r >>= λ place. Ok (f place)) ≡ reason_of r
refusal-then (Ok place) f = refl
refusal-then (Err reason) f = refl

-- what an effect doesn't have that it needs stops it, and nothing else does
pub refusal-performed : (w : World) (t : ℕ) (e : Effect)
    → reason_of (performed w t e) ≡ unmet w t (need_of e)
refusal-performed w t (goes r) = refl
refusal-performed w t (loads address size next) =
    refusal-then (reached w t address size Load)
    (λ place. paid w t (next (loaded w place (width size))))
refusal-performed w t (stores address size value r) =
    refusal-then (reached w t address size Store)
    (λ place. paid (stored w place (bytes_of (width size) value)) t r)
refusal-performed w t (claims address next new) =
    refusal-then (reached w t address Word Claim)
    (λ place. paid (with_word w place (new (loaded w place 4))) t (next (loaded w place 4)))
refusal-performed w t (stops reason) = refl

-- ---- the instruction at an address

abbrev by_low : World → ℕ → ℕ → Result ℕ Reason → Result (Option Instr × ℕ) Reason
by_low w t a r = r >>= λ low.
    cond (eqb (low % 4) 3)
    (half_at w t ((a + 2) % 2 ^ 32) >>= λ high. Ok (whole_word low high)) (Ok (lone_half low))

module _ (w : World) (t a : ℕ) where
  pub not_fetched : (reason : Reason) → half_at w t a ≡ Err reason
      → instructions_of (instruction_at w t a) ≡ Err reason
  not_fetched reason is = ap (λ r. instructions_of (by_low w t a r)) is

  pub short_fetched : (low : ℕ) → half_at w t a ≡ Ok low → low % 4 ≢ 3
      → instructions_of (instruction_at w t a) ≡ Ok (expansion low)
  short_fetched low is short =
      ap (λ r. instructions_of (by_low w t a r)) is
      ∙ ap (λ b. instructions_of (cond b
      (half_at w t ((a + 2) % 2 ^ 32) >>= λ high. Ok (whole_word low high)) (Ok (lone_half low))))
      (ne_eqb (low % 4) 3 short)

  long-then : (low : ℕ) → half_at w t a ≡ Ok low → low % 4 ≡ 3
      → instruction_at w t a
      ≡ (half_at w t ((a + 2) % 2 ^ 32) >>= λ high. Ok (whole_word low high))
  long-then low is long =
      ap (by_low w t a) is
      ∙ ap (λ b. cond b
      (half_at w t ((a + 2) % 2 ^ 32) >>= λ high. Ok (whole_word low high)) (Ok (lone_half low)))
      (eq-eqb (low % 4) 3 long)

  pub rest_not_fetched : (low : ℕ) (reason : Reason) → half_at w t a ≡ Ok low → low % 4 ≡ 3
      → half_at w t ((a + 2) % 2 ^ 32) ≡ Err reason
      → instructions_of (instruction_at w t a) ≡ Err reason
  rest_not_fetched low reason is long high =
      ap instructions_of (long-then low is long)
      ∙ ap (λ r. instructions_of (r >>= λ high. Ok (whole_word low high))) high

  pub long_fetched : (low high : ℕ) → half_at w t a ≡ Ok low → low % 4 ≡ 3
      → half_at w t ((a + 2) % 2 ^ 32) ≡ Ok high
      → instructions_of (instruction_at w t a) ≡ Ok (meaning (low + 2 ^ 16 * high))
  long_fetched low high is long h =
      ap instructions_of (long-then low is long)
      ∙ ap (λ r. instructions_of (r >>= λ high. Ok (whole_word low high))) h

-- ---- a step

abbrev stepped : World → ℕ → Registers → Result (Option Instr × ℕ) Reason → Option Reason
stepped w t r found = reason_of (found >>= step_by w t r)

-- why a step stops of a thread with these registers, by what it finds at pc
module _ (w : World) (t : ℕ) (thread : Thread) (is : thread_at w t ≡ Some thread) where
  abbrev found : Result (Option Instr × ℕ) Reason
  found = instruction_at w t thread.registers.pc

  begins-so : reason_of (step w t) ≡ stepped w t thread.registers found
  begins-so = ap (λ o. reason_of (step_of w t o)) is

  pub stops_fetching : (reason : Reason) → instructions_of found ≡ Err reason
      → reason_of (step w t) ≡ Some reason
  stops_fetching reason h = begins-so ∙ go found h
    where
      go : (r : Result (Option Instr × ℕ) Reason) → instructions_of r ≡ Err reason
          → stepped w t thread.registers r ≡ Some reason
      go (Ok x) e = cc
      go (Err other) e = let same : other ≡ reason = cc in ap Some same

  pub stops_meaning_nothing : instructions_of found ≡ Ok None
      → reason_of (step w t) ≡ Some (Fault 4)
  stops_meaning_nothing h = begins-so ∙ go found h
    where
      by_found : (o : Option Instr) (size : ℕ) → o ≡ None
          → stepped w t thread.registers (Ok (o, size)) ≡ Some (Fault 4)
      by_found None size e = refl
      by_found (Some instr) size e = cc

      go : (r : Result (Option Instr × ℕ) Reason) → instructions_of r ≡ Ok None
          → stepped w t thread.registers r ≡ Some (Fault 4)
      go (Ok x) e = let none : x.0 ≡ None = cc in by_found x.0 x.1 none
      go (Err other) e = cc

  pub stops_needing : (instr : Instr) (need : Need) → instructions_of found ≡ Ok (Some instr)
      → ((size : ℕ) → need_of (effect instr size thread.registers) ≡ need)
      → reason_of (step w t) ≡ unmet w t need
  stops_needing instr need h needs = begins-so ∙ go found h
    where
      by_found : (o : Option Instr) (size : ℕ) → o ≡ Some instr
          → stepped w t thread.registers (Ok (o, size)) ≡ unmet w t need
      by_found None size e = cc
      by_found (Some other) size e =
          let same : other ≡ instr = cc in
          refusal-performed w t (effect other size thread.registers)
          ∙ ap (λ i. unmet w t (need_of (effect i size thread.registers))) same
          ∙ ap (unmet w t) (needs size)

      go : (r : Result (Option Instr × ℕ) Reason) → instructions_of r ≡ Ok (Some instr)
          → stepped w t thread.registers r ≡ unmet w t need
      go (Ok x) e = let some : x.0 ≡ Some instr = cc in by_found x.0 x.1 some
      go (Err other) e = cc

-- ---- seen with its pages granted or not, a thread is the same

pub thread_seen : (is_granted : Bool) (t : ℕ) (w : World) (s : ℕ)
    → thread_at (seen_by is_granted t w) s ≡ thread_at w s
thread_seen true t w s = refl
thread_seen false t w s = refl
