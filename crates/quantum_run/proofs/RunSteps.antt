-- Instructions one after another over any answers, by one more.
use Rattle.std.proofs.Common.{ℕ, zero, suc, ◌+◌, ◌≡◌, refl, sym, ap, ◌∙◌, Option, Some, None}
use Rattle.std.proofs.Common.{Result, Ok, Err, arith}
use Rattle.dos_world.specs.World.{Registers}
use Rattle.dos_world.specs.declared.Reason.{Reason}
use Rattle.flat_machine.specs.Over.{MemoryAnswers, one_in}
use Rattle.rv_exec.specs.Follows.{Follows}
use Rattle.rv_exec.specs.Runs.{GoesTo, after_in}
use Rattle.rv_exec.specs.declared.Went.TheVariants.{Step, Stop}
use Rattle.quantum_run.specs.ThreadRuns.{Reaches, Goes}

Step≢Stop : (reason : Reason) → Step ≡ Stop reason → ⊥
Step≢Stop reason q = cc

Stop-is : (a b : Reason) → Stop a ≡ Stop b → a ≡ b
Stop-is a b q = cc

module _ {M : Type 0} (answers : MemoryAnswers M) where
  pub Some-both : {a b : Registers × M} → ◌≡◌ {A = Option (Registers × M)} (Some a) (Some b) → a ≡ b
  Some-both h = cc

  -- the first is done, and then the others
  abbrev rest : ℕ → Result (Registers × M) Reason → Option (Registers × M)
  rest n o = elim o as (λ _. Option (Registers × M)) [
    | Ok next ↦ after_in answers n next.0 next.1
    | Err reason ↦ None
  ]

  -- so many, and so many more
  pub goes-then : (n k : ℕ) (r : Registers) (m : M) (after : Registers) (u : M)
      → GoesTo answers n r m after u → after_in answers (n + k) r m ≡ after_in answers k after u
  goes-then zero k r m after u h =
      let none : 0 + k ≡ k = omega arith in
      ap (λ i. after_in answers i r m) none
      ∙ ap (λ (x : Registers × M). after_in answers k x.0 x.1) (Some-both h)
  goes-then (suc n) k r m after u h =
      let count : suc n + k ≡ suc (n + k) = omega arith in
      ap (λ i. after_in answers i r m) count
      ∙ by_one (λ next q. goes-then n k next.0 next.1 after u q) (one_in answers r m) h
    where
      by_one : ((next : Registers × M) → GoesTo answers n next.0 next.1 after u
          → after_in answers (n + k) next.0 next.1 ≡ after_in answers k after u)
          → (o : Result (Registers × M) Reason) → rest n o ≡ Some (after, u)
          → rest (n + k) o ≡ after_in answers k after u
      by_one later (Ok next) q = later next q
      by_one later (Err reason) q = cc

  -- one that is done
  reaches-one : (shows : M → Type 0) (r r' : Registers) (u : M)
      → Follows shows u r r' Step (one_in answers r u) → Reaches answers shows r u r' 1
  reaches-one shows r r' u = λ f. by_one (one_in answers r u) refl f
    where
      by_one : (o : Result (Registers × M) Reason) → one_in answers r u ≡ o
          → Follows shows u r r' Step o → Reaches answers shows r u r' 1
      by_one (Err reason) is f = absurd (Step≢Stop reason f.went_is)
      by_one (Ok next) is f = record {
        now = next.1;
        shown = f.memory;
        ran = ap (rest 0) is ∙ ap (λ (x : Registers). Some (x, next.1)) (sym f.registers);
      }

module _ {M : Type 0} (answers : MemoryAnswers M) (r0 : Registers) (m : M) where
  -- none made yet
  pub reaches-none : (shows : M → Type 0) (count : ℕ) → count ≡ 0 → shows m
      → Reaches answers shows r0 m r0 count
  reaches-none shows count none s = record {
    now = m;
    shown = s;
    ran = ap (λ n. after_in answers n r0 m) none;
  }

  -- a run goes on from where another led
  pub reaches-then : (before after : M → Type 0) (r r' : Registers) (n k all : ℕ) → all ≡ n + k
      → ((u : M) → before u → Reaches answers after r u r' k)
      → Reaches answers before r0 m r n → Reaches answers after r0 m r' all
  reaches-then before after r r' n k all count goes reached =
      let more = goes reached.now reached.shown in
      record {
        now = more.now;
        shown = more.shown;
        ran = ap (λ i. after_in answers i r0 m) count
            ∙ goes-then answers n k r0 m r reached.now reached.ran ∙ more.ran;
      }

  pub reaches-more : (before after : M → Type 0) (r r' : Registers) (n all : ℕ) → all ≡ n + 1
      → ((u : M) → before u → Follows after u r r' Step (one_in answers r u))
      → Reaches answers before r0 m r n → Reaches answers after r0 m r' all
  reaches-more before after r r' n all count one reached =
      reaches-then before after r r' n 1 all count (λ u s. reaches-one answers after r r' u (one u
      s))
      reached

  pub goes-stopped : (before after : M → Type 0) (r r' : Registers) (made : ℕ) (reason : Reason)
      → ((u : M) → before u → Follows after u r r' (Stop reason) (one_in answers r u))
      → Reaches answers before r0 m r made → Goes answers after r0 m r' made (Some reason)
  goes-stopped before after r r' made reason one reached =
      by_one (one_in answers r reached.now) refl (one reached.now reached.shown)
    where
      by_one : (o : Result (Registers × M) Reason) → one_in answers r reached.now ≡ o
          → Follows after reached.now r r' (Stop reason) o
          → Goes answers after r0 m r' made (Some reason)
      by_one (Ok next) is f = absurd (Step≢Stop reason (sym f.went_is))
      by_one (Err cause) is f = record {
        reaches = record {
          now = reached.now;
          shown = f.memory;
          ran = reached.ran ∙ ap (λ (x : Registers). Some (x, reached.now)) (sym f.registers);
        };
        stops = ap (λ (x : Registers). one_in answers x reached.now) f.registers ∙ is
            ∙ ap Err (Stop-is cause reason (sym f.went_is));
      }

  -- what shows less shows the same run
  pub reaches-shown : (before after : M → Type 0) (r : Registers) (made : ℕ)
      → ((u : M) → before u → after u)
      → Reaches answers before r0 m r made → Reaches answers after r0 m r made
  reaches-shown before after r made shows reached = record {
    now = reached.now;
    shown = shows reached.now reached.shown;
    ran = reached.ran;
  }
