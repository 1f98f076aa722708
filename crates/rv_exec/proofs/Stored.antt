-- A store that is refused leaves all as it was.
use Rattle.std.proofs.Common.{ℕ, ◌≡◌, refl, ap, ◌∙◌, subst, Result, Ok, Err}
use Rattle.dos_world.specs.World.{Registers}
use Rattle.dos_world.specs.declared.Size.{Size}
use Rattle.dos_world.specs.declared.Reason.{Reason}
use Rattle.rv_exec.specs.declared.Went.TheVariants.{Stop}
use Rattle.flat_machine.specs.Step.{◌>>=◌}
use Rattle.flat_machine.specs.Over.{MemoryAnswers}
use Rattle.rv_exec.specs.Follows.{Follows, answer_of_store, after_of}

module _ {M : Type 0} (answers : MemoryAnswers M) (shows : M → Type 0) (m : M)
    (r next : Registers) where
  by_answer : (o : Result M Reason) (reason : Reason) → Err reason ≡ answer_of_store o
      → shows (after_of m o) → Follows shows m r r (Stop reason) (o >>= λ after. Ok (next, after))
  by_answer (Ok after) reason h s = cc
  by_answer (Err other) reason h s = let e : reason
      ≡ other = cc in record { went_is = ap (λ x. Stop x) e; registers = refl; memory = s }

  pub store_refused : (a b : ℕ) (s q : Size) (v u : ℕ) (reason : Reason) → a ≡ b → s ≡ q → v ≡ u
      → shows (after_of m (answers.store m a s v))
      → Err reason ≡ answer_of_store (answers.store m a s v)
      → Follows shows m r r (Stop reason) (answers.store m b q u >>= λ after. Ok (next, after))
  store_refused a b s q v u reason e f g shown h =
      let same : answers.store m a s v ≡ answers.store m b q u =
      ap (λ x. answers.store m x s v) e
      ∙ ap (λ x. answers.store m b x v) f ∙ ap (λ x. answers.store m b q x) g in
      subst (λ (o : Result M Reason). Follows shows m r r (Stop reason) (o >>= λ after. Ok
      (next, after))) same (by_answer (answers.store m a s v) reason h shown)
