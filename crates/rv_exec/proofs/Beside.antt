-- From pc beside the registers to pc in them.
use Rattle.std.proofs.Common.{ℕ, ◌≡◌, sym, ap, subst}
use Rattle.dos_world.specs.World.{Registers, with_pc}
use Rattle.dos_world.specs.declared.Reason.{Reason}
use Rattle.rv_exec.specs.declared.Went.{Went}
use Rattle.rv_exec.specs.declared.next.Next.{Next}
use Rattle.rv_exec.specs.Arrivals.{arrived, went}
use Rattle.flat_machine.specs.Over.{MemoryAnswers, one_in}
use Rattle.rv_exec.specs.Follows.{Follows}

module _ {M : Type 0} (answers : MemoryAnswers M) (before after : M → Type 0) (m : M)
    (r new put : Registers) (pc : ℕ) (why : Reason) where
  pub follows_put : (next : Next) (answer : Went) → pc ≡ r.pc → put ≡ arrived new pc next → answer
      ≡ went next why
      → (before m → Follows after m (with_pc r pc) (arrived new pc next) (went next why)
      (one_in answers (with_pc r pc) m)) → before m
      → Follows after m r put answer (one_in answers r m)
  follows_put next answer here to is one shown =
      let same : with_pc r pc ≡ r = ap (with_pc r) here in
      let first = subst (λ (x : Registers). Follows after m x (arrived new pc next) (went next why)
      (one_in answers x m)) same (one shown) in
      let second = subst (λ (x : Registers). Follows after m r x (went next why)
      (one_in answers r m)) (sym to) first in
      subst (λ (x : Went). Follows after m r put x (one_in answers r m)) (sym is) second
