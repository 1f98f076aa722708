-- A pack may run, whichever way it is said.
use Rattle.std.proofs.Common.{◌≡◌, ℕ, Bool, zero, suc, List, [], ◌∷◌, refl, sym, ap, ◌∙◌, subst}
use Rattle.std.proofs.Common.{arith, eq-eqb, Option, Some, None, true, false, ◌⊎◌, inl, inr, ⊎_elim}
use Rattle.std.proofs.lemmas.Bool.{eqb-true}
use Rattle.std.proofs.Math.Bool.{or-true}
use Rattle.std.proofs.lemmas.Option.{same_Some}
use Rattle.std.specs.Prelude.{slice_get, ◌||◌, ◌==◌}
use Rattle.dos_world.specs.World.{look}
use Rattle.quantum_run.specs.Shows.{Pack, View, CanRun, CanRunOwning, CanRunWriting, frames_of}
use Rattle.staying_workers.specs.Ready.{MayRun, MayRunOwning, MayRunWriting, entries_of_process}
use Rattle.staying_workers.specs.Ready.{is_home, space_under, stands_in}

either_of : (a b : Bool) → (a || b) ≡ true → (a ≡ true) ⊎ (b ≡ true)
either_of true b e = inl refl
either_of false b e = inr e

-- what stands at a place stands in the list
stands : (n : ℕ) (l : List ℕ) (i : ℕ) → slice_get l i ≡ Some n → stands_in n l ≡ true
stands n [] i e = absurd (grind arith)
stands n (m ∷ ms) zero e =
    ap (λ b. b || stands_in n ms) (eq-eqb m n (same_Some m n e))
stands n (m ∷ ms) (suc i) e = ap (λ b. (m == n) || b) (stands n ms i e) ∙ or-true (m == n)

-- and has a place there
place_of : (n : ℕ) (l : List ℕ) → stands_in n l ≡ true → (i : ℕ) × (slice_get l i ≡ Some n)
place_of n [] e = absurd (grind arith)
place_of n (m ∷ ms) e = ⊎_elim (λ same. (0, ap Some (eqb-true m n same)))
    (λ later. let r = place_of n ms later in (suc r.0, r.1)) (either_of (m == n) (stands_in n ms) e)

-- a page that is home
page_of : (o : Option (Option (List ℕ))) → is_home o ≡ true
    → (page : List ℕ) × (o ≡ Some (Some page))
page_of None e = absurd (grind arith)
page_of (Some None) e = absurd (grind arith)
page_of (Some (Some page)) e = (page, refl)

may_owning : (p : Pack) (v : View) → CanRunOwning p v → MayRunOwning p v
may_owning p v can =
    let same : space_under v p ≡ can.entries = ap entries_of_process can.space in (
      can.space ∙ ap (λ es. Some (Some es)) (sym same),
      (λ page e at. can.mapped page e (subst (λ es. look es page ≡ Some e) same at)),
      (λ frame of_. let r = can.own frame of_ in stands frame (frames_of p.pages) r.0 r.1),
      can.owned,
      (λ frame all. ap is_home (can.shared frame all).1),
      can.level,
    )

may_writing : (p : Pack) (v : View) → CanRunWriting p v → MayRunWriting p v
may_writing p v can =
    let same : space_under v p ≡ can.entries = ap entries_of_process can.space in (
      can.space ∙ ap (λ es. Some (Some es)) (sym same),
      (λ page e at. can.mapped page e (subst (λ es. look es page ≡ Some e) same at)),
      can.home,
    )

pub may_of : (p : Pack) (v : View) → CanRun p v → MayRun p v
may_of p v can = (
  (λ none. may_owning p v (can.owning none)),
  (λ some. may_writing p v (can.writing some)),
)

can_owning : (p : Pack) (v : View) → MayRunOwning p v → CanRunOwning p v
can_owning p v may = record {
  entries = space_under v p;
  space = may.0;
  mapped = may.1;
  own = λ frame of_. place_of frame (frames_of p.pages) (may.2 frame of_);
  owned = may.3;
  shared = λ frame all. page_of (slice_get v.pages frame) (may.4 frame all);
  level = may.5;
}

can_writing : (p : Pack) (v : View) → MayRunWriting p v → CanRunWriting p v
can_writing p v may = record {
  entries = space_under v p;
  space = may.0;
  mapped = may.1;
  home = may.2;
}

pub can_of : (p : Pack) (v : View) → MayRun p v → CanRun p v
can_of p v may = record {
  owning = λ none. can_owning p v (may.0 none);
  writing = λ some. can_writing p v (may.1 some);
}
