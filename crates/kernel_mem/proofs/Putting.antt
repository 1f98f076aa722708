-- A page put into a space, and a run of them whose entries are replaced one after another.
use Rattle.std.proofs.Common.{◌≡◌, ◌≢◌, ℕ, zero, suc, ◌+◌, ◌<◌, Bool, true, false, cond, List, []}
use Rattle.std.proofs.Common.{◌∷◌, Option, Some, None, IsSome, option_map, refl, sym, ap, ap₂}
use Rattle.std.proofs.Common.{subst, ◌∙◌, arith}
use Rattle.std.specs.Prelude.{◌==◌, nat_lt, find}
use Rattle.std.proofs.lemmas.Bool.Decides.{nat_tests}
use Rattle.std.proofs.lemmas.List.Sums.{sum_by-cons}
use Rattle.dos_world.specs.World.{look}
use Rattle.dos_world.specs.Kernel.{put}
use Rattle.dos_world.specs.declared.Entry.{Entry}
use Rattle.space_map.specs.Mapping.{IsMapped, put_run, replaced, with_replaced}
use Rattle.kernel_mem.specs.Memory.{entries_of}

off : (a b : ℕ) → a ≢ b → (a == b) ≡ false
off a b h = grind (arith, nat_tests)

same : (a : ℕ) → (a == a) ≡ true
same a = grind (arith, nat_tests)

by_place : (page : ℕ) (entry : Entry) (x : ℕ × Entry) (es : List (ℕ × Entry)) (P : List (ℕ × Entry)
    → Type 0) → P ((page, entry) ∷ x ∷ es) → P (x ∷ put page entry es)
    → P (put page entry (x ∷ es))
by_place page entry x es P before after = by (nat_lt page x.0)
  where
    by : (b : Bool) → P (cond b ((page, entry) ∷ x ∷ es) (x ∷ put page entry es))
    by true = before
    by false = after

pub put-other : (page : ℕ) (entry : Entry) (es : List (ℕ × Entry)) (q : ℕ) → page ≢ q
    → look (put page entry es) q ≡ look es q
put-other page entry [] q other = rw (off page q other) refl
put-other page entry (x ∷ es) q other =
    by_place page entry x es (λ ys. look ys q ≡ look (x ∷ es) q) (rw (off page q other) refl)
    (by (put-other page entry es q other) (x.0 == q))
  where
    by : look (put page entry es) q ≡ look es q → (b : Bool)
        → option_map (λ (e : ℕ × Entry). e.1)
        (cond b (Some x) (find (λ (e : ℕ × Entry). e.0 == q) (put page entry es)))
        ≡ option_map (λ (e : ℕ × Entry). e.1)
        (cond b (Some x) (find (λ (e : ℕ × Entry). e.0 == q) es))
    by rest true = refl
    by rest false = rest

pub put-entries : (page : ℕ) (entry : Entry) (es : List (ℕ × Entry)) (f : ℕ)
    → entries_of (put page entry es) f ≡ entries_of es f + cond (entry.frame == f) 1 0
put-entries page entry [] f =
    omega (
      arith,
      sum_by-cons (λ (e : ℕ × Entry). cond {A = ℕ} (e.1.frame == f) 1 0)
          (page, entry) [],
    )
put-entries page entry (x ∷ es) f =
    by_place page entry x es
    (λ ys. entries_of ys f ≡ entries_of (x ∷ es) f + cond (entry.frame == f) 1 0)
    (omega (
      arith,
      sum_by-cons (λ (e : ℕ × Entry). cond {A = ℕ} (e.1.frame == f) 1 0) (page, entry)
          (x ∷ es),
    ))
    (omega (
      arith,
      put-entries page entry es f,
      sum_by-cons (λ (e : ℕ × Entry). cond {A = ℕ} (e.1.frame == f) 1 0) x es,
      sum_by-cons (λ (e : ℕ × Entry). cond {A = ℕ} (e.1.frame == f) 1 0) x
          (put page entry es),
    ))

-- ---- a run of pages put into a space

run-other : (page count : ℕ) (entry : Entry) (es : List (ℕ × Entry)) (q : ℕ) → q < page
    → look (put_run page count entry es) q ≡ look es q
run-other page zero entry es q h = refl
run-other page (suc count) entry es q h =
    run-other (suc page) count entry (put page entry es) q (omega arith)
    ∙ put-other page entry es q (λ e. absurd (omega arith))

put-mapped : (page : ℕ) (entry : Entry) (es : List (ℕ × Entry)) → IsMapped (put page entry es) page
put-mapped page entry [] = rw (same page) refl
put-mapped page entry (x ∷ es) =
    by_place page entry x es (λ ys. IsMapped ys page) (rw (same page) refl)
    (by (put-mapped page entry es) (x.0 == page))
  where
    by : IsMapped (put page entry es) page → (b : Bool)
        → IsSome (option_map (λ (e : ℕ × Entry). e.1)
        (cond b (Some x) (find (λ (e : ℕ × Entry). e.0 == page) (put page entry es))))
    by rest true = refl
    by rest false = rest

pub run-mapped : (page count : ℕ) (entry : Entry) (es : List (ℕ × Entry))
    → IsMapped (put_run page (suc count) entry es) page
run-mapped page count entry es =
    subst (λ (o : Option Entry). IsSome o)
    (sym (run-other (suc page) count entry (put page entry es) page (omega arith)))
    (put-mapped page entry es)

-- ---- an entry replaced

looked-none : (x : ℕ × Entry) (es : List (ℕ × Entry)) (page : ℕ) → look (x ∷ es) page ≡ None
    → ((x.0 == page) ≡ false) × (look es page ≡ None)
looked-none x es page h = by (x.0 == page) refl h
  where
    by : (b : Bool) → (x.0 == page) ≡ b
        → option_map (λ (e : ℕ × Entry). e.1)
        (cond b (Some x) (find (λ (e : ℕ × Entry). e.0 == page) es)) ≡ None
        → ((x.0 == page) ≡ false) × (look es page ≡ None)
    by true e h = cc
    by false e h = (e, h)

replaced-none : (page : ℕ) (new : Entry) (es : List (ℕ × Entry)) → look es page ≡ None
    → with_replaced page new es ≡ es
replaced-none page new [] h = refl
replaced-none page new (x ∷ es) h =
    let apart = looked-none x es page h in
    ap₂ (λ y ys. y ∷ ys) (ap (λ b. (x.0, cond b new x.1)) apart.0)
    (replaced-none page new es apart.1)

replaced-here : (page : ℕ) (old new : Entry) (es : List (ℕ × Entry)) → look es page ≡ None
    → with_replaced page new (put page old es) ≡ put page new es
replaced-here page old new [] h = ap (λ b. (page, cond b new old) ∷ []) (same page)
replaced-here page old new (x ∷ es) h =
    by (replaced-here page old new es (looked-none x es page h).1) (nat_lt page x.0)
  where
    by : with_replaced page new (put page old es) ≡ put page new es → (b : Bool)
        → with_replaced page new (cond b ((page, old) ∷ x ∷ es) (x ∷ put page old es))
        ≡ cond b ((page, new) ∷ x ∷ es) (x ∷ put page new es)
    by rest true = ap₂ (λ y ys. y ∷ ys) (ap (λ b. (page, cond b new old)) (same page))
        (replaced-none page new (x ∷ es) h)
    by rest false = ap₂ (λ y ys. y ∷ ys)
        (ap (λ b. (x.0, cond b new x.1)) (looked-none x es page h).0) rest

replaced-other : (page q : ℕ) (new entry : Entry) (es : List (ℕ × Entry)) → q ≢ page
    → with_replaced page new (put q entry es) ≡ put q entry (with_replaced page new es)
replaced-other page q new entry [] other =
    ap (λ b. (q, cond b new entry) ∷ []) (off q page other)
replaced-other page q new entry (x ∷ es) other =
    by (replaced-other page q new entry es other) (nat_lt q x.0)
  where
    by : with_replaced page new (put q entry es) ≡ put q entry (with_replaced page new es)
        → (b : Bool)
        → with_replaced page new (cond b ((q, entry) ∷ x ∷ es) (x ∷ put q entry es))
        ≡ cond b ((q, entry) ∷ with_replaced page new (x ∷ es))
        (replaced page new x ∷ put q entry (with_replaced page new es))
    by rest true =
        ap (λ b. (q, cond b new entry) ∷ with_replaced page new (x ∷ es)) (off q page other)
    by rest false = ap (λ ys. replaced page new x ∷ ys) rest

replaced-behind : (page q count : ℕ) (new entry : Entry) (es : List (ℕ × Entry)) → page < q
    → with_replaced page new (put_run q count entry es)
    ≡ put_run q count entry (with_replaced page new es)
replaced-behind page q zero new entry es h = refl
replaced-behind page q (suc count) new entry es h =
    replaced-behind page (suc q) count new entry (put q entry es) (omega arith)
    ∙ ap (put_run (suc q) count entry)
    (replaced-other page q new entry es (λ e. absurd (omega arith)))

-- the first entry of a run replaced: as if it had been put so, and then the others
pub replaced-first : (page count : ℕ) (new entry : Entry) (es : List (ℕ × Entry))
    → look es page ≡ None
    → with_replaced page new (put_run page (suc count) entry es)
    ≡ put_run (suc page) count entry (put page new es)
replaced-first page count new entry es h =
    replaced-behind page (suc page) count new entry (put page entry es) (omega arith)
    ∙ ap (put_run (suc page) count entry) (replaced-here page entry new es h)
