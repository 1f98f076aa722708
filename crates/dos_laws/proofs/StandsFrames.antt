-- A fresh frame: which one it is, that nothing uses it, and what is left when it is taken.
use Rattle.std.proofs.Common.{ℕ, zero, suc, ◌+◌, ◌*◌, ◌<◌, ◌≤◌, ◌≡◌, refl, sym, ap, ◌∙◌, true, cond}
use Rattle.std.proofs.Common.{List, [], ◌∷◌, ◌++◌, length, take, drop, Some, None, arith}
use Rattle.std.proofs.Common.{length-append}
use Rattle.std.specs.Prelude.{All, ◌==◌, filter, position, unwrap_or, slice_set, slice_index_or}
use Rattle.std.specs.Prelude.{sum_by}
use Rattle.std.specs.List.{position_or_len}
use Rattle.std.proofs.lemmas.Bool.{true≢false, false≢true, lt-ltb}
use Rattle.std.proofs.lemmas.List.{length-take, length-drop, length-replicate}
use Rattle.std.proofs.lemmas.List.Sums.{passes_at_first, get_or-le-sum_by}
use Rattle.std.proofs.lemmas.List.Elements.{All-append, All-take, All-drop, All-replicate}
use Rattle.dos_world.specs.World.{World, Holdings, all_holdings, owner_of, is_free, page_of}
use Rattle.dos_world.specs.Bytes.{with_page}
use Rattle.dos_world.specs.Counts.{uses_of}
use Rattle.dos_world.specs.Kernel.{zero_page}
use Rattle.dos_world.specs.Lawful.{Lawful, IsByte}
use Rattle.dos_world.specs.declared.Owner.{Owner}
use Rattle.dos_world.specs.declared.Owner.TheVariants.{Free, Shared, Of}
use Rattle.dos_world.specs.declared.Entry.{Entry}
use Rattle.dos_laws.proofs.Holders.{counts_any}

-- ---- the lowest free frame

first_free : (os : List Owner) → 0 < length (filter is_free os)
    → position_or_len is_free os < length os
first_free [] h = absurd (omega arith)
first_free (Free ∷ os) h = omega arith
first_free (Shared ∷ os) h = let rest = first_free os h in omega arith
first_free (Of t ∷ os) h = let rest = first_free os h in omega arith

is_free-Free : (o : Owner) → is_free o ≡ true → o ≡ Free
is_free-Free Free e = refl
is_free-Free Shared e = absurd (false≢true e)
is_free-Free (Of t) e = absurd (false≢true e)

-- it is there, and Free
abbrev pub lowest_in : List Owner → ℕ
lowest_in os = unwrap_or (position is_free os) 0

pub lowest_is : (os : List Owner) → 0 < length (filter is_free os)
    → (lowest_in os < length os) × (slice_index_or os (lowest_in os) Free ≡ Free)
lowest_is os h =
    let within : position_or_len is_free os < length os = first_free os h in
    let is : lowest_in os ≡ position_or_len is_free os =
    ap (λ b. unwrap_or (cond b (Some (position_or_len is_free os)) None) 0)
    (lt-ltb (position_or_len is_free os) (length os) within) in (
      omega (arith, is, within),
      ap (λ n. slice_index_or os n Free) is
          ∙ is_free-Free (slice_index_or os (position_or_len is_free os) Free)
          (passes_at_first is_free os Free within),
    )

-- one fewer is free, when a free one is taken
pub one_taken : (os : List Owner) (k t : ℕ) → k < length os → slice_index_or os k Free ≡ Free
    → length (filter is_free (slice_set os k (Of t))) + 1 ≡ length (filter is_free os)
one_taken [] k t lt e = absurd (omega arith)
one_taken (x ∷ os) zero t lt e = by_free x e
  where
    by_free : (x : Owner) → x ≡ Free
        → length (filter is_free os) + 1 ≡ length (filter is_free (x ∷ os))
    by_free Free e = omega arith
    by_free Shared e = cc
    by_free (Of s) e = cc
one_taken (Free ∷ os) (suc k) t lt e = let rest = one_taken os k t (omega arith) e in omega arith
one_taken (Shared ∷ os) (suc k) t lt e = one_taken os k t (omega arith) e
one_taken (Of s ∷ os) (suc k) t lt e = one_taken os k t (omega arith) e

-- nothing uses a Free frame
pub free_unused : (w : World) (frame : ℕ) → Lawful w → frame < length w.owners
    → owner_of w frame ≡ Free → uses_of w frame ≡ 0
free_unused w frame l lt free = by_count (uses_of w frame) refl
  where
    by_count : (n : ℕ) → uses_of w frame ≡ n → n ≡ 0
    by_count zero e = refl
    by_count (suc n) e =
        absurd
        (true≢false
        (sym
        (counts_any (λ (x : ℕ × Entry). x.1.frame == frame) (λ (x : Holdings). x.space)
        (all_holdings w.processes) (omega (arith, e)))
        ∙ (l.frames.free frame lt).0 free))

-- none of a sum that is 0 is positive
pub none_of_sum : {A : Type 0} (g : A → ℕ) (xs : List A) → sum_by g xs ≡ 0 → All (λ x. g x ≡ 0) xs
none_of_sum g xs none k d lt = omega (arith, none, get_or-le-sum_by g xs k d lt)

-- ---- the bytes

pub page_bytes : (bytes : List ℕ) (frame : ℕ) (page : List ℕ) → length page ≡ 4096
    → 4096 * frame + 4096 ≤ length bytes → All IsByte bytes → All IsByte page
    → (length (with_page bytes frame page) ≡ length bytes) × All IsByte (with_page bytes frame page)
page_bytes bytes frame page is fits all new = (
  omega (
    arith,
    length-append (take (4096 * frame) bytes ++ page) (drop (4096 * frame + 4096) bytes),
    length-append (take (4096 * frame) bytes) page,
    length-take (4096 * frame) bytes,
    length-drop (4096 * frame + 4096) bytes,
    is,
    fits,
  ),
  All-append IsByte (take (4096 * frame) bytes ++ page) (drop (4096 * frame + 4096) bytes)
      (All-append IsByte (take (4096 * frame) bytes) page
      (All-take IsByte (4096 * frame) bytes all) new)
      (All-drop IsByte (4096 * frame + 4096) bytes all),
)

pub zero_page_is : (length zero_page ≡ 4096) × All IsByte zero_page
unfolding zero_page
zero_page_is = (length-replicate {A = ℕ} 4096 0, All-replicate IsByte 4096 0 (omega arith))

-- a page that is there has its bytes
pub page_is : (bytes : List ℕ) (frame : ℕ) → 4096 * frame + 4096 ≤ length bytes → All IsByte bytes
    → (length (page_of bytes frame) ≡ 4096) × All IsByte (page_of bytes frame)
page_is bytes frame fits all = (
  omega (
    arith,
    length-take 4096 (drop (4096 * frame) bytes),
    length-drop (4096 * frame) bytes,
    fits,
  ),
  All-take IsByte 4096 (drop (4096 * frame) bytes)
      (All-drop IsByte (4096 * frame) bytes all),
)
