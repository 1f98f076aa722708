-- The free descriptors of a process, and what setting one of its descriptors does to the counts of
-- ends.
use Rattle.std.proofs.Common.{◌≡◌, ◌≢◌, ℕ, zero, suc, ◌+◌, ◌<◌, ◌≤◌, Bool, true, false, cond, List}
use Rattle.std.proofs.Common.{[], ◌∷◌, length, take, Option, Some, None, refl, sym, ap, subst, ◌∙◌}
use Rattle.std.proofs.Common.{arith}
use Rattle.std.specs.Prelude.{All, IfSome, filter, slice_get, slice_set, unwrap_or, is_none}
use Rattle.std.specs.Prelude.{position, count_by}
use Rattle.std.specs.List.{position_from}
use Rattle.std.proofs.lemmas.Iterator.Adapters.{position_from-zero}
use Rattle.std.proofs.lemmas.List.Elements.{All-nil, All-cons, All-head, All-tail}
use Rattle.std.proofs.lemmas.List.Sums.{sum_by-cons, sum_by-set, sum_by-le, count_by-le-length}
use Rattle.std.proofs.lemmas.Option.{unwrap_or-slice_get}
use Rattle.dos_world.specs.Numbered.{run_of, changed}
use Rattle.dos_world.specs.World.{Process, Holdings, all_holdings, on_holdings}
use Rattle.dos_world.specs.DescriptorCalls.{with_end}
use Rattle.dos_world.specs.declared.End.{End}
use Rattle.dos_laws.proofs.Holders.{sum_changed}
use Rattle.proc_table.specs.Tables.{held_in, end_named}
use Rattle.kernel_calls.specs.StateWorld.{ends_of}
use Rattle.kernel_calls.proofs.PipeEnds.{more-no}

-- ---- the lowest free descriptors

-- what a place of the descriptors has
abbrev pub end_at : List (Option End) → ℕ → Option End
end_at ends i = unwrap_or (slice_get ends i) None

-- the first of those that pass, where all that are open fail
pub first_free : (test : ℕ → Bool) (ends : List (Option End)) (a : ℕ)
    → ((i : ℕ) → test (a + i) ≡ is_none (end_at ends i))
    → slice_get (filter test (run_of a (length ends))) 0 ≡ position_from is_none a ends
first_free test [] a same = refl
first_free test (x ∷ ends) a same =
    ap (λ b. slice_get
    (cond b (a ∷ filter test (run_of (suc a) (length ends)))
    (filter test (run_of (suc a) (length ends)))) 0) (ap test (omega arith) ∙ same 0)
    ∙ by x (first_free test ends (suc a) (λ i. ap test (omega arith) ∙ same (suc i)))
  where
    by : (x : Option End)
        → slice_get (filter test (run_of (suc a) (length ends))) 0
        ≡ position_from is_none (suc a) ends
        → slice_get
        (cond (is_none x) (a ∷ filter test (run_of (suc a) (length ends)))
        (filter test (run_of (suc a) (length ends)))) 0
        ≡ position_from is_none a (x ∷ ends)
    by None rest = refl
    by (Some end) rest = rest ∙ ap (λ k. position_from is_none k ends) (omega arith)

-- a free one is at its place
pub record IsFreeAt (ends : List (Option End)) (i : ℕ) : Type 0 where
  pub within : i < length ends
  pub closed : end_at ends i ≡ None

pub free_at : (ends : List (Option End)) (a k : ℕ) → position_from is_none a ends ≡ Some k
    → (i : ℕ) × (k ≡ a + i) × IsFreeAt ends i
free_at [] a k e = cc
free_at (None ∷ ends) a k e = (
  0,
  let same : a ≡ k = cc in omega (arith, same),
  record { within = omega arith; closed = refl },
)
free_at (Some end ∷ ends) a k e =
    let rest = free_at ends (a + 1) k e in (
      suc rest.0,
      omega (arith, rest.1),
      record {
        within = omega (arith, rest.2.within);
        closed = rest.2.closed;
      },
    )

-- so is the lowest
pub lowest_is_free : (ends : List (Option End)) (k : ℕ) → Some k ≡ position is_none ends
    → IsFreeAt ends k
lowest_is_free ends k lowest =
    let found = free_at ends 0 k (sym (lowest ∙ position_from-zero is_none ends)) in
    let same : found.0 ≡ k = omega (arith, found.1) in
    subst (λ i. IsFreeAt ends i) same found.2

-- as many pass as are free
pub free_count : (test : ℕ → Bool) (ends : List (Option End)) (a : ℕ)
    → ((i : ℕ) → test (a + i) ≡ is_none (end_at ends i))
    → length (filter test (run_of a (length ends))) ≡ count_by is_none ends
free_count test [] a same = refl
free_count test (x ∷ ends) a same =
    ap (λ b. length (cond b (a ∷ filter test (run_of (suc a) (length ends)))
    (filter test (run_of (suc a) (length ends))))) (ap test (omega arith) ∙ same 0)
    ∙ by x (free_count test ends (suc a) (λ i. ap test (omega arith) ∙ same (suc i)))
  where
    by : (x : Option End)
        → length (filter test (run_of (suc a) (length ends))) ≡ count_by is_none ends
        → length (cond (is_none x) (a ∷ filter test (run_of (suc a) (length ends)))
        (filter test (run_of (suc a) (length ends)))) ≡ count_by is_none (x ∷ ends)
    by None rest =
        omega (arith, rest, sum_by-cons (λ y. cond {A = ℕ} (is_none y) 1 0) None ends)
    by (Some end) rest =
        omega (arith, rest, sum_by-cons (λ y. cond {A = ℕ} (is_none y) 1 0) (Some end) ends)

-- one that passes isn't below where the search begins
from_here : (ends : List (Option End)) (a k : ℕ) → position_from is_none a ends ≡ Some k → a ≤ k
from_here ends a k e = let found = free_at ends a k e in omega (arith, found.1)

-- the second of those that pass is the lowest once the first is open
pub second_free : (test : ℕ → Bool) (end : End) (ends : List (Option End)) (a i : ℕ)
    → ((j : ℕ) → test (a + j) ≡ is_none (end_at ends j))
    → position_from is_none a ends ≡ Some (a + i)
    → slice_get (filter test (run_of a (length ends))) 1
    ≡ position_from is_none a (slice_set ends i (Some end))
second_free test end [] a i same first = cc
second_free test end (x ∷ ends) a i same first =
    ap (λ b. slice_get
    (cond b (a ∷ filter test (run_of (suc a) (length ends)))
    (filter test (run_of (suc a) (length ends)))) 1) (ap test (omega arith) ∙ same 0)
    ∙ by x i first (first_free test ends (suc a) (λ j. ap test (omega arith) ∙ same (suc j)))
    (λ j. second_free test end ends (suc a) j (λ j. ap test (omega arith) ∙ same (suc j)))
  where
    by : (x : Option End) (i : ℕ) → position_from is_none a (x ∷ ends) ≡ Some (a + i)
        → slice_get (filter test (run_of (suc a) (length ends))) 0
        ≡ position_from is_none (suc a) ends
        → ((j : ℕ) → position_from is_none (suc a) ends ≡ Some (suc a + j)
        → slice_get (filter test (run_of (suc a) (length ends))) 1
        ≡ position_from is_none (suc a) (slice_set ends j (Some end)))
        → slice_get
        (cond (is_none x) (a ∷ filter test (run_of (suc a) (length ends)))
        (filter test (run_of (suc a) (length ends)))) 1
        ≡ position_from is_none a (slice_set (x ∷ ends) i (Some end))
    by None zero first one rest = one ∙ ap (λ k. position_from is_none k ends) (omega arith)
    by None (suc i) first one rest =
        let same : a ≡ a + suc i = cc in absurd (omega (arith, same))
    by (Some y) zero first one rest =
        absurd (omega (arith, from_here ends (a + 1) (a + 0) first))
    by (Some y) (suc i) first one rest =
        rest i (ap (λ k. position_from is_none k ends) (omega arith) ∙ first
        ∙ ap Some (omega arith))
        ∙ ap (λ k. position_from is_none k (slice_set ends i (Some end))) (omega arith)

-- one more is looked at
pub count_more : (o : Option Holdings) (i n m : ℕ) (d : Option End) → i < 32
    → IfSome o (λ h. length h.descriptors ≡ 32)
    → (n ≤ i) × IfSome o (λ h. n ≡ count_by is_none (take i h.descriptors))
    → IfSome o (λ h. d ≡ end_named h i) → m ≡ cond (is_none d) 1 0
    → (n + m ≤ i + 1) × IfSome o (λ h. n + m ≡ count_by is_none (take (i + 1) h.descriptors))
count_more o i n m d low count so_far is one = (by_test (is_none d) one, by o count so_far.1 is)
  where
    by_test : (b : Bool) → m ≡ cond b 1 0 → n + m ≤ i + 1
    by_test true one = omega (arith, so_far.0, one)
    by_test false one = omega (arith, so_far.0, one)

    by : (o : Option Holdings) → IfSome o (λ h. length h.descriptors ≡ 32)
        → IfSome o (λ h. n ≡ count_by is_none (take i h.descriptors))
        → IfSome o (λ h. d ≡ end_named h i)
        → IfSome o (λ h. n + m ≡ count_by is_none (take (i + 1) h.descriptors))
    by None count so_far is = tt
    by (Some h) count so_far is =
        omega (
          arith,
          so_far,
          one,
          more-no is_none h.descriptors i d (omega (arith, count, low))
              (sym (unwrap_or-slice_get h.descriptors i None) ∙ sym is),
        )

-- where one is free there is a lowest
pub some_free : (ends : List (Option End)) → 0 < count_by is_none ends
    → None ≢ position is_none ends
some_free ends some e =
    none ends 0 (sym (e ∙ position_from-zero is_none ends)) some
  where
    none : (ends : List (Option End)) (a : ℕ) → position_from is_none a ends ≡ None
        → 0 < count_by is_none ends → ⊥
    none [] a e some = omega arith
    none (None ∷ ends) a e some = cc
    none (Some end ∷ ends) a e some =
        none ends (a + 1) e
        (omega (arith, some, sum_by-cons (λ y. cond {A = ℕ} (is_none y) 1 0) (Some end) ends))

-- ---- counts where one is set

pub count_set : (test : Option End → Bool) (ends : List (Option End)) (k : ℕ) (end : Option End)
    → k < length ends
    → count_by test (slice_set ends k end) + cond (test (end_at ends k)) 1 0
    ≡ count_by test ends + cond (test end) 1 0
count_set test ends k end within =
    ap (λ x. count_by test (slice_set ends k end) + cond (test x) 1 0)
    (unwrap_or-slice_get ends k None)
    ∙ sum_by-set (λ x. cond {A = ℕ} (test x) 1 0) ends k end None within

-- the ends of all processes
pub ends_set : (test : Option End → Bool) (ps : List Process) (p : ℕ) (h : Holdings) (k : ℕ)
    (end : Option End) → held_in ps p ≡ Some h → k < length h.descriptors
    → ends_of test (changed (on_holdings (with_end k end)) ps p) + cond (test (end_named h k)) 1 0
    ≡ ends_of test ps + cond (test end) 1 0
ends_set test ps p h k end is within =
    omega (
      arith,
      sum_changed (with_end k end) (λ x. count_by test x.descriptors) ps p h is,
      count_set test h.descriptors k end within,
    )

-- Each of at most 32 processes has 32 descriptors.
pub few_ends : (test : Option End → Bool) (ps : List Process)
    → All (λ h. length h.descriptors ≡ 32) (all_holdings ps) → length (all_holdings ps) ≤ 32
    → ends_of test ps ≤ 1024
few_ends test ps all few =
    omega (
      arith,
      few,
      sum_by-le (λ h. count_by test h.descriptors) 32 (all_holdings ps)
          (each (all_holdings ps) all),
    )
  where
    each : (hs : List Holdings) → All (λ h. length h.descriptors ≡ 32) hs
        → All (λ h. count_by test h.descriptors ≤ 32) hs
    each [] all = All-nil (λ h. count_by test h.descriptors ≤ 32)
    each (h ∷ hs) all =
        All-cons (λ h. count_by test h.descriptors ≤ 32) h hs
        (omega (
          arith,
          count_by-le-length test h.descriptors,
          All-head (λ h. length h.descriptors ≡ 32) h hs all,
        ))
        (each hs (All-tail (λ h. length h.descriptors ≡ 32) h hs all))

-- an open descriptor is at a place of the list
pub open_within : (ends : List (Option End)) (i : ℕ) (end : End) → end_at ends i ≡ Some end
    → i < length ends
open_within [] i end e = cc
open_within (x ∷ ends) zero end e = omega arith
open_within (x ∷ ends) (suc i) end e = omega (arith, open_within ends i end e)
