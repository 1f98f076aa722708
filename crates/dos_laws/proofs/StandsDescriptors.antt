-- The services of descriptors but for read and write keep a world standing: 6, 9, 10.
use Rattle.std.proofs.Common.{ℕ, zero, suc, ◌+◌, ◌^◌, ◌<◌, ◌≤◌, ◌≡◌, ◌≢◌, refl, sym, ap, ◌∙◌, subst}
use Rattle.std.proofs.Common.{Bool, true, false, cond, not, List, [], ◌∷◌, length, Option, Some}
use Rattle.std.proofs.Common.{None, arith, length-set}
use Rattle.std.specs.Prelude.{All, slice_get, slice_set, unwrap_or, count_by, filter}
use Rattle.std.specs.Prelude.{is_none}
use Rattle.std.proofs.lemmas.Bool.{false≢true}
use Rattle.std.proofs.lemmas.List.Sums.{sum_by-cons}
use Rattle.std.proofs.lemmas.List.Elements.{All-head, All-tail, All-set}
use Rattle.dos_world.specs.Numbered.{run_of}
use Rattle.dos_world.specs.World.{World, Holdings, live_process}
use Rattle.dos_world.specs.World.{with_holdings, first_of}
use Rattle.dos_world.specs.Counts.{is_open, reads_pipe, writes_pipe, tidied}
use Rattle.dos_world.specs.Play.{Play}
use Rattle.dos_world.specs.Calls.{Call, Served, returns_in, refuses}
use Rattle.dos_world.specs.DescriptorCalls.{pipe, pipe_by, close, dup, dup_by, descriptor}
use Rattle.dos_world.specs.DescriptorCalls.{descriptor_at, descriptors_of, with_end}
use Rattle.dos_world.specs.DescriptorCalls.{with_descriptor, free_descriptors, second_of}
use Rattle.dos_world.specs.DescriptorCalls.{lowest_pipe}
use Rattle.dos_world.specs.Lawful.{AreHoldings, IsAlone, IsEnd}
use Rattle.dos_world.specs.declared.End.{End}
use Rattle.dos_world.specs.declared.End.TheVariants.{PipeRead, PipeWrite}
use Rattle.dos_world.proofs.UsualCalls.{held_all}
use Rattle.dos_laws.specs.Standing.{LawfulWith}
use Rattle.dos_laws.proofs.Holders.{has_changed}
use Rattle.dos_laws.proofs.StandsMasks.{found_in}
use Rattle.dos_laws.proofs.Fewer.{less_held}
use Rattle.dos_laws.proofs.StandsTidy.{IsLess, lawful-tidied}
use Rattle.dos_laws.proofs.StandsHeld.{stands-with_holdings, alone}
use Rattle.dos_laws.proofs.StandsCalls.{StandsCall, Leaves, law, held, held_is, returns_in_stands}
use Rattle.dos_laws.proofs.StandsCalls.{returns_two_stands, refuses_stands}

-- ---- a descriptor that is set

abbrev end_at : List (Option End) → ℕ → Option End
end_at ends k = unwrap_or (slice_get ends k) None

end_is : (ends : List (Option End)) (k : ℕ) → All IsEnd ends → IsEnd (end_at ends k)
end_is [] k all = tt
end_is (x ∷ xs) zero all = All-head IsEnd x xs all
end_is (x ∷ xs) (suc k) all = end_is xs k (All-tail IsEnd x xs all)

-- Where a free one is set, no end is lost.
no_fewer : (test : Option End → Bool) → test None ≡ false
    → (ends : List (Option End)) (k : ℕ) (end : Option End) → end_at ends k ≡ None
    → count_by test ends ≤ count_by test (slice_set ends k end)
no_fewer test none [] k end free = omega arith
no_fewer test none (x ∷ xs) zero end free =
    let before : count_by test (x ∷ xs) ≡ cond (test x) 1 0 + count_by test xs =
    sum_by-cons (λ y. cond {A = ℕ} (test y) 1 0) x xs in
    let after : count_by test (end ∷ xs) ≡ cond (test end) 1 0 + count_by test xs =
    sum_by-cons (λ y. cond {A = ℕ} (test y) 1 0) end xs in
    let was : cond {A = ℕ} (test x) 1 0 ≡ 0 = ap (λ b. cond {A = ℕ} b 1 0) (ap test free ∙ none) in
    omega (arith, before, after, was)
no_fewer test none (x ∷ xs) (suc k) end free =
    let before : count_by test (x ∷ xs) ≡ cond (test x) 1 0 + count_by test xs =
    sum_by-cons (λ y. cond {A = ℕ} (test y) 1 0) x xs in
    let after : count_by test (x ∷ slice_set xs k end) ≡ cond (test x) 1 0 + count_by test
    (slice_set xs k end) =
    sum_by-cons (λ y. cond {A = ℕ} (test y) 1 0) x (slice_set xs k end) in
    omega (arith, before, after, no_fewer test none xs k end free)

-- what a process has, with a free descriptor set
pub set_keeps : (w : World) (p : ℕ) (h : Holdings) (k : ℕ) (end : Option End)
    → live_process w p ≡ Some h → end_at h.descriptors k ≡ None → IsEnd end → (ts : List ℕ)
    → LawfulWith ts w → LawfulWith ts (with_holdings w p (with_end k end))
set_keeps w p h k end is free range ts s =
    let are : AreHoldings (length w.owners) h =
    held_all (AreHoldings (length w.owners)) w.processes p h s.lawful.processes.holdings is in
    stands-with_holdings w p h (with_end k end) (record {
      is = is;
      are = record {
        actions = are.actions;
        descriptors = (
          length-set h.descriptors k end
              ∙ are.descriptors.0,
          All-set IsEnd h.descriptors k end range are.descriptors.1,
        );
        rising = are.rising;
        pages = are.pages;
        apart = are.apart;
      };
      frames = λ frame. refl;
      alone = held_all (λ x. All (IsAlone w) x.space) w.processes p h s.lawful.processes.private is;
      reads = λ pipe. no_fewer (reads_pipe pipe) refl h.descriptors k end free;
      writes = λ pipe. no_fewer (writes_pipe pipe) refl h.descriptors k end free;
    }) ts s

-- ---- the free ones

-- what is at a place of those that pass, passes, and is one of the run
passes_at : (test : ℕ → Bool) (a n k x : ℕ) → slice_get (filter test (run_of a n)) k ≡ Some x
    → (test x ≡ true) × (a ≤ x)
passes_at test a zero k x e = cc
passes_at test a (suc n) k x e = by_test (λ j q. passes_at test (suc a) n j x q) (test a) refl k e
  where
    by_test : ((j : ℕ) → slice_get (filter test (run_of (suc a) n)) j ≡ Some x
        → (test x ≡ true) × (suc a ≤ x))
        → (b : Bool) → test a ≡ b → (k : ℕ)
        → slice_get (cond b (a ∷ filter test (run_of (suc a) n)) (filter test (run_of (suc a) n))) k
        ≡ Some x
        → (test x ≡ true) × (a ≤ x)
    by_test rest true is zero q = let same : a ≡ x = cc in (ap test (sym same) ∙ is, omega arith)
    by_test rest true is (suc k) q = let r = rest k q in (r.0, omega (arith, r.1))
    by_test rest false is k q = let r = rest k q in (r.0, omega (arith, r.1))

-- the first is below the second
first_below : (test : ℕ → Bool) (a n x y : ℕ) → slice_get (filter test (run_of a n)) 0 ≡ Some x
    → slice_get (filter test (run_of a n)) 1 ≡ Some y → x < y
first_below test a zero x y e f = cc
first_below test a (suc n) x y e f =
    by_test (first_below test (suc a) n x y) (λ q. passes_at test (suc a) n 0 y q) (test a) e f
  where
    by_test : (slice_get (filter test (run_of (suc a) n)) 0 ≡ Some x
        → slice_get (filter test (run_of (suc a) n)) 1 ≡ Some y → x < y)
        → (slice_get (filter test (run_of (suc a) n)) 0 ≡ Some y → (test y ≡ true) × (suc a ≤ y))
        → (b : Bool)
        → slice_get (cond b (a ∷ filter test (run_of (suc a) n)) (filter test (run_of (suc a) n))) 0
        ≡ Some x
        → slice_get (cond b (a ∷ filter test (run_of (suc a) n)) (filter test (run_of (suc a) n))) 1
        ≡ Some y
        → x < y
    by_test rest later true q r =
        let same : a ≡ x = cc in let after = later r in omega (arith, same, after.1)
    by_test rest later false q r = rest q r

none_is : (o : Option End) → is_none o ≡ true → o ≡ None
none_is None e = refl
none_is (Some x) e = absurd (false≢true e)

-- another place of a list that is set
set_other : (ends : List (Option End)) (i j : ℕ) (end : Option End) → i ≢ j
    → end_at (slice_set ends i end) j ≡ end_at ends j
set_other [] i j end other = refl
set_other (x ∷ xs) zero zero end other = absurd (other refl)
set_other (x ∷ xs) zero (suc j) end other = refl
set_other (x ∷ xs) (suc i) zero end other = refl
set_other (x ∷ xs) (suc i) (suc j) end other = set_other xs i j end (λ e. other (ap suc e))

module _ (ts : List ℕ) (c : Call) (call : StandsCall ts c) where
  abbrev h : Holdings
  h = (held ts c call).0

  ends_are : descriptors_of c ≡ h.descriptors
  ends_are =
      ap (λ o. elim o as (λ _. List (Option End)) [ None ↦ [] | Some x ↦ x.descriptors ])
      (held ts c call).1

  -- a free one is none of those that are open, and a number below 32
  free_is : (k x : ℕ) → slice_get (free_descriptors c) k ≡ Some x → end_at h.descriptors x ≡ None
  free_is k x e =
      let r =
      passes_at (λ number. is_none (descriptor_at c number)) 0 (length (descriptors_of c)) k x e in
      ap (λ ends. end_at ends x) (sym ends_are) ∙ none_is (descriptor_at c x) r.0

  free_word : (k x : ℕ) → slice_get (free_descriptors c) k ≡ Some x → x < 2 ^ 32
  free_word k x e =
      let r =
      below_run (λ number. is_none (descriptor_at c number)) 0 (length (descriptors_of c)) k x e in
      let count : length (descriptors_of c) ≡ 32 =
      ap (λ (ends : List (Option End)). length ends) ends_are ∙ (held_is ts c call).descriptors.0 in
      omega (arith, r, count)
    where
      below_run : (test : ℕ → Bool) (a n k x : ℕ) → slice_get (filter test (run_of a n)) k ≡ Some x
          → x < a + n
      below_run test a zero k x e = cc
      below_run test a (suc n) k x e = by_test (λ j q. below_run test (suc a) n j x q) (test a) k e
        where
          by_test : ((j : ℕ) → slice_get (filter test (run_of (suc a) n)) j ≡ Some x
              → x < suc a + n)
              → (b : Bool) → (k : ℕ)
              → slice_get
              (cond b (a ∷ filter test (run_of (suc a) n)) (filter test (run_of (suc a) n))) k
              ≡ Some x
              → x < a + suc n
          by_test rest true zero q = let same : a ≡ x = cc in omega (arith, same)
          by_test rest true (suc k) q = omega (arith, rest k q)
          by_test rest false k q = omega (arith, rest k q)

  descriptor_is : IsEnd (descriptor c)
  descriptor_is =
      subst (λ ends. IsEnd (end_at ends c.a0)) (sym ends_are)
      (end_is h.descriptors c.a0 (held_is ts c call).descriptors.1)

  pub dup_stands : Leaves ts c call (dup c)
  dup_stands = by_end (descriptor c) descriptor_is (first_of (free_descriptors c)) refl
    where
      by_end : (o : Option End) → IsEnd o → (f : Option ℕ) → first_of (free_descriptors c) ≡ f
          → Leaves ts c call (dup_by o f c)
      by_end None range f e = refuses_stands ts c call 9 (omega arith)
      by_end (Some end) range None e = refuses_stands ts c call 24 (omega arith)
      by_end (Some end) range (Some number) e =
          returns_in_stands ts c call (with_descriptor c c.world number (Some end)) number
          (free_word 0 number e)
          (set_keeps c.world c.process h number (Some end) (held ts c call).1 (free_is 0 number e)
          range (c.thread ∷ ts) call.stands)

  pub pipe_stands : Leaves ts c call (pipe c)
  pipe_stands =
      by_free (first_of (free_descriptors c)) refl (second_of (free_descriptors c)) refl
      (lowest_pipe c.world) refl
    where
      by_free : (a : Option ℕ) → first_of (free_descriptors c) ≡ a → (b : Option ℕ)
          → second_of (free_descriptors c) ≡ b → (p : Option ℕ) → lowest_pipe c.world ≡ p
          → Leaves ts c call (pipe_by a b p c)
      by_free None e b f p g = refuses_stands ts c call 24 (omega arith)
      by_free (Some a) e None f p g = refuses_stands ts c call 24 (omega arith)
      by_free (Some a) e (Some b) f None g = refuses_stands ts c call 24 (omega arith)
      by_free (Some a) e (Some b) f (Some p) g =
          let one : World = with_descriptor c c.world a (Some (PipeRead p)) in
          let within = found_in (λ n. not (is_open c.world n)) 0 64 p g in
          let few : p < 64 = omega (arith, within.1) in
          let apart : a < b =
          first_below (λ number. is_none (descriptor_at c number)) 0 (length (descriptors_of c)) a b
          e f in
          let stands_one : LawfulWith (c.thread ∷ ts) one =
          set_keeps c.world c.process h a (Some (PipeRead p)) (held ts c call).1 (free_is 0 a e) few
          (c.thread ∷ ts) call.stands in
          let now : live_process one c.process ≡ Some (with_end a (Some (PipeRead p)) h) =
          has_changed (with_end a (Some (PipeRead p))) c.world.processes c.process h
          (held ts c call).1 in
          let still : end_at (with_end a (Some (PipeRead p)) h).descriptors b ≡ None =
          set_other h.descriptors a b (Some (PipeRead p))
          (λ same. absurd (omega (arith, apart, same)))
          ∙ free_is 1 b f in
          returns_two_stands ts c call (with_descriptor c one b (Some (PipeWrite p))) a b
          (free_word 0 a e) (free_word 1 b f)
          (set_keeps one c.process (with_end a (Some (PipeRead p)) h) b
          (Some (PipeWrite p)) now still few (c.thread ∷ ts) stands_one)

  -- ---- 9

  abbrev shut : World
  shut = with_descriptor c c.world c.a0 None

  less_open : IsLess c.world shut
  less_open =
      let is = held_is ts c call in
      less_held c.world c.process (with_end c.a0 None) h (held ts c call).1 (λ frame. omega arith)
      (record {
        actions = is.actions;
        descriptors = (
          length-set h.descriptors c.a0 None ∙ is.descriptors.0,
          All-set IsEnd h.descriptors c.a0 None tt is.descriptors.1,
        );
        rising = is.rising;
        pages = is.pages;
        apart = is.apart;
      })
      (alone ts c call) (law ts c call)

  pub close_stands : Leaves ts c call (close c)
  close_stands = by_end (descriptor c)
    where
      by_end : (o : Option End)
          → Leaves ts c call
          (elim o as (λ _. Play Served) [
            | None ↦ refuses 9 c
            | Some end ↦ returns_in (tidied (with_descriptor c c.world c.a0 None)) 0 c
          ])
      by_end None = refuses_stands ts c call 9 (omega arith)
      by_end (Some end) = returns_in_stands ts c call (tidied shut) 0 (omega arith) (record {
        lawful = lawful-tidied c.world shut less_open (law ts c call);
        awake = call.stands.awake;
        apart = call.stands.apart;
      })
