-- The service wait keeps a world standing: the child that it collects has ended. 5.
use Rattle.std.proofs.Common.{ℕ, zero, suc, ◌+◌, ◌^◌, ◌<◌, ◌≡◌, refl, sym, ap, ◌∙◌, subst, Bool}
use Rattle.std.proofs.Common.{true, false, cond, List, [], ◌∷◌, length, Option, Some, None}
use Rattle.std.proofs.Common.{option_and_then, arith}
use Rattle.std.specs.Prelude.{All, IfSome, IsFalse, ◌↔◌, ◌==◌, ◌||◌, ◌&&◌, slice_get, filter}
use Rattle.std.specs.Prelude.{is_some, sum_by, count_by}
use Rattle.std.specs.List.{list_any}
use Rattle.std.proofs.lemmas.Bool.{true≢false, and_parts}
use Rattle.std.proofs.lemmas.List.Elements.{All-cons, All-head, All-tail}
use Rattle.dos_world.specs.Numbered.{numbered, changed_at, places_from, numbers_of}
use Rattle.dos_world.specs.World.{World, Process, Holdings, Life, live, ended, all_holdings}
use Rattle.dos_world.specs.World.{holdings_of, first_of, has_ended, is_child, status_of, owner_of}
use Rattle.dos_world.specs.Counts.{reads_pipe, writes_pipe}
use Rattle.dos_world.specs.Calls.{Call, returns_two}
use Rattle.dos_world.specs.ProcessCalls.{wait, wait_by, children_where, any_process, collected}
use Rattle.dos_world.specs.ProcessCalls.{collected_by, status_at}
use Rattle.dos_world.specs.Lawful.{AreHoldings, IsAlone}
use Rattle.dos_world.specs.declared.Owner.TheVariants.{Free}
use Rattle.dos_world.proofs.Numbers.{length-changed}
use Rattle.dos_laws.specs.Standing.{LawfulWith}
use Rattle.dos_laws.proofs.Holders.{held_by, in_front}
use Rattle.dos_laws.proofs.Stands.{HasStatus}
use Rattle.dos_laws.proofs.StandsHeld.{lawful-laid}
use Rattle.dos_laws.proofs.StandsCalls.{StandsCall, Leaves, law, returns_two_stands, refuses_stands}
use Rattle.dos_laws.proofs.StandsCalls.{retries_stands}

-- ---- who is found

-- a number of those that pass is the place of one that does
pub place_is : {A : Type 0} (test : A → Bool) (n : ℕ) (xs : List A) (k p : ℕ)
    → slice_get (places_from n test xs) k ≡ Some p
    → (j : ℕ) × (x : A) × (p ≡ n + j) × (slice_get xs j ≡ Some x) × (test x ≡ true)
    × (j < length xs)
place_is test n [] k p e = cc
place_is {A} test n (x ∷ xs) k p e =
    by_test (λ i q. place_is test (suc n) xs i p q) (test x) refl k e
  where
    by_test : ((i : ℕ) → slice_get (places_from (suc n) test xs) i ≡ Some p
        → (j : ℕ) × (y : A) × (p ≡ suc n + j) × (slice_get xs j ≡ Some y) × (test y ≡ true)
        × (j < length xs))
        → (b : Bool) → test x ≡ b → (k : ℕ)
        → slice_get (cond b (n ∷ places_from (suc n) test xs) (places_from (suc n) test xs)) k
        ≡ Some p
        → (j : ℕ) × (y : A) × (p ≡ n + j) × (slice_get (x ∷ xs) j ≡ Some y) × (test y ≡ true)
        × (j < length (x ∷ xs))
    by_test rest true is zero q =
        let same : n ≡ p = cc in (0, x, omega (arith, same), refl, is, omega arith)
    by_test rest true is (suc k) q =
        let r = rest k q in (suc r.0, r.1, omega (arith, r.2), r.3, r.4, omega (arith, r.5))
    by_test rest false is k q =
        let r = rest k q in (suc r.0, r.1, omega (arith, r.2), r.3, r.4, omega (arith, r.5))

pub filtered_at : (test : ℕ → Bool) (xs : List ℕ) (k p : ℕ) → slice_get (filter test xs) k ≡ Some p
    → (j : ℕ) × (slice_get xs j ≡ Some p)
filtered_at test [] k p e = cc
filtered_at test (x ∷ xs) k p e = by_test (λ i q. filtered_at test xs i p q) (test x) k e
  where
    by_test : ((i : ℕ) → slice_get (filter test xs) i ≡ Some p
        → (j : ℕ) × (slice_get xs j ≡ Some p))
        → (b : Bool) → (k : ℕ) → slice_get (cond b (x ∷ filter test xs) (filter test xs)) k ≡ Some p
        → (j : ℕ) × (slice_get (x ∷ xs) j ≡ Some p)
    by_test rest true zero q = (0, q)
    by_test rest true (suc k) q = let r = rest k q in (suc r.0, r.1)
    by_test rest false k q = let r = rest k q in (suc r.0, r.1)

-- ---- one that has ended is collected

module _ (w : World) (i : ℕ) (x : Process) (is : slice_get w.processes i ≡ Some x)
    (over : has_ended x ≡ true) where
  abbrev v : World
  v = collected w (suc i)

  none_had : (y : Process) → has_ended y ≡ true → holdings_of y ≡ None
  none_had y e = by_life y.life e
    where
      by_life : (l : Life)
          → elim l as (λ _. Bool) [ live h ↦ false | ended status collected ↦ true ] ≡ true
          → elim l as (λ _. Option Holdings) [ live h ↦ Some h | ended status collected ↦ None ]
          ≡ None
      by_life (live h) e = absurd (true≢false (sym e))
      by_life (ended status was) e = refl

  pub held_same : all_holdings v.processes ≡ all_holdings w.processes
  held_same = at w.processes i is
    where
      at : (ps : List Process) (i : ℕ) → slice_get ps i ≡ Some x
          → all_holdings (changed_at collected_by ps i) ≡ all_holdings ps
      at [] i e = refl
      at (y ∷ ps) zero e =
          let same : y ≡ x = cc in
          sym (ap (λ o. in_front o (all_holdings ps)) (none_had y (ap has_ended same ∙ over)))
      at (y ∷ ps) (suc i) e = ap (in_front (holdings_of y)) (at ps i e)

  lives_same : (q : ℕ) → is_some (held_by v.processes q) ≡ is_some (held_by w.processes q)
  lives_same zero = refl
  lives_same (suc j) = at w.processes i j is
    where
      at : (ps : List Process) (i j : ℕ) → slice_get ps i ≡ Some x
          → is_some (option_and_then holdings_of (slice_get (changed_at collected_by ps i) j))
          ≡ is_some (option_and_then holdings_of (slice_get ps j))
      at [] i j e = refl
      at (y ∷ ps) zero zero e =
          let same : y ≡ x = cc in sym (ap is_some (none_had y (ap has_ended same ∙ over)))
      at (y ∷ ps) zero (suc j) e = refl
      at (y ∷ ps) (suc i) zero e = refl
      at (y ∷ ps) (suc i) (suc j) e = at ps i j e

  parents_same : ((q : ℕ) → IfSome (numbered w.processes q) (λ process. process.parent < q))
      → (q : ℕ) → IfSome (numbered v.processes q) (λ process. process.parent < q)
  parents_same all zero = tt
  parents_same all (suc j) = at (suc j) w.processes i j (all (suc j))
    where
      at : (n : ℕ) (ps : List Process) (i j : ℕ)
          → IfSome (slice_get ps j) (λ process. process.parent < n)
          → IfSome (slice_get (changed_at collected_by ps i) j) (λ process. process.parent < n)
      at n [] i j h = h
      at n (y ∷ ps) zero zero h = h
      at n (y ∷ ps) zero (suc j) h = h
      at n (y ∷ ps) (suc i) zero h = h
      at n (y ∷ ps) (suc i) (suc j) h = at n ps i j h

  statuses_same : (ps : List Process) (i : ℕ) → All HasStatus ps
      → All HasStatus (changed_at collected_by ps i)
  statuses_same [] i all = all
  statuses_same (y ∷ ps) zero all =
      All-cons HasStatus (collected_by y) ps (All-head HasStatus y ps all)
      (All-tail HasStatus y ps all)
  statuses_same (y ∷ ps) (suc i) all =
      All-cons HasStatus y (changed_at collected_by ps i) (All-head HasStatus y ps all)
      (statuses_same ps i (All-tail HasStatus y ps all))

  alone_same : All (λ h. All (IsAlone w) h.space) (all_holdings w.processes)
      → All (λ h. All (IsAlone v) h.space) (all_holdings v.processes)
  alone_same all = by_held (all_holdings v.processes) held_same
    where
      by_held : (hs : List Holdings) → hs ≡ all_holdings w.processes
          → All (λ h. All (λ e. IsFalse e.1.shared
          → sum_by (λ g. count_by (λ d. d.1.frame == e.1.frame) g.space) hs ≡ 1) h.space) hs
      by_held hs same =
          subst
          (λ xs. All
          (λ h. All
          (λ e. IsFalse e.1.shared → sum_by
          (λ g. count_by (λ d. d.1.frame == e.1.frame) g.space) xs ≡ 1) h.space) xs)
          (sym same) all

  pub stands-collected : (ts : List ℕ) → LawfulWith ts w → LawfulWith ts v
  stands-collected ts k = record {
    lawful = lawful-laid w w.owners w.bytes v.processes (record {
      places = refl;
      count = refl;
      range = k.lawful.frames.bytes.1;
      free = λ frame lt.
          subst
          (λ hs. (owner_of w frame ≡ Free) ↔ IsFalse
          (list_any (λ h. list_any (λ e. e.1.frame == frame) h.space) hs)) (sym held_same)
          (k.lawful.frames.free frame lt);
      zeros = k.lawful.frames.zeros;
      owned = k.lawful.frames.owned;
      holdings =
          subst (All (AreHoldings (length w.owners))) (sym held_same) k.lawful.processes.holdings;
      private = alone_same k.lawful.processes.private;
      lives = lives_same;
      parents = parents_same k.lawful.processes.parents;
      statuses = statuses_same w.processes i k.lawful.processes.statuses;
      given = length-changed collected_by w.processes (suc i);
      opens = λ pipe e. ap (λ hs. is_open_in hs pipe) held_same ∙ e;
      limit =
          omega
          (arith, ap (λ (hs : List Holdings). length hs) held_same, k.lawful.limits.processes);
    }) k.lawful;
    awake = k.awake;
    apart = k.apart;
  }
    where
      is_open_in : List Holdings → ℕ → Bool
      is_open_in hs pipe =
          list_any (λ h. list_any (reads_pipe pipe) h.descriptors) hs || list_any
          (λ h. list_any (writes_pipe pipe) h.descriptors) hs

-- ---- the service

status_below : (ps : List Process) (i : ℕ) → All HasStatus ps
    → elim (slice_get ps i) as (λ _. ℕ) [ None ↦ 0 | Some process ↦ status_of process ] < 256
status_below [] i all = omega arith
status_below (x ∷ ps) zero all = All-head HasStatus x ps all
status_below (x ∷ ps) (suc i) all = status_below ps i (All-tail HasStatus x ps all)

module _ (ts : List ℕ) (c : Call) (call : StandsCall ts c) where
  pub wait_stands : Leaves ts c call (wait c)
  wait_stands =
      by_children (first_of (children_where any_process c)) (first_of (children_where has_ended c))
      refl
    where
      test : Process → Bool
      test process = is_child c.process process && has_ended process

      by_children : (a b : Option ℕ) → first_of (children_where has_ended c) ≡ b
          → Leaves ts c call (wait_by a b c)
      by_children None b e = refuses_stands ts c call 10 (omega arith)
      by_children (Some any) None e = retries_stands ts c call
      by_children (Some any) (Some p) e =
          let at =
          filtered_at (λ n. (c.a0 == 0) || (c.a0 == n))
          (numbers_of (λ process. is_child c.process process && has_ended process)
          c.world.processes)
          0 p e in
          let found =
          place_is (λ process. is_child c.process process && has_ended process) 1 c.world.processes
          at.0 p at.1 in
          let ends = and_parts (is_child c.process found.1) (has_ended found.1) found.4 in
          let is : suc found.0 ≡ p = omega (arith, found.2) in
          let l = law ts c call in
          let word : suc found.0 < 2 ^ 32 =
          omega (arith, found.5, l.processes.given.1, l.limits.threads.1) in
          let status : status_at c.world (suc found.0) < 256 =
          status_below c.world.processes found.0 call.stands.lawful.processes.statuses in
          subst
          (λ n. Leaves ts c call (returns_two (collected c.world n) n (status_at c.world n) c)) is
          (returns_two_stands ts c call (collected c.world (suc found.0)) (suc found.0)
          (status_at c.world (suc found.0)) word (omega (arith, status))
          (stands-collected c.world found.0 found.1 found.3 ends.1 (c.thread ∷ ts) call.stands))
