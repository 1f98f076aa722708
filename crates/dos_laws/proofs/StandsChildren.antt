-- A child, with a copy of its parent's space, keeps a world standing: 4.
use Rattle.std.proofs.Common.{ℕ, zero, suc, ◌+◌, ◌<◌, ◌≤◌, ◌≡◌, ◌≢◌, ◌⊎◌, inl, inr, refl, sym, ap}
use Rattle.std.proofs.Common.{◌∙◌, subst, Bool, true, false, cond, not, List, [], ◌∷◌, ◌++◌, length}
use Rattle.std.proofs.Common.{Option, Some, None, Ok, Err, option_and_then, arith, length-append}
use Rattle.std.proofs.Common.{eq-eqb}
use Rattle.std.specs.Prelude.{All, IfSome, IsTrue, IsFalse, ◌↔◌, ◌==◌, ◌&&◌, nat_lt, nat_le}
use Rattle.std.specs.Prelude.{slice_get, slice_index_or, is_some, sum_by}
use Rattle.std.specs.List.{list_any}
use Rattle.std.specs.List.Sorted.{IsStrictlyIncreasing}
use Rattle.std.proofs.lemmas.Bool.{true≢false, or_cases, or_left, or_right, or_parts, leb-false}
use Rattle.std.proofs.lemmas.Bool.{ltb-false}
use Rattle.std.proofs.lemmas.List.Sums.{sum_by_push, get_or-le-sum_by}
use Rattle.std.proofs.lemmas.List.Elements.{All-nil, All-cons, All-append}
use Rattle.dos_world.specs.Numbered.{numbered, places_from, numbers_of}
use Rattle.dos_world.specs.World.{World, Process, Holdings, Thread, all_holdings, live_process}
use Rattle.dos_world.specs.World.{thread_at, threads_of, holdings_of, owner_of, belongs_to}
use Rattle.dos_world.specs.World.{released, live_threads}
use Rattle.dos_world.specs.Counts.{is_mapped, uses_of, is_open, has_reader, has_writer, reads_pipe}
use Rattle.dos_world.specs.Counts.{writes_pipe, free_frames}
use Rattle.dos_world.specs.Kernel.{answered}
use Rattle.dos_world.specs.Calls.{Call, replies}
use Rattle.dos_world.specs.ThreadCalls.{next_thread, with_new_thread, are_threads_full}
use Rattle.dos_world.specs.ProcessCalls.{fork, forked_by, copied_space, private_entries}
use Rattle.dos_world.specs.ProcessCalls.{next_process, child_thread, child_process, with_child}
use Rattle.dos_world.specs.ProcessCalls.{are_processes_full}
use Rattle.dos_world.specs.Lawful.{Lawful, IsThread, AreHoldings, IsAlone, IsPage, IsSleeper}
use Rattle.dos_world.specs.Lawful.{turns_asleep}
use Rattle.dos_world.specs.declared.Entry.{Entry}
use Rattle.dos_world.specs.declared.End.{End}
use Rattle.dos_world.specs.declared.Owner.{Owner}
use Rattle.dos_world.specs.declared.Owner.TheVariants.{Free, Shared, Of}
use Rattle.dos_world.proofs.UsualCalls.{held_all}
use Rattle.dos_laws.specs.Standing.{LawfulWith}
use Rattle.dos_laws.proofs.Mapped.{space_taken, IsTaken}
use Rattle.dos_laws.proofs.NewThread.{each_more, seen_more, some_pass, one_more}
use Rattle.dos_laws.proofs.RegisterRanges.{answered_ranges, with_held_ranges}
use Rattle.dos_laws.proofs.Holders.{held_by, in_front, any_counts, counts_any}
use Rattle.dos_laws.proofs.Spaces.{OtherFrame, pairs_from, pairs_to, uses_in, used_at}
use Rattle.dos_laws.proofs.Stands.{awake_by, HasStatus}
use Rattle.dos_laws.proofs.StandsThreads.{more_awake, ready_is}
use Rattle.dos_laws.proofs.StandsFrames.{free_unused, none_of_sum}
use Rattle.dos_laws.proofs.StandsForks.{IsCopied, copied_is, copied_space_moved, privates, shareds}
use Rattle.dos_laws.proofs.StandsForks.{sum_split, uses_split, apart_from_uses, uses_from_apart}
use Rattle.dos_laws.proofs.StandsCalls.{StandsCall, Leaves, law, held, held_is, caller_is}
use Rattle.dos_laws.proofs.StandsCalls.{process_within, returns_in_stands, refuses_stands}

-- ---- one more at the end

pub all_holdings-push : (ps : List Process) (x : Process) (h : Holdings) → holdings_of x ≡ Some h
    → all_holdings (ps ++ x ∷ []) ≡ all_holdings ps ++ h ∷ []
all_holdings-push [] x h e = ap (λ o. in_front o []) e
all_holdings-push (y ∷ ps) x h e =
    ap (in_front (holdings_of y)) (all_holdings-push ps x h e) ∙ front (holdings_of y)
  where
    front : (o : Option Holdings)
        → in_front o (all_holdings ps ++ h ∷ []) ≡ in_front o (all_holdings ps) ++ h ∷ []
    front None = refl
    front (Some g) = refl

any-push : {A : Type 0} (test : A → Bool) (xs : List A) (y : A) → list_any test xs ≡ true
    → list_any test (xs ++ y ∷ []) ≡ true
any-push test [] y e = absurd (true≢false (sym e))
any-push test (x ∷ xs) y e = by_first (any-push test xs y) (or_cases (test x) (list_any test xs) e)
  where
    by_first : (list_any test xs ≡ true → list_any test (xs ++ y ∷ []) ≡ true)
        → (test x ≡ true) ⊎ (list_any test xs ≡ true) → list_any test (x ∷ xs ++ y ∷ []) ≡ true
    by_first rest (inl here) = or_left (test x) (list_any test (xs ++ y ∷ [])) here
    by_first rest (inr there) = or_right (test x) (list_any test (xs ++ y ∷ [])) (rest there)

-- the one of a number: as before, or the new one
numbered-push : {A : Type 0} (xs : List A) (y : A) (q : ℕ)
    → (numbered (xs ++ y ∷ []) q ≡ numbered xs q)
    ⊎ ((q ≡ suc (length xs)) × (numbered (xs ++ y ∷ []) q ≡ Some y))
numbered-push xs y zero = inl refl
numbered-push {A} xs y (suc i) = at xs i
  where
    abbrev_free : (xs : List A) (i : ℕ)
        → (slice_get (xs ++ y ∷ []) i ≡ slice_get xs i)
        ⊎ ((i ≡ length xs) × (slice_get (xs ++ y ∷ []) i ≡ Some y))
    abbrev_free [] zero = inr (refl, refl)
    abbrev_free [] (suc i) = inl refl
    abbrev_free (x ∷ xs) zero = inl refl
    abbrev_free (x ∷ xs) (suc i) = later (abbrev_free xs i)
      where
        later :
            (slice_get (xs ++ y ∷ []) i ≡ slice_get xs i)
            ⊎ ((i ≡ length xs) × (slice_get (xs ++ y ∷ []) i ≡ Some y))
            → (slice_get (x ∷ xs ++ y ∷ []) (suc i) ≡ slice_get (x ∷ xs) (suc i))
            ⊎ ((suc i ≡ length (x ∷ xs)) × (slice_get (x ∷ xs ++ y ∷ []) (suc i) ≡ Some y))
        later (inl same) = inl same
        later (inr last) = inr (ap suc last.0, last.1)

    at : (xs : List A) (i : ℕ)
        → (slice_get (xs ++ y ∷ []) i ≡ slice_get xs i)
        ⊎ ((suc i ≡ suc (length xs)) × (slice_get (xs ++ y ∷ []) i ≡ Some y))
    at xs i = by_place (abbrev_free xs i)
      where
        by_place :
            (slice_get (xs ++ y ∷ []) i ≡ slice_get xs i)
            ⊎ ((i ≡ length xs) × (slice_get (xs ++ y ∷ []) i ≡ Some y))
            → (slice_get (xs ++ y ∷ []) i ≡ slice_get xs i)
            ⊎ ((suc i ≡ suc (length xs)) × (slice_get (xs ++ y ∷ []) i ≡ Some y))
        by_place (inl same) = inl same
        by_place (inr last) = inr (ap suc last.0, last.1)

-- who lived lives
lives-push : (ps : List Process) (x : Process) (q : ℕ) → IsTrue (is_some (held_by ps q))
    → IsTrue (is_some (held_by (ps ++ x ∷ []) q))
lives-push ps x zero e = e
lives-push ps x (suc i) e = at ps i e
  where
    at : (ps : List Process) (i : ℕ)
        → IsTrue (is_some (option_and_then holdings_of (slice_get ps i)))
        → IsTrue (is_some (option_and_then holdings_of (slice_get (ps ++ x ∷ []) i)))
    at [] i e = absurd (true≢false (sym e))
    at (y ∷ ps) zero e = e
    at (y ∷ ps) (suc i) e = at ps i e

last-push : {A : Type 0} (xs : List A) (y : A) → numbered (xs ++ y ∷ []) (length xs + 1) ≡ Some y
last-push {A} xs y =
    let same : suc (length xs) ≡ length xs + 1 = omega arith in
    subst (λ n. numbered (xs ++ y ∷ []) n ≡ Some y) same (at xs)
  where
    at : (xs : List A) → slice_get (xs ++ y ∷ []) (length xs) ≡ Some y
    at [] = refl
    at (x ∷ xs) = at xs

-- a test that the last passes isn't passed by none
last_passes : {A : Type 0} (test : A → Bool) (n : ℕ) (xs : List A) (y : A) → test y ≡ true
    → places_from n test (xs ++ y ∷ []) ≢ []
last_passes test n [] y e = subst (λ b. cond b (n ∷ []) [] ≢ []) (sym e) (λ none. cc)
last_passes test n (x ∷ xs) y e = by_first (test x) (last_passes test (suc n) xs y e)
  where
    by_first : (b : Bool) → places_from (suc n) test (xs ++ y ∷ []) ≢ []
        → cond b (n ∷ places_from (suc n) test (xs ++ y ∷ []))
        (places_from (suc n) test (xs ++ y ∷ [])) ≢ []
    by_first true rest none = cc
    by_first false rest none = rest none

owner_cases : (o : Owner) → (o ≡ Free) ⊎ (o ≡ Free → ⊥)
owner_cases Free = inl refl
owner_cases Shared = inr (λ e. cc)
owner_cases (Of t) = inr (λ e. cc)

module _ (ts : List ℕ) (c : Call) (call : StandsCall ts c) where
  abbrev w : World
  w = c.world

  abbrev h : Holdings
  h = (held ts c call).0

  abbrev t : ℕ
  t = next_thread w

  abbrev copy : World × List (ℕ × Entry)
  copy = copied_space w t h.space

  abbrev child : Process
  child = child_process c h copy.1

  abbrev new_thread : Thread
  new_thread = child_thread w call.caller

  -- the world with other owners and bytes, with the child
  abbrev v : World
  v =
      record
      (with_new_thread (record w { owners = copy.0.owners; bytes = copy.0.bytes }) new_thread)
      { processes = w.processes ++ child ∷ [] }

  module _ (room : are_processes_full w.processes w.threads ≡ false)
      (frames : private_entries h.space ≤ free_frames w) where
    l : Lawful w
    l = law ts c call

    is : live_process w c.process ≡ Some h
    is = (held ts c call).1

    were : AreHoldings (length w.owners) h
    were = held_is ts c call

    taken_frames : All (λ e. owner_of w e.1.frame ≢ Free) h.space
    taken_frames k d lt =
        let all =
        subst
        (λ o. All (λ e. IsTaken w e.1.frame)
        (elim o as (λ _. List (ℕ × Entry)) [ None ↦ [] | Some x ↦ x.space ])) is
        (space_taken w c.process l) in
        (all k d lt).owner

    copied : IsCopied w t h.space copy
    copied =
        copied_is w t h.space
        (record {
          bytes = l.frames.bytes.0;
          range = l.frames.bytes.1;
          room = frames;
          pages =
              were.pages;
          used = taken_frames;
          zeros = l.frames.zeros;
        })

    held_new : all_holdings v.processes ≡ all_holdings w.processes ++ record h
        { space = copy.1 } ∷ []
    held_new = all_holdings-push w.processes child (record h { space = copy.1 }) refl

    uses_new : (g : ℕ) → uses_of v g ≡ uses_of w g + uses_in g copy.1
    uses_new g =
        ap (λ hs. sum_by (λ x. uses_in g x.space) hs) held_new
        ∙ sum_by_push (λ x. uses_in g x.space) (all_holdings w.processes)
        (record h { space = copy.1 })

    used_mapped : (x : World) (g : ℕ) → 0 < uses_of x g → is_mapped x g ≡ true
    used_mapped x g used =
        counts_any (λ (e : ℕ × Entry). e.1.frame == g) (λ (y : Holdings). y.space)
        (all_holdings x.processes) used

    mapped_used : (x : World) (g : ℕ) → is_mapped x g ≡ true → 0 < uses_of x g
    mapped_used x g e =
        any_counts (λ (y : ℕ × Entry). y.1.frame == g) (λ (y : Holdings). y.space)
        (all_holdings x.processes) e

    unmapped_by : (x : World) (g : ℕ) → uses_of x g ≡ 0 → is_mapped x g ≡ false
    unmapped_by x g none = by_mapped (is_mapped x g) refl
      where
        by_mapped : (b : Bool) → is_mapped x g ≡ b → b ≡ false
        by_mapped true e = absurd (omega (arith, none, mapped_used x g e))
        by_mapped false e = refl

    -- a frame that has an owner is used
    used_by : (g : ℕ) → g < length w.owners → owner_of w g ≢ Free → 0 < uses_of w g
    used_by g lt taken = by_mapped (is_mapped w g) refl
      where
        by_mapped : (b : Bool) → is_mapped w g ≡ b → 0 < uses_of w g
        by_mapped true e = mapped_used w g e
        by_mapped false e = absurd (taken ((l.frames.free g lt).1 e))

    free_new : (g : ℕ) → g < length w.owners → (owner_of v g ≡ Free) ↔ IsFalse (is_mapped v g)
    free_new g lt = by_owner (owner_cases (owner_of w g))
      where
        by_fresh : owner_of w g ≡ Free
            → ((owner_of copy.0 g ≡ Free) × (uses_in g copy.1 ≡ 0))
            ⊎ ((owner_of copy.0 g ≡ Of t) × (uses_in g copy.1 ≡ 1))
            → (owner_of v g ≡ Free) ↔ IsFalse (is_mapped v g)
        by_fresh free (inl none) = (
          (λ e. unmapped_by v g (omega (arith, uses_new g, none.1, free_unused w g l lt free))),
          λ e. none.0,
        )
        by_fresh free (inr one) = (
          (λ e. let both : Of t ≡ Free = sym one.0 ∙ e in cc),
          (λ e. absurd (true≢false (sym (used_mapped v g (omega (arith, uses_new g, one.1))) ∙ e))),
        )

        by_owner : (owner_of w g ≡ Free) ⊎ (owner_of w g ≡ Free → ⊥)
            → (owner_of v g ≡ Free) ↔ IsFalse (is_mapped v g)
        by_owner (inl free) = by_fresh free (copied.fresh g free)
        by_owner (inr taken) = let was = copied.taken g taken in (
          (λ e. absurd (taken (sym was.0 ∙ e))),
          (λ e. absurd (true≢false
              (sym (used_mapped v g (omega (arith, uses_new g, used_by g lt taken)))
              ∙ e))),
        )

    owned_new : (g s : ℕ) → owner_of v g ≡ Of s → (1 ≤ s) × (s ≤ length w.threads + 1)
    owned_new g s e = by_owner (owner_cases (owner_of w g))
      where
        by_fresh :
            ((owner_of copy.0 g ≡ Free) × (uses_in g copy.1 ≡ 0))
            ⊎ ((owner_of copy.0 g ≡ Of t) × (uses_in g copy.1 ≡ 1))
            → (1 ≤ s) × (s ≤ length w.threads + 1)
        by_fresh (inl none) = let both : Free ≡ Of s = sym none.0 ∙ e in cc
        by_fresh (inr one) =
            let both : Of t ≡ Of s = sym one.0 ∙ e in
            let same : t ≡ s = cc in (omega (arith, same), omega (arith, same))

        by_owner : (owner_of w g ≡ Free) ⊎ (owner_of w g ≡ Free → ⊥)
            → (1 ≤ s) × (s ≤ length w.threads + 1)
        by_owner (inl free) = by_fresh (copied.fresh g free)
        by_owner (inr taken) =
            let was = l.frames.owned g s (sym (copied.taken g taken).0 ∙ e) in
            (was.0, omega (arith, was.1))

    -- no frame stands twice in the copy
    once : (g : ℕ) → uses_in g copy.1 ≤ 1
    once g = by_owner (owner_cases (owner_of w g))
      where
        by_fresh :
            ((owner_of copy.0 g ≡ Free) × (uses_in g copy.1 ≡ 0))
            ⊎ ((owner_of copy.0 g ≡ Of t) × (uses_in g copy.1 ≡ 1))
            → uses_in g copy.1 ≤ 1
        by_fresh (inl none) = omega (arith, none.1)
        by_fresh (inr one) = omega (arith, one.1)

        by_owner : (owner_of w g ≡ Free) ⊎ (owner_of w g ≡ Free → ⊥) → uses_in g copy.1 ≤ 1
        by_owner (inl free) = by_fresh (copied.fresh g free)
        by_owner (inr taken) =
            let was = copied.taken g taken in
            omega (
              arith,
              was.1,
              uses_split g h.space,
              uses_from_apart h.space (pairs_from OtherFrame h.space were.apart) g,
            )

    child_is : AreHoldings (length w.owners) (record h { space = copy.1 })
    child_is = record {
      actions = were.actions;
      descriptors = were.descriptors;
      rising = subst IsStrictlyIncreasing (sym copied.numbers) were.rising;
      pages = copied.pages;
      apart = pairs_to OtherFrame copy.1 (apart_from_uses copy.1 once);
    }

    -- a private entry of before is still the only one
    alone_still : All (λ x. All (IsAlone v) x.space) (all_holdings w.processes)
    alone_still k d lt i e less private =
        let x : Holdings = slice_index_or (all_holdings w.processes) k d in
        let entry : ℕ × Entry = slice_index_or x.space i e in
        let g : ℕ = entry.1.frame in
        let was : uses_of w g ≡ 1 = l.processes.private k d lt i e less private in
        let in_range : IsPage (length w.owners) entry =
        (l.processes.holdings k d lt).pages i e less in
        let taken : owner_of w g ≢ Free =
        λ free. absurd (omega (arith, was, free_unused w g l in_range.2 free)) in
        let one : cond ((entry.1.frame == g) && not entry.1.shared) 1 0 ≤ privates g x.space =
        get_or-le-sum_by (λ y. cond ((y.1.frame == g) && not y.1.shared) 1 0) x.space i e less in
        let itself : ◌≡◌ {A = ℕ} (cond ((entry.1.frame == g) && not entry.1.shared) 1 0) 1 =
        ap (λ b. cond {A = ℕ} (b && not entry.1.shared) 1 0) (eq-eqb g g refl)
        ∙ ap (λ s. cond {A = ℕ} (not s) 1 0) private in
        let here : privates g x.space ≤ sum_by (λ y. privates g y.space)
        (all_holdings w.processes) =
        get_or-le-sum_by (λ y. privates g y.space) (all_holdings w.processes) k d lt in
        let no_shared : sum_by (λ y. shareds g y.space) (all_holdings w.processes) ≡ 0 =
        omega (arith, was, sum_split g (all_holdings w.processes), one, itself, here) in
        let none : shareds g h.space ≡ 0 =
        held_all (λ y. shareds g y.space ≡ 0) w.processes c.process h
        (none_of_sum (λ y. shareds g y.space) (all_holdings w.processes) no_shared) is in
        let copies = copied.taken g taken in
        omega (arith, uses_new g, was, copies.1, none)

    alone_child : All (IsAlone v) copy.1
    alone_child k d lt private =
        let e : ℕ × Entry = slice_index_or copy.1 k d in
        let g : ℕ = e.1.frame in
        let free : owner_of w g ≡ Free = copied.private k d lt private in
        let in_range : IsPage (length w.owners) e = copied.pages k d lt in
        let used : 0 < uses_in g copy.1 =
        used_at (λ x. 0 < uses_in x.1.frame copy.1) copy.1 (λ x positive. positive) k d lt in
        omega (arith, uses_new g, free_unused w g l in_range.2 free, once g, used)

    live_new : IsTrue (is_some (held_by v.processes (next_process w)))
    live_new = ap (λ o. is_some (option_and_then holdings_of o)) (last-push w.processes child)

    threads_fit : (length (live_threads w) < 64) × (length w.threads < 65535)
    threads_fit =
        let full =
        or_parts (nat_le 32 (length (all_holdings w.processes))) (are_threads_full w.threads)
        room in
        let fewer =
        or_parts (nat_le 64 (length (numbers_of is_some w.threads)))
        (nat_le 65535 (length w.threads)) full.1 in (
          leb-false 64 (length (numbers_of is_some w.threads)) fewer.0,
          leb-false 65535 (length w.threads) fewer.1,
        )

    processes_fit : length (all_holdings w.processes) < 32
    processes_fit =
        leb-false 32 (length (all_holdings w.processes))
        (or_parts (nat_le 32 (length (all_holdings w.processes)))
        (are_threads_full w.threads) room).0

    thread_is : IsThread v.processes new_thread
    thread_is =
        let caller = caller_is ts c call in
        ready_is v.processes (next_process w) (released (answered 0 call.caller.registers))
        call.caller.mask call.caller.saved live_new
        (with_held_ranges (answered 0 call.caller.registers) None tt
        (answered_ranges 0 call.caller.registers (omega arith) caller.registers))
        caller.mask caller.saved

    populated_new : (p : ℕ) → IsTrue (is_some (live_process v p)) → threads_of v p ≢ []
    populated_new p lives = by_number (numbered-push w.processes child p)
      where
        by_number :
            (numbered (w.processes ++ child ∷ []) p ≡ numbered w.processes p)
            ⊎ ((p ≡ suc (length w.processes))
            × (numbered (w.processes ++ child ∷ []) p ≡ Some child))
            → threads_of v p ≢ []
        by_number (inl same) =
            some_pass (belongs_to p) 1 w.threads (Some new_thread)
            (l.processes.populated p
            (sym (ap (λ o. is_some (option_and_then holdings_of o)) same) ∙ lives))
        by_number (inr last) =
            last_passes (belongs_to p) 1 w.threads (Some new_thread)
            (eq-eqb (next_process w) p (omega (arith, last.0)))

    parents_new : (p : ℕ) → IfSome (numbered v.processes p) (λ process. process.parent < p)
    parents_new p = by_number (numbered-push w.processes child p)
      where
        by_number :
            (numbered (w.processes ++ child ∷ []) p ≡ numbered w.processes p)
            ⊎ ((p ≡ suc (length w.processes))
            × (numbered (w.processes ++ child ∷ []) p ≡ Some child))
            → IfSome (numbered v.processes p) (λ process. process.parent < p)
        by_number (inl same) =
            subst (λ o. IfSome o (λ process. process.parent < p)) (sym same) (l.processes.parents p)
        by_number (inr last) =
            subst (λ o. IfSome o (λ process. process.parent < p)) (sym last.1)
            (let n = process_within ts c call in omega (arith, n.0, last.0))

    ranges_new : (s : ℕ) → IfSome (thread_at v s) (IsThread v.processes)
    ranges_new =
        each_more (IsThread v.processes) w.threads (Some new_thread)
        (λ s. weaker (thread_at w s) (l.threads.ranges s)) thread_is
      where
        weaker : (o : Option Thread) → IfSome o (IsThread w.processes)
            → IfSome o (IsThread v.processes)
        weaker None range = tt
        weaker (Some thread) range =
            record {
              process = lives-push w.processes child thread.process range.process;
              registers = range.registers;
              pending = range.pending;
              mask = range.mask;
              saved =
                  range.saved;
            }

    opens_new : (pipe : ℕ) → is_open w pipe ≡ true → is_open v pipe ≡ true
    opens_new pipe e = by_end (or_cases (has_reader w pipe) (has_writer w pipe) e)
      where
        more : (test : Option End → Bool)
            → list_any (λ x. list_any test x.descriptors) (all_holdings w.processes) ≡ true
            → list_any (λ x. list_any test x.descriptors) (all_holdings v.processes) ≡ true
        more test some =
            ap (list_any (λ x. list_any test x.descriptors)) held_new
            ∙ any-push (λ x. list_any test x.descriptors) (all_holdings w.processes)
            (record h { space = copy.1 }) some

        by_end : (has_reader w pipe ≡ true) ⊎ (has_writer w pipe ≡ true) → is_open v pipe ≡ true
        by_end (inl read) =
            or_left (has_reader v pipe) (has_writer v pipe) (more (reads_pipe pipe) read)
        by_end (inr written) =
            or_right (has_reader v pipe) (has_writer v pipe) (more (writes_pipe pipe) written)

    lawful_new : Lawful v
    lawful_new =
        let longer : length v.threads ≡ length w.threads + 1 =
        length-append w.threads (Some new_thread ∷ []) in
        let more : length v.processes ≡ length w.processes + 1 =
        length-append w.processes (child ∷ []) in
        let held_more : length (all_holdings v.processes) ≡ length (all_holdings w.processes) + 1 =
        ap (λ (hs : List Holdings). length hs) held_new
        ∙ length-append (all_holdings w.processes) (record h { space = copy.1 } ∷ []) in
        let places : length v.owners ≡ length w.owners = copied.places in
        let fit = threads_fit in
        record {
          frames = record {
            bytes = (omega (arith, copied.count, l.frames.bytes.0, places), copied.range);
            free = λ g lt. free_new g (omega (arith, lt, places));
            zeros = copied.zeros;
            owned = λ g s e. let was = owned_new g s e in (was.0, omega (arith, was.1, longer));
          };
          processes = record {
            holdings =
                subst (λ n. All (AreHoldings n) (all_holdings v.processes)) (sym places)
                (subst (All (AreHoldings (length w.owners))) (sym held_new)
                (All-append (AreHoldings (length w.owners)) (all_holdings w.processes)
                (record h { space = copy.1 } ∷ []) l.processes.holdings
                (All-cons (AreHoldings (length w.owners)) (record h { space = copy.1 }) [] child_is
                (All-nil (AreHoldings (length w.owners))))));
            private =
                subst (All (λ x. All (IsAlone v) x.space)) (sym held_new)
                (All-append (λ x. All (IsAlone v) x.space) (all_holdings w.processes)
                (record h { space = copy.1 } ∷ []) alone_still
                (All-cons (λ x. All (IsAlone v) x.space) (record h { space = copy.1 }) []
                alone_child (All-nil (λ x. All (IsAlone v) x.space))));
            populated = populated_new;
            parents = parents_new;
            statuses =
                All-append HasStatus w.processes (child ∷ []) l.processes.statuses
                (All-cons HasStatus child [] (omega arith) (All-nil HasStatus));
            given = (omega (arith, more), omega (arith, more, longer, l.processes.given.1));
          };
          threads = record {
            ranges = ranges_new;
            asleep = λ s.
                l.threads.asleep s
                ∙ sym (seen_more turns_asleep w.threads (Some new_thread) refl s);
            sleepers = subst (λ n. All (IsSleeper n) w.sleepers) (sym places) l.threads.sleepers;
          };
          pipes = record {
            ranges = l.pipes.ranges;
            closed =
                λ pipe shut. l.pipes.closed pipe (was_shut pipe (is_open w pipe) refl shut);
          };
          limits = record {
            threads = (
              omega (arith, one_more is_some 1 w.threads (Some new_thread), fit.0),
              omega (arith, longer, fit.1),
            );
            processes = omega (arith, held_more, processes_fit);
            frames = (
              omega (arith, l.limits.frames.0, places),
              omega (arith, l.limits.frames.1, places),
            );
          };
          run = l.run;
        }
      where
        was_shut : (pipe : ℕ) (b : Bool) → is_open w pipe ≡ b → IsFalse (is_open v pipe) → b ≡ false
        was_shut pipe true e shut = absurd (true≢false (sym (opens_new pipe e) ∙ shut))
        was_shut pipe false e shut = refl

    stands_new : LawfulWith (c.thread ∷ ts) v
    stands_new = record {
      lawful = lawful_new;
      awake = awake_by w v (c.thread ∷ ts) (more_awake w.threads new_thread refl) call.stands.awake;
      apart = call.stands.apart;
    }

    pub stands-with_child : LawfulWith (c.thread ∷ ts) (with_child c h call.caller)
    stands-with_child =
        subst
        (λ x. LawfulWith (c.thread ∷ ts)
        (record (with_new_thread x new_thread) { processes = x.processes ++ child ∷ [] }))
        (sym (copied_space_moved w t h.space)) stands_new

  pub fork_stands : Leaves ts c call (fork c)
  fork_stands =
      subst
      (λ o. Leaves ts c call (replies (forked_by c o (thread_at w c.thread)) (next_process w) c))
      (sym (held ts c call).1)
      (subst (λ o. Leaves ts c call (replies (forked_by c (Some h) o) (next_process w) c))
      (sym call.is)
      (by_room (are_processes_full w.processes w.threads) refl
      (nat_lt (free_frames w) (private_entries h.space)) refl))
    where
      by_room : (a : Bool) → are_processes_full w.processes w.threads ≡ a → (b : Bool)
          → nat_lt (free_frames w) (private_entries h.space) ≡ b
          → Leaves ts c call
          (replies (cond a (Err 11) (cond b (Err 12) (Ok (with_child c h call.caller))))
          (next_process w) c)
      by_room true e b g = refuses_stands ts c call 11 (omega arith)
      by_room false e true g = refuses_stands ts c call 12 (omega arith)
      by_room false e false g =
          let l = law ts c call in
          returns_in_stands ts c call (with_child c h call.caller) (next_process w)
          (omega (arith, l.processes.given.1, l.limits.threads.1))
          (stands-with_child e (ltb-false (free_frames w) (private_entries h.space) g))
