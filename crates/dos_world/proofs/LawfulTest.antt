-- What the test passes is lawful.
use Rattle.std.proofs.Common.{ℕ, zero, suc, ◌+◌, ◌*◌, ◌%◌, ◌^◌, ◌<◌, ◌≤◌, ◌≡◌, ◌≢◌, ◌⊎◌, inl, inr}
use Rattle.std.proofs.Common.{refl, sym, ap, ◌∙◌, subst, Bool, cond, true, false, not, List, []}
use Rattle.std.proofs.Common.{◌∷◌, length, map, take, drop, Option, Some, None, arith}
use Rattle.std.specs.Prelude.{filter, option_and_then, ◌&&◌, ◌||◌, ◌↔◌, ◌==◌, nat_lt, nat_le, All}
use Rattle.std.specs.Prelude.{AllPairs, IsTrue, IsFalse, IfSome, is_some, count_by, slice_index_or}
use Rattle.std.specs.List.{list_all}
use Rattle.std.specs.List.Sorted.{IsStrictlyIncreasing}
use Rattle.std.proofs.lemmas.Bool.{and_parts, eqb-true, ltb-true, leb-true, cases_lt, not-true}
use Rattle.std.proofs.lemmas.Bool.{true≢false}
use Rattle.std.proofs.lemmas.List.Sums.{AllPass-from_list_all, length-filter}
use Rattle.std.proofs.lemmas.List.{get_or_past, get_or-take, get_or-drop, length-take, length-drop}
use Rattle.std.proofs.lemmas.Option.{slice_get_past}
use Rattle.dos_world.specs.Numbered.{numbered, run_of}
use Rattle.dos_world.specs.World.{World, Process, status_of, Holdings, Thread, Sleeper, Registers}
use Rattle.dos_world.specs.World.{flat, all_holdings, live_process, thread_at, live_threads}
use Rattle.dos_world.specs.World.{threads_of, owner_of, is_free, is_state, has_bit, get, code_unit}
use Rattle.dos_world.specs.World.{holdings_of}
use Rattle.dos_world.specs.Counts.{is_mapped, is_open, uses_of}
use Rattle.dos_world.specs.SignalCalls.{is_action}
use Rattle.dos_world.specs.Lawful.{Lawful, FramesAreLawful, ProcessesAreLawful, ThreadsAreLawful}
use Rattle.dos_world.specs.Lawful.{PipesAreLawful, IsWithinLimits, IsWithinRun, AreHoldings}
use Rattle.dos_world.specs.Lawful.{AreRegisters, IsThread, IsWord, IsByte, IsPending, IsMask}
use Rattle.dos_world.specs.Lawful.{IsAction, IsEnd, IsPage, IsSaved, IsAlone, IsSleeper, IsPipe}
use Rattle.dos_world.specs.Lawful.{HasStatus, turns_asleep}
use Rattle.dos_world.specs.IsLawful.{pairs_pass, has_status, passes_below, none_or, is_empty}
use Rattle.dos_world.specs.IsLawful.{same_truth, if_then, is_word, is_byte, is_pending, is_mask}
use Rattle.dos_world.specs.IsLawful.{is_end, is_page, are_registers, is_saved, is_thread}
use Rattle.dos_world.specs.IsLawful.{are_holdings, is_alone, is_sleeper, is_pipe, frees_unmapped}
use Rattle.dos_world.specs.IsLawful.{is_owner, has_thread, has_lower_parent, sleeps_once, is_asleep}
use Rattle.dos_world.specs.IsLawful.{is_empty_if_closed, has_bytes, are_zero_if_free, is_lawful}
use Rattle.dos_world.specs.IsLawful.{is_lawful_but_for_frames, frames_are_lawful}
use Rattle.dos_world.specs.IsLawful.{processes_are_lawful, threads_are_lawful, pipes_are_lawful}
use Rattle.dos_world.specs.IsLawful.{is_within_limits, is_within_run}
use Rattle.dos_world.specs.declared.Entry.{Entry}
use Rattle.dos_world.specs.declared.Owner.{Owner}
use Rattle.dos_world.specs.declared.Owner.TheVariants.{Free, Shared, Of}
use Rattle.dos_world.specs.declared.End.{End}
use Rattle.dos_world.specs.declared.End.TheVariants.{Input, Output, Error, PipeRead, PipeWrite}
use Rattle.dos_world.specs.declared.ThreadState.TheVariants.{Asleep}

-- ---- lists

all_by : {A : Type 0} (P : A → Type 0) (test : A → Bool) → ((x : A) → test x ≡ true → P x)
    → (xs : List A) → list_all test xs ≡ true → All P xs
all_by P test f xs h k d lt = f (slice_index_or xs k d) (AllPass-from_list_all test xs h k d lt)

-- each number from a on
run_passes : (test : ℕ → Bool) (a n : ℕ) → list_all test (run_of a n) ≡ true → (k : ℕ) → k < n
    → test (a + k) ≡ true
run_passes test a zero h k lt = absurd (grind arith)
run_passes test a (suc n) h zero lt = let p =
    and_parts (test a) (list_all test (run_of (suc a) n)) h in
    subst (λ m. test m ≡ true) (omega arith) p.0
run_passes test a (suc n) h (suc k) lt =
    let p = and_parts (test a) (list_all test (run_of (suc a) n)) h in
    subst (λ m. test m ≡ true) (omega arith) (run_passes test (suc a) n p.1 k (omega arith))

below : (test : ℕ → Bool) (n : ℕ) → passes_below n test ≡ true → (k : ℕ) → k < n → test k ≡ true
below test n h k lt = subst (λ m. test m ≡ true) (omega arith) (run_passes test 0 n h k lt)

pairs_by : {A : Type 0} (R : A → A → Type 0) (test : A → A → Bool)
    → ((x y : A) → test x y ≡ true → R x y) → (xs : List A) → pairs_pass test xs ≡ true
    → AllPairs R xs
pairs_by R test f [] h i j d a b = absurd (grind arith)
pairs_by R test f (x ∷ xs) h zero zero d a b = absurd (grind arith)
pairs_by R test f (x ∷ xs) h zero (suc j) d a b =
    f x (slice_index_or xs j d)
    (AllPass-from_list_all (test x) xs
    (and_parts (list_all (test x) xs) (pairs_pass test xs) h).0 j d (omega arith))
pairs_by R test f (x ∷ xs) h (suc i) zero d a b = absurd (grind arith)
pairs_by R test f (x ∷ xs) h (suc i) (suc j) d a b =
    pairs_by R test f xs (and_parts (list_all (test x) xs) (pairs_pass test xs) h).1 i j d
    (omega arith) (omega arith)

some_by : {A : Type 0} (P : A → Type 0) (test : A → Bool) → ((x : A) → test x ≡ true → P x)
    → (o : Option A) → none_or test o ≡ true → IfSome o P
some_by P test f None h = tt
some_by P test f (Some x) h = f x h

then_by : (a b : Bool) → if_then a b ≡ true → a ≡ true → b ≡ true
then_by true b h e = h
then_by false b h e = absurd (true≢false (sym e))

empty_by : {A : Type 0} (xs : List A) → is_empty xs ≡ true → xs ≡ []
empty_by [] h = refl
empty_by (x ∷ xs) h = absurd (true≢false (sym h))

not_empty_by : {A : Type 0} (xs : List A) → not (is_empty xs) ≡ true → xs ≢ []
not_empty_by [] h e = absurd (true≢false (sym h))
not_empty_by (x ∷ xs) h e = grind arith

same_by : (a b : Bool) → same_truth a b ≡ true → a ≡ b
same_by true true h = refl
same_by true false h = absurd (true≢false (sym h))
same_by false true h = absurd (true≢false (sym h))
same_by false false h = refl

-- the bytes of a Free frame, where the test passes
zeros_by : (owners : List Owner) (bytes : List ℕ) → are_zero_if_free owners bytes ≡ true
    → length bytes ≡ 4096 * length owners → (frame offset : ℕ)
    → slice_index_or owners frame Free ≡ Free → offset < 4096
    → slice_index_or bytes (4096 * frame + offset) 0 ≡ 0
zeros_by [] bytes h count frame offset free within =
    get_or_past bytes (4096 * frame + offset) 0 (omega (arith, count))
zeros_by (owner ∷ owners) bytes h count zero offset free within =
    let p = and_parts (if_then (is_free owner) (list_all (λ byte. byte == 0) (take 4096 bytes)))
    (are_zero_if_free owners (drop 4096 bytes)) h in
    let all = then_by (is_free owner) (list_all (λ byte. byte == 0) (take 4096 bytes)) p.0
    (ap is_free free) in
    ap (λ n. slice_index_or bytes n 0) (omega arith)
    ∙ sym (get_or-take 4096 bytes offset 0 within)
    ∙ eqb-true _ 0 (AllPass-from_list_all (λ byte. byte == 0) (take 4096 bytes) all offset 0
    (omega (arith, length-take 4096 bytes, count, within)))
zeros_by (owner ∷ owners) bytes h count (suc frame) offset free within =
    let p = and_parts (if_then (is_free owner) (list_all (λ byte. byte == 0) (take 4096 bytes)))
    (are_zero_if_free owners (drop 4096 bytes)) h in
    ap (λ n. slice_index_or bytes n 0) (omega arith)
    ∙ sym (get_or-drop 4096 bytes (4096 * frame + offset) 0)
    ∙ zeros_by owners (drop 4096 bytes) p.1 (omega (arith, length-drop 4096 bytes, count)) frame
    offset free within

-- ---- ranges

word_by : (n : ℕ) → is_word n ≡ true → IsWord n
word_by n h = ltb-true n (2 ^ 32) h

byte_by : (n : ℕ) → is_byte n ≡ true → IsByte n
byte_by n h = ltb-true n 256 h

pending_by : (set : ℕ) → is_pending set ≡ true → IsPending set
pending_by set h = let p = and_parts (is_word set) (not (has_bit set 0)) h in
    (word_by set p.0, not-true (has_bit set 0) p.1)

mask_by : (set : ℕ) → is_mask set ≡ true → IsMask set
mask_by set h =
    let p = and_parts (is_word set) (not (has_bit set 0) && not (has_bit set 9)) h in
    let q = and_parts (not (has_bit set 0)) (not (has_bit set 9)) p.1 in
    (word_by set p.0, not-true (has_bit set 0) q.0, not-true (has_bit set 9) q.1)

action_by : (a : ℕ) → is_action a ≡ true → IsAction a
action_by a h = go (a == 1) refl h
  where
    go : (b : Bool) → (a == 1) ≡ b → (b || ((a % code_unit == 0) && nat_lt a 0xF0000000)) ≡ true
        → IsAction a
    go true e q = inl (eqb-true a 1 e)
    go false e q =
        let p = and_parts (a % code_unit == 0) (nat_lt a 0xF0000000) q in
        inr (eqb-true (a % code_unit) 0 p.0, ltb-true a 0xF0000000 p.1)

end_by : (end : Option End) → is_end end ≡ true → IsEnd end
end_by (Some (PipeRead pipe)) h = ltb-true pipe 64 h
end_by (Some (PipeWrite pipe)) h = ltb-true pipe 64 h
end_by (Some Input) h = tt
end_by (Some Output) h = tt
end_by (Some Error) h = tt
end_by None h = tt

page_by : (frames : ℕ) (e : ℕ × Entry) → is_page frames e ≡ true → IsPage frames e
page_by frames e h =
    let p = and_parts (nat_le 0x1 e.0) (nat_le e.0 0xEFFFF && nat_lt e.1.frame frames) h in
    let q = and_parts (nat_le e.0 0xEFFFF) (nat_lt e.1.frame frames) p.1 in
    (leb-true 0x1 e.0 p.0, leb-true e.0 0xEFFFF q.0, ltb-true e.1.frame frames q.1)

registers_by : (r : Registers) → are_registers r ≡ true → AreRegisters r
registers_by r h =
    let a = and_parts (is_word r.pc)
    ((length r.numbers == 32)
    && (list_all is_word r.numbers && ((get r 0 == 0) && none_or is_word r.held))) h in
    let b = and_parts (length r.numbers == 32)
    (list_all is_word r.numbers && ((get r 0 == 0) && none_or is_word r.held)) a.1 in
    let c = and_parts (list_all is_word r.numbers) ((get r 0 == 0) && none_or is_word r.held) b.1 in
    let d = and_parts (get r 0 == 0) (none_or is_word r.held) c.1 in
    record {
      pc = word_by r.pc a.0;
      count = eqb-true (length r.numbers) 32 b.0;
      words = all_by IsWord is_word word_by r.numbers c.0;
      first = eqb-true (get r 0) 0 d.0;
      held = some_by IsWord is_word word_by r.held d.1;
    }

saved_by : (s : Registers × ℕ) → is_saved s ≡ true → IsSaved s
saved_by s h = let p = and_parts (are_registers s.0) (is_mask s.1) h in
    (registers_by s.0 p.0, mask_by s.1 p.1)

thread_by : (processes : List Process) (thread : Thread) → is_thread processes thread ≡ true
    → IsThread processes thread
thread_by processes thread h =
    let a = and_parts _ (are_registers thread.registers
    && (is_pending thread.pending
    && (is_mask thread.mask
    && (nat_le (length thread.saved) 4 && list_all is_saved thread.saved)))) h in
    let b = and_parts (are_registers thread.registers)
    (is_pending thread.pending
    && (is_mask thread.mask
    && (nat_le (length thread.saved) 4 && list_all is_saved thread.saved))) a.1 in
    let c = and_parts (is_pending thread.pending)
    (is_mask thread.mask
    && (nat_le (length thread.saved) 4 && list_all is_saved thread.saved)) b.1 in
    let d = and_parts (is_mask thread.mask)
    (nat_le (length thread.saved) 4 && list_all is_saved thread.saved) c.1 in
    let e = and_parts (nat_le (length thread.saved) 4) (list_all is_saved thread.saved) d.1 in
    record {
      process = a.0;
      registers = registers_by thread.registers b.0;
      pending = pending_by thread.pending c.0;
      mask = mask_by thread.mask d.0;
      saved = (
        leb-true (length thread.saved) 4 e.0,
        all_by IsSaved is_saved saved_by thread.saved e.1,
      );
    }

rising_by : (xs : List ℕ) → pairs_pass nat_lt xs ≡ true → IsStrictlyIncreasing xs
rising_by xs h k lt = pairs_by (λ a b. a < b) nat_lt (λ a b e. ltb-true a b e) xs h k (k + 1) 0
    (omega arith) lt

apart_by : (a b : ℕ × Entry) → not (a.1.frame == b.1.frame) ≡ true → a.1.frame ≢ b.1.frame
apart_by a b h same = absurd (grind (arith, not-true (a.1.frame == b.1.frame) h, same))

holdings_by : (frames : ℕ) (h : Holdings) → are_holdings frames h ≡ true → AreHoldings frames h
holdings_by frames h is =
    let a = and_parts ((length h.actions == 31) && list_all is_action h.actions) _ is in
    let b = and_parts (length h.actions == 31) (list_all is_action h.actions) a.0 in
    let c = and_parts ((length h.descriptors == 32) && list_all is_end h.descriptors) _ a.1 in
    let d = and_parts (length h.descriptors == 32) (list_all is_end h.descriptors) c.0 in
    let e = and_parts (pairs_pass nat_lt (map (λ e. e.0) h.space)) _ c.1 in
    let f = and_parts (list_all (is_page frames) h.space) _ e.1 in
    record {
      actions = (
        eqb-true (length h.actions) 31 b.0,
        all_by IsAction is_action action_by h.actions b.1,
      );
      descriptors = (
        eqb-true (length h.descriptors) 32 d.0,
        all_by IsEnd is_end end_by h.descriptors d.1,
      );
      rising = rising_by (map (λ e. e.0) h.space) e.0;
      pages = all_by (IsPage frames) (is_page frames) (page_by frames) h.space f.0;
      apart = pairs_by (λ a b. a.1.frame ≢ b.1.frame)
          (λ a b. not (a.1.frame == b.1.frame)) apart_by h.space f.1;
    }

sleeper_by : (frames : ℕ) (s : Sleeper) → is_sleeper frames s ≡ true → IsSleeper frames s
sleeper_by frames s h =
    let p = and_parts (nat_lt s.frame frames) ((s.offset % 4 == 0) && nat_lt s.offset 4096) h in
    let q = and_parts (s.offset % 4 == 0) (nat_lt s.offset 4096) p.1 in
    (ltb-true s.frame frames p.0, eqb-true (s.offset % 4) 0 q.0, ltb-true s.offset 4096 q.1)

pipe_by : (bytes : List ℕ) → is_pipe bytes ≡ true → IsPipe bytes
pipe_by bytes h =
    let p = and_parts (nat_le (length bytes) 4096) (list_all is_byte bytes) h in
    (leb-true (length bytes) 4096 p.0, all_by IsByte is_byte byte_by bytes p.1)

-- ---- the world

owner_by : (threads t : ℕ) (o : Owner) → is_owner threads o ≡ true → o ≡ Of t
    → (1 ≤ t) × (t ≤ threads)
owner_by threads t Free h e = absurd (grind arith)
owner_by threads t Shared h e = absurd (grind arith)
owner_by threads t (Of s) h e =
    let p = and_parts (nat_le 1 s) (nat_le s threads) h in
    let same : s ≡ t = cc in
    subst (λ n. (1 ≤ n) × (n ≤ threads)) same (leb-true 1 s p.0, leb-true s threads p.1)

free_by : (o : Owner) (mapped : Bool) → same_truth (is_free o) (not mapped) ≡ true
    → (o ≡ Free) ↔ IsFalse mapped
free_by Free false h = (λ e. refl, λ e. refl)
free_by Free true h = absurd (true≢false (sym h))
free_by Shared true h = (λ e. grind arith, λ e. grind arith)
free_by Shared false h = absurd (true≢false (sym h))
free_by (Of t) true h = (λ e. grind arith, λ e. grind arith)
free_by (Of t) false h = absurd (true≢false (sym h))

-- a number that no element has
numbered_past : {A : Type 0} (xs : List A) (n : ℕ) → length xs < n → numbered xs n ≡ None
numbered_past xs zero h = refl
numbered_past xs (suc i) h = slice_get_past xs i (omega arith)

module _ (w : World) where
  owned_by : list_all (is_owner (length w.threads)) w.owners ≡ true → (frame t : ℕ)
      → owner_of w frame ≡ Of t → (1 ≤ t) × (t ≤ length w.threads)
  owned_by h frame t e = go (cases_lt frame (length w.owners))
    where
      go : (frame < length w.owners) ⊎ (length w.owners ≤ frame) → (1 ≤ t) × (t ≤ length w.threads)
      go (inl lt) = owner_by (length w.threads) t (owner_of w frame)
          (AllPass-from_list_all (is_owner (length w.threads)) w.owners h frame Free lt) e
      go (inr past) = let free : owner_of w frame ≡ Free = get_or_past w.owners frame Free past in
          let both : Free ≡ Of t = sym free ∙ e in absurd (grind arith)

  alone_by : (e : ℕ × Entry) → is_alone w e ≡ true → IsAlone w e
  alone_by e h private = eqb-true (uses_of w e.1.frame) 1
      (then_by (not e.1.shared) (uses_of w e.1.frame == 1) h (ap not private))

  private_by : (h : Holdings) → list_all (is_alone w) h.space ≡ true → All (IsAlone w) h.space
  private_by h e = all_by (IsAlone w) (is_alone w) alone_by h.space e

  populated_by : passes_below (length w.processes + 1) (has_thread w) ≡ true → (p : ℕ)
      → IsTrue (is_some (live_process w p)) → threads_of w p ≢ []
  populated_by h p lives = go (cases_lt p (length w.processes + 1))
    where
      go : (p < length w.processes + 1) ⊎ (length w.processes + 1 ≤ p) → threads_of w p ≢ []
      go (inl lt) = not_empty_by (threads_of w p)
          (then_by (is_some (live_process w p)) (not (is_empty (threads_of w p)))
          (below (has_thread w) (length w.processes + 1) h p lt) lives)
      go (inr past) =
          let none : live_process w p ≡ None =
          ap (λ o. option_and_then holdings_of o) (numbered_past w.processes p (omega arith)) in
          absurd (true≢false (sym lives ∙ ap is_some none))

  parents_by : passes_below (length w.processes + 1) (has_lower_parent w) ≡ true → (p : ℕ)
      → IfSome (numbered w.processes p) (λ process. process.parent < p)
  parents_by h p = go (cases_lt p (length w.processes + 1))
    where
      go : (p < length w.processes + 1) ⊎ (length w.processes + 1 ≤ p)
          → IfSome (numbered w.processes p) (λ process. process.parent < p)
      go (inl lt) = some_by (λ process. process.parent < p) (λ process. nat_lt process.parent p)
          (λ process e. ltb-true process.parent p e) (numbered w.processes p)
          (below (has_lower_parent w) (length w.processes + 1) h p lt)
      go (inr past) = subst (λ o. IfSome o (λ process. process.parent < p))
          (sym (numbered_past w.processes p (omega arith))) tt

  no_thread : (t : ℕ) → length w.threads + 1 ≤ t → thread_at w t ≡ None
  no_thread t past = ap flat (numbered_past w.threads t (omega arith))

  threads_by : passes_below (length w.threads + 1)
      (λ t. none_or (is_thread w.processes) (thread_at w t)) ≡ true → (t : ℕ)
      → IfSome (thread_at w t) (IsThread w.processes)
  threads_by h t = go (cases_lt t (length w.threads + 1))
    where
      go : (t < length w.threads + 1) ⊎ (length w.threads + 1 ≤ t)
          → IfSome (thread_at w t) (IsThread w.processes)
      go (inl lt) = some_by (IsThread w.processes) (is_thread w.processes) (thread_by w.processes)
          (thread_at w t)
          (below (λ t. none_or (is_thread w.processes) (thread_at w t))
          (length w.threads + 1) h t lt)
      go (inr past) = subst (λ o. IfSome o (IsThread w.processes)) (sym (no_thread t past)) tt

  -- who sleeps lives, so nobody else stands in the queue
  not_in_queue : (t : ℕ) → thread_at w t ≡ None → (xs : List Sleeper)
      → list_all (is_asleep w) xs ≡ true → filter (λ s. s.thread == t) xs ≡ []
  not_in_queue t none [] h = refl
  not_in_queue t none (s ∷ xs) h =
      let p = and_parts (is_asleep w s) (list_all (is_asleep w) xs) h in
      by_first (s.thread == t) refl p.0 (not_in_queue t none xs p.1)
    where
      by_first : (b : Bool) → (s.thread == t) ≡ b → is_asleep w s ≡ true
          → filter (λ s. s.thread == t) xs ≡ []
          → cond b (s ∷ filter (λ s. s.thread == t) xs) (filter (λ s. s.thread == t) xs) ≡ []
      by_first true e sleeps rest =
          let gone : thread_at w s.thread ≡ None = ap (thread_at w) (eqb-true s.thread t e)
          ∙ none in
          absurd (true≢false (sym sleeps ∙ ap (is_state Asleep) gone))
      by_first false e sleeps rest = rest

  asleep_by : passes_below (length w.threads + 1) (sleeps_once w) ≡ true
      → list_all (is_asleep w) w.sleepers ≡ true → (t : ℕ)
      → count_by (λ s. s.thread == t) w.sleepers ≡ turns_asleep (thread_at w t)
  asleep_by h sleeping t = go (cases_lt t (length w.threads + 1))
    where
      go : (t < length w.threads + 1) ⊎ (length w.threads + 1 ≤ t)
          → count_by (λ s. s.thread == t) w.sleepers ≡ turns_asleep (thread_at w t)
      go (inl lt) = eqb-true _ _ (below (sleeps_once w) (length w.threads + 1) h t lt)
      go (inr past) =
          sym (length-filter (λ s. s.thread == t) w.sleepers)
          ∙ ap length (not_in_queue t (no_thread t past) w.sleepers sleeping)
          ∙ sym (ap turns_asleep (no_thread t past))

  closed_by : length w.pipes ≡ 64 → passes_below 64 (is_empty_if_closed w) ≡ true → (pipe : ℕ)
      → IsFalse (is_open w pipe) → slice_index_or w.pipes pipe [] ≡ []
  closed_by count h pipe closed = go (cases_lt pipe 64)
    where
      go : (pipe < 64) ⊎ (64 ≤ pipe) → slice_index_or w.pipes pipe [] ≡ []
      go (inl lt) = empty_by (slice_index_or w.pipes pipe [])
          (then_by (not (is_open w pipe)) (is_empty (slice_index_or w.pipes pipe []))
          (below (is_empty_if_closed w) 64 h pipe lt) (ap not closed))
      go (inr past) = get_or_past w.pipes pipe [] (subst (λ n. n ≤ pipe) (sym count) past)

  frames_by : frames_are_lawful w ≡ true → FramesAreLawful w
  frames_by h =
      let f = and_parts (has_bytes w)
      (passes_below (length w.owners) (frees_unmapped w)
      && (are_zero_if_free w.owners w.bytes
      && list_all (is_owner (length w.threads)) w.owners)) h in
      let bytes = and_parts (length w.bytes == 4096 * length w.owners)
      (list_all is_byte w.bytes) f.0 in
      let owners = and_parts (passes_below (length w.owners) (frees_unmapped w))
      (are_zero_if_free w.owners w.bytes && list_all (is_owner (length w.threads)) w.owners) f.1 in
      let pages = and_parts (are_zero_if_free w.owners w.bytes)
      (list_all (is_owner (length w.threads)) w.owners) owners.1 in
      let count : length w.bytes ≡ 4096 * length w.owners =
      eqb-true (length w.bytes) (4096 * length w.owners) bytes.0 in
      record {
        bytes = (count, all_by IsByte is_byte byte_by w.bytes bytes.1);
        free = λ frame lt. free_by (owner_of w frame) (is_mapped w frame)
            (below (frees_unmapped w) (length w.owners) owners.0 frame lt);
        zeros = zeros_by w.owners w.bytes pages.0 count;
        owned = owned_by pages.1;
      }

  processes_by : processes_are_lawful w ≡ true → ProcessesAreLawful w
  processes_by h =
      let p = and_parts (list_all (are_holdings (length w.owners)) (all_holdings w.processes)) _ h
      in
      let q = and_parts (list_all (λ h. list_all (is_alone w) h.space) (all_holdings w.processes)) _
      p.1 in
      let r = and_parts (passes_below (length w.processes + 1) (has_thread w)) _ q.1 in
      let s = and_parts (passes_below (length w.processes + 1) (has_lower_parent w)) _ r.1 in
      let t = and_parts (nat_lt 0 (length w.processes)
      && nat_le (length w.processes) (length w.threads))
      (list_all has_status w.processes) s.1 in
      let numbers = and_parts (nat_lt 0 (length w.processes))
      (nat_le (length w.processes) (length w.threads)) t.0 in
      record {
        holdings = all_by (AreHoldings (length w.owners)) (are_holdings (length w.owners))
            (holdings_by (length w.owners)) (all_holdings w.processes) p.0;
        private = all_by (λ h. All (IsAlone w) h.space)
            (λ h. list_all (is_alone w) h.space) private_by (all_holdings w.processes) q.0;
        populated = populated_by r.0;
        parents = parents_by s.0;
        statuses = all_by HasStatus has_status
            (λ process e. ltb-true (status_of process) 256 e) w.processes t.1;
        given = (
          ltb-true 0 (length w.processes) numbers.0,
          leb-true (length w.processes) (length w.threads) numbers.1,
        );
      }

  live_threads_by : threads_are_lawful w ≡ true → ThreadsAreLawful w
  live_threads_by h =
      let t = and_parts (passes_below (length w.threads + 1)
      (λ t. none_or (is_thread w.processes) (thread_at w t))) _ h in
      let u = and_parts (passes_below (length w.threads + 1) (sleeps_once w)) _ t.1 in
      let v = and_parts (list_all (is_asleep w) w.sleepers)
      (list_all (is_sleeper (length w.owners)) w.sleepers) u.1 in
      record {
        ranges = threads_by t.0;
        asleep = asleep_by u.0 v.0;
        sleepers = all_by (IsSleeper (length w.owners)) (is_sleeper (length w.owners))
            (sleeper_by (length w.owners)) w.sleepers v.1;
      }

  pipes_by : pipes_are_lawful w ≡ true → PipesAreLawful w
  pipes_by h =
      let x = and_parts ((length w.pipes == 64) && list_all is_pipe w.pipes)
      (passes_below 64 (is_empty_if_closed w)) h in
      let pipes = and_parts (length w.pipes == 64) (list_all is_pipe w.pipes) x.0 in
      let sixty_four : length w.pipes ≡ 64 = eqb-true (length w.pipes) 64 pipes.0 in
      record {
        ranges = (sixty_four, all_by IsPipe is_pipe pipe_by w.pipes pipes.1);
        closed = closed_by sixty_four x.1;
      }

  limits_by : is_within_limits w ≡ true → IsWithinLimits w
  limits_by h =
      let a = and_parts (nat_le (length (live_threads w)) 64 && nat_le (length w.threads) 65535) _ h
      in
      let b = and_parts (nat_le (length (live_threads w)) 64)
      (nat_le (length w.threads) 65535) a.0 in
      let c = and_parts (nat_le (length (all_holdings w.processes)) 32)
      (nat_le 16 (length w.owners) && nat_le (length w.owners) 16384) a.1 in
      let d = and_parts (nat_le 16 (length w.owners)) (nat_le (length w.owners) 16384) c.1 in
      record {
        threads = (
          leb-true (length (live_threads w)) 64 b.0,
          leb-true (length w.threads) 65535 b.1,
        );
        processes = leb-true (length (all_holdings w.processes)) 32 c.0;
        frames = (leb-true 16 (length w.owners) d.0, leb-true (length w.owners) 16384 d.1);
      }

  run_by : (quantum rounds : ℕ) → is_within_run quantum rounds ≡ true → IsWithinRun quantum rounds
  run_by quantum rounds h =
      let a = and_parts (nat_le 16 quantum && nat_le quantum 65536) (nat_le rounds 1000000) h in
      let b = and_parts (nat_le 16 quantum) (nat_le quantum 65536) a.0 in
      record {
        turn = (leb-true 16 quantum b.0, leb-true quantum 65536 b.1);
        count =
            leb-true rounds 1000000 a.1;
      }

  -- What the test passes is lawful.
  pub lawful_by : IsTrue (is_lawful w) → Lawful w
  lawful_by h =
      let whole = and_parts (frames_are_lawful w) (is_lawful_but_for_frames w) h in
      let rest = and_parts (processes_are_lawful w)
      (threads_are_lawful w
      && (pipes_are_lawful w && (is_within_limits w && is_within_run w.quantum w.rounds)))
      whole.1 in
      let others = and_parts (threads_are_lawful w)
      (pipes_are_lawful w && (is_within_limits w && is_within_run w.quantum w.rounds))
      rest.1 in
      let last = and_parts (pipes_are_lawful w)
      (is_within_limits w && is_within_run w.quantum w.rounds) others.1 in
      let limits = and_parts (is_within_limits w) (is_within_run w.quantum w.rounds) last.1 in
      record {
        frames = frames_by whole.0;
        processes = processes_by rest.0;
        threads = live_threads_by others.0;
        pipes = pipes_by last.0;
        limits = limits_by limits.0;
        run = run_by w.quantum w.rounds limits.1;
      }
