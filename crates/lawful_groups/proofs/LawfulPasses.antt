-- What is lawful passes the test.
use Rattle.std.proofs.Common.{ℕ, zero, suc, ◌+◌, ◌*◌, ◌%◌, ◌^◌, ◌<◌, ◌≤◌, ◌≡◌, ◌≢◌, inl, inr}
use Rattle.std.proofs.Common.{refl, sym, ap, ◌∙◌, subst, Bool, cond, true, false, not, List, []}
use Rattle.std.proofs.Common.{◌∷◌, length, map, take, drop, Option, Some, None, arith}
use Rattle.std.specs.Prelude.{filter, ◌&&◌, ◌||◌, ◌↔◌, ◌==◌, nat_lt, nat_le, All}
use Rattle.std.specs.Prelude.{AllPairs, IsFalse, IfSome, is_some, slice_index_or}
use Rattle.std.specs.List.{list_all}
use Rattle.std.specs.List.Sorted.{IsStrictlyIncreasing}
use Rattle.std.proofs.lemmas.Bool.{and_from, lt-ltb, le-leb, eq-eqb, not_from_false, true≢false}
use Rattle.std.proofs.lemmas.Bool.{eqb-true, not-true}
use Rattle.std.proofs.lemmas.List.{get_or-take, get_or-drop, length-take, length-drop}
use Rattle.std.proofs.lemmas.List.Sums.{list_all-from_AllPass, length-filter}
use Rattle.dos_world.specs.Numbered.{numbered, run_of}
use Rattle.dos_world.specs.World.{World, Process, status_of, Holdings, Thread, Sleeper, Registers}
use Rattle.dos_world.specs.World.{all_holdings, live_process, thread_at, live_threads}
use Rattle.dos_world.specs.World.{threads_of, owner_of, is_free, has_bit, get}
use Rattle.dos_world.specs.Lawful.{Lawful}
use Rattle.dos_world.specs.Lawful.{AreHoldings}
use Rattle.dos_world.specs.Lawful.{AreRegisters, IsThread, IsWord, IsByte, IsPending, IsMask}
use Rattle.dos_world.specs.Lawful.{IsAction, IsEnd, IsPage, IsSaved, IsAlone, IsSleeper, IsPipe}
use Rattle.dos_world.specs.Lawful.{HasStatus, turns_asleep}
use Rattle.dos_world.specs.Counts.{is_mapped, is_open, uses_of}
use Rattle.dos_world.specs.SignalCalls.{is_action}
use Rattle.dos_world.specs.IsLawful.{pairs_pass, has_status, passes_below, none_or, is_empty}
use Rattle.dos_world.specs.IsLawful.{same_truth, if_then, is_word, is_byte, is_pending, is_mask}
use Rattle.dos_world.specs.IsLawful.{is_end, is_page, are_registers, is_saved, is_thread}
use Rattle.dos_world.specs.IsLawful.{are_holdings, is_alone, is_sleeper, is_pipe, frees_unmapped}
use Rattle.dos_world.specs.IsLawful.{is_owner, has_thread, has_lower_parent, sleeps_once, is_asleep}
use Rattle.dos_world.specs.IsLawful.{is_empty_if_closed, has_bytes, are_zero_if_free, is_lawful}
use Rattle.dos_world.specs.IsLawful.{is_lawful_but_for_frames, frames_are_lawful}
use Rattle.dos_world.specs.IsLawful.{processes_are_lawful, threads_are_lawful, pipes_are_lawful}
use Rattle.dos_world.specs.IsLawful.{is_within_limits, is_within_run}
use Rattle.dos_world.specs.declared.Entry.{Entry}
use Rattle.dos_world.specs.declared.Owner.{Owner}
use Rattle.dos_world.specs.declared.Owner.TheVariants.{Free, Shared, Of}
use Rattle.dos_world.specs.declared.End.{End}
use Rattle.dos_world.specs.declared.End.TheVariants.{Input, Output, Error, PipeRead, PipeWrite}

-- ---- lists

all_pass : {A : Type 0} (P : A → Type 0) (test : A → Bool) → ((x : A) → P x → test x ≡ true)
    → (xs : List A) → All P xs → list_all test xs ≡ true
all_pass P test f xs h =
    list_all-from_AllPass test xs (λ k d lt. f (slice_index_or xs k d) (h k d lt))

-- each number from a on
run_pass : (test : ℕ → Bool) (a n : ℕ) → ((k : ℕ) → k < n → test (a + k) ≡ true)
    → list_all test (run_of a n) ≡ true
run_pass test a zero h = refl
run_pass test a (suc n) h =
    and_from (test a) (list_all test (run_of (suc a) n))
    (subst (λ m. test m ≡ true) (let m : a + 0 ≡ a = omega arith in m) (h 0 (omega arith)))
    (run_pass test (suc a) n (λ k lt. subst (λ m. test m ≡ true)
    (let m : a + suc k ≡ suc a + k = omega arith in m) (h (suc k) (omega arith))))

all_below : (test : ℕ → Bool) (n : ℕ) → ((k : ℕ) → test k ≡ true) → passes_below n test ≡ true
all_below test n h = run_pass test 0 n (λ k lt. h (0 + k))

some_below : (test : ℕ → Bool) (n : ℕ) → ((k : ℕ) → k < n → test k ≡ true)
    → passes_below n test ≡ true
some_below test n h = run_pass test 0 n (λ k lt. h (0 + k) (omega (arith, lt)))

pairs_pass_by : {A : Type 0} (R : A → A → Type 0) (test : A → A → Bool)
    → ((x y : A) → R x y → test x y ≡ true) → (xs : List A) → AllPairs R xs
    → pairs_pass test xs ≡ true
pairs_pass_by R test f [] h = refl
pairs_pass_by R test f (x ∷ xs) h =
    and_from (list_all (test x) xs) (pairs_pass test xs)
    (list_all-from_AllPass (test x) xs (λ k d lt. f x (slice_index_or xs k d)
    (h 0 (suc k) d (omega arith) (omega (arith, lt)))))
    (pairs_pass_by R test f xs (λ i j d a b. h (suc i) (suc j) d (omega (arith, a))
    (omega (arith, b))))

none_or_by : {A : Type 0} (P : A → Type 0) (test : A → Bool) → ((x : A) → P x → test x ≡ true)
    → (o : Option A) → IfSome o P → none_or test o ≡ true
none_or_by P test f None h = refl
none_or_by P test f (Some x) h = f x h

then_pass : (a b : Bool) → (a ≡ true → b ≡ true) → if_then a b ≡ true
then_pass true b h = h refl
then_pass false b h = refl

empty_pass : {A : Type 0} (xs : List A) → xs ≡ [] → is_empty xs ≡ true
empty_pass xs h = ap is_empty h

some_pass : {A : Type 0} (xs : List A) → xs ≢ [] → not (is_empty xs) ≡ true
some_pass [] h = absurd (h refl)
some_pass (x ∷ xs) h = refl

-- within a list no default matters
same_default : {A : Type 0} (xs : List A) (k : ℕ) (d e : A) → k < length xs
    → slice_index_or xs k d ≡ slice_index_or xs k e
same_default [] k d e lt = absurd (omega (arith, lt))
same_default (x ∷ xs) zero d e lt = refl
same_default (x ∷ xs) (suc k) d e lt = same_default xs k d e (omega (arith, lt))

-- what is there is counted
in_filter : {A : Type 0} (test : A → Bool) (xs : List A) (k : ℕ) (d : A) → k < length xs
    → test (slice_index_or xs k d) ≡ true → 0 < length (filter test xs)
in_filter test [] k d lt is = absurd (omega (arith, lt))
in_filter test (x ∷ xs) zero d lt is = go (test x) is
  where
    go : (b : Bool) → b ≡ true → 0 < length (cond b (x ∷ filter test xs) (filter test xs))
    go true e = omega arith
    go false e = absurd (true≢false (sym e))
in_filter test (x ∷ xs) (suc k) d lt is =
    go (test x) (in_filter test xs k d (omega (arith, lt)) is)
  where
    go : (b : Bool) → 0 < length (filter test xs)
        → 0 < length (cond b (x ∷ filter test xs) (filter test xs))
    go true some = omega arith
    go false some = some

-- ---- ranges

word_passes : (n : ℕ) → IsWord n → is_word n ≡ true
word_passes n h = lt-ltb n (2 ^ 32) h

byte_passes : (n : ℕ) → IsByte n → is_byte n ≡ true
byte_passes n h = lt-ltb n 256 h

pending_passes : (set : ℕ) → IsPending set → is_pending set ≡ true
pending_passes set h = and_from (is_word set) (not (has_bit set 0)) (word_passes set h.0)
    (not_from_false (has_bit set 0) h.1)

mask_passes : (set : ℕ) → IsMask set → is_mask set ≡ true
mask_passes set h =
    and_from (is_word set) (not (has_bit set 0) && not (has_bit set 9)) (word_passes set h.0)
    (and_from (not (has_bit set 0)) (not (has_bit set 9)) (not_from_false (has_bit set 0) h.1)
    (not_from_false (has_bit set 9) h.2))

action_passes : (a : ℕ) → IsAction a → is_action a ≡ true
action_passes a (inl one) = or_by (a == 1) _ (eq-eqb a 1 one)
  where
    or_by : (x y : Bool) → x ≡ true → (x || y) ≡ true
    or_by x y e = ap (λ t. t || y) e
action_passes a (inr h) = or_right_by (a == 1) _
    (and_from (a % 2 == 0) (nat_lt a 0xF0000000) (eq-eqb (a % 2) 0 h.0) (lt-ltb a 0xF0000000 h.1))
  where
    or_right_by : (x y : Bool) → y ≡ true → (x || y) ≡ true
    or_right_by true y e = refl
    or_right_by false y e = e

end_passes : (end : Option End) → IsEnd end → is_end end ≡ true
end_passes (Some (PipeRead pipe)) h = lt-ltb pipe 64 h
end_passes (Some (PipeWrite pipe)) h = lt-ltb pipe 64 h
end_passes (Some Input) h = refl
end_passes (Some Output) h = refl
end_passes (Some Error) h = refl
end_passes None h = refl

page_passes : (frames : ℕ) (e : ℕ × Entry) → IsPage frames e → is_page frames e ≡ true
page_passes frames e h =
    and_from (nat_le 0x1 e.0) (nat_le e.0 0xEFFFF && nat_lt e.1.frame frames) (le-leb 0x1 e.0 h.0)
    (and_from (nat_le e.0 0xEFFFF) (nat_lt e.1.frame frames) (le-leb e.0 0xEFFFF h.1)
    (lt-ltb e.1.frame frames h.2))

registers_pass : (r : Registers) → AreRegisters r → are_registers r ≡ true
registers_pass r h =
    and_from (is_word r.pc) _ (word_passes r.pc h.pc)
    (and_from (length r.numbers == 32) _ (eq-eqb (length r.numbers) 32 h.count)
    (and_from (list_all is_word r.numbers) _ (all_pass IsWord is_word word_passes r.numbers h.words)
    (and_from (get r 0 == 0) (none_or is_word r.held) (eq-eqb (get r 0) 0 h.first)
    (none_or_by IsWord is_word word_passes r.held h.held))))

saved_passes : (s : Registers × ℕ) → IsSaved s → is_saved s ≡ true
saved_passes s h = and_from (are_registers s.0) (is_mask s.1) (registers_pass s.0 h.0)
    (mask_passes s.1 h.1)

thread_passes : (processes : List Process) (thread : Thread) → IsThread processes thread
    → is_thread processes thread ≡ true
thread_passes processes thread h =
    and_from _ _ h.process
    (and_from (are_registers thread.registers) _ (registers_pass thread.registers h.registers)
    (and_from (is_pending thread.pending) _ (pending_passes thread.pending h.pending)
    (and_from (is_mask thread.mask) _ (mask_passes thread.mask h.mask)
    (and_from (nat_le (length thread.saved) 4) (list_all is_saved thread.saved)
    (le-leb (length thread.saved) 4 h.saved.0)
    (all_pass IsSaved is_saved saved_passes thread.saved h.saved.1)))))

rising_passes : (xs : List ℕ) → IsStrictlyIncreasing xs → pairs_pass nat_lt xs ≡ true
rising_passes [] h = refl
rising_passes (x ∷ xs) h =
    and_from (list_all (nat_lt x) xs) (pairs_pass nat_lt xs)
    (list_all-from_AllPass (nat_lt x) xs (λ k d lt. lt-ltb x (slice_index_or xs k d)
    (above k d lt)))
    (rising_passes xs (λ k lt. subst (λ n. slice_index_or xs k 0 < slice_index_or (x ∷ xs) n 0)
    (let n : suc k + 1 ≡ suc (k + 1) = omega arith in n) (h (suc k) (omega (arith, lt)))))
  where
    above : (k d : ℕ) → k < length xs → x < slice_index_or xs k d
    above zero d lt =
        subst (λ n. x < n) (same_default xs 0 0 d lt) (h 0 (omega (arith, lt)))
    above (suc k) d lt =
        let before : x < slice_index_or xs k 0 = above k 0 (omega (arith, lt)) in
        let next : slice_index_or xs k 0 < slice_index_or xs (k + 1) 0 =
        subst (λ n. slice_index_or xs k 0 < slice_index_or (x ∷ xs) n 0)
        (let n : suc k + 1 ≡ suc (k + 1) = omega arith in n) (h (suc k) (omega (arith, lt))) in
        let there : slice_index_or xs (k + 1) 0 ≡ slice_index_or xs (suc k) d =
        ap (λ n. slice_index_or xs n 0) (let n : k + 1 ≡ suc k = omega arith in n)
        ∙ same_default xs (suc k) 0 d lt in
        subst (λ n. x < n) there (omega (arith, before, next))

apart_passes : (a b : ℕ × Entry) → a.1.frame ≢ b.1.frame → not (a.1.frame == b.1.frame) ≡ true
apart_passes a b h = go (a.1.frame == b.1.frame) refl
  where
    go : (same : Bool) → (a.1.frame == b.1.frame) ≡ same → not same ≡ true
    go true e = absurd (h (eqb-true a.1.frame b.1.frame e))
    go false e = refl

holdings_pass : (frames : ℕ) (h : Holdings) → AreHoldings frames h → are_holdings frames h ≡ true
holdings_pass frames h is =
    and_from _ _
    (and_from (length h.actions == 31) (list_all is_action h.actions)
    (eq-eqb (length h.actions) 31 is.actions.0)
    (all_pass IsAction is_action action_passes h.actions is.actions.1))
    (and_from _ _
    (and_from (length h.descriptors == 32) (list_all is_end h.descriptors)
    (eq-eqb (length h.descriptors) 32 is.descriptors.0)
    (all_pass IsEnd is_end end_passes h.descriptors is.descriptors.1))
    (and_from (pairs_pass nat_lt (map (λ e. e.0) h.space)) _
    (rising_passes (map (λ e. e.0) h.space) is.rising)
    (and_from (list_all (is_page frames) h.space) _
    (all_pass (IsPage frames) (is_page frames) (page_passes frames) h.space is.pages)
    (pairs_pass_by (λ a b. a.1.frame ≢ b.1.frame) (λ a b. not (a.1.frame == b.1.frame)) apart_passes
    h.space is.apart))))

sleeper_passes : (frames : ℕ) (s : Sleeper) → IsSleeper frames s → is_sleeper frames s ≡ true
sleeper_passes frames s h =
    and_from (nat_lt s.frame frames) _ (lt-ltb s.frame frames h.0)
    (and_from (s.offset % 4 == 0) (nat_lt s.offset 4096) (eq-eqb (s.offset % 4) 0 h.1)
    (lt-ltb s.offset 4096 h.2))

pipe_passes : (bytes : List ℕ) → IsPipe bytes → is_pipe bytes ≡ true
pipe_passes bytes h =
    and_from (nat_le (length bytes) 4096) (list_all is_byte bytes) (le-leb (length bytes) 4096 h.0)
    (all_pass IsByte is_byte byte_passes bytes h.1)

-- ---- the world

owner_passes : (threads : ℕ) (o : Owner) → ((t : ℕ) → o ≡ Of t → (1 ≤ t) × (t ≤ threads))
    → is_owner threads o ≡ true
owner_passes threads Free h = refl
owner_passes threads Shared h = refl
owner_passes threads (Of t) h =
    and_from (nat_le 1 t) (nat_le t threads) (le-leb 1 t (h t refl).0)
    (le-leb t threads (h t refl).1)

free_passes : (o : Owner) (mapped : Bool) → (o ≡ Free) ↔ IsFalse mapped
    → same_truth (is_free o) (not mapped) ≡ true
free_passes Free false h = refl
free_passes Free true h = absurd (true≢false (h.0 refl))
free_passes Shared true h = refl
free_passes Shared false h = absurd (grind (arith, h.1 refl))
free_passes (Of t) true h = refl
free_passes (Of t) false h = absurd (grind (arith, h.1 refl))

-- each frame that is Free is zero
zeros_pass : (owners : List Owner) (bytes : List ℕ) → length bytes ≡ 4096 * length owners
    → ((frame offset : ℕ) → slice_index_or owners frame Free ≡ Free → offset < 4096
    → slice_index_or bytes (4096 * frame + offset) 0 ≡ 0)
    → are_zero_if_free owners bytes ≡ true
zeros_pass [] bytes count h = refl
zeros_pass (owner ∷ owners) bytes count h =
    and_from _ _ (then_pass (is_free owner) (list_all (λ byte. byte == 0) (take 4096 bytes)) first)
    (zeros_pass owners (drop 4096 bytes) (omega (arith, length-drop 4096 bytes, count)) others)
  where
    is_zero : owner ≡ Free → (k d : ℕ) → k < length (take 4096 bytes)
        → slice_index_or (take 4096 bytes) k d ≡ 0
    is_zero free k d lt =
        let few : k < 4096 = omega (arith, length-take 4096 bytes, lt) in
        let within : k < length bytes = omega (arith, length-take 4096 bytes, lt) in
        get_or-take 4096 bytes k d few ∙ same_default bytes k d 0 within
        ∙ ap (λ n. slice_index_or bytes n 0) (let n : k ≡ 4096 * 0 + k = omega arith in n)
        ∙ h 0 k free few

    is_owned : (o : Owner) → is_free o ≡ true → o ≡ Free
    is_owned Free e = refl
    is_owned Shared e = absurd (true≢false (sym e))
    is_owned (Of t) e = absurd (true≢false (sym e))

    first : is_free owner ≡ true → list_all (λ byte. byte == 0) (take 4096 bytes) ≡ true
    first free = list_all-from_AllPass (λ byte. byte == 0) (take 4096 bytes) (λ k d lt.
        eq-eqb (slice_index_or (take 4096 bytes) k d) 0 (is_zero (is_owned owner free) k d lt))

    others : (frame offset : ℕ) → slice_index_or owners frame Free ≡ Free → offset < 4096
        → slice_index_or (drop 4096 bytes) (4096 * frame + offset) 0 ≡ 0
    others frame offset free within =
        get_or-drop 4096 bytes (4096 * frame + offset) 0
        ∙ ap (λ n. slice_index_or bytes n 0) (omega arith) ∙ h (suc frame) offset free within

module _ (w : World) (h : Lawful w) where
  frames_pass : frames_are_lawful w ≡ true
  frames_pass =
      and_from (has_bytes w) _
      (and_from (length w.bytes == 4096 * length w.owners) (list_all is_byte w.bytes)
      (eq-eqb (length w.bytes) (4096 * length w.owners) h.frames.bytes.0)
      (all_pass IsByte is_byte byte_passes w.bytes h.frames.bytes.1))
      (and_from (passes_below (length w.owners) (frees_unmapped w)) _
      (some_below (frees_unmapped w) (length w.owners)
      (λ frame lt. free_passes (owner_of w frame) (is_mapped w frame) (h.frames.free frame lt)))
      (and_from (are_zero_if_free w.owners w.bytes)
      (list_all (is_owner (length w.threads)) w.owners)
      (zeros_pass w.owners w.bytes h.frames.bytes.0 h.frames.zeros)
      (list_all-from_AllPass (is_owner (length w.threads)) w.owners
      (λ frame d lt. owner_passes (length w.threads) (slice_index_or w.owners frame d)
      (λ t is. h.frames.owned frame t (same_default w.owners frame Free d lt ∙ is))))))

  alone_passes : (e : ℕ × Entry) → IsAlone w e → is_alone w e ≡ true
  alone_passes e alone = then_pass (not e.1.shared) (uses_of w e.1.frame == 1)
      (λ is. eq-eqb (uses_of w e.1.frame) 1 (alone (not-true e.1.shared is)))

  processes_pass : processes_are_lawful w ≡ true
  processes_pass =
      and_from (list_all (are_holdings (length w.owners)) (all_holdings w.processes)) _
      (all_pass (AreHoldings (length w.owners)) (are_holdings (length w.owners))
      (holdings_pass (length w.owners)) (all_holdings w.processes) h.processes.holdings)
      (and_from (list_all (λ h. list_all (is_alone w) h.space) (all_holdings w.processes)) _
      (all_pass (λ h. All (IsAlone w) h.space) (λ h. list_all (is_alone w) h.space)
      (λ held. all_pass (IsAlone w) (is_alone w) alone_passes held.space) (all_holdings w.processes)
      h.processes.private)
      (and_from (passes_below (length w.processes + 1) (has_thread w)) _
      (all_below (has_thread w) (length w.processes + 1)
      (λ p. then_pass (is_some (live_process w p)) (not (is_empty (threads_of w p)))
      (λ lives. some_pass (threads_of w p) (h.processes.populated p lives))))
      (and_from (passes_below (length w.processes + 1) (has_lower_parent w)) _
      (all_below (has_lower_parent w) (length w.processes + 1)
      (λ p. none_or_by (λ process. process.parent < p) (λ process. nat_lt process.parent p)
      (λ process. lt-ltb process.parent p) (numbered w.processes p) (h.processes.parents p)))
      (and_from _ (list_all has_status w.processes)
      (and_from (nat_lt 0 (length w.processes)) (nat_le (length w.processes) (length w.threads))
      (lt-ltb 0 (length w.processes) h.processes.given.0)
      (le-leb (length w.processes) (length w.threads) h.processes.given.1))
      (all_pass HasStatus has_status (λ process. lt-ltb (status_of process) 256) w.processes
      h.processes.statuses)))))

  -- who stands in the queue is asleep
  sleeper_is_asleep : (k : ℕ) (d : Sleeper) → k < length w.sleepers
      → is_asleep w (slice_index_or w.sleepers k d) ≡ true
  sleeper_is_asleep k d lt =
      go (is_asleep w (slice_index_or w.sleepers k d)) refl
    where
      s : Sleeper
      s = slice_index_or w.sleepers k d

      counted : 0 < turns_asleep (thread_at w s.thread)
      counted = subst (λ n. 0 < n) (length-filter (λ x. x.thread == s.thread) w.sleepers
          ∙ h.threads.asleep s.thread)
          (in_filter (λ x. x.thread == s.thread) w.sleepers k d lt (eq-eqb s.thread s.thread refl))

      go : (b : Bool) → is_asleep w s ≡ b → b ≡ true
      go true is = refl
      go false is = absurd (omega (arith, counted, ap {B = ℕ} (λ b. cond b 1 0) is))

  threads_pass : threads_are_lawful w ≡ true
  threads_pass =
      and_from (passes_below (length w.threads + 1)
      (λ t. none_or (is_thread w.processes) (thread_at w t))) _
      (all_below (λ t. none_or (is_thread w.processes) (thread_at w t)) (length w.threads + 1)
      (λ t. none_or_by (IsThread w.processes) (is_thread w.processes) (thread_passes w.processes)
      (thread_at w t) (h.threads.ranges t)))
      (and_from (passes_below (length w.threads + 1) (sleeps_once w)) _
      (all_below (sleeps_once w) (length w.threads + 1)
      (λ t. eq-eqb _ _ (h.threads.asleep t)))
      (and_from (list_all (is_asleep w) w.sleepers)
      (list_all (is_sleeper (length w.owners)) w.sleepers)
      (list_all-from_AllPass (is_asleep w) w.sleepers sleeper_is_asleep)
      (all_pass (IsSleeper (length w.owners)) (is_sleeper (length w.owners))
      (sleeper_passes (length w.owners)) w.sleepers h.threads.sleepers)))

  pipes_pass : pipes_are_lawful w ≡ true
  pipes_pass =
      and_from _ (passes_below 64 (is_empty_if_closed w))
      (and_from (length w.pipes == 64) (list_all is_pipe w.pipes)
      (eq-eqb (length w.pipes) 64 h.pipes.ranges.0)
      (all_pass IsPipe is_pipe pipe_passes w.pipes h.pipes.ranges.1))
      (all_below (is_empty_if_closed w) 64
      (λ pipe. then_pass (not (is_open w pipe)) (is_empty (slice_index_or w.pipes pipe []))
      (λ closed. empty_pass (slice_index_or w.pipes pipe [])
      (h.pipes.closed pipe (not-true (is_open w pipe) closed)))))

  limits_pass : is_within_limits w ≡ true
  limits_pass =
      and_from _ _
      (and_from (nat_le (length (live_threads w)) 64) (nat_le (length w.threads) 65535)
      (le-leb (length (live_threads w)) 64 h.limits.threads.0)
      (le-leb (length w.threads) 65535 h.limits.threads.1))
      (and_from (nat_le (length (all_holdings w.processes)) 32) _
      (le-leb (length (all_holdings w.processes)) 32 h.limits.processes)
      (and_from (nat_le 16 (length w.owners)) (nat_le (length w.owners) 16384)
      (le-leb 16 (length w.owners) h.limits.frames.0)
      (le-leb (length w.owners) 16384 h.limits.frames.1)))

  run_passes : is_within_run w.quantum w.rounds ≡ true
  run_passes =
      and_from _ (nat_le w.rounds 1000000)
      (and_from (nat_le 16 w.quantum) (nat_le w.quantum 65536) (le-leb 16 w.quantum h.run.turn.0)
      (le-leb w.quantum 65536 h.run.turn.1))
      (le-leb w.rounds 1000000 h.run.count)

  -- So a world is lawful exactly where it passes.
  pub lawful_passes : is_lawful w ≡ true
  lawful_passes =
      and_from (frames_are_lawful w) (is_lawful_but_for_frames w) frames_pass
      (and_from (processes_are_lawful w) _ processes_pass
      (and_from (threads_are_lawful w) _ threads_pass
      (and_from (pipes_are_lawful w) _ pipes_pass
      (and_from (is_within_limits w) (is_within_run w.quantum w.rounds) limits_pass run_passes))))
