-- Posts, and threads that wake: they keep a world standing. Pending sets and masks stay in range.
use Rattle.std.proofs.Common.{ℕ, zero, suc, ◌+◌, ◌-◌, ◌*◌, ◌%◌, ◌/◌, ◌^◌, ◌<◌, ◌≤◌, ◌≡◌, ◌≢◌, ◌⊎◌}
use Rattle.std.proofs.Common.{inl, inr, refl, sym, ap, ◌∙◌, subst, Bool, true, false, cond, not}
use Rattle.std.proofs.Common.{List, [], ◌∷◌, length, Option, Some, None, option_map, max, min}
use Rattle.std.proofs.Common.{arith, eqb-true, eq-eqb}
use Rattle.std.specs.Prelude.{All, ◌==◌, filter, bit_or}
use Rattle.std.specs.Int.{bit_at}
use Rattle.std.proofs.Math.Nat.{pow-succ'}
use Rattle.std.proofs.lemmas.Nat.{or_lt, and_le_l}
use Rattle.std.proofs.lemmas.Nat.Bits.{bit_at_or, bit_at_and, bit_at-pow_other}
use Rattle.std.proofs.lemmas.Bool.{cond_both, ne_eqb, cases_eq}
use Rattle.std.proofs.lemmas.List.Elements.{All-nil, All-cons, All-head, All-tail}
use Rattle.dos_world.specs.World.{World, Thread, Sleeper, has_bit, with_bit, without_bit}
use Rattle.dos_world.specs.World.{allowed_mask, thread_at, first_thread, with_thread}
use Rattle.dos_world.specs.Kernel.{posted, pending_with, woken, awake, is_other}
use Rattle.dos_world.specs.FutexCalls.{all_woken}
use Rattle.dos_world.specs.Signals.{cleared}
use Rattle.dos_world.specs.Lawful.{IsPending, IsMask, IsSleeper, turns_asleep}
use Rattle.dos_laws.specs.Standing.{LawfulWith}
use Rattle.dos_laws.proofs.RegisterRanges.{answered_ranges}
use Rattle.dos_laws.proofs.Stands.{with_run, Changes, awake_by, lawful-changed, awake-changed}
use Rattle.dos_laws.proofs.Stands.{stands-with_thread, times, times-cons}

-- ---- sets of signals

power_word : (k : ℕ) → k ≤ 31 → 2 ^ k < 2 ^ 32
power_word k h =
    let same : suc ((31 - k) + k) ≡ 32 = omega arith in
    subst (λ n. 2 ^ k < 2 ^ n) same (less k (31 - k))
  where
    power_positive : (n : ℕ) → 0 < 2 ^ n
    power_positive zero = omega arith
    power_positive (suc n) = omega (arith, pow-succ' 2 n, power_positive n)

    power_grows : (n d : ℕ) → 2 ^ n ≤ 2 ^ (d + n)
    power_grows n zero =
        let same : n ≡ 0 + n = omega arith in subst (λ m. 2 ^ n ≤ 2 ^ m) same (omega arith)
    power_grows n (suc d) =
        let same : suc (d + n) ≡ suc d + n = omega arith in
        subst (λ m. 2 ^ n ≤ 2 ^ m) same (omega (arith, pow-succ' 2 (d + n), power_grows n d))

    less : (n d : ℕ) → 2 ^ n < 2 ^ (suc (d + n))
    less n d = omega (arith, pow-succ' 2 (d + n), power_grows n d, power_positive n)

-- a signal more leaves the other bits
with_bit-other : (set k i : ℕ) → i ≢ k → has_bit set i ≡ false → has_bit (with_bit set k) i ≡ false
with_bit-other set k i other unset =
    let is : bit_at (bit_or set (2 ^ k)) i ≡ max (bit_at set i) (bit_at (2 ^ k) i) =
    bit_at_or set (2 ^ k) i in
    let power : bit_at (2 ^ k) i ≡ 0 = bit_at-pow_other k i other in
    ap (λ n. n == 1) (is ∙ ap (max (bit_at set i)) power ∙ max_zero (bit_at set i)) ∙ unset
  where
    max_zero : (n : ℕ) → max n 0 ≡ n
    max_zero n = omega arith

with_bit-word : (set k : ℕ) → k ≤ 31 → set < 2 ^ 32 → with_bit set k < 2 ^ 32
with_bit-word set k h is = or_lt 32 set (2 ^ k) is (power_word k h)

pub pending-posted : (set signal : ℕ) → 1 ≤ signal → signal ≤ 31 → IsPending set
    → IsPending (with_bit set signal)
pending-posted set signal low high is = (
  with_bit-word set signal high is.0,
  with_bit-other set signal 0 (λ e. absurd (omega arith)) is.1,
)

pub mask-with : (set signal : ℕ) → 1 ≤ signal → signal ≤ 31 → signal ≢ 9 → IsMask set
    → IsMask (with_bit set signal)
mask-with set signal low high other is = (
  with_bit-word set signal high is.0,
  with_bit-other set signal 0 (λ e. absurd (omega arith)) is.1,
  with_bit-other set signal 9 (λ e. other (sym e)) is.2,
)

pub pending-cleared : (set signal : ℕ) → 1 ≤ signal → IsPending set
    → IsPending (without_bit set signal)
pending-cleared set zero low is = absurd (omega arith)
pending-cleared set (suc k) low is =
    cond_both (has_bit set (suc k)) (set - 2 ^ suc k) set IsPending
    (λ yes. (omega (arith, is.0), lowest (set % 2) refl)) (λ no. is)
  where
    even : has_bit set 0 ≡ false → set % 2 ≡ 0
    even h = by_bit (cases_eq (set % 2) 1)
      where
        low_bit : set / 2 ^ 0 % 2 ≡ set % 2
        low_bit = omega arith

        by_bit : (set % 2 ≡ 1) ⊎ (set % 2 ≡ 1 → ⊥) → set % 2 ≡ 0
        by_bit (inl one) =
            absurd (true_false (sym (eq-eqb (set / 2 ^ 0 % 2) 1 (low_bit ∙ one)) ∙ h))
          where
            true_false : true ≡ false → ⊥
            true_false e = cc
        by_bit (inr not_one) = omega arith

    lowest : (b : ℕ) → set % 2 ≡ b → has_bit (set - 2 ^ suc k) 0 ≡ false
    lowest b e =
        let was : set % 2 ≡ 0 = even is.1 in
        let double : 2 ^ suc k ≡ 2 * 2 ^ k = pow-succ' 2 k in
        let now : (set - 2 ^ suc k) / 2 ^ 0 % 2 ≡ 0 = omega arith in ap (λ n. n == 1) now

pub mask-allowed : (set : ℕ) → set < 2 ^ 32 → IsMask (allowed_mask set)
mask-allowed set h = (omega (arith, and_le_l set 0xFFFFFDFE), no_bit 0 refl, no_bit 9 refl)
  where
    min_zero : (n : ℕ) → min n 0 ≡ 0
    min_zero n = omega arith

    no_bit : (i : ℕ) → bit_at 0xFFFFFDFE i ≡ 0 → has_bit (allowed_mask set) i ≡ false
    no_bit i none =
        ap (λ n. n == 1)
        (bit_at_and set 0xFFFFFDFE i ∙ ap (min (bit_at set i)) none ∙ min_zero (bit_at set i))

-- ---- a post

pub pending_change : (w : World) (t signal : ℕ) → 1 ≤ signal → signal ≤ 31
    → Changes w t (pending_with signal)
pending_change w t signal low high = record {
  process = λ thread. refl;
  state = λ thread. refl;
  ranges =
      λ thread at is. record {
        process = is.process;
        registers = is.registers;
        pending =
            pending-posted thread.pending signal low high is.pending;
        mask = is.mask;
        saved =
            is.saved;
      };
}

pub stands-posted : (ts : List ℕ) (w : World) (p signal : ℕ) → 1 ≤ signal → signal ≤ 31
    → LawfulWith ts w → LawfulWith ts (posted w p signal)
stands-posted ts w p signal low high k = by_first (first_thread w p)
  where
    by_first : (o : Option ℕ)
        → LawfulWith ts (elim o as (λ _. World) [
          | None ↦ w
          | Some t ↦ with_thread w t (pending_with signal)
        ])
    by_first None = k
    by_first (Some t) =
        stands-with_thread ts w t (pending_with signal) (pending_change w t signal low high) k

-- a signal that came isn't pending any more
pub cleared_change : (w : World) (t signal : ℕ) → 1 ≤ signal → Changes w t (cleared signal)
cleared_change w t signal low = record {
  process = λ thread. refl;
  state = λ thread. refl;
  ranges =
      λ thread at is. record {
        process = is.process;
        registers = is.registers;
        pending =
            pending-cleared thread.pending signal low is.pending;
        mask = is.mask;
        saved =
            is.saved;
      };
}

-- ---- waking

-- the queue without t
times-others : (t s : ℕ) → s ≢ t → (ss : List Sleeper)
    → times s (filter (is_other t) ss) ≡ times s ss
times-others t s other [] = refl
times-others t s other (x ∷ ss) = by_thread (x.thread == t) refl (times-others t s other ss)
  where
    by_thread : (b : Bool) → (x.thread == t) ≡ b → times s (filter (is_other t) ss) ≡ times s ss
        → times s (cond (not b) (x ∷ filter (is_other t) ss) (filter (is_other t) ss))
        ≡ times s (x ∷ ss)
    by_thread true e rest =
        let not_s : (x.thread == s) ≡ false =
        ne_eqb x.thread s (λ same. other (sym same ∙ eqb-true x.thread t e)) in
        rest
        ∙ sym
        (times-cons s x ss ∙ ap (λ b. cond {A = ℕ} b 1 0 + times s ss) not_s ∙ none (times s ss))
      where
        none : (n : ℕ) → 0 + n ≡ n
        none n = omega arith
    by_thread false e rest =
        times-cons s x (filter (is_other t) ss)
        ∙ ap (λ n. cond {A = ℕ} (x.thread == s) 1 0 + n) rest
        ∙ sym (times-cons s x ss)

times-itself : (t : ℕ) (ss : List Sleeper) → times t (filter (is_other t) ss) ≡ 0
times-itself t [] = refl
times-itself t (x ∷ ss) = by_thread (x.thread == t) refl (times-itself t ss)
  where
    by_thread : (b : Bool) → (x.thread == t) ≡ b → times t (filter (is_other t) ss) ≡ 0
        → times t (cond (not b) (x ∷ filter (is_other t) ss) (filter (is_other t) ss)) ≡ 0
    by_thread true e rest = rest
    by_thread false e rest =
        times-cons t x (filter (is_other t) ss)
        ∙ ap (λ b. cond {A = ℕ} b 1 0 + times t (filter (is_other t) ss)) e
        ∙ ap (λ n. 0 + n) rest

pub all-filtered : {A : Type 0} (P : A → Type 0) (test : A → Bool) (xs : List A) → All P xs
    → All P (filter test xs)
all-filtered P test [] all = All-nil P
all-filtered {A} P test (x ∷ xs) all =
    by_test (test x) (all-filtered P test xs (All-tail P x xs all))
  where
    by_test : (b : Bool) → All P (filter test xs)
        → All P (cond b (x ∷ filter test xs) (filter test xs))
    by_test true rest = All-cons P x (filter test xs) (All-head P x xs all) rest
    by_test false rest = rest

pub stands-woken : (ts : List ℕ) (w : World) (t v : ℕ) → v < 2 ^ 32 → LawfulWith ts w
    → LawfulWith ts (woken w t v)
stands-woken ts w t v h k = record {
  lawful = lawful-changed (awake v) (λ thread. refl) w t (filter (is_other t) w.sleepers)
      (λ thread at is. with_run w.processes thread _ _ _
      (answered_ranges v thread.registers h is.registers) is)
      (λ s other. times-others t s other w.sleepers)
      (times-itself t w.sleepers ∙ sym (ready (thread_at w t)))
      (all-filtered (IsSleeper (length w.owners)) (is_other t) w.sleepers k.lawful.threads.sleepers)
      k.lawful;
  awake =
      awake_by w (with_thread w t (awake v)) ts
      (awake-changed (awake v) (λ thread. refl) w t (λ thread ready. refl)) k.awake;
  apart = k.apart;
}
  where
    ready : (o : Option Thread) → turns_asleep (option_map (awake v) o) ≡ 0
    ready None = refl
    ready (Some thread) = refl

pub stands-all_woken : (ts : List ℕ) (w : World) (us : List ℕ) → LawfulWith ts w
    → LawfulWith ts (all_woken w us)
stands-all_woken ts w [] k = k
stands-all_woken ts w (u ∷ us) k =
    stands-all_woken ts (woken w u 0) us (stands-woken ts w u 0 (omega arith) k)
