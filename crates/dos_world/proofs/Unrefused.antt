-- What an accepted call gives isn't what a refused one would give: a0 is no error's number, or
-- something else has changed.
use Rattle.std.proofs.Common.{ℕ, zero, suc, ◌+◌, ◌/◌, ◌%◌, ◌<◌, ◌≤◌, ◌≡◌, ◌≢◌, refl, sym, ap, ◌∙◌}
use Rattle.std.proofs.Common.{subst, Bool, cond, true, false, not, List, [], ◌∷◌, length, map}
use Rattle.std.proofs.Common.{filter, take, Option, Some, option_map, arith}
use Rattle.std.specs.Prelude.{◌==◌, ◌&&◌, IsTrue}
use Rattle.std.proofs.lemmas.Bool.{eqb-true, eq-eqb, and_parts, true≢false}
use Rattle.std.proofs.lemmas.List.{get_or-set_other}
use Rattle.dos_world.specs.Numbered.{numbered, places_from, run_of}
use Rattle.dos_world.specs.World.{World, Thread, Registers, Sleeper, flat, thread_at, with_thread}
use Rattle.dos_world.specs.World.{with_registers, registers_by, first_of, get, set, has_bit}
use Rattle.dos_world.specs.Kernel.{minus, answered, answered_two, opened, is_other, woken}
use Rattle.dos_world.specs.Reach.{Reached, fault, foreign, at, reach, grant}
use Rattle.dos_world.specs.Play.{Play, done, ask, Answer}
use Rattle.dos_world.specs.Calls.{Served, went, waits, yields, gone, Call}
use Rattle.dos_world.specs.FutexCalls.{all_woken}
use Rattle.dos_world.specs.SignalCalls.{refused_in_place, restored}
use Rattle.dos_world.specs.Refusals.{granted_before, refused_registers, refused}
use Rattle.dos_world.specs.declared.Question.{Question}
use Rattle.dos_world.specs.declared.Access.{Access}
use Rattle.dos_world.specs.declared.Access.TheVariants.{Load}
use Rattle.dos_world.specs.declared.Size.TheVariants.{Byte}
use Rattle.dos_world.proofs.Numbers.{changed_there}
use Rattle.dos_world.proofs.Caller.{lives, a0_of, a0-changed, a0-set}

-- ---- what a refusal leaves

-- what is so of a call's world and of the world in which a page is granted
abbrev pub granted-same : {A : Type 0} (seen : World → A)
    (same : (w : World) (frame t : ℕ) (access : Access)
    → seen (grant w t frame access) ≡ seen w)
    → (service number : ℕ) (c : Call) → seen (granted_before service number c) ≡ seen c.world
granted-same seen same service number c = by_case ((number == 11) && (service == 11))
  where
    by_reached : (r : Reached)
        → seen (elim r as (λ _. World) [
          | fault n ↦ c.world
          | foreign frame ↦ grant c.world c.thread frame Load
          | at place ↦ c.world
        ])
        ≡ seen c.world
    by_reached (fault n) = refl
    by_reached (foreign frame) = same c.world frame c.thread Load
    by_reached (at place) = refl

    by_case : (b : Bool) → seen (cond b (opened c.world c.thread c.a0 Load) c.world) ≡ seen c.world
    by_case true = by_reached (reach c.world c.thread c.a0 Byte Load)
    by_case false = refl

pub threads-granted : (service number : ℕ) (c : Call)
    → (granted_before service number c).threads ≡ c.world.threads
threads-granted service number c =
    granted-same (λ w. w.threads) (λ w frame t access. refl) service number c

pub sleepers-granted : (service number : ℕ) (c : Call)
    → (granted_before service number c).sleepers ≡ c.world.sleepers
sleepers-granted service number c =
    granted-same (λ w. w.sleepers) (λ w frame t access. refl) service number c

-- a0 is minus the number
refused-a0 : (service number : ℕ) (r : Registers) → 10 < length r.numbers
    → get (refused_registers service number r) 10 ≡ minus number
refused-a0 service number r h = by_case ((number == 22) && (service == 18)) refl
  where
    by_case : (b : Bool) → ((number == 22) && (service == 18)) ≡ b
        → get (cond b refused_in_place (answered (minus number)) r) 10 ≡ minus number
    by_case true e = a0-set (minus 22) r h
        ∙ sym (ap minus (eqb-true number 22 (and_parts (number == 22) (service == 18) e).0))
    by_case false e = a0-set (minus number) r h

-- ---- what no refusal is

-- what a service gives isn't a refusal with an error's number
abbrev pub NotRefused : ℕ → Call → Play Served → Type 0
NotRefused service c play = (number : ℕ) → 0 < number → number < 64
    → play ≢ done (went (refused service number c))

pub gone-not : (service : ℕ) (c : Call) (w : World) → NotRefused service c (done (gone w))
gone-not service c w number above below e = apart e
  where
    apart : {a b : World} → ◌≡◌ {A = Play Served} (done (gone a)) (done (went b)) → ⊥
    apart e = cc

pub waits-not : (service : ℕ) (c : Call) (w : World) → NotRefused service c (done (waits w))
waits-not service c w number above below e = apart e
  where
    apart : {a b : World} → ◌≡◌ {A = Play Served} (done (waits a)) (done (went b)) → ⊥
    apart e = cc

pub yields-not : (service : ℕ) (c : Call) (w : World) → NotRefused service c (done (yields w))
yields-not service c w number above below e = apart e
  where
    apart : {a b : World} → ◌≡◌ {A = Play Served} (done (yields a)) (done (went b)) → ⊥
    apart e = cc

pub ask-not : (service : ℕ) (c : Call) (question : Question) (output error : List ℕ) (next : Answer
    → Play Served) → NotRefused service c (ask question output error next)
ask-not service c question output error next number above below e = apart e
  where
    apart : {q : Question} {o e : List ℕ} {n : Answer → Play Served} {b : World}
        → ◌≡◌ {A = Play Served} (ask q o e n) (done (went b)) → ⊥
    apart e = cc

-- the values of two options
pub same_value : (a b : ℕ) → ◌≡◌ {A = Option ℕ} (Some a) (Some b) → a ≡ b
same_value a b e = cc

-- the worlds of two that go on
pub same_world : (a b : World) → ◌≡◌ {A = Play Served} (done (went a)) (done (went b)) → a ≡ b
same_world a b e = cc

-- no error's number
abbrev pub IsNoError : ℕ → Type 0
IsNoError value = (number : ℕ) → 0 < number → number < 64 → value ≢ minus number

pub small-no_error : (value : ℕ) → value < 0xF0000000 → IsNoError value
small-no_error value small number above below e = absurd (omega (arith, small, above, below, e))

-- a0 has a value that is no error's number
pub answer-not : (service : ℕ) (c : Call) (w : World) (f : Registers → Registers) (value : ℕ)
    → ((r : Registers) → 10 < length r.numbers → get (f r) 10 ≡ value) → IsNoError value
    → IsTrue (lives w.threads c.thread) → IsTrue (lives c.world.threads c.thread)
    → NotRefused service c (done (went (with_registers w c.thread f)))
answer-not service c w f value gives no_error there here number above below e =
    let same = same_world (with_registers w c.thread f) (refused service number c) e in
    let still : IsTrue (lives (granted_before service number c).threads c.thread) =
    subst (λ ts. IsTrue (lives ts c.thread)) (sym (threads-granted service number c)) here in
    let left = a0-changed f value gives w.threads c.thread there in
    let right = a0-changed (refused_registers service number) (minus number)
    (refused-a0 service number) (granted_before service number c).threads c.thread still in
    no_error number above below
    (same_value value (minus number)
    (sym left ∙ (ap (λ w. a0_of (thread_at w c.thread)) same ∙ right)))

pub a0-two : (first second : ℕ) (r : Registers) → 10 < length r.numbers
    → get (answered_two first second r) 10 ≡ first
a0-two first second r h = get_or-set_other (set r 10 first).numbers 11 10 second 0 (omega arith)
    ∙ a0-set first r h

-- a mask never has bit 9, and minus an error's number has it
pub mask-no_error : (value : ℕ) → has_bit value 9 ≡ false → IsNoError value
mask-no_error value clear number above below e =
    true≢false (sym (has_9 number above below) ∙ (ap (λ n. has_bit n 9) (sym e) ∙ clear))
  where
    has_9 : (n : ℕ) → 0 < n → n < 64 → has_bit (minus n) 9 ≡ true
    has_9 n above below = let high : minus n / 512 ≡ 8388607 = omega (arith, above, below) in
        ap (λ q. q % 2 == 1) high

-- ---- one of few numbers

-- each number is below a bound
abbrev pub AreBelow : ℕ → List ℕ → Type 0
AreBelow bound [] = Unit
AreBelow bound (n ∷ ns) = (n < bound) × AreBelow bound ns

pub below-run : (bound n count : ℕ) → n + count ≤ bound → AreBelow bound (run_of n count)
below-run bound n zero h = tt
below-run bound n (suc count) h = (omega arith, below-run bound (suc n) count (omega arith))

pub below-places : {A : Type 0} (bound : ℕ) (test : A → Bool) (n : ℕ) (xs : List A)
    → n + length xs ≤ bound → AreBelow bound (places_from n test xs)
below-places bound test n [] h = tt
below-places bound test n (x ∷ xs) h =
    by_first (test x) (below-places bound test (suc n) xs (omega arith))
  where
    by_first : (b : Bool) → AreBelow bound (places_from (suc n) test xs)
        → AreBelow bound (cond b (n ∷ places_from (suc n) test xs) (places_from (suc n) test xs))
    by_first true rest = (omega arith, rest)
    by_first false rest = rest

pub below-filter : (bound : ℕ) (test : ℕ → Bool) (ns : List ℕ) → AreBelow bound ns
    → AreBelow bound (filter test ns)
below-filter bound test [] h = tt
below-filter bound test (n ∷ ns) h = by_first (test n) (below-filter bound test ns h.1)
  where
    by_first : (b : Bool) → AreBelow bound (filter test ns)
        → AreBelow bound (cond b (n ∷ filter test ns) (filter test ns))
    by_first true rest = (h.0, rest)
    by_first false rest = rest

pub below-first : (bound : ℕ) (ns : List ℕ) (n : ℕ) → AreBelow bound ns → first_of ns ≡ Some n
    → n < bound
below-first bound [] n h e = absurd cc
below-first bound (m ∷ ns) n h e = subst (λ k. k < bound) (same_value m n e) h.0

-- ---- futex_wake

length-filter : (test : Sleeper → Bool) (xs : List Sleeper) → length (filter test xs) ≤ length xs
length-filter test [] = omega arith
length-filter test (x ∷ xs) = by_first (test x) (length-filter test xs)
  where
    by_first : (b : Bool) → length (filter test xs) ≤ length xs
        → length (cond b (x ∷ filter test xs) (filter test xs)) ≤ suc (length xs)
    by_first true rest = omega arith
    by_first false rest = omega arith

length-woken : (w : World) (ts : List ℕ) → length (all_woken w ts).sleepers ≤ length w.sleepers
length-woken w [] = omega arith
length-woken w (t ∷ ts) =
    let first = length-filter (is_other t) w.sleepers in
    let rest = length-woken (woken w t 0) ts in
    omega (arith, first, rest)

-- where somebody is woken, fewer are left
fewer : (test : Sleeper → Bool) (t : ℕ) (xs : List Sleeper)
    → first_of (map (λ s. s.thread) (filter test xs)) ≡ Some t
    → length (filter (is_other t) xs) < length xs
fewer test t [] e = absurd cc
fewer test t (x ∷ xs) e = by_first (test x) e (fewer test t xs)
  where
    left : (b : Bool) → (n : ℕ)
        → length (cond b (x ∷ filter (is_other t) xs) (filter (is_other t) xs)) ≤ suc
        (length (filter (is_other t) xs))
    left true n = omega arith
    left false n = omega arith

    it_is : x.thread ≡ t → length
        (cond (is_other t x) (x ∷ filter (is_other t) xs) (filter (is_other t) xs))
        ≡ length (filter (is_other t) xs)
    it_is same = ap (λ (b : Bool). length
        (cond (not b) (x ∷ filter (is_other t) xs) (filter (is_other t) xs)))
        (eq-eqb x.thread t same)

    by_first : (b : Bool)
        → first_of (map (λ s. s.thread) (cond b (x ∷ filter test xs) (filter test xs))) ≡ Some t
        → (first_of (map (λ s. s.thread) (filter test xs)) ≡ Some t
        → length (filter (is_other t) xs) < length xs)
        → length (cond (is_other t x) (x ∷ filter (is_other t) xs) (filter (is_other t) xs)) < suc
        (length xs)
    by_first true e rest =
        let shorter = length-filter (is_other t) xs in
        let same = it_is (same_value x.thread t e) in
        omega (arith, shorter, same)
    by_first false e rest =
        let shorter = rest e in
        let one_more = left (is_other t x) 0 in
        omega (arith, shorter, one_more)

pub wake-not : (service : ℕ) (c : Call) (test : Sleeper → Bool) (k : ℕ) (f : Registers → Registers)
    (t : ℕ) (ts : List ℕ)
    → take k (map (λ s. s.thread) (filter test c.world.sleepers)) ≡ t ∷ ts
    → NotRefused service c (done (went (with_registers (all_woken c.world (t ∷ ts)) c.thread f)))
wake-not service c test zero f t ts e number above below h = absurd cc
wake-not service c test (suc k) f t ts e number above below h =
    let same = ap (λ w. length w.sleepers)
    (same_world (with_registers (all_woken c.world (t ∷ ts)) c.thread f)
    (refused service number c) h) in
    let stands = ap length (sleepers-granted service number c) in
    let first = fewer test t c.world.sleepers
    (first_taken (map (λ s. s.thread) (filter test c.world.sleepers)) e) in
    let rest = length-woken (woken c.world t 0) ts in
    omega (arith, same, stands, first, rest)
  where
    first_taken : (xs : List ℕ) → take (suc k) xs ≡ t ∷ ts → first_of xs ≡ Some t
    first_taken [] e = absurd cc
    first_taken (x ∷ xs) e = ap first_of e

-- ---- sig_return

-- how many registers and masks a thread has saved
abbrev depth_of : Option Thread → Option ℕ
depth_of thread = option_map (λ thread. length thread.saved) thread

pub return-not : (service : ℕ) (c : Call) (thread : Thread)
    → thread_at c.world c.thread ≡ Some thread
    → (last : Registers × ℕ) (others : List (Registers × ℕ)) → thread.saved ≡ last ∷ others
    → NotRefused service c (done (went (with_thread c.world c.thread (restored last others))))
return-not service c thread is last others saved number above below e =
    let same = same_world (with_thread c.world c.thread (restored last others))
    (refused service number c) e in
    let left = ap depth_of
    (changed_there (restored last others) c.world.threads c.thread
    ∙ ap (option_map (restored last others)) is) in
    let right = ap depth_of
    (changed_there (registers_by (refused_registers service number))
    (granted_before service number c).threads c.thread
    ∙ ap (option_map (registers_by (refused_registers service number)))
    (ap (λ ts. flat (numbered ts c.thread)) (threads-granted service number c) ∙ is)) in
    let lengths = same_value (length others) (length thread.saved)
    (sym left ∙ (ap (λ w. depth_of (thread_at w c.thread)) same ∙ right)) in
    absurd (omega (arith, lengths, ap length saved))
