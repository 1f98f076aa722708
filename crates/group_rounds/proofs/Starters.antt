-- Threads are gathered among the live ones, from one to the next.
use Rattle.std.proofs.Common.{ℕ, suc, ◌+◌, ◌<◌, ◌≤◌, ◌≡◌, refl, sym, ap, ◌∙◌, subst, Bool, cond}
use Rattle.std.proofs.Common.{true, false, List, [], ◌∷◌, ◌++◌, length, append_assoc, append-nil}
use Rattle.std.proofs.Common.{length-append, Option, Some, None, arith, ltb-true, ltb-false}
use Rattle.std.specs.Prelude.{◌&&◌, not, All, IsSome, filter, find, is_some, nat_lt, slice_get, ⊤}
use Rattle.std.proofs.lemmas.Bool.{true≢false}
use Rattle.std.proofs.lemmas.List.Elements.{All-nil, All-cons, All-filter, All-head, All-tail}
use Rattle.dos_world.specs.Numbered.{places_from, numbers_of}
use Rattle.dos_world.specs.World.{World, Thread, flat, is_state, first_of}
use Rattle.dos_world.specs.Signals.{would_wait}
use Rattle.dos_world.specs.declared.ThreadState.{ThreadState}
use Rattle.dos_world.specs.declared.ThreadState.TheVariants.{Ready, Retry}
use Rattle.proc_table.specs.Tables.{IsLiveThread, thread_in, next_in}
use Rattle.group_rounds.specs.Phases.{AreLive, ready_in, ripe_in, is_ready, is_ripe}

-- the live threads above a number
abbrev pub live_above : List (Option Thread) → ℕ → List ℕ
live_above threads last = filter (nat_lt last) (numbers_of is_some threads)

-- ---- those in a state among the live ones

module _ (state : ThreadState) where
  filter_places : (n : ℕ) (threads : List (Option Thread)) (test : ℕ → Bool)
      → ((k : ℕ) → test (n + k) ≡ is_state state (flat (slice_get threads k)))
      → filter test (places_from n is_some threads) ≡ places_from n (is_state state) threads
  filter_places n [] test same = refl
  filter_places n (None ∷ threads) test same =
      filter_places (suc n) threads test
      (λ k. ap test (let e : suc n + k ≡ n + suc k = omega arith in e) ∙ same (suc k))
  filter_places n (Some thread ∷ threads) test same =
      let rest = filter_places (suc n) threads test
      (λ k. ap test (let e : suc n + k ≡ n + suc k = omega arith in e) ∙ same (suc k)) in
      ap (λ (b : Bool). cond b (n ∷ filter test (places_from (suc n) is_some threads))
      (filter test (places_from (suc n) is_some threads)))
      (ap test (let e : n ≡ n + 0 = omega arith in e) ∙ same 0)
      ∙ ap (λ ts. cond (is_state state (Some thread)) (n ∷ ts) ts) rest

  state_numbers : (threads : List (Option Thread))
      → filter (λ t. is_state state (thread_in threads t)) (numbers_of is_some threads)
      ≡ numbers_of (is_state state) threads
  state_numbers threads = filter_places 1 threads (λ t. is_state state (thread_in threads t))
      (λ k. ap (λ n. is_state state (thread_in threads n))
      (let e : 1 + k ≡ suc k = omega arith in e))

pub ready_numbers : (threads : List (Option Thread))
    → filter (is_ready threads) (numbers_of is_some threads) ≡ ready_in threads
ready_numbers = state_numbers Ready

-- those that pass both tests
filter_both : (p q : ℕ → Bool) (xs : List ℕ) → filter (λ x. p x && q x) xs ≡ filter q (filter p xs)
filter_both p q [] = refl
filter_both p q (x ∷ xs) = by (filter_both p q xs) (p x)
  where
    by : filter (λ x. p x && q x) xs ≡ filter q (filter p xs) → (b : Bool)
        → cond (b && q x) (x ∷ filter (λ x. p x && q x) xs) (filter (λ x. p x && q x) xs)
        ≡ filter q (cond b (x ∷ filter p xs) (filter p xs))
    by rest true = ap (λ ys. cond (q x) (x ∷ ys) ys) rest
    by rest false = rest

pub ripe_numbers : (w : World) → filter (is_ripe w) (numbers_of is_some w.threads) ≡ ripe_in w
ripe_numbers w =
    filter_both (λ t. is_state Retry (thread_in w.threads t)) (λ t. not (would_wait w t))
    (numbers_of is_some w.threads)
    ∙ ap (filter (λ t. not (would_wait w t))) (state_numbers Retry w.threads)

-- ---- from one live thread to the next

-- each number is above the one before it, and the first is at least n
abbrev Rises : ℕ → List ℕ → Type 0
Rises n [] = ⊤
Rises n (x ∷ xs) = (n ≤ x) × Rises (suc x) xs

rises_lower : (n m : ℕ) (xs : List ℕ) → n ≤ m → Rises m xs → Rises n xs
rises_lower n m [] le h = tt
rises_lower n m (x ∷ xs) le h = let first : m ≤ x = h.0 in (omega arith, h.1)

places_rise : (n : ℕ) (threads : List (Option Thread)) → Rises n (places_from n is_some threads)
places_rise n [] = tt
places_rise n (None ∷ threads) =
    rises_lower n (suc n) (places_from (suc n) is_some threads) (omega arith)
    (places_rise (suc n) threads)
places_rise n (Some thread ∷ threads) = (omega arith, places_rise (suc n) threads)

-- all are above what is below the first
above_all : (last : ℕ) (xs : List ℕ) → Rises (suc last) xs → filter (nat_lt last) xs ≡ xs
above_all last [] h = refl
above_all last (x ∷ xs) h =
    let first : suc last ≤ x = h.0 in
    let rest : filter (nat_lt last) xs ≡ xs =
    above_all last xs (rises_lower (suc last) (suc x) xs (omega (arith, first)) h.1) in
    by_test first rest (nat_lt last x) refl
  where
    by_test : suc last ≤ x → filter (nat_lt last) xs ≡ xs → (b : Bool) → nat_lt last x ≡ b
        → cond b (x ∷ filter (nat_lt last) xs) (filter (nat_lt last) xs) ≡ x ∷ xs
    by_test first rest true e = ap (λ ys. x ∷ ys) rest
    by_test first rest false e = let above : x ≤ last = ltb-false last x e in
        absurd (omega (arith, first, above))

pub all_above : (threads : List (Option Thread)) → live_above threads 0 ≡ numbers_of is_some threads
all_above threads = above_all 0 (numbers_of is_some threads) (places_rise 1 threads)

-- what is above the first of those above
above_next : (last n next : ℕ) (xs rest : List ℕ) → Rises n xs
    → filter (nat_lt last) xs ≡ next ∷ rest → (n ≤ next) × (filter (nat_lt next) xs ≡ rest)
above_next last n next [] rest h e = cc
above_next last n next (x ∷ xs) rest h e =
    by_test (λ e. above_next last (suc x) next xs rest h.1 e) (above_all x xs h.1)
    (nat_lt last x) refl e
  where
    over : n ≤ x → suc x ≤ next → (b : Bool) → nat_lt next x ≡ b
        → cond b (x ∷ filter (nat_lt next) xs) (filter (nat_lt next) xs) ≡ filter (nat_lt next) xs
    over low above true t = let below : next < x = ltb-true next x t in
        absurd (omega (arith, below, above))
    over low above false t = refl

    itself : (b : Bool) → nat_lt x x ≡ b
        → cond b (x ∷ filter (nat_lt x) xs) (filter (nat_lt x) xs) ≡ filter (nat_lt x) xs
    itself true t = let below : x < x = ltb-true x x t in absurd (omega (arith, below))
    itself false t = refl

    by_test : (filter (nat_lt last) xs ≡ next ∷ rest
        → (suc x ≤ next) × (filter (nat_lt next) xs ≡ rest)) → filter (nat_lt x) xs ≡ xs
        → (b : Bool) → nat_lt last x ≡ b
        → cond b (x ∷ filter (nat_lt last) xs) (filter (nat_lt last) xs) ≡ next ∷ rest
        → (n ≤ next) × (filter (nat_lt next) (x ∷ xs) ≡ rest)
    by_test later all true t e =
        let below : last < x = ltb-true last x t in
        let first : x ≡ next = cc in
        let others : filter (nat_lt last) xs ≡ rest = cc in
        let low : n ≤ x = h.0 in
        let lower : filter (nat_lt last) xs ≡ xs =
        above_all last xs (rises_lower (suc last) (suc x) xs (omega (arith, below)) h.1) in (
          omega (arith, first, low),
          ap (λ y. filter (nat_lt y) (x ∷ xs)) (sym first)
              ∙ itself (nat_lt x x) refl ∙ all ∙ sym lower ∙ others,
        )
    by_test later all false t e =
        let r = later e in
        let above : suc x ≤ next = r.0 in
        let low : n ≤ x = h.0 in
        (omega (arith, above, low), over low above (nat_lt next x) refl ∙ r.1)

find_first : (test : ℕ → Bool) (xs : List ℕ) → find test xs ≡ first_of (filter test xs)
find_first test [] = refl
find_first test (x ∷ xs) = by_test (test x) (find_first test xs)
  where
    by_test : (b : Bool) → find test xs ≡ first_of (filter test xs)
        → cond b (Some x) (find test xs) ≡ first_of (cond b (x ∷ filter test xs) (filter test xs))
    by_test true e = refl
    by_test false e = e

first_is : (xs : List ℕ) (x : ℕ) → first_of xs ≡ Some x → (rest : List ℕ) × (xs ≡ x ∷ rest)
first_is [] x e = cc
first_is (y ∷ ys) x e = let same : y ≡ x = cc in (ys, ap (λ z. z ∷ ys) same)

first_none : (xs : List ℕ) → first_of xs ≡ None → xs ≡ []
first_none [] e = refl
first_none (x ∷ xs) e = cc

-- the next live thread, and those above it
pub above_then : (threads : List (Option Thread)) (last next : ℕ) → next_in threads last ≡ Some next
    → live_above threads last ≡ next ∷ live_above threads next
above_then threads last next e =
    let first = first_is (live_above threads last) next
    (sym (find_first (nat_lt last) (numbers_of is_some threads)) ∙ e) in
    let others = above_next last 1 next (numbers_of is_some threads) first.0
    (places_rise 1 threads) first.1 in
    first.1 ∙ ap (λ rest. next ∷ rest) (sym others.1)

pub none_above : (threads : List (Option Thread)) (last : ℕ) → next_in threads last ≡ None
    → live_above threads last ≡ []
none_above threads last e =
    first_none (live_above threads last)
    (sym (find_first (nat_lt last) (numbers_of is_some threads)) ∙ e)

-- ---- each of them lives

places_all : {A : Type 0} (n : ℕ) (test : A → Bool) (xs : List A) (P : ℕ → Type 0)
    → ((k : ℕ) (x : A) → slice_get xs k ≡ Some x → test x ≡ true → P (n + k))
    → All P (places_from n test xs)
places_all n test [] P each = All-nil P
places_all {A} n test (x ∷ xs) P each =
    by_test (places_all (suc n) test xs P
    (λ k y at pass. subst P (let e : n + suc k ≡ suc n + k = omega arith in e)
    (each (suc k) y at pass))) (test x) refl
  where
    by_test : All P (places_from (suc n) test xs) → (b : Bool) → test x ≡ b
        → All P (cond b (n ∷ places_from (suc n) test xs) (places_from (suc n) test xs))
    by_test rest true pass =
        All-cons P n (places_from (suc n) test xs)
        (subst P (let e : n + 0 ≡ n = omega arith in e) (each 0 x refl pass)) rest
    by_test rest false pass = rest

find_all : (P : ℕ → Type 0) (test : ℕ → Bool) (xs : List ℕ) (x : ℕ) → All P xs
    → find test xs ≡ Some x → P x
find_all P test [] x all e = cc
find_all P test (y ∷ ys) x all e =
    by_test (λ e. find_all P test ys x (All-tail P y ys all) e) (test y) e
  where
    by_test : (find test ys ≡ Some x → P x) → (b : Bool) → cond b (Some y) (find test ys) ≡ Some x
        → P x
    by_test rest true e = let same : y ≡ x = cc in subst P same (All-head P y ys all)
    by_test rest false e = rest e

-- what stands at a place is there
lives_at : (threads : List (Option Thread)) (k : ℕ) (o : Option Thread)
    → slice_get threads k ≡ Some o → IsSome o → IsLiveThread threads (1 + k)
lives_at threads k o at some =
    subst (λ n. IsLiveThread threads n) (let e : suc k ≡ 1 + k = omega arith in e)
    (subst (λ x. IsSome (flat x)) (sym at) some)

pub next_lives : (threads : List (Option Thread)) (last next : ℕ) → next_in threads last ≡ Some next
    → IsLiveThread threads next
next_lives threads last next e =
    find_all (IsLiveThread threads) (nat_lt last) (numbers_of is_some threads) next
    (places_all 1 is_some threads (IsLiveThread threads)
    (λ k o at some. lives_at threads k o at some)) e

pub ready_live : (threads : List (Option Thread)) → AreLive threads (ready_in threads)
ready_live threads = places_all 1 (is_state Ready) threads (IsLiveThread threads)
    (λ k o at pass. lives_at threads k o at (some_ready o pass))
  where
    some_ready : (o : Option Thread) → is_state Ready o ≡ true → IsSome o
    some_ready None h = absurd (true≢false (sym h))
    some_ready (Some thread) h = refl

-- all live threads live, and so do those of them that pass a test
pub found_live : (threads : List (Option Thread)) (test : ℕ → Bool)
    → AreLive threads (filter test (numbers_of is_some threads))
found_live threads test = All-filter test (IsLiveThread threads) (numbers_of is_some threads)
    (places_all 1 is_some threads (IsLiveThread threads)
    (λ k o at some. lives_at threads k o at some))

-- ---- the loop: what is gathered, and those that pass of those that are left

-- Those of the live threads that pass a test, from one live thread to the next.
pub record IsGathered (test : ℕ → Bool) (threads : List (Option Thread)) (found : List ℕ)
    (last : ℕ) : Type 0 where
  pub all : found ++ filter test (live_above threads last)
      ≡ filter test (numbers_of is_some threads)
  pub few : length found + length (live_above threads last) ≤ 64

pub gathered_none : (test : ℕ → Bool) (threads : List (Option Thread)) (found : List ℕ)
    → found ≡ [] → length (numbers_of is_some threads) ≤ 64 → IsGathered test threads found 0
gathered_none test threads found none few = record {
  all = ap (λ xs. xs ++ filter test (live_above threads 0)) none
      ∙ ap (filter test) (all_above threads);
  few = let empty : length found ≡ 0 = ap length none in
      let count : length (live_above threads 0) ≡ length (numbers_of is_some threads) =
      ap length (all_above threads) in omega (arith, empty, count, few);
}

-- the next one is added if it passes
pub gathered_next : (test : ℕ → Bool) (threads : List (Option Thread)) (found after : List ℕ)
    (last next : ℕ)
    → next_in threads last ≡ Some next → after ≡ found ++ filter test (next ∷ [])
    → IsGathered test threads found last → IsGathered test threads after next
gathered_next test threads found after last next e added g = record {
  all = ap (λ xs. xs ++ filter test (live_above threads next)) added
      ∙ append_assoc found (filter test (next ∷ [])) (filter test (live_above threads next))
      ∙ ap (λ xs. found ++ xs) (by_test (test next))
      ∙ ap (λ xs. found ++ filter test xs) (sym (above_then threads last next e))
      ∙ g.all;
  few =
      let count : length (live_above threads last) ≡ suc (length (live_above threads next)) =
      ap length (above_then threads last next e) in
      let more : length after ≤ length found + 1 = few_more in
      let were = g.few in
      omega (arith, count, more, were);
}
  where
    by_test : (b : Bool) → cond b (next ∷ []) [] ++ filter test (live_above threads next)
        ≡ cond b (next ∷ filter test (live_above threads next))
        (filter test (live_above threads next))
    by_test true = refl
    by_test false = refl

    few_more : length after ≤ length found + 1
    few_more = let is : length after ≡ length found + length (filter test (next ∷ [])) =
        ap length added ∙ length-append found (filter test (next ∷ [])) in
        let one = at_most (test next) in omega (arith, is, one)
      where
        at_most : (b : Bool) → length (cond b (next ∷ []) []) ≤ 1
        at_most true = omega arith
        at_most false = omega arith

-- nobody is left
pub gathered_all : (test : ℕ → Bool) (threads : List (Option Thread)) (found : List ℕ) (last : ℕ)
    → next_in threads last ≡ None → IsGathered test threads found last
    → found ≡ filter test (numbers_of is_some threads)
gathered_all test threads found last e g =
    sym (append-nil found)
    ∙ ap (λ xs. found ++ filter test xs) (sym (none_above threads last e)) ∙ g.all

-- all pass
pub filter_every : (xs : List ℕ) → filter (λ t. true) xs ≡ xs
filter_every [] = refl
filter_every (x ∷ xs) = ap (λ ys. x ∷ ys) (filter_every xs)

-- fewer are left
pub fewer_left : (threads : List (Option Thread)) (last next : ℕ) → next_in threads last ≡ Some next
    → length (live_above threads next) < length (live_above threads last)
fewer_left threads last next e =
    let count : length (live_above threads last) ≡ suc (length (live_above threads next)) =
    ap length (above_then threads last next e) in omega (arith, count)

-- there is room for one more
pub room_left : (test : ℕ → Bool) (threads : List (Option Thread)) (found : List ℕ)
    (last next : ℕ)
    → next_in threads last ≡ Some next → IsGathered test threads found last
    → length found + 1 ≤ 64
room_left test threads found last next e g = let count = fewer_left threads last next e in
    let were =
    g.few in omega (arith, count, were)
