-- The queue of sleepers: who is in it, who wakes, and that it has room.
use Rattle.std.proofs.Common.{◌≡◌, ℕ, zero, suc, ◌+◌, ◌-◌, ◌<◌, ◌≤◌, Bool, true, false, cond, not}
use Rattle.std.proofs.Common.{List, [], ◌∷◌, length, map, take, Option, Some, None, option_map}
use Rattle.std.proofs.Common.{IsSome, refl, sym, ap, ◌∙◌, subst, eq-eqb, arith}
use Rattle.std.specs.Prelude.{◌==◌, ◌||◌, All, filter, find, is_some, sum_by}
use Rattle.std.specs.List.{list_any}
use Rattle.std.proofs.lemmas.Bool.{eqb-true}
use Rattle.std.proofs.lemmas.List.Sums.{sum_by-cons}
use Rattle.std.proofs.lemmas.List.Elements.{All-nil, All-cons, All-head, All-tail, All-weaker}
use Rattle.dos_world.specs.World.{World, Thread, Sleeper, thread_at, live_threads, is_state}
use Rattle.dos_world.specs.FutexCalls.{all_woken}
use Rattle.dos_world.specs.Kernel.{awake, is_other}
use Rattle.dos_world.specs.Lawful.{Lawful, turns_asleep}
use Rattle.dos_world.specs.declared.ThreadState.TheVariants.{Asleep}
use Rattle.dos_laws.proofs.Stands.{times, times-cons}
use Rattle.dos_laws.proofs.StandsSignals.{all-filtered}
use Rattle.dos_laws.proofs.StandsEnds.{among}
use Rattle.kernel_objects.specs.Queue.{first_on, sleeps_on}
use Rattle.proc_table.specs.Tables.{Tables, IsLiveThread, thread_in, thread_by}
use Rattle.kernel_calls.specs.Queued.{AreQueued, AreWoken, queued, threads_on}
use Rattle.kernel_calls.proofs.Changed.{lives_still}

-- ---- who sleeps in a lawful world

-- what is so of each thread that stands in a queue is so of all sleepers
all_times : (P : ℕ → Type 0) (ss : List Sleeper) → ((t : ℕ) → 1 ≤ times t ss → P t)
    → All (λ s. P s.thread) ss
all_times P [] each = All-nil (λ (s : Sleeper). P s.thread)
all_times P (s ∷ ss) each = All-cons (λ (s : Sleeper). P s.thread) s ss
    (each s.thread (omega (arith, times-cons s.thread s ss, itself)))
    (all_times P ss (λ t some. each t (omega (arith, times-cons t s ss, some))))
  where
    itself : cond {A = ℕ} (s.thread == s.thread) 1 0 ≡ 1
    itself = ap (λ b. cond {A = ℕ} b 1 0) (eq-eqb s.thread s.thread refl)

-- who sleeps lives, and stands in the queue once
pub lawful_queued : (w : World) → Lawful w → AreQueued w.threads w.sleepers
lawful_queued w lawful = record {
  live = all_times (IsLiveThread w.threads) w.sleepers
      (λ t some. lives (thread_at w t) (omega (arith, lawful.threads.asleep t, some)));
  once = λ t. omega (arith, lawful.threads.asleep t, one (thread_at w t));
}
  where
    lives : (o : Option Thread) → 1 ≤ turns_asleep o → IsSome o
    lives None some = absurd (omega (arith, some))
    lives (Some thread) some = refl

    one_by : (b : Bool) → cond {A = ℕ} b 1 0 ≤ 1
    one_by true = omega arith
    one_by false = omega arith

    one : (o : Option Thread) → turns_asleep o ≤ 1
    one o = one_by (is_state Asleep o)

-- ---- the room of the queue

-- a number that is in a list counts in it
listed : (t : ℕ) (us : List ℕ) → list_any (λ u. u == t) us ≡ true
    → 1 ≤ sum_by (λ u. cond {A = ℕ} (t == u) 1 0) us
listed t [] e = cc
listed t (u ∷ us) e = by (u == t) refl e (listed t us)
  where
    by : (b : Bool) → (u == t) ≡ b → (b || list_any (λ v. v == t) us) ≡ true
        → (list_any (λ v. v == t) us ≡ true → 1 ≤ sum_by (λ v. cond {A = ℕ} (t == v) 1 0) us)
        → 1 ≤ sum_by (λ v. cond {A = ℕ} (t == v) 1 0) (u ∷ us)
    by true is e rest =
        let here : cond {A = ℕ} (t == u) 1 0 ≡ 1 = ap (λ b. cond {A = ℕ} b 1 0)
        (eq-eqb t u (sym (eqb-true u t is))) in
        omega (arith, here, sum_by-cons (λ v. cond {A = ℕ} (t == v) 1 0) u us)
    by false is e rest =
        omega (arith, rest e, sum_by-cons (λ v. cond {A = ℕ} (t == v) 1 0) u us)

-- a sum of sums
sum_both : (f g : ℕ → ℕ) (us : List ℕ)
    → sum_by (λ u. f u + g u) us ≡ sum_by f us + sum_by g us
sum_both f g [] = refl
sum_both f g (u ∷ us) = omega (
  arith,
  sum_by-cons (λ v. f v + g v) u us,
  sum_by-cons f u us,
  sum_by-cons g u us,
  sum_both f g us,
)

sum_same : (f g : ℕ → ℕ) (us : List ℕ) → ((u : ℕ) → f u ≡ g u) → sum_by f us ≡ sum_by g us
sum_same f g [] each = refl
sum_same f g (u ∷ us) each = omega (
  arith,
  sum_by-cons f u us,
  sum_by-cons g u us,
  each u,
  sum_same f g us each,
)

-- sleepers are counted at their threads
counted_once : (us : List ℕ) (ss : List Sleeper)
    → All (λ s. list_any (λ u. u == s.thread) us ≡ true) ss
    → length ss ≤ sum_by (λ u. times u ss) us
counted_once us [] all = omega arith
counted_once us (s ∷ ss) all =
    let here : 1 ≤ sum_by (λ u. cond {A = ℕ} (s.thread == u) 1 0) us =
    listed s.thread us (All-head IsListed s ss all) in
    omega (
      arith,
      here,
      counted_once us ss (All-tail IsListed s ss all),
      sum_same (λ u. times u (s ∷ ss)) (λ u. cond {A = ℕ} (s.thread == u) 1 0 + times u ss) us
          (λ u. times-cons u s ss),
      sum_both (λ u. cond {A = ℕ} (s.thread == u) 1 0) (λ u. times u ss) us,
    )
  where
    IsListed : Sleeper → Type 0
    IsListed s = list_any (λ u. u == s.thread) us ≡ true

-- numbers that are at most 1 each add up to no more than how many there are
at_most_one : (f : ℕ → ℕ) (us : List ℕ) → ((u : ℕ) → f u ≤ 1) → sum_by f us ≤ length us
at_most_one f [] each = omega arith
at_most_one f (u ∷ us) each =
    omega (arith, sum_by-cons f u us, each u, at_most_one f us each)

-- Where a live thread doesn't sleep, another may: at most 64 threads live.
pub queue_room : (w : World) (t : ℕ) → Lawful w → IsLiveThread w.threads t
    → turns_asleep (thread_at w t) ≡ 0 → length w.sleepers < 64
queue_room w t lawful live up =
    omega (
      arith,
      counted_once (live_threads w) w.sleepers listed_all,
      listed t (live_threads w) (is_listed t live),
      sum_both (λ u. cond {A = ℕ} (t == u) 1 0) (λ u. times u w.sleepers) (live_threads w),
      at_most_one (λ u. cond {A = ℕ} (t == u) 1 0 + times u w.sleepers) (live_threads w) one,
      lawful.limits.threads.0,
    )
  where
    some_is : (o : Option Thread) → IsSome o → is_some o ≡ true
    some_is None live = cc
    some_is (Some thread) live = refl

    is_listed : (t : ℕ) → IsLiveThread w.threads t → list_any (λ u. u == t) (live_threads w) ≡ true
    is_listed t live = among is_some refl w.threads t ∙ some_is (thread_in w.threads t) live

    listed_all : All (λ s. list_any (λ u. u == s.thread) (live_threads w) ≡ true) w.sleepers
    listed_all = All-weaker (λ (s : Sleeper). IsLiveThread w.threads s.thread)
        (λ s. list_any (λ u. u == s.thread) (live_threads w) ≡ true)
        (λ s. is_listed s.thread) w.sleepers (lawful_queued w lawful).live

    one : (u : ℕ) → cond {A = ℕ} (t == u) 1 0 + times u w.sleepers ≤ 1
    one u = by (t == u) refl
      where
        by : (b : Bool) → (t == u) ≡ b → cond {A = ℕ} b 1 0 + times u w.sleepers ≤ 1
        by true is =
            let none : times u w.sleepers ≡ 0 = ap (λ n. times n w.sleepers)
            (sym (eqb-true t u is)) ∙ lawful.threads.asleep t ∙ up in omega (arith, none)
        by false is = omega (arith, (lawful_queued w lawful).once u)

-- ---- who wakes

-- who doesn't stand in the queue isn't taken out
none_out : (t : ℕ) (ss : List Sleeper) → times t ss ≡ 0 → filter (is_other t) ss ≡ ss
none_out t [] e = refl
none_out t (s ∷ ss) e = by (s.thread == t) refl (none_out t ss)
  where
    by : (b : Bool) → (s.thread == t) ≡ b → (times t ss ≡ 0 → filter (is_other t) ss ≡ ss)
        → cond (not b) (s ∷ filter (is_other t) ss) (filter (is_other t) ss) ≡ s ∷ ss
    by true is rest =
        let here : cond {A = ℕ} (s.thread == t) 1 0 ≡ 1 = ap (λ b. cond {A = ℕ} b 1 0) is in
        absurd (omega (arith, times-cons t s ss, here, e))
    by false is rest = ap (λ xs. s ∷ xs) (rest (omega (arith, times-cons t s ss, e)))

-- the threads on a word: the first, and those of the queue without it
abbrev first_and_rest : ℕ → ℕ → List Sleeper → Option ℕ → List ℕ
first_and_rest frame offset ss o = elim o as (λ _. List ℕ) [
  | None ↦ []
  | Some t ↦ t ∷ threads_on frame offset (filter (is_other t) ss)
]

pub threads_split : (frame offset : ℕ) (ss : List Sleeper) → ((t : ℕ) → times t ss ≤ 1)
    → threads_on frame offset ss ≡ first_and_rest frame offset ss (first_on ss frame offset)
threads_split frame offset [] once = refl
threads_split frame offset (s ∷ ss) once = by (sleeps_on frame offset s) refl
    (threads_split frame offset ss (λ t. omega (arith, times-cons t s ss, once t)))
  where
    here : cond {A = ℕ} (s.thread == s.thread) 1 0 ≡ 1
    here = ap (λ b. cond {A = ℕ} b 1 0) (eq-eqb s.thread s.thread refl)

    others : List Sleeper → List ℕ
    others rest = map (λ x. x.thread) (filter (sleeps_on frame offset) rest)

    -- it is the first
    first : threads_on frame offset ss
        ≡ threads_on frame offset (filter (is_other s.thread) (s ∷ ss))
    first = ap others (sym (none_out s.thread ss
        (omega (arith, here, times-cons s.thread s ss, once s.thread))))
        ∙ ap (λ b. others (cond (not b) (s ∷ filter (is_other s.thread) ss)
        (filter (is_other s.thread) ss))) (sym (eq-eqb s.thread s.thread refl))

    -- it sleeps on another word
    passed : sleeps_on frame offset s ≡ false → (b : Bool) (rest : List Sleeper)
        → others rest ≡ others (cond b (s ∷ rest) rest)
    passed is false rest = refl
    passed is true rest = ap (λ b. map (λ (x : Sleeper). x.thread)
        (cond b (s ∷ filter (sleeps_on frame offset) rest) (filter (sleeps_on frame offset) rest)))
        (sym is)

    later : sleeps_on frame offset s ≡ false → (o : Option Sleeper)
        → first_and_rest frame offset ss (option_map (λ x. x.thread) o)
        ≡ first_and_rest frame offset (s ∷ ss) (option_map (λ x. x.thread) o)
    later is None = refl
    later is (Some x) = ap (λ rest. x.thread ∷ rest)
        (passed is (is_other x.thread s) (filter (is_other x.thread) ss))

    by : (b : Bool) → sleeps_on frame offset s ≡ b
        → threads_on frame offset ss
        ≡ first_and_rest frame offset ss (first_on ss frame offset)
        → map (λ (x : Sleeper). x.thread)
        (cond b (s ∷ filter (sleeps_on frame offset) ss) (filter (sleeps_on frame offset) ss))
        ≡ first_and_rest frame offset (s ∷ ss)
        (option_map (λ x. x.thread) (cond b (Some s) (find (sleeps_on frame offset) ss)))
    by true is rest = ap (λ ts. s.thread ∷ ts) first
    by false is rest = rest ∙ later is (find (sleeps_on frame offset) ss)

-- the first on a word is one of the queue
pub first_all : (P : ℕ → Type 0) (frame offset : ℕ) (ss : List Sleeper) (t : ℕ)
    → All (λ s. P s.thread) ss → first_on ss frame offset ≡ Some t → P t
first_all P frame offset [] t all e = cc
first_all P frame offset (s ∷ ss) t all e = by (sleeps_on frame offset s) e
    (first_all P frame offset ss t (All-tail (λ (x : Sleeper). P x.thread) s ss all))
  where
    by : (b : Bool)
        → option_map (λ (x : Sleeper). x.thread)
        (cond b (Some s) (find (sleeps_on frame offset) ss)) ≡ Some t
        → (first_on ss frame offset ≡ Some t → P t) → P t
    by true e rest =
        let same : s.thread ≡ t = cc in
        subst P same (All-head (λ (x : Sleeper). P x.thread) s ss all)
    by false e rest = rest e

-- a queue without some has no thread more often
fewer : (t : ℕ) (test : Sleeper → Bool) (ss : List Sleeper)
    → times t (filter test ss) ≤ times t ss
fewer t test [] = omega arith
fewer t test (s ∷ ss) = by (test s) (fewer t test ss)
  where
    by : (b : Bool) → times t (filter test ss) ≤ times t ss
        → times t (cond b (s ∷ filter test ss) (filter test ss)) ≤ times t (s ∷ ss)
    by true rest = omega (arith, times-cons t s (filter test ss), times-cons t s ss, rest)
    by false rest = omega (arith, times-cons t s ss, rest)

-- one has woken
pub queued_woken : (T : Tables) (ss : List Sleeper) (t : ℕ) → AreQueued T.threads ss
    → AreQueued (thread_by (awake 0) T t).threads (filter (is_other t) ss)
queued_woken T ss t are = record {
  live = all-filtered (λ s. IsLiveThread (thread_by (awake 0) T t).threads s.thread) (is_other t) ss
      (All-weaker (λ (s : Sleeper). IsLiveThread T.threads s.thread)
      (λ s. IsLiveThread (thread_by (awake 0) T t).threads s.thread)
      (λ s live. lives_still (awake 0) T.threads t s.thread live) ss are.live);
  once = λ u. omega (arith, fewer u (is_other t) ss, are.once u);
}

-- ---- one after another

take_none : (n : ℕ) → ◌≡◌ {A = List ℕ} (take n []) []
take_none zero = refl
take_none (suc n) = refl

-- From this table and queue on, so many have woken; those that are still to wake are the rest.
pub record AreWaking (frame offset most : ℕ) (old : Tables) (old_queue : List Sleeper)
    (count : ℕ) (table : Tables) (queue : List Sleeper) : Type 0 where
  pub wakes : (w : World)
      → all_woken (queued w old old_queue) (take most (threads_on frame offset old_queue))
      ≡ all_woken (queued w table queue)
      (take (most - count) (threads_on frame offset queue))
  pub count_is : length (take most (threads_on frame offset old_queue))
      ≡ count + length (take (most - count) (threads_on frame offset queue))
  pub are : AreQueued table.threads queue
  pub lives : (t : ℕ) → IsLiveThread old.threads t → IsLiveThread table.threads t
  pub processes : table.processes ≡ old.processes
  pub room : table.room ≡ old.room

module _ (frame offset most : ℕ) (old : Tables) (old_queue : List Sleeper) where
  pub waking_none : AreQueued old.threads old_queue
      → AreWaking frame offset most old old_queue 0 old old_queue
  waking_none are = record {
    wakes = λ w. ap (λ n. all_woken (queued w old old_queue)
        (take n (threads_on frame offset old_queue))) all;
    count_is = ap (λ n. length (take n (threads_on frame offset old_queue))) all ∙ omega arith;
    are = are;
    lives = λ t live. live;
    processes = refl;
    room = refl;
  }
    where
      all : most ≡ most - 0
      all = omega arith

  module _ (count : ℕ) (table : Tables) (queue : List Sleeper)
      (now : AreWaking frame offset most old old_queue count table queue) where
    split : threads_on frame offset queue
        ≡ first_and_rest frame offset queue (first_on queue frame offset)
    split = threads_split frame offset queue now.are.once

    -- nobody is left to wake
    pub woken_all : take (most - count) (threads_on frame offset queue) ≡ []
        → AreWoken frame offset most old old_queue count table queue
    woken_all none = record {
      wakes = λ w. now.wakes w ∙ ap (all_woken (queued w table queue)) none;
      count = sym (now.count_is ∙ ap (λ (ts : List ℕ). count + length ts) none ∙ omega arith);
      lives = now.lives;
      processes = now.processes;
      room = now.room;
    }

    pub woken_out : None ≡ first_on queue frame offset
        → AreWoken frame offset most old old_queue count table queue
    woken_out none = woken_all
        (ap (take (most - count)) (split ∙ ap (first_and_rest frame offset queue) (sym none))
        ∙ take_none (most - count))

    pub woken_most : count ≡ most → AreWoken frame offset most old old_queue count table queue
    woken_most is = let none : most - count ≡ 0 = omega (arith, is) in
        woken_all (ap (λ n. take n (threads_on frame offset queue)) none)

    -- one more wakes
    pub waking_more : (t : ℕ) → count < most → Some t ≡ first_on queue frame offset
        → AreWaking frame offset most old old_queue (count + 1) (thread_by (awake 0) table t)
        (filter (is_other t) queue)
    waking_more t some is =
        let left : List ℕ = threads_on frame offset (filter (is_other t) queue) in
        let parts : threads_on frame offset queue ≡ t ∷ left =
        split ∙ ap (first_and_rest frame offset queue) (sym is) in
        let one : most - count ≡ suc (most - (count + 1)) = omega (arith, some) in
        let here : take (most - count) (threads_on frame offset queue)
        ≡ t ∷ take (most - (count + 1)) left =
        ap (λ n. take n (threads_on frame offset queue)) one
        ∙ ap (take (suc (most - (count + 1)))) parts in
        record {
          wakes = λ w. now.wakes w ∙ ap (all_woken (queued w table queue)) here;
          count_is = now.count_is ∙ ap (λ (ts : List ℕ). count + length ts) here
              ∙ omega arith;
          are = queued_woken table queue t now.are;
          lives = λ u live. lives_still (awake 0) table.threads t u (now.lives u live);
          processes = now.processes;
          room = now.room;
        }
