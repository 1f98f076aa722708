-- Changes of one thread, and threads that are added.
use Rattle.std.proofs.Common.{◌≡◌, ℕ, zero, suc, List, [], ◌∷◌, ◌++◌, Option, Some, None}
use Rattle.std.proofs.Common.{option_map, IsSome, IfSome, refl, sym, ap, subst, ◌∙◌}
use Rattle.dos_world.specs.Numbered.{changed, changed_at}
use Rattle.dos_world.specs.World.{Thread, Registers, registers_by}
use Rattle.dos_world.specs.Kernel.{answered}
use Rattle.dos_world.specs.Services.{charged}
use Rattle.dos_laws.proofs.Numbers.{changed_there}
use Rattle.dos_laws.proofs.Stands.{at_changed}
use Rattle.proc_table.specs.Tables.{Tables, IsLiveThread, thread_in, thread_by, ran}

-- two changes that agree on the thread are one
changed_same : (f g : Thread → Thread) (xs : List (Option Thread)) (t : ℕ)
    → IfSome (thread_in xs t) (λ thread. f thread ≡ g thread)
    → changed (option_map f) xs t ≡ changed (option_map g) xs t
changed_same f g xs zero h = refl
changed_same f g xs (suc i) h = at xs i h
  where
    at : (xs : List (Option Thread)) (i : ℕ)
        → IfSome (thread_in xs (suc i)) (λ thread. f thread ≡ g thread)
        → changed_at (option_map f) xs i ≡ changed_at (option_map g) xs i
    at [] i h = refl
    at (None ∷ xs) zero h = refl
    at (Some x ∷ xs) zero h = ap (λ y. Some y ∷ xs) h
    at (x ∷ xs) (suc i) h = ap (λ rest. x ∷ rest) (at xs i h)

-- registers that are set to what a change makes of those that were there
pub registers_set : (T : Tables) (t : ℕ) (f : Registers → Registers) (old new : Registers)
    → IfSome (thread_in T.threads t) (λ thread. old ≡ thread.registers) → new ≡ f old
    → thread_by (registers_by (λ r. new)) T t ≡ thread_by (registers_by f) T t
registers_set T t f old new was is =
    ap (λ threads. with_threads threads)
    (changed_same (registers_by (λ r. new)) (registers_by f) T.threads t
    (by (thread_in T.threads t) was))
  where
    with_threads : List (Option Thread) → Tables
    with_threads threads = record T { threads = threads }

    by : (o : Option Thread) → IfSome o (λ thread. old ≡ thread.registers)
        → IfSome o (λ thread. registers_by (λ r. new) thread ≡ registers_by f thread)
    by None h = tt
    by (Some thread) h = ap (λ r. registers_by (λ _. r) thread) (is ∙ ap f h)

-- what an answer makes of them
pub answer_set : (T : Tables) (t v : ℕ) (old new : Registers)
    → IfSome (thread_in T.threads t) (λ thread. old ≡ thread.registers) → new ≡ answered v old
    → thread_by (registers_by (λ r. new)) T t ≡ thread_by (registers_by (answered v)) T t
answer_set T t v old new was is = registers_set T t (answered v) old new was is

-- a thread changed twice
pub changed_twice : (T : Tables) (t : ℕ) (f g : Thread → Thread)
    → thread_by g (thread_by f T t) t ≡ thread_by (λ thread. g (f thread)) T t
changed_twice T t f g = ap (λ threads. with_threads threads) (both T.threads t)
  where
    with_threads : List (Option Thread) → Tables
    with_threads threads = record T { threads = threads }

    at : (xs : List (Option Thread)) (i : ℕ)
        → changed_at (option_map g) (changed_at (option_map f) xs i) i
        ≡ changed_at (option_map (λ thread. g (f thread))) xs i
    at [] i = refl
    at (None ∷ xs) zero = refl
    at (Some x ∷ xs) zero = refl
    at (x ∷ xs) (suc i) = ap (λ rest. x ∷ rest) (at xs i)

    both : (xs : List (Option Thread)) (t : ℕ)
        → changed (option_map g) (changed (option_map f) xs t) t
        ≡ changed (option_map (λ thread. g (f thread))) xs t
    both xs zero = refl
    both xs (suc i) = at xs i

-- a live thread that is changed lives
pub lives_changed : (f : Thread → Thread) (xs : List (Option Thread)) (t : ℕ) → IsLiveThread xs t
    → IsLiveThread (changed (option_map f) xs t) t
lives_changed f xs t live =
    subst (λ (o : Option Thread). IsSome o) (sym (changed_there f xs t)) (by (thread_in xs t) live)
  where
    by : (o : Option Thread) → IsSome o → IsSome (option_map f o)
    by None live = live
    by (Some thread) live = refl

-- a live thread lives where any is changed
pub lives_still : (f : Thread → Thread) (xs : List (Option Thread)) (u t : ℕ) → IsLiveThread xs t
    → IsLiveThread (changed (option_map f) xs u) t
lives_still f xs u t live =
    at_changed (λ (o : Option Thread). IsSome o) f xs u t (λ other. live)
    (λ same. subst (λ n. IsSome (option_map f (thread_in xs n))) same
    (by (thread_in xs t) live))
  where
    by : (o : Option Thread) → IsSome o → IsSome (option_map f o)
    by None live = live
    by (Some thread) live = refl

-- a live thread stands where one is added
pub thread_stands : (xs ys : List (Option Thread)) (t : ℕ) → IsLiveThread xs t
    → IsLiveThread (xs ++ ys) t
thread_stands xs ys zero live = live
thread_stands xs ys (suc i) live = at xs i live
  where
    at : (xs : List (Option Thread)) (i : ℕ) → IsLiveThread xs (suc i)
        → IsLiveThread (xs ++ ys) (suc i)
    at [] i live = cc
    at (x ∷ xs) zero live = live
    at (x ∷ xs) (suc i) live = at xs i live

-- ---- a change that is taken back

-- threads are as they were, where the second change takes the first one back
taken_back : (f g : Thread → Thread) (xs : List (Option Thread)) (t : ℕ)
    → IfSome (thread_in xs t) (λ thread. g (f thread) ≡ thread)
    → changed (option_map g) (changed (option_map f) xs t) t ≡ xs
taken_back f g xs zero h = refl
taken_back f g xs (suc i) h = at xs i h
  where
    at : (xs : List (Option Thread)) (i : ℕ)
        → IfSome (thread_in xs (suc i)) (λ thread. g (f thread) ≡ thread)
        → changed_at (option_map g) (changed_at (option_map f) xs i) i ≡ xs
    at [] i h = refl
    at (None ∷ xs) zero h = refl
    at (Some x ∷ xs) zero h = ap (λ y. Some y ∷ xs) h
    at (x ∷ xs) (suc i) h = ap (λ rest. x ∷ rest) (at xs i h)

-- a thread that was charged, set to the registers and the budget that it had
pub charge_taken_back : (T : Tables) (t budget : ℕ) (r : Registers)
    → IfSome (thread_in T.threads t) (λ thread. r ≡ thread.registers)
    → IfSome (thread_in T.threads t) (λ thread. budget ≡ thread.budget)
    → thread_by (ran r budget) (thread_by charged T t) t ≡ T
charge_taken_back T t budget r registers left =
    ap (λ threads. with_threads threads)
    (taken_back charged (ran r budget) T.threads t
    (by (thread_in T.threads t) registers left))
  where
    with_threads : List (Option Thread) → Tables
    with_threads threads = record T { threads = threads }

    by : (o : Option Thread) → IfSome o (λ thread. r ≡ thread.registers)
        → IfSome o (λ thread. budget ≡ thread.budget)
        → IfSome o (λ thread. ran r budget (charged thread) ≡ thread)
    by None registers left = tt
    by (Some thread) registers left = ap (λ k. ran k budget thread) registers
        ∙ ap (λ n. ran thread.registers n thread) left
