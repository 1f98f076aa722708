-- A lawful world whose statuses are bytes, and in which nobody who still has a part waits: the
-- changes of threads that keep it so.
use Rattle.std.proofs.Common.{ℕ, ◌+◌, ◌≤◌, ◌≡◌, ◌≢◌, ◌⊎◌, inl, inr, refl, sym, ap, ◌∙◌, subst, cond}
use Rattle.std.proofs.Common.{List, [], ◌∷◌, ◌++◌, length, Option, Some, None, option_map, arith}
use Rattle.std.specs.Prelude.{All, IfSome, IsTrue, ◌==◌, count_by, is_some}
use Rattle.std.proofs.lemmas.Bool.{cases_eq}
use Rattle.std.proofs.lemmas.List.Sums.{sum_by-cons, sum_by_push}
use Rattle.dos_world.specs.Numbered.{numbered, changed, numbers_of}
use Rattle.dos_world.specs.World.{World, Process, Registers, Thread, Sleeper, flat, thread_at}
use Rattle.dos_world.specs.World.{live_process, belongs_to}
use Rattle.dos_world.specs.World.{with_thread, in_state}
pub use Rattle.dos_world.specs.Lawful.{HasStatus}
use Rattle.dos_world.specs.Lawful.{Lawful, IsThread, IsSleeper, AreRegisters, turns_asleep}
use Rattle.dos_world.specs.declared.ThreadState.{ThreadState}
use Rattle.dos_world.specs.declared.ThreadState.TheVariants.{Ready, Retry}
use Rattle.dos_world.proofs.Numbers.{changed_other, changed_there, length-changed}
use Rattle.dos_laws.specs.Standing.{AreAwake, IsAwake, IsNoneOf, LawfulWith}
use Rattle.dos_laws.proofs.Numbers.{numbers_same}

-- who is awake, but for one that is none of these
pub awake_but : (u w : World) (t : ℕ) (ts : List ℕ) → IsNoneOf t ts
    → ((s : ℕ) → s ≢ t → IsAwake u s → IsAwake w s) → AreAwake u ts → AreAwake w ts
awake_but u w t [] none each all = tt
awake_but u w t (s ∷ ts) none each all = (each s none.0 all.0, awake_but u w t ts none.1 each all.1)

pub awake_by : (u w : World) (ts : List ℕ) → ((t : ℕ) → IsAwake u t → IsAwake w t) → AreAwake u ts
    → AreAwake w ts
awake_by u w [] each all = tt
awake_by u w (t ∷ ts) each all = (each t all.0, awake_by u w ts each all.1)

-- ---- lists

-- what holds of an element after a change of one
pub at_changed : {A : Type 0} (P : Option A → Type 0) (f : A → A) (xs : List (Option A)) (t s : ℕ)
    → (s ≢ t → P (flat (numbered xs s))) → (s ≡ t → P (option_map f (flat (numbered xs t))))
    → P (flat (numbered (changed (option_map f) xs t) s))
at_changed P f xs t s other here = by_number (cases_eq s t)
  where
    by_number : (s ≡ t) ⊎ (s ≡ t → ⊥) → P (flat (numbered (changed (option_map f) xs t) s))
    by_number (inl same) =
        subst (λ n. P (flat (numbered (changed (option_map f) xs t) n))) (sym same)
        (subst P (sym (changed_there f xs t)) (here same))
    by_number (inr not_t) =
        subst (λ o. P (flat o)) (sym (changed_other (option_map f) xs t s not_t)) (other not_t)

-- how often t stands in a queue
abbrev pub times : ℕ → List Sleeper → ℕ
times t ss = count_by (λ s. s.thread == t) ss

pub times-cons : (t : ℕ) (s : Sleeper) (ss : List Sleeper)
    → times t (s ∷ ss) ≡ cond (s.thread == t) 1 0 + times t ss
times-cons t s ss = sum_by-cons (λ (x : Sleeper). cond {A = ℕ} (x.thread == t) 1 0) s ss

pub times-push : (t : ℕ) (ss : List Sleeper) (s : Sleeper)
    → times t (ss ++ s ∷ []) ≡ times t ss + cond (s.thread == t) 1 0
times-push t ss s = sum_by_push (λ (x : Sleeper). cond {A = ℕ} (x.thread == t) 1 0) ss s

-- ---- other threads and sleepers

-- what the threads and sleepers of a lawful world must keep, so that the world with these in their
-- place is lawful
pub record AreLively (w : World) (ts : List (Option Thread)) (ss : List Sleeper) : Type 0 where
  pub count : length w.threads ≤ length ts
  pub populated : (p : ℕ) → IsTrue (is_some (live_process w p)) → numbers_of (belongs_to p) ts ≢ []
  pub ranges : (t : ℕ) → IfSome (flat (numbered ts t)) (IsThread w.processes)
  pub asleep : (t : ℕ) → times t ss ≡ turns_asleep (flat (numbered ts t))
  pub sleepers : All (IsSleeper (length w.owners)) ss
  pub limits : (length (numbers_of is_some ts) ≤ 64) × (length ts ≤ 65535)

pub lawful-lively : (w : World) (ts : List (Option Thread)) (ss : List Sleeper) → AreLively w ts ss
    → Lawful w → Lawful (record w { threads = ts; sleepers = ss })
lawful-lively w ts ss kept l = record {
  frames = record {
    bytes = l.frames.bytes;
    free = l.frames.free;
    zeros = l.frames.zeros;
    owned = λ frame t e.
        let was = l.frames.owned frame t e in (was.0, omega (arith, was.1, kept.count));
  };
  processes = record {
    holdings = l.processes.holdings;
    private = l.processes.private;
    populated = kept.populated;
    statuses = l.processes.statuses;
    parents = l.processes.parents;
    given = (l.processes.given.0, omega (arith, l.processes.given.1, kept.count));
  };
  threads = record { ranges = kept.ranges; asleep = kept.asleep; sleepers = kept.sleepers };
  pipes = record { ranges = l.pipes.ranges; closed = l.pipes.closed };
  limits = record {
    threads = kept.limits;
    processes = l.limits.processes;
    frames =
        l.limits.frames;
  };
  run = l.run;
}

-- ---- a change of one thread

-- A thread in range is so with other registers in range, another budget and in another state.
pub with_run : (ps : List Process) (thread : Thread) (r : Registers) (budget : ℕ)
    (state : ThreadState) → AreRegisters r → IsThread ps thread
    → IsThread ps (record thread { registers = r; budget = budget; state = state })
with_run ps thread r budget state registers is = record {
  process = is.process;
  registers = registers;
  pending = is.pending;
  mask = is.mask;
  saved = is.saved;
}

-- A change leaves a thread's process.
abbrev pub Belongs : (Thread → Thread) → Type 0
Belongs f = (thread : Thread) → (f thread).process ≡ thread.process

module _ (f : Thread → Thread) (belongs : Belongs f) (w : World) (t : ℕ) where
  belonging : (p : ℕ) (o : Option Thread) → belongs_to p (option_map f o) ≡ belongs_to p o
  belonging p None = refl
  belonging p (Some thread) = ap (λ n. n == p) (belongs thread)

  living : (o : Option Thread) → is_some (option_map f o) ≡ is_some o
  living None = refl
  living (Some thread) = refl

  -- in range, where the change leaves the thread so that it is now; and with another queue
  pub lawful-changed : (ss : List Sleeper)
      → ((thread : Thread) → thread_at w t ≡ Some thread → IsThread w.processes thread
      → IsThread w.processes (f thread))
      → ((s : ℕ) → s ≢ t → times s ss ≡ times s w.sleepers)
      → (times t ss ≡ turns_asleep (option_map f (thread_at w t)))
      → All (IsSleeper (length w.owners)) ss → Lawful w
      → Lawful (record (with_thread w t f) { sleepers = ss })
  lawful-changed ss ranges others here sleepers l =
      lawful-lively w (changed (option_map f) w.threads t) ss (record {
        count = omega (arith, length-changed (option_map f) w.threads t);
        populated = λ p lives e.
            l.processes.populated p lives
            (sym (numbers_same (option_map f) (belongs_to p) (belonging p) w.threads t) ∙ e);
        ranges = λ s.
            at_changed (λ o. IfSome o (IsThread w.processes)) f w.threads t s
            (λ other. l.threads.ranges s)
            (λ same. ranged (thread_at w t) refl (l.threads.ranges t));
        asleep = λ s.
            at_changed (λ o. times s ss ≡ turns_asleep o) f w.threads t s
            (λ other. others s other ∙ l.threads.asleep s)
            (λ same. ap (λ n. times n ss) same ∙ here);
        sleepers = sleepers;
        limits = (
          omega (
            arith,
            l.limits.threads.0,
            ap (λ (ns : List ℕ). length ns)
                (numbers_same (option_map f) is_some living w.threads t),
          ),
          omega (arith, l.limits.threads.1, length-changed (option_map f) w.threads t),
        );
      }) l
    where
      ranged : (o : Option Thread) → thread_at w t ≡ o → IfSome o (IsThread w.processes)
          → IfSome (option_map f o) (IsThread w.processes)
      ranged None is h = tt
      ranged (Some thread) is h = ranges thread is h

  -- who was awake is, where the change leaves a ready thread ready
  pub awake-changed : ((thread : Thread) → thread.state ≡ Ready → (f thread).state ≡ Ready)
      → (s : ℕ) → IsAwake w s → IsAwake (with_thread w t f) s
  awake-changed ready s h =
      at_changed (λ o. IfSome o (λ thread. thread.state ≡ Ready)) f w.threads t s (λ other. h)
      (λ same. kept (thread_at w t) (subst (IsAwake w) same h))
    where
      kept : (o : Option Thread) → IfSome o (λ thread. thread.state ≡ Ready)
          → IfSome (option_map f o) (λ thread. thread.state ≡ Ready)
      kept None h = tt
      kept (Some thread) h = ready thread h

-- a change that leaves process and state, and a thread in range
pub record Changes (w : World) (t : ℕ) (f : Thread → Thread) : Type 0 where
  pub process : Belongs f
  pub state : (thread : Thread) → (f thread).state ≡ thread.state
  pub ranges : (thread : Thread) → thread_at w t ≡ Some thread → IsThread w.processes thread
      → IsThread w.processes (f thread)

pub stands-with_thread : (ts : List ℕ) (w : World) (t : ℕ) (f : Thread → Thread) → Changes w t f
    → LawfulWith ts w → LawfulWith ts (with_thread w t f)
stands-with_thread ts w t f c k = record {
  lawful =
      lawful-changed f c.process w t w.sleepers c.ranges (λ s other. refl)
      (k.lawful.threads.asleep t ∙ sleeping (thread_at w t)) k.lawful.threads.sleepers k.lawful;
  awake =
      awake_by w (with_thread w t f) ts
      (awake-changed f c.process w t (λ thread ready. c.state thread ∙ ready)) k.awake;
  apart = k.apart;
}
  where
    sleeping : (o : Option Thread) → turns_asleep o ≡ turns_asleep (option_map f o)
    sleeping None = refl
    sleeping (Some thread) =
        ap (λ s. turns_asleep (Some (record thread { state = s }))) (sym (c.state thread))

-- ---- a thread in another state

-- t is ready from now on, where it doesn't sleep
pub stands-ready : (ts : List ℕ) (w : World) (t : ℕ) → turns_asleep (thread_at w t) ≡ 0
    → LawfulWith ts w → LawfulWith ts (with_thread w t (in_state Ready))
stands-ready ts w t before k = record {
  lawful =
      lawful-changed (in_state Ready) (λ thread. refl) w t w.sleepers
      (λ thread at is. with_run w.processes thread _ _ _ is.registers is)
      (λ s other. refl) (k.lawful.threads.asleep t ∙ before ∙ sym (ready (thread_at w t)))
      k.lawful.threads.sleepers k.lawful;
  awake =
      awake_by w (with_thread w t (in_state Ready)) ts
      (awake-changed (in_state Ready) (λ thread. refl) w t (λ thread is. refl)) k.awake;
  apart = k.apart;
}
  where
    ready : (o : Option Thread) → turns_asleep (option_map (in_state Ready) o) ≡ 0
    ready None = refl
    ready (Some thread) = refl

-- another thread than the one that changed
pub awake-other : (f : Thread → Thread) (w : World) (t s : ℕ) → s ≢ t → IsAwake w s
    → IsAwake (with_thread w t f) s
awake-other f w t s other h =
    subst (λ o. IfSome (flat o) (λ thread. thread.state ≡ Ready))
    (sym (changed_other (option_map f) w.threads t s other)) h

-- t waits from now on, and has no part any more
pub stands-retry : (ts : List ℕ) (w : World) (t : ℕ) → turns_asleep (thread_at w t) ≡ 0
    → LawfulWith (t ∷ ts) w → LawfulWith ts (with_thread w t (in_state Retry))
stands-retry ts w t before k = record {
  lawful =
      lawful-changed (in_state Retry) (λ thread. refl) w t w.sleepers
      (λ thread at is. with_run w.processes thread _ _ _ is.registers is)
      (λ s other. refl) (k.lawful.threads.asleep t ∙ before ∙ sym (waiting (thread_at w t)))
      k.lawful.threads.sleepers k.lawful;
  awake =
      awake_but w (with_thread w t (in_state Retry)) t ts k.apart.0
      (awake-other (in_state Retry) w t) k.awake.1;
  apart = k.apart.1;
}
  where
    waiting : (o : Option Thread) → turns_asleep (option_map (in_state Retry) o) ≡ 0
    waiting None = refl
    waiting (Some thread) = refl
