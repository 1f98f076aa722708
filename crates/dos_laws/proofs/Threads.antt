-- Other threads in a lawful world: what they must keep, and a change of one of them that leaves all
-- but its registers and its budget.
use Rattle.std.proofs.Common.{ℕ, ◌≤◌, ◌≡◌, ◌≢◌, refl, sym, ap, ◌∙◌, subst, List, [], length, Option}
use Rattle.std.proofs.Common.{Some, None, option_map}
use Rattle.std.specs.Prelude.{All, option_and_then, IfSome, IsTrue, is_some}
use Rattle.dos_world.specs.Numbered.{numbered, numbers_of}
use Rattle.dos_world.specs.World.{World, Process, holdings_of, Thread, flat, thread_at}
use Rattle.dos_world.specs.World.{live_process, belongs_to, with_thread}
use Rattle.dos_world.specs.Lawful.{Lawful, IsThread, AreRegisters, IsPending, IsMask, IsSaved}
use Rattle.dos_world.specs.Lawful.{turns_asleep}
use Rattle.flat_machine.specs.Laws.{without_progress}
use Rattle.dos_laws.proofs.Stands.{lawful-changed, lawful-lively}

-- ---- other threads

-- what the threads of a lawful world must keep, so that the world with these in their place is
-- lawful
pub record AreKept (w : World) (ts : List (Option Thread)) : Type 0 where
  pub count : length w.threads ≤ length ts
  pub populated : (p : ℕ) → IsTrue (is_some (live_process w p)) → numbers_of (belongs_to p) ts ≢ []
  pub ranges : (t : ℕ) → IfSome (flat (numbered ts t)) (IsThread w.processes)
  pub asleep : (t : ℕ) → turns_asleep (flat (numbered ts t)) ≡ turns_asleep (thread_at w t)
  pub limits : (length (numbers_of is_some ts) ≤ 64) × (length ts ≤ 65535)

pub lawful-with_threads : (w : World) (ts : List (Option Thread)) → AreKept w ts → Lawful w
    → Lawful (record w { threads = ts })
lawful-with_threads w ts kept l =
    lawful-lively w ts w.sleepers (record {
      count = kept.count;
      populated = kept.populated;
      ranges = kept.ranges;
      asleep = λ t. l.threads.asleep t ∙ sym (kept.asleep t);
      sleepers = l.threads.sleepers;
      limits = kept.limits;
    }) l

-- ---- a change of one thread

-- a change that leaves all of a thread but its registers and its budget, and its registers in range
pub record ChangesRun (f : Thread → Thread) : Type 0 where
  pub rest : (thread : Thread) → without_progress (f thread) ≡ without_progress thread
  pub ranges : (thread : Thread) → AreRegisters thread.registers → AreRegisters (f thread).registers

-- what holds of a thread without its run holds of what such a change leaves
of_rest : (P : Thread → Type 0) (f : Thread → Thread)
    → ((thread : Thread) → without_progress (f thread) ≡ without_progress thread)
    → (thread : Thread)
    → P (without_progress thread) → P (without_progress (f thread))
of_rest P f rest thread h = subst P (sym (rest thread)) h

module _ (f : Thread → Thread) (c : ChangesRun f) where
  sleeping : (o : Option Thread) → turns_asleep (option_map f o) ≡ turns_asleep o
  sleeping None = refl
  sleeping (Some thread) = ap (λ x. turns_asleep (Some x)) (c.rest thread)

  thread_kept : (ps : List Process) (thread : Thread) → IsThread ps thread → IsThread ps (f thread)
  thread_kept ps thread is = record {
    process =
        of_rest (λ x. IsTrue (is_some (option_and_then holdings_of (numbered ps x.process)))) f
        c.rest thread is.process;
    registers = c.ranges thread is.registers;
    pending = of_rest (λ x. IsPending x.pending) f c.rest thread is.pending;
    mask = of_rest (λ x. IsMask x.mask) f c.rest thread is.mask;
    saved = of_rest (λ x. (length x.saved ≤ 4) × All IsSaved x.saved) f c.rest thread is.saved;
  }

  pub lawful-with_thread : (w : World) (t : ℕ) → Lawful w → Lawful (with_thread w t f)
  lawful-with_thread w t l =
      lawful-changed f (λ thread. ap (λ x. x.process) (c.rest thread)) w t w.sleepers
      (λ thread at is. thread_kept w.processes thread is) (λ s other. refl)
      (l.threads.asleep t ∙ sym (sleeping (thread_at w t))) l.threads.sleepers l
