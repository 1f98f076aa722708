-- What the parallel part of a thread changes.
use Rattle.std.proofs.Common.{ℕ, zero, suc, ◌/◌, ◌≡◌, ◌≢◌, refl, sym, ap, ◌∙◌, subst, List, length}
use Rattle.std.proofs.Common.{get_or, option_map, Result, Ok, Err}
use Rattle.std.specs.Prelude.{slice_index_or}
use Rattle.dos_world.specs.World.{World, Thread, flat, thread_at, owner_of, with_thread}
use Rattle.dos_world.specs.World.{registers_by, released}
use Rattle.dos_world.specs.declared.Owner.{Owner}
use Rattle.dos_world.specs.declared.Owner.TheVariants.{Free, Of}
use Rattle.dos_world.specs.declared.Reason.{Reason}
use Rattle.dos_world.proofs.Numbers.{changed_other}
use Rattle.flat_machine.specs.Step.{step, paid_by}
use Rattle.flat_machine.proofs.Keeps.{step-keeps}
use Rattle.flat_machine.proofs.Stays.{step-form}
use Rattle.flat_machine.proofs.Threads.{seen-changed, same-seen}
use Rattle.flat_machine.specs.Alone.{budget_of, emptied, steps, alone}
use Rattle.flat_machine.specs.Laws.{without_progress, DiffersInOwn}

-- bytes of its own and such a change of the thread
changed_own : (w : World) (t : ℕ) (b : List ℕ) (f : Thread → Thread)
    → ((thread : Thread) → without_progress (f thread) ≡ without_progress thread) → length b
    ≡ length w.bytes
    → ((i : ℕ) → owner_of w (i / 4096) ≢ Of t → get_or b i 0 ≡ get_or w.bytes i 0)
    → DiffersInOwn t w (with_thread (record w { bytes = b }) t f)
changed_own w t b f same count kept = record {
  owners = refl;
  count = count;
  bytes = kept;
  processes = refl;
  others = λ s other. ap flat (changed_other (option_map f) w.threads t s other);
  thread = seen-changed without_progress f w.threads t
      ∙ same-seen (λ x. without_progress (f x)) without_progress (thread_at w t) same;
  pipes = refl;
  sleepers = refl;
  rounds = refl;
  quantum = refl;
  output = refl;
  error = refl;
}

differs_in_nothing : (t : ℕ) (w : World) → DiffersInOwn t w w
differs_in_nothing t w = record {
  owners = refl;
  count = refl;
  bytes = λ i other. refl;
  processes = refl;
  others = λ s other. refl;
  thread = refl;
  pipes = refl;
  sleepers = refl;
  rounds = refl;
  quantum = refl;
  output = refl;
  error = refl;
}

differs_then : (t : ℕ) (u v w : World) → DiffersInOwn t u v → DiffersInOwn t v w
    → DiffersInOwn t u w
differs_then t u v w a b = record {
  owners = b.owners ∙ a.owners;
  count = b.count ∙ a.count;
  bytes = λ i other. b.bytes i
      (λ e. other (sym (ap (λ owners. owner_in owners (i / 4096)) a.owners) ∙ e))
      ∙ a.bytes i other;
  processes = b.processes ∙ a.processes;
  others = λ s other. b.others s other ∙ a.others s other;
  thread = b.thread ∙ a.thread;
  pipes = b.pipes ∙ a.pipes;
  sleepers = b.sleepers ∙ a.sleepers;
  rounds = b.rounds ∙ a.rounds;
  quantum = b.quantum ∙ a.quantum;
  output = b.output ∙ a.output;
  error = b.error ∙ a.error;
}
  where
    owner_in : List Owner → ℕ → Owner
    owner_in owners frame = slice_index_or owners frame Free

step-own : (w w' : World) (t : ℕ) → step w t ≡ Ok w' → DiffersInOwn t w w'
step-own w w' t h =
    let form = step-form w w' t h in
    let keeps = step-keeps w w' t h in
    let kept : (i : ℕ) → owner_of w (i / 4096) ≢ Of t → get_or form.bytes i 0 ≡ get_or w.bytes i 0 =
    λ i other. sym (ap (λ u. get_or u.bytes i 0) form.is) ∙ keeps.bytes i other in
    subst (DiffersInOwn t w) (sym form.is)
    (changed_own w t form.bytes (paid_by form.registers) (λ thread. refl) form.count kept)

pub steps-own : (n : ℕ) (w : World) (t : ℕ) → DiffersInOwn t w (steps n w t)
steps-own zero w t = differs_in_nothing t w
steps-own (suc n) w t = go (λ next. steps-own n next t) (step w t) refl
  where
    go : ((next : World) → DiffersInOwn t next (steps n next t)) → (r : Result World Reason)
        → step w t ≡ r
        → DiffersInOwn t w (elim r as (λ _. World) [ Ok next ↦ steps n next t | Err reason ↦ w ])
    go rest (Ok next) e = differs_then t w next (steps n next t) (step-own w next t e) (rest next)
    go rest (Err reason) e = differs_in_nothing t w

-- The parallel part of t changes at most t's registers, t's budget and the bytes of t's frames.
pub alone-own : (w : World) (t : ℕ) → DiffersInOwn t w (alone w t)
alone-own w t =
    let begun : DiffersInOwn t w (emptied w t) =
    changed_own w t w.bytes (registers_by released) (λ thread. refl) refl (λ i other. refl) in
    differs_then t w (emptied w t) (alone w t) begun (steps-own (budget_of w t) (emptied w t) t)
