-- Signals that are posted and handlers that are left.
use Rattle.std.proofs.Common.{◌≡◌, ℕ, ◌-◌, Bool, true, false, if◌then◌else◌, List, [], ◌∷◌, Option}
use Rattle.std.proofs.Common.{Some, None, IsSome, IfSome, refl, sym, ap}
use Rattle.std.specs.Prelude.{slice_index}
use Rattle.dos_world.specs.Numbered.{numbers_of}
use Rattle.dos_world.specs.World.{Holdings, Thread, Registers, belongs_to, first_of}
use Rattle.dos_world.specs.Kernel.{pending_with}
use Rattle.proc_table.specs.Tables.{Tables, IsLiveThread, restored_in, thread_in, thread_by}
use Rattle.kernel_calls.specs.Ending.{posted_in}
use Rattle.kernel_calls.proofs.Counted.{all_counted}

-- the action that a live process has
pub action_is : (o : Option Holdings) (signal action : ℕ) → IsSome o
    → IfSome o (λ h. action ≡ slice_index h.actions (signal - 1))
    → elim o as (λ _. ℕ) [ None ↦ 0 | Some h ↦ slice_index h.actions (signal - 1) ] ≡ action
action_is None signal action live is = cc
action_is (Some h) signal action live is = sym is

-- What holds of a table, and of each that has one thread with the signal pending, holds after a
-- post, where there is one.
pub post_keeps : (P : Tables → Type 0) (T : Tables) (p signal : ℕ) (is_none : Bool) → P T
    → ((t : ℕ) → P (thread_by (pending_with signal) T t))
    → P (if is_none then T else posted_in T p signal)
post_keeps P T p signal true before after = before
post_keeps P T p signal false before after = by (first_of (numbers_of (belongs_to p) T.threads))
  where
    by : (o : Option ℕ) → P (elim o as (λ _. Tables) [
      | None ↦ T
      | Some t ↦ thread_by (pending_with signal) T t
    ])
    by None = before
    by (Some t) = after t

-- what a post leaves
pub post_counted : (T : Tables) (p signal : ℕ) (is_none : Bool)
    → all_counted (let U : Tables = if is_none then T else posted_in T p signal in U.processes)
    ≡ all_counted T.processes
post_counted T p signal is_none = post_keeps
    (λ (U : Tables). all_counted U.processes ≡ all_counted T.processes) T p signal is_none refl
    (λ t. refl)

pub post_room : (T : Tables) (p signal : ℕ) (is_none : Bool)
    → (let U : Tables = if is_none then T else posted_in T p signal in U.room) ≡ T.room
post_room T p signal is_none = post_keeps (λ (U : Tables). U.room ≡ T.room) T p signal is_none
    refl (λ t. refl)

-- what a handler that is left leaves
pub restored_counted : (T new : Tables) (t : ℕ) → IsLiveThread T.threads t
    → IfSome (thread_in T.threads t) (λ thread. new ≡ restored_in thread.saved T t)
    → (all_counted new.processes ≡ all_counted T.processes) × (new.room ≡ T.room)
restored_counted T new t live is = by (thread_in T.threads t) live is
  where
    saved : (xs : List (Registers × ℕ)) → new ≡ restored_in xs T t
        → (all_counted new.processes ≡ all_counted T.processes) × (new.room ≡ T.room)
    saved [] is = (ap (λ (U : Tables). all_counted U.processes) is, ap (λ (U : Tables). U.room) is)
    saved (last ∷ others) is =
        (ap (λ (U : Tables). all_counted U.processes) is, ap (λ (U : Tables). U.room) is)

    by : (o : Option Thread) → IsSome o → IfSome o (λ thread. new ≡ restored_in thread.saved T t)
        → (all_counted new.processes ≡ all_counted T.processes) × (new.room ≡ T.room)
    by None live is = cc
    by (Some thread) live is = saved thread.saved is
