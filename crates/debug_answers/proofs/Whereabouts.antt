-- A thread that doesn't live.
use Rattle.std.proofs.Common.{◌≡◌, ℕ, List, Option, Some, None, false, refl}
use Rattle.std.specs.Prelude.{is_some}
use Rattle.std.proofs.lemmas.Bool.{true≢false}
use Rattle.dos_world.specs.World.{World, Thread, thread_at, process_at}
use Rattle.debug_session.specs.Waits.{what_text, absence_text, state_text}

pub what_is_absent : (w : World) (p t : ℕ) → is_some (thread_at w t) ≡ false
    → absence_text (process_at w p) ≡ what_text w p t
what_is_absent w p t none = by (thread_at w t) none
  where
    by : (o : Option Thread) → is_some o ≡ false
        → absence_text (process_at w p)
        ≡ elim o as (λ _. List ℕ) [
          | None ↦ absence_text (process_at w p)
          | Some thread ↦
              state_text w.sleepers t thread.budget thread.registers thread.state
        ]
    by None none = refl
    by (Some thread) none = absurd (true≢false none)
