-- What a thread reaches doesn't depend on its registers or its budget. An implementation of the
-- trait Memory cites it for its law `blind`.
use Rattle.std.specs.Prelude.{ℕ, zero, suc, ◌≡◌, ◌/◌, refl, List, [], ◌∷◌, Option, Some, None}
use Rattle.std.specs.Prelude.{option_map, slice_get}
use Rattle.std.proofs.Common.{sym, ap, ◌∙◌}
use Rattle.dos_world.specs.Numbered.{numbered, changed, changed_at}
use Rattle.dos_world.specs.World.{World, Thread, flat, thread_at, with_thread, entry_at, space_of}
use Rattle.dos_world.specs.World.{look}
use Rattle.dos_world.specs.declared.Entry.{Entry}

process_in : Option Thread → Option ℕ
process_in o = option_map (λ thread. thread.process) o

changed_process : (change : Thread → Thread)
    → ((thread : Thread) → (change thread).process ≡ thread.process)
    → (ts : List (Option Thread)) (t : ℕ)
    → process_in (flat (numbered (changed (option_map change) ts t) t))
    ≡ process_in (flat (numbered ts t))
unfolding process_in
changed_process change same ts zero = refl
changed_process change same ts (suc i) = go ts i
  where
    go : (ts : List (Option Thread)) (i : ℕ)
        → process_in (flat (slice_get (changed_at (option_map change) ts i) i))
        ≡ process_in (flat (slice_get ts i))
    go [] i = refl
    go (None ∷ ts) zero = refl
    go (Some x ∷ ts) zero = ap Some (same x)
    go (x ∷ ts) (suc i) = go ts i

by_process : World → ℕ → Option ℕ → Option Entry
by_process w address o = elim o [ None ↦ None | Some p ↦ look (space_of w p) (address / 4096) ]

entry_by : (w : World) (t address : ℕ)
    → entry_at w t address ≡ by_process w address (process_in (thread_at w t))
unfolding by_process process_in
entry_by w t address = go (thread_at w t)
  where
    go : (o : Option Thread)
        → (elim o as (λ _. Option Entry) [
          | None ↦ None
          | Some thread ↦ look (space_of w thread.process) (address / 4096)
        ])
        ≡ by_process w address (process_in o)
    go None = refl
    go (Some thread) = refl

-- where a thread changes and keeps its process, its entries stay
pub entry_at-with_thread : (w : World) (t : ℕ) (change : Thread → Thread)
    → ((thread : Thread) → (change thread).process ≡ thread.process) → (address : ℕ)
    → entry_at (with_thread w t change) t address ≡ entry_at w t address
unfolding process_in by_process
entry_at-with_thread w t change same address =
    entry_by (with_thread w t change) t address
    ∙ ap (by_process w address) (changed_process change same w.threads t)
    ∙ sym (entry_by w t address)
