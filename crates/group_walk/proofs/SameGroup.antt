-- What instructions, grants and what happens without a move leave as it was.
use Rattle.std.proofs.Common.{ℕ, zero, suc, ◌≡◌, refl, sym, ap, ◌∙◌, subst, Bool, cond, true, false}
use Rattle.std.proofs.Common.{List, [], ◌∷◌, map, Option, Some, None, option_map, Ok}
use Rattle.std.specs.Prelude.{is_none}
use Rattle.dos_world.specs.Numbered.{changed, changed_at}
use Rattle.dos_world.specs.World.{World, Thread, registers_by, released, thread_at, with_thread}
use Rattle.flat_machine.specs.Alone.{emptied}
use Rattle.flat_machine.specs.Step.{paid_by, step}
use Rattle.flat_machine.proofs.Forms.{step-form}
use Rattle.group_moves.specs.Moments.{settled_scene}
use Rattle.group_moves.specs.Places.{Place, at_end, before_parts, before_rests}
use Rattle.group_moves.specs.Places.{between_rounds, is_part_over, is_rest_over, to_parts, to_rests}
use Rattle.group_moves.specs.Places.{within_part, within_rest}
use Rattle.group_walk.specs.Stretches.{IsSameGroup, KeepsFrame}
use Rattle.std.specs.Prelude.{All, length, ◌/◌, slice_index}

pub same-here : (w : World) → IsSameGroup w w
same-here w = record {
  processes = refl;
  homes = refl;
  count = refl;
  output = refl;
  error = refl;
}

pub same-then : (u v w : World) → IsSameGroup u v → IsSameGroup v w → IsSameGroup u w
same-then u v w first second = record {
  processes = second.processes ∙ first.processes;
  homes = second.homes ∙ first.homes;
  count = second.count ∙ first.count;
  output = second.output ∙ first.output;
  error = second.error ∙ first.error;
}

-- ---- a thread that stays in its process

homes-changed : (f : Thread → Thread) → ((x : Thread) → (f x).process ≡ x.process)
    → (ts : List (Option Thread)) (t : ℕ)
    → map (λ thread. option_map (λ (known : Thread). known.process) thread)
    (changed (option_map f) ts t)
    ≡ map (λ thread. option_map (λ (known : Thread). known.process) thread) ts
homes-changed f stays ts zero = refl
homes-changed f stays ts (suc i) = at_place ts i
  where
    at_place : (ts : List (Option Thread)) (i : ℕ)
        → map (λ thread. option_map (λ (known : Thread). known.process) thread)
        (changed_at (option_map f) ts i)
        ≡ map (λ thread. option_map (λ (known : Thread). known.process) thread) ts
    at_place [] i = refl
    at_place (None ∷ ts) zero = refl
    at_place (Some x ∷ ts) zero =
        ap (λ p. Some p ∷ map (λ thread. option_map (λ (known : Thread). known.process) thread) ts)
        (stays x)
    at_place (x ∷ ts) (suc i) =
        ap (λ homes. option_map (λ (known : Thread). known.process) x ∷ homes) (at_place ts i)

same-changed : (w : World) (bytes : List ℕ) (t : ℕ) (f : Thread → Thread)
    → length bytes ≡ length w.bytes → ((x : Thread) → (f x).process ≡ x.process)
    → IsSameGroup w (with_thread (record w { bytes = bytes }) t f)
same-changed w bytes t f long stays = record {
  processes = refl;
  homes = homes-changed f stays w.threads t;
  count = long;
  output = refl;
  error = refl;
}

-- ---- an instruction

pub same-step : (w next : World) (t : ℕ) → step w t ≡ Ok next → IsSameGroup w next
same-step w next t steps =
    let form = step-form w next t steps in
    subst (λ v. IsSameGroup w v) (sym form.is)
    (same-changed w form.bytes t (paid_by form.registers) form.count (λ x. refl))

-- ---- what happens without a move

same-emptied : (w : World) (t : ℕ) → IsSameGroup w (emptied w t)
same-emptied w t = same-changed w w.bytes t (registers_by released) refl (λ x. refl)

same-rests : (w : World) (starters ts : List ℕ) → IsSameGroup w (to_rests w starters ts).0
same-rests w starters [] = record {
  processes = refl;
  homes = refl;
  count = refl;
  output = refl;
  error = refl;
}
same-rests w starters (t ∷ ts) =
    go (is_none (thread_at w t)) (is_rest_over (emptied w t) t) (same-rests w starters ts)
    (same-then w (emptied w t) (to_rests (emptied w t) starters ts).0 (same-emptied w t)
    (same-rests (emptied w t) starters ts))
  where
    go : (gone spent : Bool) → IsSameGroup w (to_rests w starters ts).0
        → IsSameGroup w (to_rests (emptied w t) starters ts).0
        → IsSameGroup w (cond gone (to_rests w starters ts) (cond spent
        (to_rests (emptied w t) starters ts) (emptied w t, within_rest starters t ts))).0
    go true spent h k = h
    go false true h k = k
    go false false h k = same-emptied w t

same-parts : (w : World) (starters ts : List ℕ) → IsSameGroup w (to_parts w starters ts).0
same-parts w starters [] = same-rests w starters starters
same-parts w starters (t ∷ ts) =
    go (is_part_over (emptied w t) t)
    (same-then w (emptied w t) (to_parts (emptied w t) starters ts).0 (same-emptied w t)
    (same-parts (emptied w t) starters ts))
  where
    go : (spent : Bool) → IsSameGroup w (to_parts (emptied w t) starters ts).0
        → IsSameGroup w (cond spent (to_parts (emptied w t) starters ts)
        (emptied w t, within_part starters t ts)).0
    go true k = k
    go false k = same-emptied w t

pub same-settled : (w : World) (place : Place) → IsSameGroup w (settled_scene (w, place)).0
same-settled w between_rounds = same-here w
same-settled w (before_parts starters ts) = same-parts w starters ts
same-settled w (before_rests starters ts) = same-rests w starters ts
same-settled w (within_part starters t ts) =
    go (is_part_over w t)
  where
    go : (spent : Bool) → IsSameGroup w (cond spent (to_parts w starters ts)
        (w, within_part starters t ts)).0
    go true = same-parts w starters ts
    go false = same-here w
same-settled w (within_rest starters t ts) =
    go (is_rest_over w t)
  where
    go : (spent : Bool) → IsSameGroup w (cond spent (to_rests w starters ts)
        (w, within_rest starters t ts)).0
    go true = same-rests w starters ts
    go false = same-here w
same-settled w (at_end ending) = same-here w

-- ---- bytes

bytes-rests : (w : World) (starters ts : List ℕ) → (to_rests w starters ts).0.bytes ≡ w.bytes
bytes-rests w starters [] = refl
bytes-rests w starters (t ∷ ts) =
    go (is_none (thread_at w t)) (is_rest_over (emptied w t) t) (bytes-rests w starters ts)
    (bytes-rests (emptied w t) starters ts)
  where
    go : (gone spent : Bool) → (to_rests w starters ts).0.bytes ≡ w.bytes
        → (to_rests (emptied w t) starters ts).0.bytes ≡ w.bytes
        → (cond gone (to_rests w starters ts) (cond spent
        (to_rests (emptied w t) starters ts) (emptied w t, within_rest starters t ts))).0.bytes
        ≡ w.bytes
    go true spent h k = h
    go false true h k = k
    go false false h k = refl

bytes-parts : (w : World) (starters ts : List ℕ) → (to_parts w starters ts).0.bytes ≡ w.bytes
bytes-parts w starters [] = bytes-rests w starters starters
bytes-parts w starters (t ∷ ts) =
    go (is_part_over (emptied w t) t) (bytes-parts (emptied w t) starters ts)
  where
    go : (spent : Bool) → (to_parts (emptied w t) starters ts).0.bytes ≡ w.bytes
        → (cond spent (to_parts (emptied w t) starters ts)
        (emptied w t, within_part starters t ts)).0.bytes ≡ w.bytes
    go true k = k
    go false k = refl

pub bytes-settled : (w : World) (place : Place) → (settled_scene (w, place)).0.bytes ≡ w.bytes
bytes-settled w between_rounds = refl
bytes-settled w (before_parts starters ts) = bytes-parts w starters ts
bytes-settled w (before_rests starters ts) = bytes-rests w starters ts
bytes-settled w (within_part starters t ts) =
    go (is_part_over w t)
  where
    go : (spent : Bool) → (cond spent (to_parts w starters ts)
        (w, within_part starters t ts)).0.bytes ≡ w.bytes
    go true = bytes-parts w starters ts
    go false = refl
bytes-settled w (within_rest starters t ts) =
    go (is_rest_over w t)
  where
    go : (spent : Bool) → (cond spent (to_rests w starters ts)
        (w, within_rest starters t ts)).0.bytes ≡ w.bytes
    go true = bytes-rests w starters ts
    go false = refl
bytes-settled w (at_end ending) = refl

-- where the bytes are the same, what keeps frames keeps them
pub keeps-with : (before behind last : World) (kept : List ℕ) → last.bytes ≡ behind.bytes
    → All (KeepsFrame before behind) kept → All (KeepsFrame before last) kept
keeps-with before behind last kept same keeps =
    subst (λ bytes. All (λ frame. (i : ℕ) → i / 4096 ≡ frame
    → slice_index bytes i ≡ slice_index before.bytes i) kept) (sym same) keeps
