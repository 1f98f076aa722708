-- What keeps a state sound, and who has a part in it.
use Rattle.std.proofs.Common.{ℕ, zero, suc, ◌≤◌, ◌≡◌, refl, subst, Bool, cond, true, false, List}
use Rattle.std.proofs.Common.{[], ◌∷◌, length, Option, Some, None, option_map, Result, Ok, Err}
use Rattle.std.proofs.Common.{arith}
use Rattle.std.specs.Prelude.{IsSome, is_some}
use Rattle.dos_world.specs.Numbered.{changed, numbered, numbers_of}
use Rattle.dos_world.specs.World.{World, Thread, flat, entry_at, is_state}
use Rattle.dos_world.specs.declared.ThreadState.TheVariants.{Ready}
use Rattle.dos_world.specs.Lawful.{Lawful}
use Rattle.dos_world.specs.declared.Access.{Access}
use Rattle.dos_world.specs.declared.Entry.{Entry}
use Rattle.dos_world.specs.declared.Reason.{Reason}
use Rattle.dos_world.specs.declared.Scheme.{Scheme}
use Rattle.dos_laws.specs.Standing.{AreAwake, LawfulWith, fit_protocol}
use Rattle.dos_laws.proofs.LawfulRounds.{at_rest}
use Rattle.dos_laws.proofs.Stands.{at_changed}
use Rattle.dos_laws.proofs.StandsBuffered.{stands-buffered}
use Rattle.dos_laws.proofs.StandsKeeps.{stands_kept}
use Rattle.flat_machine.specs.Step.{step}
use Rattle.flat_machine.specs.Alone.{alone}
use Rattle.flat_machine.specs.Laws.{after_steps}
use Rattle.round_core.specs.Invariants.{IsInvariant, PhaseKeeps}
use Rattle.flat_machine.specs.Rest.{granted_by, page_granted}
use Rattle.flat_machine.specs.Round.{all_alone, phase_of}
use Rattle.round_core.proofs.Keeps.{kept_throughout, phase_keeps}
use Rattle.proc_table.specs.Tables.{IsLiveThread as Lives}
use Rattle.kernel_calls.specs.StateWorld.{HaveParts, IsCounted, IsReady, IsSound, sent, world_of}
use Rattle.kernel_calls.specs.declared.state.State.{State}

-- ---- the world of a sound state

-- under one quantum; for what doesn't depend on it
pub sound_one : (s : State) → IsSound s → Lawful (world_of 16 s)
sound_one s h = h.lawful 16 (omega arith) (omega arith)

-- no more than 64 threads live
pub few_live : (s : State) → IsSound s → length (numbers_of is_some s.table.threads) ≤ 64
few_live s h = (sound_one s h).limits.threads.0

-- ---- who has a part

awake_under : (s : State) (q r : ℕ) (ts : List ℕ) → AreAwake (world_of q s) ts
    → AreAwake (world_of r s) ts
awake_under s q r [] h = tt
awake_under s q r (t ∷ ts) h = (h.0, awake_under s q r ts h.1)

-- who has a part stands so in the world
pub standing : (s : State) (ts : List ℕ) → IsSound s → HaveParts ts s
    → LawfulWith ts (world_of 16 s)
standing s ts sound parts = record {
  lawful = sound_one s sound;
  awake = awake_under s 0 16 ts parts.awake;
  apart = parts.apart;
}

-- and has it in the state
pub parts_in : (s : State) (ts : List ℕ) → LawfulWith ts (world_of 16 s) → HaveParts ts s
parts_in s ts k = record { awake = awake_under s 16 0 ts k.awake; apart = k.apart }

-- a thread that is ready has a part
pub part_of : (s : State) (t : ℕ) → IsReady s.table.threads t → HaveParts (t ∷ []) s
part_of s t ready = record { awake = (ready, tt); apart = (tt, tt) }

-- so a thread is ready that keeps its part
pub ready_then : (s s' : State) (t : ℕ) → IsReady s.table.threads t
    → (HaveParts (t ∷ []) s → HaveParts (t ∷ []) s') → IsReady s'.table.threads t
ready_then s s' t ready keeps = (keeps (part_of s t ready)).awake.0

-- a part that is over
pub parts_passed : (s : State) (t : ℕ) (ts : List ℕ) → HaveParts (t ∷ ts) s → HaveParts ts s
parts_passed s t ts h = record { awake = h.awake.1; apart = h.apart.1 }

-- by whether a part goes on
pub parts_on : (on : Bool) (t : ℕ) (ts : List ℕ) (s : State) → on ≡ true
    → HaveParts (cond on (t ∷ ts) ts) s → HaveParts (t ∷ ts) s
parts_on on t ts s is h = subst (λ b. HaveParts (cond b (t ∷ ts) ts) s) is h

pub parts_off : (on : Bool) (t : ℕ) (ts : List ℕ) (s : State) → on ≡ false
    → HaveParts (cond on (t ∷ ts) ts) s → HaveParts ts s
parts_off on t ts s is h = subst (λ b. HaveParts (cond b (t ∷ ts) ts) s) is h

-- those that are ready have theirs
pub parts_begin : (s : State) → IsSound s
    → HaveParts (numbers_of (is_state Ready) s.table.threads) s
parts_begin s sound =
    parts_in s (numbers_of (is_state Ready) s.table.threads)
    (stands_kept.begins (world_of 16 s) (at_rest (world_of 16 s) (sound_one s sound)))

-- ---- another state, in whose world stands who stood

-- it is sound, if its kept numbers are those of its world
pub sound_then : (s s' : State) → IsSound s → IsCounted s'
    → ((q : ℕ) → LawfulWith [] (world_of q s) → LawfulWith [] (world_of q s')) → IsSound s'
sound_then s s' h counted keeps = record {
  counted = counted;
  lawful = λ q low high. (keeps q (at_rest (world_of q s) (h.lawful q low high))).lawful;
}

-- and those that have a part have theirs
pub parts_then : (s s' : State) (ts us : List ℕ) → IsSound s
    → (LawfulWith ts (world_of 16 s) → LawfulWith us (world_of 16 s')) → HaveParts ts s
    → HaveParts us s'
parts_then s s' ts us h keeps parts = parts_in s' us (keeps (standing s ts h parts))

-- ---- what leaves who stands standing

pub kept : IsInvariant fit_protocol LawfulWith
kept = kept_throughout fit_protocol LawfulWith stands_kept

-- instructions
pub steps_keep : (ts : List ℕ) (n : ℕ) (w w' : World) (t : ℕ) → after_steps n w t ≡ Some w'
    → LawfulWith ts w → LawfulWith ts w'
steps_keep ts zero w w' t e k = let same : w ≡ w' = cc in subst (LawfulWith ts) same k
steps_keep ts (suc n) w w' t e k = go (λ next. steps_keep ts n next w' t) (step w t) refl e
  where
    go : ((next : World) → after_steps n next t ≡ Some w' → LawfulWith ts next → LawfulWith ts w')
        → (r : Result World Reason) → step w t ≡ r
        → (elim r as (λ _. Option World) [ Ok next ↦ after_steps n next t | Err reason ↦ None ])
        ≡ Some w' → LawfulWith ts w'
    go rest (Ok next) is h = rest next h (stands_kept.steps_kept ts w next t is k)
    go rest (Err reason) is h = cc

-- a page that is granted
pub grant_keeps : (ts : List ℕ) (w : World) (t address : ℕ) (access : Access) → LawfulWith ts w
    → LawfulWith ts (page_granted w t address access)
grant_keeps ts w t address access k = go (entry_at w t address) refl
  where
    go : (o : Option Entry) → entry_at w t address ≡ o → LawfulWith ts (granted_by w t access o)
    go None is = k
    go (Some e) is = stands_kept.grant_kept ts w t address access e is k

-- threads that each run by themselves
pub alone_keeps : (ts us : List ℕ) (w : World) → LawfulWith ts w → LawfulWith ts (all_alone w us)
alone_keeps ts [] w k = k
alone_keeps ts (u ∷ us) w k = alone_keeps ts us (alone w u) (kept.alone_kept ts w u k)

-- the parallel phase of either scheme
pub phase_stands : (scheme : Scheme) → PhaseKeeps LawfulWith (phase_of scheme)
phase_stands = phase_keeps fit_protocol LawfulWith stands_kept stands-buffered

-- so who has a part has it after the parallel phase
pub parts_behind : (scheme : Scheme) (s s' : State) → IsSound s
    → ((q : ℕ) (o e : List ℕ)
    → phase_of scheme (sent o e (world_of q s)) ≡ sent o e (world_of q s'))
    → (ts : List ℕ) → HaveParts ts s → HaveParts ts s'
parts_behind scheme s s' h runs ts =
    parts_then s s' ts ts h
    (λ k. subst (LawfulWith ts) (runs 16 [] []) (phase_stands scheme ts (world_of 16 s) k))

-- ---- a live thread

-- a thread changed by f lives on, and so do all others
pub lives_by : (f : Thread → Thread) (threads : List (Option Thread)) (t s : ℕ) → Lives threads s
    → Lives (changed (option_map f) threads t) s
lives_by f threads t s h =
    at_changed (λ o. IsSome o) f threads t s (λ other. h)
    (λ same. one (flat (numbered threads t)) (subst (Lives threads) same h))
  where
    one : (o : Option Thread) → IsSome o → IsSome (option_map f o)
    one None h = cc
    one (Some thread) h = refl
