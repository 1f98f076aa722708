-- Packs that were run over a board, with loans of what they share.
use Rattle.std.proofs.Common.{◌≡◌, ℕ, zero, suc, List, [], ◌∷◌, length, refl, sym, ap, subst}
use Rattle.std.proofs.Common.{◌∙◌, arith}
use Rattle.std.proofs.lemmas.List.{length-map}
use mathlib.Core.Option.{some}
use lib.ListN.{get_elem?}
use Rattle.hand_board.specs.Seating.{AllFinished}
use Rattle.quantum_run.specs.Packs.{seen_in}
use Rattle.quantum_run.specs.declared.pack.Shared.{Shared}
use Rattle.worker_pool.specs.Ran.{AllCanRun, AllRan, EachRan, HasRun}
use Rattle.worker_pool.proofs.RanPacks.{runnable-in, ran-in, as-many, ready-by, finished-by}
use Rattle.worker_pool.specs.Parts.{AreReady}
use Rattle.staying_workers.specs.Lending.{AreOfTerm, packs_held, Share, IsHeldFinished, MayRunHeld}
use Rattle.staying_workers.specs.Ready.{MayRun}
use Rattle.staying_workers.specs.declared.held.Held.{Held}
use Rattle.staying_workers.proofs.Readying.{may_of}

pub ready_of : (s : Shared) (hs : List Held) → AllCanRun (seen_in s) (packs_held hs) → Share s hs
    → (k : ℕ) (h : Held) → get_elem? hs k ≡ some h → MayRunHeld h
ready_of s hs can =
    ready-by (λ (h : Held). h.pack) (seen_in s) (λ (h : Held). h.shared.value ≡ s) MayRunHeld
    (λ h same runs. subst (λ (z : Shared). MayRun h.pack (seen_in z)) (sym same)
    (may_of h.pack (seen_in s) runs))
    hs (runnable-in (seen_in s) (seen_in s) (packs_held hs) refl can)

finished_ran : (s : Shared) (hs ms : List Held) → AllFinished IsHeldFinished hs ms → Share s hs
    → EachRan (seen_in s) (packs_held hs) (packs_held ms)
finished_ran s hs ms =
    finished-by (λ (h : Held). h.pack) (seen_in s) (λ (h : Held). h.shared.value ≡ s) IsHeldFinished
    (λ h m same all. subst (λ (z : Shared). HasRun (seen_in z) h.pack m.pack) same all.1) hs ms

packs_length : (hs : List Held) → length (packs_held hs) ≡ length hs
packs_length hs = length-map hs (λ (h : Held). h.pack)

-- packs that are those of a board as it opened are ready too
pub still_ready : {old new : List Held} → new ≡ old → AreReady MayRunHeld old
    → AreReady MayRunHeld new
still_ready is ready = subst (λ (l : List Held). AreReady MayRunHeld l) (sym is) ready

-- the same as one fact, with the number of packs
pub all_ran : (s : Shared) (hs ms : List Held) → AllFinished IsHeldFinished hs ms → Share s hs
    → AllRan (seen_in s) (packs_held hs) (packs_held ms)
all_ran s hs ms all same =
    ran-in (seen_in s) (seen_in s) (packs_held hs) (packs_held ms) refl
    (packs_length ms ∙ as-many IsHeldFinished hs ms all ∙ sym (packs_length hs))
    (finished_ran s hs ms all same)

-- the loans of packs that were run are of the term that they were of
pub still_of_term : (term : ℕ) (hs ms : List Held) → AllFinished IsHeldFinished hs ms
    → AreOfTerm term hs → AreOfTerm term ms
still_of_term term [] [] all of_term i d low = absurd (omega arith)
still_of_term term [] (m ∷ ms) all of_term i d low = absurd all
still_of_term term (h ∷ hs) [] all of_term i d low = absurd all
still_of_term term (h ∷ hs) (m ∷ ms) all of_term zero d low =
    ap (λ s. s.term) all.0.0 ∙ of_term 0 h (omega arith)
still_of_term term (h ∷ hs) (m ∷ ms) all of_term (suc i) d low =
    still_of_term term hs ms all.1 (λ j e less. of_term (suc j) e (omega arith)) i d (omega arith)
