-- A thread goes on as it did, to stop or to step, after a step of another: what it sees is the
-- same.
use Rattle.std.proofs.Common.{ℕ, ◌/◌, ◌≡◌, ◌≢◌, refl, sym, ap, ◌∙◌, subst, Bool, true, false, not}
use Rattle.std.proofs.Common.{eqb, eqb-true, List, length, Some, option_map, get_or, Ok, Err, arith}
use Rattle.dos_world.specs.Numbered.{numbered}
use Rattle.dos_world.specs.World.{World, Thread, entry_at, flat, owner_of, thread_at, with_thread}
use Rattle.dos_world.specs.Reach.{is_foreign}
use Rattle.dos_world.specs.declared.Entry.{Entry}
use Rattle.dos_world.specs.declared.Access.{Access}
use Rattle.dos_world.specs.declared.Owner.{Owner}
use Rattle.dos_world.specs.declared.Owner.TheVariants.{Free, Shared, Of}
use Rattle.dos_world.specs.declared.Reason.{Reason}
use Rattle.dos_world.proofs.Numbers.{changed_other}
use Rattle.flat_machine.specs.Step.{step, paid_by}
use Rattle.flat_machine.proofs.Keeps.{step-keeps}
use Rattle.flat_machine.proofs.Dependence.{Again, step_stops as seen_stops}
use Rattle.flat_machine.proofs.Dependence.{step_again as seen_again}
pub use Rattle.flat_machine.proofs.Forms.{step-form}

-- ---- what t sees after a step of s

module _ (w : World) (s t : ℕ) (other : t ≢ s) (b : List ℕ) (change : Thread → Thread)
    (count : length b ≡ length w.bytes)
    (kept : (i : ℕ) → owner_of w (i / 4096) ≢ Of s → get_or b i 0 ≡ get_or w.bytes i 0) where
  abbrev next : World
  next = with_thread (record w { bytes = b }) s change

  -- s's change leaves t
  pub same_thread : flat (numbered next.threads t) ≡ thread_at w t
  same_thread = ap flat (changed_other (option_map change) w.threads s t other)

  -- a frame that t reaches isn't s's
  not_theirs : (x : Access) (o : Owner) → is_foreign t x o ≡ false → o ≢ Of s
  not_theirs x (Of u) h e = other (sym (eqb-true u t (not-false (eqb u t) h)) ∙ of_is e)
    where
      not-false : (c : Bool) → not c ≡ false → c ≡ true
      not-false true q = refl
      not-false false q = absurd (grind arith)

      of_is : Of u ≡ Of s → u ≡ s
      of_is q = cc
  not_theirs x Free h e = grind arith
  not_theirs x Shared h e = grind arith

  -- so t sees frames that aren't s's alone
  abbrev See : ℕ → Type 0
  See frame = owner_of w frame ≢ Of s

  pub sees : (a : ℕ) (e : Entry) (x : Access) → entry_at w t a ≡ Some e
      → is_foreign t x (owner_of w e.frame) ≡ false → See e.frame
  sees a e x has mine = not_theirs x (owner_of w e.frame) mine

  pub step_stops : (reason : Reason) → step w t ≡ Err reason → step next t ≡ Err reason
  step_stops reason h = seen_stops w t b next.threads count same_thread See sees kept reason h

  pub step_again : (w' : World) → step w t ≡ Ok w'
      → Again w t b next.threads count same_thread See sees kept w'
  step_again w' h = seen_again w t b next.threads count same_thread See sees kept w' h

-- A thread that stops goes on to stop where another changes.
pub stops-beside : (w : World) (s t : ℕ) (change : Thread → Thread) (reason : Reason) → t ≢ s
    → step w t ≡ Err reason → step (with_thread w s change) t ≡ Err reason
stops-beside w s t change reason other stopped =
    step_stops w s t other w.bytes change refl (λ i theirs. refl) reason stopped

-- A thread that stops goes on to stop after a step of another.
pub stops-stay : (w w' : World) (s t : ℕ) (reason : Reason) → t ≢ s → step w s ≡ Ok w'
    → step w t ≡ Err reason → step w' t ≡ Err reason
stops-stay w w' s t reason other steps stopped =
    let form = step-form w w' s steps in
    let keeps = step-keeps w w' s steps in
    let kept : (i : ℕ) → owner_of w (i / 4096) ≢ Of s → get_or form.bytes i 0 ≡ get_or w.bytes i 0 =
    λ i theirs. sym (ap (λ u. get_or u.bytes i 0) form.is) ∙ keeps.bytes i theirs in
    subst (λ u. step u t ≡ Err reason) (sym form.is)
    (step_stops w s t other form.bytes
    (paid_by form.registers) form.count kept reason stopped)
