-- A thread that changes in its world, and its space.
use Rattle.std.proofs.Common.{ℕ, zero, suc, ◌≡◌, refl, sym, ap, ◌∙◌, List, [], ◌∷◌, Option}
use Rattle.std.proofs.Common.{Some}
use Rattle.std.proofs.Common.{None, option_map}
use Rattle.std.specs.Prelude.{slice_get}
use Rattle.dos_world.specs.Numbered.{numbered, changed, changed_at}
use Rattle.dos_world.specs.World.{World, Thread, Registers, flat, thread_at, with_thread}
use Rattle.dos_world.specs.World.{ran}
use Rattle.flat_machine.specs.Laws.{kept}
use Rattle.dos_world.specs.World.{ran}

-- what keeps registers and a budget is a thread that has them
pub of_kept : (o : Option Thread) (r : Registers) (b : ℕ) → option_map kept o ≡ Some (r, b)
    → (th : Thread) × (o ≡ Some th) × (th.registers ≡ r) × (th.budget ≡ b)
of_kept None r b h = cc
of_kept (Some th) r b h = let e : kept th ≡ (r, b) = cc in
    (th, refl, ap (λ x. x.0) e, ap (λ x. x.1) e)

-- what is seen of the changed thread
pub seen-changed : {B : Type 0} (seen : Thread → B) (f : Thread → Thread)
    (ts : List (Option Thread)) (t : ℕ)
    → option_map seen (flat (numbered (changed (option_map f) ts t) t))
    ≡ option_map (λ x. seen (f x)) (flat (numbered ts t))
seen-changed seen f ts zero = refl
seen-changed seen f ts (suc i) = at ts i
  where
    at : (ts : List (Option Thread)) (i : ℕ)
        → option_map seen (flat (slice_get (changed_at (option_map f) ts i) i))
        ≡ option_map (λ x. seen (f x)) (flat (slice_get ts i))
    at [] i = refl
    at (None ∷ ts) zero = refl
    at (Some x ∷ ts) zero = refl
    at (x ∷ ts) (suc i) = at ts i

pub same-seen : {B : Type 0} (seen other : Thread → B) (o : Option Thread)
    → ((x : Thread) → seen x ≡ other x) → option_map seen o ≡ option_map other o
same-seen seen other None same = refl
same-seen seen other (Some x) same = ap Some (same x)

-- two changes of a thread, of which the second forgets the first
changed-twice : (f g : Thread → Thread) → ((x : Thread) → g (f x) ≡ g x)
    → (ts : List (Option Thread)) (t : ℕ)
    → changed (option_map g) (changed (option_map f) ts t) t ≡ changed (option_map g) ts t
changed-twice f g same ts zero = refl
changed-twice f g same ts (suc i) = at ts i
  where
    at : (ts : List (Option Thread)) (i : ℕ)
        → changed_at (option_map g) (changed_at (option_map f) ts i) i
        ≡ changed_at (option_map g) ts i
    at [] i = refl
    at (None ∷ ts) zero = refl
    at (Some x ∷ ts) zero = ap (λ y. Some y ∷ ts) (same x)
    at (x ∷ ts) (suc i) = ap (λ ys. x ∷ ys) (at ts i)

changed-same : (g : Thread → Thread) (ts : List (Option Thread)) (t : ℕ) (x : Thread)
    → flat (numbered ts t) ≡ Some x → g x ≡ x → changed (option_map g) ts t ≡ ts
changed-same g ts zero x h same = refl
changed-same g ts (suc i) x h same = at ts i h
  where
    at : (ts : List (Option Thread)) (i : ℕ) → flat (slice_get ts i) ≡ Some x
        → changed_at (option_map g) ts i ≡ ts
    at [] i q = refl
    at (None ∷ ts) zero q = refl
    at (Some y ∷ ts) zero q = let is : y ≡ x = cc in ap (λ z. Some z ∷ ts) (ap g is ∙ same ∙ sym is)
    at (y ∷ ts) (suc i) q = ap (λ ys. y ∷ ys) (at ts i q)

-- a later run of the same thread forgets what the thread had
pub ran-twice : (w : World) (t : ℕ) (f : Thread → Thread) (r : Registers) (b : ℕ)
    → ((x : Thread) → ran r b (f x) ≡ ran r b x)
    → with_thread (with_thread w t f) t (ran r b) ≡ with_thread w t (ran r b)
ran-twice w t f r b same =
    ap (λ ts. record w { threads = ts }) (changed-twice f (ran r b) same w.threads t)

-- who ran nowhere is who it was
pub ran-same : (w : World) (t : ℕ) (r : Registers) (b : ℕ)
    → option_map kept (thread_at w t) ≡ Some (r, b) → with_thread w t (ran r b) ≡ w
ran-same w t r b h =
    let k = of_kept (thread_at w t) r b h in
    let same : ran r b k.0 ≡ k.0 =
    ap (λ x. ran x b k.0) (sym k.2) ∙ ap (λ x. ran k.0.registers x k.0) (sym k.3) in
    ap (λ ts. record w { threads = ts }) (changed-same (ran r b) w.threads t k.0 k.1 same)
