-- Parts of the ready threads, whole or under way, as a mix of their instructions. This project's
-- own.
use Rattle.std.specs.Prelude.{ℕ, suc, ◌≡◌, ◌≤◌, ◌==◌, ◌++◌, Bool, List, [], ◌∷◌, replicate, Some}
use Rattle.std.specs.Prelude.{None, IfSome, IsTrue, slice_get, if◌then◌else◌}
use Rattle.dos_world.specs.World.{World, thread_at, ready_threads, is_state}
use Rattle.dos_world.specs.declared.ThreadState.TheVariants.{Ready}
use Rattle.flat_machine.specs.Alone.{alone}
use Rattle.quantum_run.specs.Shows.{Pack, View, RanForOwning, Shows, begun_pack}

-- each of these so many times, one after another
abbrev pub turns_of : ℕ → List ℕ → List ℕ
turns_of q [] = []
turns_of q (t ∷ ts) = replicate q t ++ turns_of q ts

-- those of these whose place, counted from n, is in the set
abbrev pub members : (ℕ → Bool) → ℕ → List ℕ → List ℕ
members f n [] = []
members f n (t ∷ ts) = let rest = members f (suc n) ts in if f n then t ∷ rest else rest

-- how often this order names a thread
abbrev pub times_named : ℕ → (order : List ℕ) → ℕ
times_named t [] = 0
times_named t (s ∷ order) =
    let rest = times_named t order in if s == t then suc rest else rest

-- The pack opened on this world with this thread, its part has begun, and has run as often as this
-- order names the thread, which its budget pays.
pub record RanAsNamed (w : World) (order : List ℕ) (v : View) (t : ℕ) (opening pack : Pack)
    : Type 0 where
  pub thread : opening.thread ≡ t
  pub same : pack.thread ≡ t
  pub shows : Shows opening v w
  pub paid : times_named t order ≤ opening.budget
  pub ran : RanForOwning (times_named t order) (begun_pack opening) v pack

-- The ready threads have the quantum as their budget, and no reservation.
abbrev pub HaveBegun : World → Type 0
HaveBegun w = (t : ℕ) → IsTrue (is_state Ready (thread_at w t))
    → IfSome (thread_at w t)
    (λ thread. (thread.budget ≡ w.quantum) × (thread.registers.held ≡ None))

-- There is a pack for each ready thread, in order: those in the set show their thread's part, and
-- the others the world.
abbrev pub PacksShow : World → (ℕ → Bool) → View → List Pack → Type 0
PacksShow w f v packs = (i t : ℕ) (p : Pack)
    → slice_get (ready_threads w) i ≡ Some t → slice_get packs i ≡ Some p
    → (p.thread ≡ t) × Shows p v (if f i then alone w t else w)
