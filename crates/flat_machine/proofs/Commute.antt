-- Instructions of two threads commute.
use Rattle.std.proofs.Common.{ℕ, zero, suc, ◌+◌, ◌/◌, ◌<◌, ◌≤◌, ◌≡◌, ◌≢◌, refl, sym, ap, ◌∙◌, subst}
use Rattle.std.proofs.Common.{List, [], ◌∷◌, length, set, get_or, Option, option_map, Ok, arith}
use Rattle.std.proofs.lemmas.List.{set_comm}
use Rattle.dos_world.specs.Numbered.{changed, changed_at}
use Rattle.dos_world.specs.World.{World, Thread, Registers, flat, thread_at, owner_of, with_thread}
use Rattle.dos_world.proofs.Numbers.{changed_other, changed_there}
use Rattle.dos_world.specs.Bytes.{written}
use Rattle.dos_world.specs.declared.Owner.TheVariants.{Of}
use Rattle.flat_machine.specs.Step.{step, paid, paid_by}
use Rattle.flat_machine.proofs.Keeps.{step-keeps}
use Rattle.flat_machine.proofs.Stays.{step-form, step_again}

-- ---- what a step leaves of the threads

-- another thread stands
pub step-others : (w w' : World) (s t : ℕ) → t ≢ s → step w s ≡ Ok w'
    → thread_at w' t ≡ thread_at w t
step-others w w' s t other is =
    let form = step-form w w' s is in
    ap (λ u. thread_at u t) form.is
    ∙ ap flat (changed_other (option_map (paid_by form.registers)) w.threads s t other)

-- its own has other registers, and a budget one less
pub step-pays : (w w' : World) (t : ℕ) → step w t ≡ Ok w'
    → (r : Registers) × (thread_at w' t ≡ option_map (paid_by r) (thread_at w t))
step-pays w w' t is =
    let form = step-form w w' t is in (
      form.registers,
      ap (λ u. thread_at u t) form.is
          ∙ changed_there (paid_by form.registers) w.threads t,
    )

-- ---- two writes apart

written-set : (bytes : List ℕ) (p : ℕ) (new : List ℕ) (i b : ℕ)
    → ((j : ℕ) → p ≤ j → j < p + length new → j ≢ i)
    → written (set bytes i b) p new ≡ set (written bytes p new) i b
written-set bytes p [] i b apart = refl
written-set bytes p (c ∷ new) i b apart =
    let other : i ≢ p = λ e. apart p (omega arith) (omega arith) (sym e) in
    ap (λ xs. written xs (suc p) new) (set_comm bytes i p b c other)
    ∙ written-set (set bytes p c) (suc p) new i b
    (λ j low high. apart j (omega arith) (omega arith))

pub written-written : (bytes : List ℕ) (p : ℕ) (new : List ℕ) (q : ℕ) (later : List ℕ)
    → ((i : ℕ) → p ≤ i → i < p + length new → q ≤ i → i < q + length later → ⊥)
    → written (written bytes p new) q later ≡ written (written bytes q later) p new
written-written bytes p [] q later apart = refl
written-written bytes p (b ∷ new) q later apart =
    written-written (set bytes p b) (suc p) new q later
    (λ i low high. apart i (omega arith) (omega arith))
    ∙ ap (λ xs. written xs (suc p) new)
    (written-set bytes q later p b
    (λ j low high e. apart j (omega (arith, e)) (omega (arith, e)) low high))

-- ---- two threads that change

pub changed-changed : {A : Type 0} (f g : A → A) (xs : List A) (s t : ℕ) → t ≢ s
    → changed g (changed f xs s) t ≡ changed f (changed g xs t) s
changed-changed f g xs zero zero other = refl
changed-changed f g xs zero (suc j) other = refl
changed-changed f g xs (suc i) zero other = refl
changed-changed {A} f g xs (suc i) (suc j) other = at xs i j (λ e. other (ap suc e))
  where
    at : (xs : List A) (i j : ℕ) → j ≢ i
        → changed_at g (changed_at f xs i) j ≡ changed_at f (changed_at g xs j) i
    at [] i j other = refl
    at (x ∷ xs) zero zero other = absurd (other refl)
    at (x ∷ xs) zero (suc j) other = refl
    at (x ∷ xs) (suc i) zero other = refl
    at (x ∷ xs) (suc i) (suc j) other = ap (λ ys. x ∷ ys) (at xs i j (λ e. other (ap suc e)))

abbrev both : World → List ℕ → List (Option Thread) → World
both w bytes threads = record w { bytes = bytes; threads = threads }

-- ---- an instruction beside a change of another thread

pub step-beside : (w w' : World) (s t : ℕ) (change : Thread → Thread) → t ≢ s → step w t ≡ Ok w'
    → step (with_thread w s change) t ≡ Ok (with_thread w' s change)
step-beside w w' s t change other steps =
    let a = step_again w s t other w.bytes change refl (λ i theirs. refl) w' steps in
    let d = a.wrote in
    a.again
    ∙ ap (λ threads. Ok (both w (written w.bytes d.place d.new) threads))
    (changed-changed (option_map change) (option_map (paid_by d.registers)) w.threads s t other)
    ∙ ap (λ u. Ok (with_thread u s change)) (sym d.is)

-- ---- two instructions

pub record Both (w1 w2 : World) (s t : ℕ) : Type 0 where
  pub last : World
  pub second : step w1 t ≡ Ok last
  pub first : step w2 s ≡ Ok last

pub steps-commute : (w w1 w2 : World) (s t : ℕ) → t ≢ s → step w s ≡ Ok w1 → step w t ≡ Ok w2
    → Both w1 w2 s t
steps-commute w w1 w2 s t other one two =
    let back : s ≢ t = λ e. other (sym e) in
    let form1 = step-form w w1 s one in
    let form2 = step-form w w2 t two in
    let keeps1 = step-keeps w w1 s one in
    let keeps2 = step-keeps w w2 t two in
    let kept1 : (i : ℕ) → owner_of w (i / 4096) ≢ Of s
    → get_or form1.bytes i 0 ≡ get_or w.bytes i 0 =
    λ i theirs. sym (ap (λ u. get_or u.bytes i 0) form1.is) ∙ keeps1.bytes i theirs in
    let kept2 : (i : ℕ) → owner_of w (i / 4096) ≢ Of t
    → get_or form2.bytes i 0 ≡ get_or w.bytes i 0 =
    λ i theirs. sym (ap (λ u. get_or u.bytes i 0) form2.is) ∙ keeps2.bytes i theirs in
    let a2 = step_again w s t other form1.bytes
    (paid_by form1.registers) form1.count kept1 w2 two in
    let a1 = step_again w t s back form2.bytes (paid_by form2.registers) form2.count kept2 w1 one in
    let d1 = a1.wrote in
    let d2 = a2.wrote in
    let write1 : World → World =
    λ u. paid (record u { bytes = written u.bytes d1.place d1.new }) s d1.registers in
    let write2 : World → World =
    λ u. paid (record u { bytes = written u.bytes d2.place d2.new }) t d2.registers in
    let second : step w1 t ≡ Ok (write2 w1) =
    subst (λ u. step u t ≡ Ok (write2 u)) (sym form1.is) a2.again in
    let first : step w2 s ≡ Ok (write1 w2) =
    subst (λ u. step u s ≡ Ok (write1 u)) (sym form2.is) a1.again in
    let apart : (i : ℕ) → d1.place ≤ i → i < d1.place + length d1.new → d2.place ≤ i
    → i < d2.place + length d2.new → ⊥ =
    λ i low high low2 high2.
    other (of_is t s (sym (d2.own i low2 high2) ∙ d1.own i low high)) in
    let same : write1 w2 ≡ write2 w1 =
    ap write1 d2.is
    ∙ ap (λ bytes. both w bytes
    (changed (option_map (paid_by d1.registers))
    (changed (option_map (paid_by d2.registers)) w.threads t) s))
    (sym (written-written w.bytes d1.place d1.new d2.place d2.new apart))
    ∙ ap (λ threads. both w (written (written w.bytes d1.place d1.new) d2.place d2.new) threads)
    (sym (changed-changed (option_map (paid_by d1.registers))
    (option_map (paid_by d2.registers)) w.threads s t other))
    ∙ ap write2 (sym d1.is) in
    record { last = write2 w1; second = second; first = first ∙ ap Ok same }
  where
    of_is : (a b : ℕ) → Of a ≡ Of b → a ≡ b
    of_is a b q = cc
