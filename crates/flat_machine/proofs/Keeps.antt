-- What an instruction leaves as it was.
use Rattle.std.proofs.Common.{ℕ, zero, suc, ◌+◌, ◌*◌, ◌/◌, ◌%◌, ◌<◌, ◌≤◌, ◌≡◌, ◌≢◌, ◌⊎◌, inl, inr}
use Rattle.std.proofs.Common.{refl, ap, ◌∙◌, subst, Bool, cond, true, false, not, eqb, eqb-true}
use Rattle.std.proofs.Common.{List, [], ◌∷◌, length, get_or, Option, Some, None, Result, Ok, Err}
use Rattle.std.proofs.Common.{arith, get_or-set_other}
use Rattle.dos_world.specs.World.{World, Thread, Registers, entry_at, owner_of, thread_at}
use Rattle.dos_world.specs.Reach.{Reached, fault, foreign, at, reach, in_frame, is_foreign}
use Rattle.dos_world.specs.Reach.{has_right, width, loaded, written, bytes_of}
use Rattle.dos_world.specs.declared.Entry.{Entry}
use Rattle.dos_world.specs.declared.Access.{Access}
use Rattle.dos_world.specs.declared.Access.TheVariants.{Fetch, Load, Store, Claim}
use Rattle.dos_world.specs.declared.Size.{Size}
use Rattle.dos_world.specs.declared.Size.TheVariants.{Byte, Half, Word}
use Rattle.dos_world.specs.declared.Owner.{Owner}
use Rattle.dos_world.specs.declared.Owner.TheVariants.{Free, Shared, Of}
use Rattle.dos_world.specs.declared.Reason.{Reason}
use Rattle.dos_world.specs.declared.Reason.TheVariants.{Page, Fault, Service}
use Rattle.std.proofs.lemmas.Bool.{cases_lt}
use Rattle.rv_isa.specs.declared.Instr.{Instr}
use Rattle.flat_machine.specs.Effect.{Effect, goes, loads, stores, claims, stops, effect}
use Rattle.flat_machine.specs.Laws.{LeavesOthers}
use Rattle.flat_machine.specs.Step.{step, step_by, performed, reached, with_word, instruction_at}
use Rattle.flat_machine.specs.Step.{◌>>=◌}

-- ---- writing

written_other : (bytes : List ℕ) (place : ℕ) (new : List ℕ) (i : ℕ)
    → (i < place) ⊎ (place + length new ≤ i)
    → get_or (written bytes place new) i 0 ≡ get_or bytes i 0
written_other bytes place [] i out = refl
written_other bytes place (b ∷ new) i out =
    let ne : i ≢ place = apart out in
    written_other _ (suc place) new i (beyond out) ∙ rw get_or-set_other refl
  where
    apart : (i < place) ⊎ (place + length (b ∷ new) ≤ i) → i ≢ place
    apart (inl h) = omega arith
    apart (inr h) = omega arith

    beyond : (i < place) ⊎ (place + length (b ∷ new) ≤ i)
        → (i < suc place) ⊎ (suc place + length new ≤ i)
    beyond (inl h) = inl (omega arith)
    beyond (inr h) = inr (omega arith)

pub length-bytes_of : (k n : ℕ) → length (bytes_of k n) ≡ k
length-bytes_of zero n = refl
length-bytes_of (suc k) n = ap suc (length-bytes_of k (n / 256))

-- ---- reaching

pub data Writes : Access → Type 0 where
  store : Writes Store
  claim : Writes Claim

-- a place that a writing access reaches lies within a frame of t
pub record Own (w : World) (t place count : ℕ) : Type 0 where
  pub frame : ℕ
  pub owner : owner_of w frame ≡ Of t
  pub low : 4096 * frame ≤ place
  pub high : place + count ≤ 4096 * frame + 4096

pub at≢fault : {place n : ℕ} → fault n ≡ at place → ⊥
at≢fault e = cc

pub at≢foreign : {place n : ℕ} → foreign n ≡ at place → ⊥
at≢foreign e = cc

owner_is : (t : ℕ) (access : Access) → Writes access → (o : Owner) → is_foreign t access o ≡ false
    → o ≡ Of t
owner_is t access w (Of s) e = ap Of (eqb-true s t (not-not (eqb s t) e))
  where
    not-not : (b : Bool) → not b ≡ false → b ≡ true
    not-not true e = refl
    not-not false e = absurd (grind arith)
owner_is t Store store Free e = absurd (grind arith)
owner_is t Claim claim Free e = absurd (grind arith)
owner_is t Store store Shared e = absurd (grind arith)
owner_is t Claim claim Shared e = absurd (grind arith)
owner_is t Fetch w Free e = elim w [ ]
owner_is t Load w Free e = elim w [ ]
owner_is t Fetch w Shared e = elim w [ ]
owner_is t Load w Shared e = elim w [ ]

pub within : (size : Size) (address frame place : ℕ) → address % width size ≡ 0
    → place ≡ 4096 * frame + address % 4096
    → (4096 * frame ≤ place) × (place + width size ≤ 4096 * frame + 4096)
within Byte address frame place aligned e = (omega arith, omega arith)
within Half address frame place aligned e = (omega arith, omega arith)
within Word address frame place aligned e = (omega arith, omega arith)

pub reach-own : (w : World) (t address : ℕ) (size : Size) (access : Access) → Writes access
    → (place : ℕ) → reach w t address size access ≡ at place → Own w t place (width size)
reach-own w t address size access writes place h =
    by_alignment (eqb (address % width size) 0) refl h
  where
    by_owner : (e : Entry) (foreign_to : Bool)
        → is_foreign t access (owner_of w e.frame) ≡ foreign_to → address % width size ≡ 0
        → cond foreign_to (foreign e.frame) (at (4096 * e.frame + address % 4096)) ≡ at place
        → Own w t place (width size)
    by_owner e true is aligned q = absurd (at≢foreign q)
    by_owner e false is aligned q =
        let same : place ≡ 4096 * e.frame + address % 4096 = cc in
        let bounds = within size address e.frame place aligned same in
        record {
          frame = e.frame;
          owner = owner_is t access writes _ is;
          low = bounds.0;
          high =
              bounds.1;
        }

    by_right : (e : Entry) (right : Bool) → address % width size ≡ 0
        → cond (not right) (fault 11)
        (cond (is_foreign t access (owner_of w e.frame)) (foreign e.frame)
        (at (4096 * e.frame + address % 4096))) ≡ at place → Own w t place (width size)
    by_right e false aligned q = absurd (at≢fault q)
    by_right e true aligned q = by_owner e (is_foreign t access (owner_of w e.frame)) refl aligned q

    by_entry : (o : Option Entry) → address % width size ≡ 0
        → in_frame w t address access o ≡ at place → Own w t place (width size)
    by_entry None aligned q = absurd (at≢fault q)
    by_entry (Some e) aligned q = by_right e (has_right access e) aligned q

    by_alignment : (b : Bool) → eqb (address % width size) 0 ≡ b
        → cond (not b) (fault 7) (in_frame w t address access (entry_at w t address)) ≡ at place
        → Own w t place (width size)
    by_alignment false is q = absurd (at≢fault q)
    by_alignment true is q =
        by_entry (entry_at w t address) (eqb-true (address % width size) 0 is) q

-- a write there leaves what isn't t's
written_keeps : (w : World) (t place count : ℕ) (new : List ℕ) → length new ≡ count
    → Own w t place count → (i : ℕ) → owner_of w (i / 4096) ≢ Of t
    → get_or (written w.bytes place new) i 0 ≡ get_or w.bytes i 0
written_keeps w t place count new len own i not_own =
    written_other w.bytes place new i (outside (cases_lt i place))
  where
    other : i / 4096 ≢ own.frame
    other e = not_own (ap (owner_of w) e ∙ own.owner)

    outside : (i < place) ⊎ (place ≤ i) → (i < place) ⊎ (place + length new ≤ i)
    outside (inl h) = inl h
    outside (inr h) = inr (grind (arith, other, own.low, own.high, len))

-- ---- the step

pub bind_ok : {A B : Type 0} (r : Result A Reason) (f : A → Result B Reason) (y : B)
    → (r >>= f) ≡ Ok y → (x : A) × (r ≡ Ok x) × (f x ≡ Ok y)
bind_ok (Ok a) f y h = (a, refl, h)
bind_ok (Err e) f y h = absurd (grind arith)

pub reached-at : (w : World) (t address : ℕ) (size : Size) (access : Access) (place : ℕ)
    → reached w t address size access ≡ Ok place → reach w t address size access ≡ at place
reached-at w t address size access place h = go (reach w t address size access) h
  where
    go : (r : Reached) → (elim r as (λ _. Result ℕ Reason) [
      | fault n ↦ Err (Fault n)
      | foreign frame ↦ Err (Page address access)
      | at p ↦ Ok p
    ]) ≡ Ok place
        → r ≡ at place
    go (fault n) q = absurd (grind arith)
    go (foreign n) q = absurd (grind arith)
    go (at p) q = ap at cc

with_word-keeps : (w : World) (t place : ℕ) (o : Option ℕ) → Own w t place 4
    → LeavesOthers t w (with_word w place o)
with_word-keeps w t place None own = record { owners = refl; bytes = λ i n. refl }
with_word-keeps w t place (Some word) own =
    record {
      owners = refl;
      bytes =
          λ i n. written_keeps w t place 4 (bytes_of 4 word) (length-bytes_of 4 word) own i n;
    }

Ok-is : {w w' : World} → ◌≡◌ {A = Result World Reason} (Ok w) (Ok w') → w ≡ w'
Ok-is h = cc

-- Each kind of effect: only a store and a claim write.
performed-keeps : (w w' : World) (t : ℕ) (e : Effect) → performed w t e ≡ Ok w'
    → LeavesOthers t w w'
performed-keeps w w' t (goes r) h =
    subst (LeavesOthers t w) (Ok-is h) (record { owners = refl; bytes = λ i n. refl })
performed-keeps w w' t (loads address size next) h =
    let r = bind_ok (reached w t address size Load) _ w' h in
    subst (LeavesOthers t w) (Ok-is r.2) (record { owners = refl; bytes = λ i n. refl })
performed-keeps w w' t (stores address size value regs) h =
    let r = bind_ok (reached w t address size Store) _ w' h in
    let own = reach-own w t address size Store store r.0
    (reached-at w t address size Store r.0 r.1) in
    subst (LeavesOthers t w) (Ok-is r.2)
    (record {
      owners = refl;
      bytes =
          λ i n. written_keeps w t r.0 (width size) (bytes_of (width size) value)
          (length-bytes_of (width size) value) own i n;
    })
performed-keeps w w' t (claims address next new) h =
    let r = bind_ok (reached w t address Word Claim) _ w' h in
    let own = reach-own w t address Word Claim claim r.0
    (reached-at w t address Word Claim r.0 r.1) in
    let k = with_word-keeps w t r.0 (new (loaded w r.0 4)) own in
    subst (LeavesOthers t w) (Ok-is r.2) (record { owners = k.owners; bytes = k.bytes })
performed-keeps w w' t (stops reason) h = absurd (grind arith)

-- An instruction of t leaves the owners, and each byte of a frame that isn't t's.
pub step-keeps : (w w' : World) (t : ℕ) → step w t ≡ Ok w' → LeavesOthers t w w'
step-keeps w w' t h = by_thread (thread_at w t) h
  where
    by_instr : (r : Registers) (found : Option Instr × ℕ) (o : Option Instr)
        → (elim o as (λ _. Result World Reason) [
          | None ↦ Err (Fault 4)
          | Some instr ↦ performed w t (effect instr found.1 r)
        ]) ≡ Ok w' → LeavesOthers t w w'
    by_instr r found None q = absurd (grind arith)
    by_instr r found (Some instr) q = performed-keeps w w' t (effect instr found.1 r) q

    by_thread : (o : Option Thread)
        → (elim o as (λ _. Result World Reason) [
          | None ↦ Err Service
          | Some thread ↦ instruction_at w t thread.registers.pc
              >>= step_by w t thread.registers
        ]) ≡ Ok w' → LeavesOthers t w w'
    by_thread None q = absurd (grind arith)
    by_thread (Some thread) q =
        let r = bind_ok (instruction_at w t thread.registers.pc)
        (step_by w t thread.registers) w' q in
        by_instr thread.registers r.0 r.0.0 r.2
