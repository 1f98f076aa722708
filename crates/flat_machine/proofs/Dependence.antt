-- What a thread does depends on what it sees alone.
use Rattle.std.proofs.Common.{ℕ, zero, suc, ◌+◌, ◌*◌, ◌/◌, ◌%◌, ◌^◌, ◌<◌, ◌≤◌, ◌≡◌, ◌≢◌, ◌⊎◌, inl}
use Rattle.std.proofs.Common.{inr, refl, sym, ap, ◌∙◌, subst, Bool, cond, true, false, not, eqb}
use Rattle.std.proofs.Common.{eqb-true, List, [], ◌∷◌, length, get_or, set, take, drop, Option}
use Rattle.std.proofs.Common.{Some, None, Result, Ok, Err, arith, length-set}
use Rattle.dos_world.specs.World.{World, Thread, Registers, entry_at, owner_of, thread_at, look}
use Rattle.dos_world.specs.World.{space_of}
use Rattle.dos_world.specs.Bytes.{number_of, loaded, written, bytes_of}
use Rattle.dos_world.specs.Reach.{fault, foreign, at, reach, in_frame, is_foreign, has_right, width}
use Rattle.dos_world.specs.declared.Entry.{Entry}
use Rattle.dos_world.specs.declared.Access.{Access}
use Rattle.dos_world.specs.declared.Access.TheVariants.{Fetch, Load, Store, Claim}
use Rattle.dos_world.specs.declared.Size.{Size}
use Rattle.dos_world.specs.declared.Size.TheVariants.{Half, Word}
use Rattle.dos_world.specs.declared.Owner.{Owner}
use Rattle.dos_world.specs.declared.Owner.TheVariants.{Free, Shared, Of}
use Rattle.dos_world.specs.declared.Reason.{Reason}
use Rattle.dos_world.specs.declared.Reason.TheVariants.{Fault}
use Rattle.dos_world.specs.Numbered.{numbered}
use Rattle.dos_world.specs.World.{flat}
use Rattle.flat_machine.specs.Blind.{entry_at-with_thread}
use Rattle.flat_machine.specs.Laws.{AreAlike}
use Rattle.flat_machine.proofs.Forms.{Wrote, own-frame, Ok-is, written_length}
use Rattle.rv_isa.specs.declared.Instr.{Instr}
use Rattle.flat_machine.specs.Effect.{Effect, goes, loads, stores, claims, stops, effect}
use Rattle.flat_machine.specs.Step.{step, step_of, step_by, performed, reached, place_or_reason}
use Rattle.flat_machine.specs.Step.{half_at}
use Rattle.flat_machine.specs.Step.{whole_word, lone_half, instruction_at, paid, paid_by, with_word}
use Rattle.flat_machine.specs.Step.{◌>>=◌}
use Rattle.flat_machine.proofs.Keeps.{bind_ok, within, at≢fault, at≢foreign, reached-at}
use Rattle.flat_machine.proofs.Keeps.{length-bytes_of}
use Rattle.flat_machine.proofs.Keeps.{Own, store, claim, reach-own}

-- ---- numbers in bytes that agree

pub take_drop_same : (p n : ℕ) (xs ys : List ℕ) → length xs ≡ length ys
    → ((i : ℕ) → p ≤ i → i < p + n → get_or xs i 0 ≡ get_or ys i 0)
    → take n (drop p xs) ≡ take n (drop p ys)
take_drop_same zero zero xs ys len same = refl
take_drop_same zero (suc n) [] [] len same = refl
take_drop_same zero (suc n) [] (y ∷ ys) len same = absurd (grind arith)
take_drop_same zero (suc n) (x ∷ xs) [] len same = absurd (grind arith)
take_drop_same zero (suc n) (x ∷ xs) (y ∷ ys) len same =
    let rest : take n (drop 0 xs) ≡ take n (drop 0 ys) =
    take_drop_same zero n xs ys (omega arith)
    (λ i low high. same (suc i) (omega arith) (omega arith)) in
    ap (λ z. z ∷ take n xs) (same 0 (omega arith) (omega arith)) ∙ ap (λ zs. y ∷ zs) rest
take_drop_same (suc p) n [] [] len same = refl
take_drop_same (suc p) n [] (y ∷ ys) len same = absurd (grind arith)
take_drop_same (suc p) n (x ∷ xs) [] len same = absurd (grind arith)
take_drop_same (suc p) n (x ∷ xs) (y ∷ ys) len same =
    take_drop_same p n xs ys (omega arith) (λ i low high. same (suc i) (omega arith) (omega arith))

-- ---- what t sees where all that it sees is the same

module _ (w : World) (t : ℕ) (b : List ℕ) (threads : List (Option Thread))
    (count : length b ≡ length w.bytes)
    (same_thread : flat (numbered threads t) ≡ thread_at w t)
    (See : ℕ → Type 0) (sees : (a : ℕ) (e : Entry) (x : Access) → entry_at w t a ≡ Some e
    → is_foreign t x (owner_of w e.frame) ≡ false → See e.frame)
    (kept : (i : ℕ) → See (i / 4096) → get_or b i 0 ≡ get_or w.bytes i 0) where
  abbrev next : World
  next = record w { bytes = b; threads = threads }

  same_entry : (a : ℕ) → entry_at next t a ≡ entry_at w t a
  same_entry a = ap (λ o.
      elim o as (λ _. Option Entry) [
        | None ↦ None
        | Some thread ↦ look (space_of w thread.process) (a / 4096)
      ]) same_thread

  same_reach : (a : ℕ) (size : Size) (x : Access) → reach next t a size x ≡ reach w t a size x
  same_reach a size x = ap (λ o. cond (not (eqb (a % width size) 0)) (fault 7) (in_frame w t a x o))
      (same_entry a)

  same_reached : (a : ℕ) (size : Size) (x : Access) → reached next t a size x ≡ reached w t a size x
  same_reached a size x = ap (place_or_reason a x) (same_reach a size x)

  -- the place that t reaches lies in a frame that it sees
  pub record Place (p n : ℕ) : Type 0 where
    pub frame : ℕ
    pub see : See frame
    pub low : 4096 * frame ≤ p
    pub high : p + n ≤ 4096 * frame + 4096

  reach-place : (a : ℕ) (size : Size) (x : Access) (p : ℕ) → reach w t a size x ≡ at p
      → Place p (width size)
  reach-place a size x p h = by_alignment (eqb (a % width size) 0) refl h
    where
      by_owner : (e : Entry) → entry_at w t a ≡ Some e → (foreign_to : Bool)
          → is_foreign t x (owner_of w e.frame) ≡ foreign_to → a % width size ≡ 0
          → cond foreign_to (foreign e.frame) (at (4096 * e.frame + a % 4096)) ≡ at p
          → Place p (width size)
      by_owner e has true is aligned q = absurd (at≢foreign q)
      by_owner e has false is aligned q =
          let same : p ≡ 4096 * e.frame + a % 4096 = cc in
          let bounds = within size a e.frame p aligned same in
          record { frame = e.frame; see = sees a e x has is; low = bounds.0; high = bounds.1 }

      by_right : (e : Entry) → entry_at w t a ≡ Some e → (right : Bool) → a % width size ≡ 0
          → cond (not right) (fault 11)
          (cond (is_foreign t x (owner_of w e.frame)) (foreign e.frame)
          (at (4096 * e.frame + a % 4096))) ≡ at p → Place p (width size)
      by_right e has false aligned q = absurd (at≢fault q)
      by_right e has true aligned q =
          by_owner e has (is_foreign t x (owner_of w e.frame)) refl aligned q

      by_entry : (o : Option Entry) → entry_at w t a ≡ o → a % width size ≡ 0
          → in_frame w t a x o ≡ at p → Place p (width size)
      by_entry None has aligned q = absurd (at≢fault q)
      by_entry (Some e) has aligned q = by_right e has (has_right x e) aligned q

      by_alignment : (c : Bool) → eqb (a % width size) 0 ≡ c
          → cond (not c) (fault 7) (in_frame w t a x (entry_at w t a)) ≡ at p → Place p (width size)
      by_alignment false is q = absurd (at≢fault q)
      by_alignment true is q = by_entry (entry_at w t a) refl (eqb-true (a % width size) 0 is) q

  -- what stands there is the same
  same_loaded : (p n : ℕ) → Place p n → loaded next p n ≡ loaded w p n
  same_loaded p n place =
      ap number_of (take_drop_same p n b w.bytes count (λ i low high. kept i (there i low high)))
    where
      there : (i : ℕ) → p ≤ i → i < p + n → See (i / 4096)
      there i low high =
          let bottom = place.low in
          let top = place.high in
          let same : i / 4096 ≡ place.frame = omega arith in
          subst See (sym same) place.see

  same_half : (a : ℕ) → half_at next t a ≡ half_at w t a
  same_half a = ap (λ r. r >>= (λ place. Ok (loaded next place 2))) (same_reached a Half Fetch)
      ∙ go (reached w t a Half Fetch) refl
    where
      go : (r : Result ℕ Reason) → reached w t a Half Fetch ≡ r
          → ◌≡◌ {A = Result ℕ Reason} (r >>= (λ place. Ok (loaded next place 2)))
          (r >>= (λ place. Ok (loaded w place 2)))
      go (Ok place) e = ap Ok
          (same_loaded place 2
          (reach-place a Half Fetch place (reached-at w t a Half Fetch place e)))
      go (Err reason) e = refl

  same_instruction : (pc : ℕ) → instruction_at next t pc ≡ instruction_at w t pc
  same_instruction pc =
      ap (λ r. r >>= by_low (half_at next t ((pc + 2) % 2 ^ 32))) (same_half pc)
      ∙ ap (λ second. half_at w t pc >>= by_low second) (same_half ((pc + 2) % 2 ^ 32))
    where
      by_low : Result ℕ Reason → ℕ → Result (Option Instr × ℕ) Reason
      by_low second low =
          cond (eqb (low % 4) 3) (second >>= λ high. Ok (whole_word low high)) (Ok (lone_half low))

  -- an access that stops goes on to stop
  still_stops : {B : Type 0} (a : ℕ) (size : Size) (x : Access) (f g : ℕ → Result B Reason)
      (reason : Reason)
      → ((p : ℕ) → f p ≡ Err reason → ⊥) → (reached w t a size x >>= f) ≡ Err reason
      → (reached next t a size x >>= g) ≡ Err reason
  still_stops {B} a size x f g reason never h = ap (λ r. r >>= g) (same_reached a size x)
      ∙ go (reached w t a size x) h
    where
      go : (r : Result ℕ Reason) → (r >>= f) ≡ Err reason → (r >>= g) ≡ Err reason
      go (Ok p) q = absurd (never p q)
      go (Err other_reason) q = err_same q
        where
          err_same : ◌≡◌ {A = Result B Reason} (Err other_reason) (Err reason)
              → ◌≡◌ {A = Result B Reason} (Err other_reason) (Err reason)
          err_same z = z

  performed_stops : (e : Effect) (reason : Reason) → performed w t e ≡ Err reason
      → performed next t e ≡ Err reason
  performed_stops (goes r) reason h = absurd (grind arith)
  performed_stops (loads address size then) reason h =
      still_stops address size Load (λ p. Ok (paid w t (then (loaded w p (width size)))))
      (λ p. Ok (paid next t (then (loaded next p (width size))))) reason (λ p q. cc) h
  performed_stops (stores address size value r) reason h =
      still_stops address size Store (λ p. Ok (paid _ t r)) (λ p. Ok (paid _ t r)) reason
      (λ p q. cc) h
  performed_stops (claims address then new) reason h =
      still_stops address Word Claim
      (λ p. Ok (paid (with_word w p (new (loaded w p 4))) t (then (loaded w p 4))))
      (λ p. Ok (paid (with_word next p (new (loaded next p 4))) t (then (loaded next p 4))))
      reason (λ p q. cc) h
  performed_stops (stops why) reason h = h_same h
    where
      h_same : ◌≡◌ {A = Result World Reason} (Err why) (Err reason)
          → ◌≡◌ {A = Result World Reason} (Err why) (Err reason)
      h_same z = z

  pub step_stops : (reason : Reason) → step w t ≡ Err reason → step next t ≡ Err reason
  step_stops reason h = ap (step_of next t) same_thread ∙ by_thread (thread_at w t) h
    where
      by_instr : (r : Registers) (size : ℕ) (o : Option Instr)
          → (elim o as (λ _. Result World Reason) [
            | None ↦ Err (Fault 4)
            | Some instr ↦ performed w t (effect instr size r)
          ]) ≡ Err reason
          → (elim o as (λ _. Result World Reason) [
            | None ↦ Err (Fault 4)
            | Some instr ↦ performed next t (effect instr size r)
          ]) ≡ Err reason
      by_instr r size None q = q
      by_instr r size (Some instr) q = performed_stops (effect instr size r) reason q

      by_fetch : (r : Registers) (found : Result (Option Instr × ℕ) Reason)
          → (found >>= step_by w t r) ≡ Err reason → (found >>= step_by next t r) ≡ Err reason
      by_fetch r (Ok found) q = by_instr r found.1 found.0 q
      by_fetch r (Err why) q = same q
        where
          same : ◌≡◌ {A = Result World Reason} (Err why) (Err reason)
              → ◌≡◌ {A = Result World Reason} (Err why) (Err reason)
          same z = z

      by_thread : (o : Option Thread) → step_of w t o ≡ Err reason → step_of next t o ≡ Err reason
      by_thread None q = q
      by_thread (Some thread) q =
          ap (λ found. found >>= step_by next t thread.registers)
          (same_instruction thread.registers.pc)
          ∙ by_fetch thread.registers (instruction_at w t thread.registers.pc) q

  -- ---- what t does, it does there too

  pub record Again (w' : World) : Type 0 where
    pub wrote : Wrote w w' t
    pub again : step next t
        ≡ Ok (paid (record next { bytes = written next.bytes wrote.place wrote.new }) t
        wrote.registers)

  record Performs (w' : World) (e : Effect) : Type 0 where
    pub wrote : Wrote w w' t
    pub again : performed next t e
        ≡ Ok (paid (record next { bytes = written next.bytes wrote.place wrote.new }) t
        wrote.registers)

  performed_again : (e : Effect) (w' : World) → performed w t e ≡ Ok w' → Performs w' e
  performed_again (goes r) w' h = record {
    wrote = record {
      place = 0;
      new = [];
      registers = r;
      is = Ok-is h;
      own =
          λ i low high. absurd (omega arith);
    };
    again = refl;
  }
  performed_again (loads address size then) w' h =
      let r = bind_ok (reached w t address size Load) _ w' h in
      let place : Place r.0 (width size) =
      reach-place address size Load r.0 (reached-at w t address size Load r.0 r.1) in
      record {
        wrote = record {
          place = 0;
          new = [];
          registers = then (loaded w r.0 (width size));
          is =
              Ok-is r.2;
          own = λ i low high. absurd (omega arith);
        };
        again =
            ap (λ (o : Result ℕ Reason). o
            >>= λ p. Ok (paid next t (then (loaded next p (width size)))))
            (same_reached address size Load ∙ r.1)
            ∙ ap (λ n. Ok (paid next t (then n))) (same_loaded r.0 (width size) place);
      }
  performed_again (stores address size value regs') w' h =
      let r = bind_ok (reached w t address size Store) _ w' h in
      let own = reach-own w t address size Store store r.0
      (reached-at w t address size Store r.0 r.1) in
      record {
        wrote = record {
          place = r.0;
          new = bytes_of (width size) value;
          registers = regs';
          is =
              Ok-is r.2;
          own =
              own-frame w t r.0 (width size) (bytes_of (width size) value)
              (length-bytes_of (width size) value) own;
        };
        again = ap (λ (o : Result ℕ Reason). o
            >>= λ p. Ok
            (paid
            (record next { bytes = written next.bytes p (bytes_of (width size) value) })
            t regs')) (same_reached address size Store ∙ r.1);
      }
  performed_again (claims address then new) w' h =
      let r = bind_ok (reached w t address Word Claim) _ w' h in
      let own = reach-own w t address Word Claim claim r.0
      (reached-at w t address Word Claim r.0 r.1) in
      let place : Place r.0 4 =
      reach-place address Word Claim r.0 (reached-at w t address Word Claim r.0 r.1) in
      let begins : performed next t (claims address then new)
      ≡ Ok (paid (with_word next r.0 (new (loaded w r.0 4))) t (then (loaded w r.0 4))) =
      ap (λ (o : Result ℕ Reason). o
      >>= λ p.
      Ok (paid (with_word next p (new (loaded next p 4))) t
      (then (loaded next p 4)))) (same_reached address Word Claim ∙ r.1)
      ∙ ap (λ n. Ok (paid (with_word next r.0 (new n)) t (then n))) (same_loaded r.0 4 place) in
      by_new r.0 own (new (loaded w r.0 4)) r.2 begins
    where
      by_new : (p : ℕ) → Own w t p 4 → (o : Option ℕ)
          → ◌≡◌ {A = Result World Reason} (Ok (paid (with_word w p o) t (then (loaded w p 4))))
          (Ok w')
          → performed next t (claims address then new)
          ≡ Ok (paid (with_word next p o) t (then (loaded w p 4)))
          → Performs w' (claims address then new)
      by_new p own None q begins = record {
        wrote = record {
          place = 0;
          new = [];
          registers = then (loaded w p 4);
          is = Ok-is q;
          own =
              λ i low high. absurd (omega arith);
        };
        again = begins;
      }
      by_new p own (Some word) q begins = record {
        wrote = record {
          place = p;
          new = bytes_of 4 word;
          registers = then (loaded w p 4);
          is =
              Ok-is q;
          own = own-frame w t p 4 (bytes_of 4 word) (length-bytes_of 4 word) own;
        };
        again = begins;
      }
  performed_again (stops why) w' h = absurd (grind arith)

  pub step_again : (w' : World) → step w t ≡ Ok w' → Again w'
  step_again w' h = by_thread (thread_at w t) refl h
    where
      finish : (e : Effect) → Performs w' e → step next t ≡ performed next t e → Again w'
      finish e does is = record { wrote = does.wrote; again = is ∙ does.again }

      by_instr : (r : Registers) (size : ℕ) (o : Option Instr)
          → (elim o as (λ _. Result World Reason) [
            | None ↦ Err (Fault 4)
            | Some instr ↦ performed w t (effect instr size r)
          ]) ≡ Ok w'
          → step next t ≡
          (elim o as (λ _. Result World Reason) [
            | None ↦ Err (Fault 4)
            | Some instr ↦ performed next t (effect instr size r)
          ]) → Again w'
      by_instr r size None q is = absurd (grind arith)
      by_instr r size (Some instr) q is =
          finish (effect instr size r) (performed_again (effect instr size r) w' q) is

      by_thread : (o : Option Thread) → thread_at w t ≡ o → step_of w t o ≡ Ok w' → Again w'
      by_thread None is q = absurd (grind arith)
      by_thread (Some thread) is q =
          let r = bind_ok (instruction_at w t thread.registers.pc)
          (step_by w t thread.registers) w' q in
          by_instr thread.registers r.0.1 r.0.0 r.2
          (ap (step_of next t) (same_thread ∙ is)
          ∙ ap (λ found. found >>= step_by next t thread.registers)
          (same_instruction thread.registers.pc ∙ r.1))

-- ---- worlds that t can't tell apart

abbrev Sees : ℕ → World → ℕ → Type 0
Sees t w frame = (owner_of w frame ≡ Of t) ⊎ (owner_of w frame ≡ Shared)

seen_owner : (t : ℕ) (x : Access) (o : Owner) → o ≢ Free → is_foreign t x o ≡ false
    → (o ≡ Of t) ⊎ (o ≡ Shared)
seen_owner t x (Of s) some h = inl (ap Of (eqb-true s t (back (eqb s t) h)))
  where
    back : (c : Bool) → not c ≡ false → c ≡ true
    back true q = refl
    back false q = absurd (grind arith)
seen_owner t x Shared some h = inr refl
seen_owner t x Free some h = absurd (some refl)

set-same : (p c : ℕ) (xs ys : List ℕ) (i : ℕ) → length xs ≡ length ys
    → get_or xs i 0 ≡ get_or ys i 0 → get_or (set xs p c) i 0 ≡ get_or (set ys p c) i 0
set-same p c [] [] i len same = same
set-same p c [] (y ∷ ys) i len same = absurd (grind arith)
set-same p c (x ∷ xs) [] i len same = absurd (grind arith)
set-same zero c (x ∷ xs) (y ∷ ys) zero len same = refl
set-same zero c (x ∷ xs) (y ∷ ys) (suc i) len same = same
set-same (suc p) c (x ∷ xs) (y ∷ ys) zero len same = same
set-same (suc p) c (x ∷ xs) (y ∷ ys) (suc i) len same = set-same p c xs ys i (omega arith) same

written-same : (p : ℕ) (new xs ys : List ℕ) (i : ℕ) → length xs ≡ length ys
    → get_or xs i 0 ≡ get_or ys i 0 → get_or (written xs p new) i 0 ≡ get_or (written ys p new) i 0
written-same p [] xs ys i len same = same
written-same p (c ∷ new) xs ys i len same =
    written-same (suc p) new (set xs p c) (set ys p c) i
    (length-set xs p c ∙ len ∙ sym (length-set ys p c)) (set-same p c xs ys i len same)

module _ (t : ℕ) (w u : World) (alike : AreAlike t w u) where
  sees_own : (a : ℕ) (e : Entry) (x : Access) → entry_at w t a ≡ Some e
      → is_foreign t x (owner_of w e.frame) ≡ false → Sees t w e.frame
  sees_own a e x has mine = seen_owner t x (owner_of w e.frame) (alike.mapped a e has) mine

  -- who stops in one stops in the other, for the same reason
  pub stops-alike : (reason : Reason) → step w t ≡ Err reason → step u t ≡ Err reason
  stops-alike reason h = ap (λ v. step v t) alike.is
      ∙ step_stops w t alike.bytes w.threads alike.count refl
      (Sees t w) sees_own alike.kept reason h

  -- and who steps steps, to worlds that are alike again
  pub steps-alike : (w' : World) → step w t ≡ Ok w' → (u' : World) × (step u t ≡ Ok u')
      × AreAlike t w' u'
  steps-alike w' h =
      let a = step_again w t alike.bytes w.threads alike.count refl
      (Sees t w) sees_own alike.kept w' h in
      let d = a.wrote in
      let u' : World = paid (record w { bytes = written alike.bytes d.place d.new }) t d.registers
      in (
        u',
        ap (λ v. step v t) alike.is
            ∙ a.again,
        subst (λ v. AreAlike t v u') (sym d.is) (after d.place d.new d.registers),
      )
    where
      after : (p : ℕ) (new : List ℕ) (r : Registers)
          → AreAlike t (paid (record w { bytes = written w.bytes p new }) t r)
          (paid (record w { bytes = written alike.bytes p new }) t r)
      after p new r = record {
        bytes = written alike.bytes p new;
        is = refl;
        count = written_length alike.bytes p new ∙ alike.count ∙ sym (written_length w.bytes p new);
        mapped = λ a e has.
            alike.mapped a e (sym (entry_at-with_thread w t (paid_by r) (λ x. refl) a) ∙ has);
        kept = λ i sees. written-same p new alike.bytes w.bytes i alike.count (alike.kept i sees);
      }
