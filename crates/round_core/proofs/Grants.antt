-- No instruction needs more than three grants: one for each page that it lies in, and one for its
-- data.
use Rattle.std.proofs.Common.{ℕ, zero, suc, ◌+◌, ◌*◌, ◌%◌, ◌^◌, ◌<◌, ◌≡◌, ◌≢◌, ◌⊎◌, inl, inr, refl}
use Rattle.std.proofs.Common.{sym, ap, ◌∙◌, subst, Bool, cond, true, false, not, eqb, eq-eqb}
use Rattle.std.proofs.Common.{length, Option, Some, None, Result, Ok, Err, arith, get_or-set_same}
use Rattle.std.proofs.Common.{get_or-set_other, length-set}
use Rattle.std.proofs.lemmas.Bool.{cases_eq}
use Rattle.dos_world.specs.World.{World, Thread, Registers, code_unit, get, set, with_pc, entry_at}
use Rattle.dos_world.specs.World.{owner_of, thread_at}
use Rattle.dos_world.specs.Reach.{is_foreign, has_right, width, loaded}
use Rattle.dos_world.specs.Reach.{stored, bytes_of, grant, granted}
use Rattle.dos_world.specs.declared.Entry.{Entry}
use Rattle.dos_world.specs.declared.Access.{Access}
use Rattle.dos_world.specs.declared.Access.TheVariants.{Fetch, Load, Store, Claim}
use Rattle.dos_world.specs.declared.Size.{Size}
use Rattle.dos_world.specs.declared.Size.TheVariants.{Half, Word}
use Rattle.dos_world.specs.declared.Owner.TheVariants.{Free}
use Rattle.dos_world.specs.declared.Reason.{Reason}
use Rattle.dos_world.specs.declared.Reason.TheVariants.{Page, Fault, Service}
use Rattle.rv_isa.specs.declared.Instr.{Instr}
use Rattle.rv_isa.specs.declared.Instr.TheVariants.{Upper, Jal, Jalr, Branch, Load as Instr_Load}
use Rattle.rv_isa.specs.declared.Instr.TheVariants.{Store as Instr_Store, Imm, Shift, Reg, Amo}
use Rattle.rv_isa.specs.declared.Instr.TheVariants.{Fence, Ecall, Ebreak}
use Rattle.rv_isa.specs.declared.AmoOp.{AmoOp}
use Rattle.rv_isa.specs.declared.AmoOp.TheVariants.{LrW, ScW, AmoswapW, AmoaddW, AmoxorW, AmoandW}
use Rattle.rv_isa.specs.declared.AmoOp.TheVariants.{AmoorW, AmominW, AmomaxW, AmominuW, AmomaxuW}
use Rattle.flat_machine.proofs.Keeps.{bind_ok}
use Rattle.flat_machine.specs.Effect.{Effect, goes, loads, stores, claims, stops, effect, jumps}
use Rattle.flat_machine.specs.Effect.{atomic}
use Rattle.flat_machine.specs.Effect.{is_taken, plus}
use Rattle.flat_machine.specs.Step.{step, step_of, step_by, performed, reached, half_at}
use Rattle.flat_machine.specs.Step.{instruction_at}
use Rattle.flat_machine.specs.Step.{whole_word, lone_half, paid, with_word, ◌>>=◌}
use Rattle.round_core.specs.Laws.{MapsWithin, IsNoPage}
use Rattle.flat_machine.specs.Rest.{settled, page_granted, granted_by}

-- ---- after a grant to t

eqb_same : (t : ℕ) → eqb t t ≡ true
eqb_same t = eq-eqb t t refl

-- what was granted for an access isn't foreign to it, nor to a fetch
granted_own : (t : ℕ) (x : Access) → is_foreign t x (granted t x) ≡ false
granted_own t Fetch = refl
granted_own t Load = refl
granted_own t Store = ap not (eqb_same t)
granted_own t Claim = ap not (eqb_same t)

granted_fetch : (t : ℕ) (x : Access) → is_foreign t Fetch (granted t x) ≡ false
granted_fetch t Fetch = refl
granted_fetch t Load = refl
granted_fetch t Store = ap not (eqb_same t)
granted_fetch t Claim = ap not (eqb_same t)

owner-grant : (w : World) (t frame : ℕ) (x : Access) → frame < length w.owners
    → owner_of (grant w t frame x) frame ≡ granted t x
owner-grant w t frame x h = get_or-set_same w.owners frame (granted t x) Free h

-- a frame that t may fetch from stays so
fetch-grant : (w : World) (t frame f : ℕ) (x : Access) → frame < length w.owners
    → is_foreign t Fetch (owner_of w f) ≡ false
    → is_foreign t Fetch (owner_of (grant w t frame x) f) ≡ false
fetch-grant w t frame f x h e = go (cases_eq f frame)
  where
    go : (f ≡ frame) ⊎ (f ≢ frame) → is_foreign t Fetch (owner_of (grant w t frame x) f) ≡ false
    go (inl same) =
        ap (λ k. is_foreign t Fetch (owner_of (grant w t frame x) k)) same
        ∙ ap (is_foreign t Fetch) (owner-grant w t frame x h)
        ∙ granted_fetch t x
    go (inr other) = ap (is_foreign t Fetch) (rw get_or-set_other refl) ∙ e

-- ---- one access

pub record Stopped (w : World) (t a : ℕ) (s : Size) (x : Access) : Type 0 where
  pub e : Entry
  pub entry : entry_at w t a ≡ Some e
  pub aligned : eqb (a % width s) 0 ≡ true
  pub right : has_right x e ≡ true
  pub foreign : is_foreign t x (owner_of w e.frame) ≡ true

pub data Access_is (w : World) (t a : ℕ) (s : Size) (x : Access) : Type 0 where
  faults : (n : ℕ) → reached w t a s x ≡ Err (Fault n) → Access_is w t a s x
  stops_at : Stopped w t a s x → reached w t a s x ≡ Err (Page a x) → Access_is w t a s x
  goes_at : (e : Entry) → entry_at w t a ≡ Some e → eqb (a % width s) 0 ≡ true
      → has_right x e ≡ true → is_foreign t x (owner_of w e.frame) ≡ false
      → reached w t a s x ≡ Ok (4096 * e.frame + a % 4096) → Access_is w t a s x

access_is : (w : World) (t a : ℕ) (s : Size) (x : Access) → Access_is w t a s x
access_is w t a s x = by_alignment (eqb (a % width s) 0) refl (entry_at w t a) refl
  where
    by_owner : (e : Entry) → entry_at w t a ≡ Some e → eqb (a % width s) 0 ≡ true
        → has_right x e ≡ true → (b : Bool) → is_foreign t x (owner_of w e.frame) ≡ b
        → Access_is w t a s x
    by_owner e is al ri true fo =
        stops_at (record { e = e; entry = is; aligned = al; right = ri; foreign = fo })
        (rw (reached, al, is, ri, fo) refl)
    by_owner e is al ri false fo = goes_at e is al ri fo (rw (reached, al, is, ri, fo) refl)

    by_right : (e : Entry) → entry_at w t a ≡ Some e → eqb (a % width s) 0 ≡ true → (b : Bool)
        → has_right x e ≡ b → Access_is w t a s x
    by_right e is al false ri = faults 11 (rw (reached, al, is, ri) refl)
    by_right e is al true ri = by_owner e is al ri (is_foreign t x (owner_of w e.frame)) refl

    by_entry : eqb (a % width s) 0 ≡ true → (o : Option Entry) → entry_at w t a ≡ o
        → Access_is w t a s x
    by_entry al None is = faults 11 (rw (reached, al, is) refl)
    by_entry al (Some e) is = by_right e is al (has_right x e) refl

    by_alignment : (b : Bool) → eqb (a % width s) 0 ≡ b → (o : Option Entry) → entry_at w t a ≡ o
        → Access_is w t a s x
    by_alignment false al o is = faults 7 (rw (reached, al) refl)
    by_alignment true al o is = by_entry al o is

-- it goes after its own grant
reached_after : (w : World) (t a : ℕ) (s : Size) (x : Access) (k : Stopped w t a s x)
    → k.e.frame < length w.owners
    → reached (grant w t k.e.frame x) t a s x ≡ Ok (4096 * k.e.frame + a % 4096)
reached_after w t a s x k h =
    let own : is_foreign t x (owner_of (grant w t k.e.frame x) k.e.frame) ≡ false =
    ap (is_foreign t x) (owner-grant w t k.e.frame x h) ∙ granted_own t x in
    rw (reached, k.aligned, k.entry, k.right, own) refl

-- a fetch that goes, goes after any grant to t
fetch_kept : (w : World) (t frame a : ℕ) (x : Access) (p : ℕ) → frame < length w.owners
    → reached w t a Half Fetch ≡ Ok p → reached (grant w t frame x) t a Half Fetch ≡ Ok p
fetch_kept w t frame a x p h q = go (access_is w t a Half Fetch)
  where
    go : Access_is w t a Half Fetch → reached (grant w t frame x) t a Half Fetch ≡ Ok p
    go (faults n e) = absurd (grind arith)
    go (stops_at k e) = absurd (grind arith)
    go (goes_at e is al ri fo r) =
        let kept : is_foreign t Fetch (owner_of (grant w t frame x) e.frame) ≡ false =
        fetch-grant w t frame e.frame x h fo in
        let g : reached (grant w t frame x) t a Half Fetch ≡ Ok (4096 * e.frame + a % 4096) =
        rw (reached, al, is, ri, kept) refl in
        g ∙ sym r ∙ q

-- ---- the access of an effect

Ok-not_page : {A : Type 0} {y : A} {r : Result A Reason} → r ≡ Ok y → IsNoPage r
Ok-not_page e a x q = cc

-- the effect's access and no more: after the grant of what it stops at, it stops at no page
abbrev DataStop : World → ℕ → Effect → ℕ → Access → Type 0
DataStop w t e a x =
    (entry : Entry) × (entry_at w t a ≡ Some entry)
    × (entry.frame < length w.owners → IsNoPage (performed (grant w t entry.frame x) t e))

-- an effect that isn't itself a stop at a page
abbrev IsEffect : Effect → Type 0
IsEffect e = (a : ℕ) (x : Access) → e ≡ stops (Page a x) → ⊥

-- where an access stops, the whole does, at it
at_access : {B : Type 0} (w : World) (t a : ℕ) (s : Size) (x : Access) (f : ℕ → Result B Reason)
    → ((p : ℕ) → IsNoPage (f p)) → (b : ℕ) (y : Access)
    → (reached w t a s x >>= f) ≡ Err (Page b y) → (b ≡ a) × (y ≡ x) × Stopped w t a s x
at_access {B} w t a s x f never b y q = go (access_is w t a s x)
  where
    go : Access_is w t a s x → (b ≡ a) × (y ≡ x) × Stopped w t a s x
    go (faults n e) = absurd (not_page (sym (ap (λ r. r >>= f) e) ∙ q))
      where
        not_page : ◌≡◌ {A = Result B Reason} (Err (Fault n)) (Err (Page b y)) → ⊥
        not_page z = cc
    go (stops_at k e) =
        let z : ◌≡◌ {A = Result B Reason} (Err (Page a x)) (Err (Page b y)) =
        sym (ap (λ r. r >>= f) e) ∙ q in
        (cc, cc, k)
    go (goes_at e is al ri fo r) =
        absurd (never (4096 * e.frame + a % 4096) b y (sym (ap (λ r. r >>= f) r) ∙ q))

-- the same access goes on after its grant
after_access : {B : Type 0} (w : World) (t a : ℕ) (s : Size) (x : Access) (f : World → ℕ
    → Result B Reason)
    → ((v : World) (p : ℕ) → IsNoPage (f v p)) → (k : Stopped w t a s x)
    → k.e.frame < length w.owners
    → IsNoPage (reached (grant w t k.e.frame x) t a s x >>= f (grant w t k.e.frame x))
after_access w t a s x f never k h b y q =
    never (grant w t k.e.frame x) (4096 * k.e.frame + a % 4096) b y
    (sym (ap (λ r. r >>= f (grant w t k.e.frame x)) (reached_after w t a s x k h)) ∙ q)

by_load : ℕ → Size → (ℕ → Registers) → World → ℕ → Result World Reason
by_load t size next v p = Ok (paid v t (next (loaded v p (width size))))

by_store : ℕ → Size → ℕ → Registers → World → ℕ → Result World Reason
by_store t size value r v p = Ok (paid (stored v p (bytes_of (width size) value)) t r)

by_claim : ℕ → (ℕ → Registers) → (ℕ → Option ℕ) → World → ℕ → Result World Reason
by_claim t next new v p = Ok (paid (with_word v p (new (loaded v p 4))) t (next (loaded v p 4)))

data_stop : (w : World) (t : ℕ) (e : Effect) → IsEffect e → (a : ℕ) (x : Access)
    → performed w t e ≡ Err (Page a x) → DataStop w t e a x
unfolding by_load by_store by_claim
data_stop w t (goes r) is a x q = absurd (grind arith)
data_stop w t (loads address size next) is a x q =
    let k = at_access w t address size Load (by_load t size next w) (λ p b y z. cc) a x q in
    rw (k.0, k.1) (
      k.2.e,
      k.2.entry,
      λ h. after_access w t address size Load (by_load t size next) (λ v p b y z. cc) k.2 h,
    )
data_stop w t (stores address size value r) is a x q =
    let k = at_access w t address size Store (by_store t size value r w) (λ p b y z. cc) a x q in
    rw (k.0, k.1) (
      k.2.e,
      k.2.entry,
      λ h. after_access w t address size Store (by_store t size value r) (λ v p b y z. cc) k.2 h,
    )
data_stop w t (claims address next new) is a x q =
    let k = at_access w t address Word Claim (by_claim t next new w) (λ p b y z. cc) a x q in
    rw (k.0, k.1) (
      k.2.e,
      k.2.entry,
      λ h. after_access w t address Word Claim (by_claim t next new) (λ v p b y z. cc) k.2 h,
    )
data_stop w t (stops reason) is a x q = absurd (is a x (ap stops cc))

-- ---- no instruction is itself a stop at a page

jumps-effect : (target : ℕ) (r : Registers) → IsEffect (jumps target r)
jumps-effect target r = go (eqb (target % code_unit) 0)
  where
    go : (b : Bool) → IsEffect (cond b (goes (with_pc r target)) (stops (Fault 7)))
    go true a x q = grind arith
    go false a x q = grind arith

atomic-effect : (op : AmoOp) (rd address b : ℕ) (r : Registers)
    → IsEffect (atomic op rd address b r)
atomic-effect LrW rd address b r a x q = grind arith
atomic-effect ScW rd address b r a x q = grind arith
atomic-effect AmoswapW rd address b r a x q = grind arith
atomic-effect AmoaddW rd address b r a x q = grind arith
atomic-effect AmoxorW rd address b r a x q = grind arith
atomic-effect AmoandW rd address b r a x q = grind arith
atomic-effect AmoorW rd address b r a x q = grind arith
atomic-effect AmominW rd address b r a x q = grind arith
atomic-effect AmomaxW rd address b r a x q = grind arith
atomic-effect AmominuW rd address b r a x q = grind arith
atomic-effect AmomaxuW rd address b r a x q = grind arith

branch-effect : (taken : Bool) (target next : ℕ) (r : Registers)
    → IsEffect (cond taken (jumps target r) (goes (with_pc r next)))
branch-effect true target next r a x q = jumps-effect target r a x q
branch-effect false target next r a x q = grind arith

effect-effect : (i : Instr) (size : ℕ) (r : Registers) → IsEffect (effect i size r)
unfolding effect
effect-effect (Upper false rd imm) size r a x q = grind arith
effect-effect (Upper true rd imm) size r a x q = grind arith
effect-effect (Jal rd offset) size r a x q =
    jumps-effect _ (set r rd ((r.pc + size) % 2 ^ 32)) a x q
effect-effect (Jalr rd rs1 offset) size r a x q =
    jumps-effect _ (set r rd ((r.pc + size) % 2 ^ 32)) a x q
effect-effect (Branch op rs1 rs2 offset) size r a x q =
    branch-effect (is_taken op (get r rs1) (get r rs2)) (plus r.pc offset) ((r.pc + size) % 2 ^ 32)
    r a x q
effect-effect (Instr_Load op rd rs1 offset) size r a x q = grind arith
effect-effect (Instr_Store op rs1 rs2 offset) size r a x q = grind arith
effect-effect (Imm op rd rs1 imm) size r a x q = grind arith
effect-effect (Shift op rd rs1 amount) size r a x q = grind arith
effect-effect (Reg op rd rs1 rs2) size r a x q = grind arith
effect-effect (Amo op rd rs1 rs2 aq rl) size r a x q = atomic-effect op rd _ _ _ a x q
effect-effect (Fence fetch rd rs1 imm) size r a x q = grind arith
effect-effect Ecall size r a x q = grind arith
effect-effect Ebreak size r a x q = grind arith

-- ---- the fetch

half_kept : (w : World) (t frame a n : ℕ) (x : Access) → frame < length w.owners
    → half_at w t a ≡ Ok n → half_at (grant w t frame x) t a ≡ Ok n
half_kept w t frame a n x h q =
    let r = bind_ok (reached w t a Half Fetch) (λ place. Ok (loaded w place 2)) n q in
    ap (λ z. z >>= (λ place. Ok (loaded w place 2))) (fetch_kept w t frame a x r.0 h r.1) ∙ r.2

-- where the second half of an instruction is
abbrev second : ℕ → ℕ
second pc = (pc + 2) % 2 ^ 32

-- what follows the first half of an instruction
word_of : ℕ → ℕ → Result (Option Instr × ℕ) Reason
word_of low high = Ok (whole_word low high)

by_half : World → ℕ → ℕ → ℕ → Result (Option Instr × ℕ) Reason
unfolding word_of
by_half w t pc low =
    cond (eqb (low % 4) 3) (half_at w t (second pc) >>= word_of low) (Ok (lone_half low))

instruction_by : (w : World) (t pc low : ℕ) → half_at w t pc ≡ Ok low
    → instruction_at w t pc ≡ by_half w t pc low
unfolding by_half
instruction_by w t pc low h = ap (λ r. r >>= by_half w t pc) h

fetch_ok_kept : (w : World) (t frame pc : ℕ) (found : Option Instr × ℕ) (x : Access)
    → frame < length w.owners → instruction_at w t pc ≡ Ok found
    → instruction_at (grant w t frame x) t pc ≡ Ok found
unfolding by_half
fetch_ok_kept w t frame pc found x h q =
    let r = bind_ok (half_at w t pc) (by_half w t pc) found q in
    ap (λ z. z >>= by_half (grant w t frame x) t pc) (half_kept w t frame pc r.0 x h r.1)
    ∙ rest r.0 (eqb (r.0 % 4) 3) r.2
  where
    rest : (low : ℕ) (b : Bool)
        → cond b (half_at w t (second pc) >>= word_of low) (Ok (lone_half low)) ≡ Ok found
        → cond b (half_at (grant w t frame x) t (second pc) >>= word_of low) (Ok (lone_half low))
        ≡ Ok found
    rest low true z =
        let r = bind_ok (half_at w t (second pc)) (word_of low) found z in
        ap (λ y. y >>= word_of low) (half_kept w t frame (second pc) r.0 x h r.1) ∙ r.2
    rest low false z = z

-- a half that is stopped at a page is fetched after its grant
half_after : (w : World) (t a : ℕ) (k : Stopped w t a Half Fetch) → k.e.frame < length w.owners
    → half_at (grant w t k.e.frame Fetch) t a ≡ Ok (loaded w (4096 * k.e.frame + a % 4096) 2)
half_after w t a k h =
    ap (λ r. r >>= (λ place. Ok (loaded w place 2))) (reached_after w t a Half Fetch k h)

-- Where the fetch stops at a page, it is that of an entry, and after its grant the fetch stops at
-- none.
FetchStop : World → ℕ → ℕ → ℕ → Access → Type 0
FetchStop w t pc a x =
    (e : Entry) × (entry_at w t a ≡ Some e)
    × (e.frame < length w.owners → IsNoPage (instruction_at (grant w t e.frame x) t pc))

-- where the first half is fetched, that is so
second_stop : (w : World) (t pc low a : ℕ) (x : Access) → half_at w t pc ≡ Ok low
    → instruction_at w t pc ≡ Err (Page a x) → FetchStop w t pc a x
unfolding FetchStop by_half
second_stop w t pc low a x first q =
    by_low (eqb (low % 4) 3) refl (sym (instruction_by w t pc low first) ∙ q)
  where
    by_second : eqb (low % 4) 3 ≡ true → Access_is w t (second pc) Half Fetch
        → (half_at w t (second pc) >>= word_of low) ≡ Err (Page a x)
        → (e : Entry) × (entry_at w t a ≡ Some e)
        × (e.frame < length w.owners → IsNoPage (instruction_at (grant w t e.frame x) t pc))
    by_second whole (faults n r) y =
        let v =
        sym
        (ap (λ (u : Result ℕ Reason). (u >>= (λ place. Ok (loaded w place 2))) >>= word_of low) r)
        ∙ y in
        absurd (grind arith)
    by_second whole (goes_at e is al ri fo r) y =
        let v =
        sym
        (ap (λ (u : Result ℕ Reason). (u >>= (λ place. Ok (loaded w place 2))) >>= word_of low) r)
        ∙ y in
        absurd (grind arith)
    by_second whole (stops_at k r) y =
        let z : ◌≡◌ {A = Result (Option Instr × ℕ) Reason} (Err (Page (second pc) Fetch))
        (Err (Page a x)) =
        sym (ap (λ (u : Result ℕ Reason). (u >>= (λ place. Ok (loaded w place 2)))
        >>= word_of low) r) ∙ y in
        let same : a ≡ second pc = cc in
        let how : x ≡ Fetch = cc in
        rw (same, how) (k.e, k.entry, λ h. after k h)
      where
        after : (k : Stopped w t (second pc) Half Fetch) → k.e.frame < length w.owners
            → IsNoPage (instruction_at (grant w t k.e.frame Fetch) t pc)
        after k h b y v =
            let g : World = grant w t k.e.frame Fetch in
            let all : instruction_at g t pc
            ≡ Ok (whole_word low (loaded w (4096 * k.e.frame + second pc % 4096) 2)) =
            instruction_by g t pc low (half_kept w t k.e.frame pc low Fetch h first)
            ∙ ap (λ b. cond b (half_at g t (second pc) >>= word_of low) (Ok (lone_half low))) whole
            ∙ ap (λ r. r >>= word_of low) (half_after w t (second pc) k h) in
            Ok-not_page all b y v

    by_low : (b : Bool) → eqb (low % 4) 3 ≡ b
        → cond b (half_at w t (second pc) >>= word_of low) (Ok (lone_half low)) ≡ Err (Page a x)
        → (e : Entry) × (entry_at w t a ≡ Some e)
        × (e.frame < length w.owners → IsNoPage (instruction_at (grant w t e.frame x) t pc))
    by_low true whole y = by_second whole (access_is w t (second pc) Half Fetch) y
    by_low false whole y = absurd (grind arith)

-- ---- settling

page_granted_is : (w : World) (t a : ℕ) (x : Access) (e : Entry) → entry_at w t a ≡ Some e
    → page_granted w t a x ≡ grant w t e.frame x
page_granted_is w t a x e is = ap (granted_by w t x) is

abbrev Never : ℕ → World → ℕ → Type 0
Never n w t = IsNoPage (settled n w t).1

-- with one grant more, where a stop at a page leaves a world in which the rest is enough
never_by : (n : ℕ) (w : World) (t : ℕ)
    → ((a : ℕ) (x : Access) → step w t ≡ Err (Page a x) → Never n (page_granted w t a x) t)
    → Never (suc n) w t
never_by n w t f = go (step w t) refl
  where
    go : (r : Result World Reason) → step w t ≡ r
        → IsNoPage ((elim r as (λ _. World × Result World Reason) [
          | Ok next ↦ (w, Ok next)
          | Err reason ↦ elim reason as (λ _. World × Result World Reason) [
            | Page address access ↦ settled n (page_granted w t address access) t
            | Fault number ↦ (w, Err (Fault number))
            | Service ↦ (w, Err Service)
          ]
        ]).1)
    go (Ok next) e a x q = grind arith
    go (Err (Page b y)) e a x q = f b y e a x q
    go (Err (Fault n)) e a x q = grind arith
    go (Err Service) e a x q = grind arith

-- a step that stops at no page needs no grant
none_needed : (n : ℕ) (w : World) (t : ℕ) → IsNoPage (step w t) → Never n w t
none_needed zero w t never = never
none_needed (suc n) w t never = never_by n w t (λ a x z. absurd (never a x z))

still : (w : World) (t frame : ℕ) (x : Access) → MapsWithin w t → MapsWithin (grant w t frame x) t
still w t frame x within a e at_a =
    subst (λ n. e.frame < n) (sym (length-set w.owners frame (granted t x))) (within a e at_a)

module _ (t : ℕ) (thread : Thread) where
  -- t's step is its fetch and what that does
  step-is : (w : World) → thread_at w t ≡ Some thread
      → step w t ≡ (instruction_at w t thread.registers.pc >>= step_by w t thread.registers)
  step-is w is = ap (step_of w t) is

  -- where the fetch fails, the step does
  fails_so : (w : World) (reason : Reason) → thread_at w t ≡ Some thread
      → instruction_at w t thread.registers.pc ≡ Err reason → step w t ≡ Err reason
  fails_so w reason is e = step-is w is ∙ ap (λ r. r >>= step_by w t thread.registers) e

  -- where the fetch goes, a stop at a page is the data's, and after its grant the step stops at
  -- none
  data_then : (w : World) (found : Option Instr × ℕ) → thread_at w t ≡ Some thread → MapsWithin w t
      → instruction_at w t thread.registers.pc ≡ Ok found
      → (a : ℕ) (x : Access) → step w t ≡ Err (Page a x) → IsNoPage (step (page_granted w t a x) t)
  data_then w found is within q a x z =
      by_instr found.0 refl
      (sym (ap (λ r. r >>= step_by w t thread.registers) q) ∙ sym (step-is w is) ∙ z)
    where
      by_instr : (o : Option Instr) → found.0 ≡ o
          → step_by w t thread.registers found ≡ Err (Page a x)
          → IsNoPage (step (page_granted w t a x) t)
      by_instr None same y b c v =
          let no_row : ◌≡◌ {A = Result World Reason} (Err (Fault 4)) (Err (Page a x)) =
          sym
          (ap
          (λ o. elim o as (λ _. Result World Reason) [
            | None ↦ Err (Fault 4)
            | Some instr ↦ performed w t (effect instr found.1 thread.registers)
          ])
          same)
          ∙ y in
          grind arith
      by_instr (Some instr) same y b c v =
          let runs : (u : World)
          → step_by u t thread.registers found
          ≡ performed u t (effect instr found.1 thread.registers) =
          λ u. ap
          (λ o. elim o as (λ _. Result World Reason) [
            | None ↦ Err (Fault 4)
            | Some instr ↦ performed u t (effect instr found.1 thread.registers)
          ])
          same in
          let d =
          data_stop w t (effect instr found.1 thread.registers)
          (effect-effect instr found.1 thread.registers) a x (sym (runs w) ∙ y) in
          let g : World = grant w t d.0.frame x in
          let h = within a d.0 d.1 in
          let stepped : step g t ≡ performed g t (effect instr found.1 thread.registers) =
          step-is g is
          ∙ ap (λ r. r >>= step_by g t thread.registers)
          (fetch_ok_kept w t d.0.frame thread.registers.pc found x h q)
          ∙ runs g in
          d.2 h b c
          (sym stepped ∙ subst (λ u. step u t ≡ Err (Page b c)) (page_granted_is w t a x d.0 d.1) v)

  -- by what the fetch gives: a stop at a page is the data's, or the fetch's own
  by_fetch : (n : ℕ) (w : World) → thread_at w t ≡ Some thread → MapsWithin w t
      → ((a : ℕ) (x : Access) → instruction_at w t thread.registers.pc ≡ Err (Page a x)
      → Never n (page_granted w t a x) t)
      → Never (suc n) w t
  by_fetch n w is within f =
      never_by n w t (λ a x z. go a x z (instruction_at w t thread.registers.pc) refl)
    where
      go : (a : ℕ) (x : Access) → step w t ≡ Err (Page a x) → (r : Result (Option Instr × ℕ) Reason)
          → instruction_at w t thread.registers.pc ≡ r → Never n (page_granted w t a x) t
      go a x z (Ok found) e =
          none_needed n (page_granted w t a x) t (data_then w found is within e a x z)
      go a x z (Err reason) e =
          let failed : ◌≡◌ {A = Result World Reason} (Err reason) (Err (Page a x)) =
          sym (fails_so w reason is e) ∙ z in
          let same : reason ≡ Page a x = cc in
          f a x (e ∙ ap Err same)

  -- where no fetch stops, one grant is enough
  one_is_enough : (n : ℕ) (w : World) → thread_at w t ≡ Some thread → MapsWithin w t
      → IsNoPage (instruction_at w t thread.registers.pc) → Never (suc n) w t
  one_is_enough n w is within fetched = by_fetch n w is within (λ a x e. absurd (fetched a x e))

  -- where the first half is fetched, two are enough
  two_are_enough : (n low : ℕ) (w : World) → thread_at w t ≡ Some thread → MapsWithin w t
      → half_at w t thread.registers.pc ≡ Ok low → Never (suc (suc n)) w t
  unfolding FetchStop
  two_are_enough n low w is within first = by_fetch (suc n) w is within (λ a x e.
      let s = second_stop w t thread.registers.pc low a x first e in
      subst (λ u. Never (suc n) u t) (sym (page_granted_is w t a x s.0 s.1))
      (one_is_enough n (grant w t s.0.frame x) is (still w t s.0.frame x within)
      (s.2 (within a s.0 s.1))))

  -- Three are enough for each instruction.
  three_are_enough : (w : World) → thread_at w t ≡ Some thread → MapsWithin w t → Never 3 w t
  unfolding by_half
  three_are_enough w is within = go (access_is w t thread.registers.pc Half Fetch)
    where
      go : Access_is w t thread.registers.pc Half Fetch → Never 3 w t
      go (faults n r) =
          let failed =
          fails_so w (Fault n) is
          (ap
          (λ (u : Result ℕ Reason). (u >>= (λ place. Ok (loaded w place 2))) >>= by_half w t
          thread.registers.pc) r) in
          none_needed 3 w t (λ a x z. absurd (fault≢page n a x (sym failed ∙ z)))
        where
          fault≢page : (n a : ℕ) (x : Access)
              → ◌≡◌ {A = Result World Reason} (Err (Fault n)) (Err (Page a x)) → ⊥
          fault≢page n a x z = cc
      go (goes_at e at_pc al ri fo r) =
          two_are_enough 1 (loaded w (4096 * e.frame + thread.registers.pc % 4096) 2) w is within
          (ap (λ (u : Result ℕ Reason). u >>= (λ place. Ok (loaded w place 2))) r)
      go (stops_at k r) = by_fetch 2 w is within (λ a x e.
          let z : ◌≡◌ {A = Result (Option Instr × ℕ) Reason} (Err (Page thread.registers.pc Fetch))
          (Err (Page a x)) =
          sym (ap (λ (u : Result ℕ Reason). (u >>= (λ place. Ok (loaded w place 2)))
          >>= by_half w t thread.registers.pc) r) ∙ e in
          let same : thread.registers.pc ≡ a = cc in
          let how : Fetch ≡ x = cc in
          let h = within thread.registers.pc k.e k.entry in
          let g : World = grant w t k.e.frame Fetch in
          let next : Never 2 g t =
          two_are_enough 0 (loaded w (4096 * k.e.frame + thread.registers.pc % 4096) 2) g is
          (still w t k.e.frame Fetch within) (half_after w t thread.registers.pc k h) in
          subst (λ b. Never 2 (page_granted w t b x) t) same
          (subst (λ y. Never 2 (page_granted w t thread.registers.pc y) t) how
          (subst (λ u. Never 2 u t)
          (sym (page_granted_is w t thread.registers.pc Fetch k.e k.entry)) next)))

-- Three grants are enough for the instruction of any thread whose mapped frames are there.
pub three-are-enough : (w : World) (t : ℕ) → MapsWithin w t → Never 3 w t
three-are-enough w t within = go (thread_at w t) refl
  where
    go : (o : Option Thread) → thread_at w t ≡ o → Never 3 w t
    go None is =
        none_needed 3 w t (λ a x z. absurd (service≢page a x (sym (ap (step_of w t) is) ∙ z)))
      where
        service≢page : (a : ℕ) (x : Access)
            → ◌≡◌ {A = Result World Reason} (Err Service) (Err (Page a x)) → ⊥
        service≢page a x z = cc
    go (Some thread) is = three_are_enough t thread w is within
