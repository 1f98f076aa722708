-- What a lender owns, taken apart and put together. Assumes `Logic`.
--     Row, word                the lender as a row, and its machine value at the allocator's
--     loan_word, loan_told     a loan's machine value, and that its row tells it
--     lent_word, lent_told     the same, where it is known that the pointer is not null
--     loan_made, loan_opens    its fields, made of nothing, and read through a `&`
--     seen_anywhere            a value that may be shared is seen by any thread
--     lender_out, lender_in    a lender by value is [its parts of the term; the value as it is
--                              seen; what comes back; the allocator]
use Rattle.std.proofs.Common.{◌≡◌, ◌-◌, ◌^◌, List, [], ◌∷◌, ◌++◌, refl, sym, ap, ◌∙◌}
use seplogic.Ra.Ura.{Ura}
use mir.Val.{Val, vptr, vstruct, vcons, vnil, of_list}
use base.Logic.{ent, emp, guard_i}
use base.Fml.{Fml, ftrue}
use base.Shift.{Keyless}
use denote.Param.Send.{IsSync, Common}
use types.Logic.{Logic, sem}
use types.Kit.{Goal, Step, step, Seq, Item, ‵, given, ◌$◌, move, drop, use1, learn, fsplit, fjoin}
use types.Kit.{fpick, fpack, feq_l, feq_i}
use contract.Monad.{fact_use}
use denote.Laws.{Is}
use denote.RattleType.{RattleType, Valss}
use denote.RawPtr.{Ptr, RawPtr, InBlock, in_block, null_ptr, block_ptr, ptr_val, block_of, count_of}
use denote.RawPtr.{at_block}
use denote.Steps.{nothing}
use denote.Struct.Struct.{Struct, within}
use denote.Struct.Owning.{Owning, shape}
use denote.Struct.Lending.{lent_at}
use denote.Shadow.{makes_shadow}
use denote.Copied.{Struct-Copied}
use denote.Opens.{Opens}
use denote.Struct.Laws.{RawPtr-copy}
use Rattle.std.proofs.alloc.Calls.{token, Fits, handle_tells}
use Rattle.std.proofs.BoxSteps.Form as box
use Rattle.left_right.specs.Parted.{tokens, part_owns}
use Rattle.left_right.proofs.PartSteps.{part_lies}
use Rattle.counted_loans.specs.Lent.{comes_back}
use Rattle.counted_loans.specs.contracts.Lender as Lender
use Rattle.counted_loans.specs.contracts.Loan as Loan

abbrev pub loan_word : Ptr → Val
loan_word p = vstruct (vcons (ptr_val p) vnil)

pub loan_told : (T : RattleType) (p : Ptr) (vs : List Val) → Is (Struct (shape (Loan.the_type T)))
    (p, tt) vs → vs ≡ loan_word p ∷ []
loan_told T p vs is = is.1.0 ∙ ap (λ (ws : List Val). vstruct (of_list (ws ++ [])) ∷ []) is.1.1.0

abbrev pub lent_word : Ptr → Val
lent_word p = vstruct (vcons (vptr (block_of p) (count_of p)) vnil)

pub loan_made : {M : Type 1} {𝓤 : Ura M} (𝓛 : Logic 𝓤) (T : RattleType) (p : Ptr) → InBlock p
    → ent 𝓤 (emp 𝓤) (sem 𝓛 ((Struct (shape (Loan.the_type T))).own_val (p, tt) (lent_word p ∷ [])))
loan_made 𝓛 T p inside = let same = ap (λ (r : Ptr). loan_word r ∷ []) (sym (at_block p inside)) in
    makes_shadow 𝓛 ((Struct (shape (Loan.the_type T))).own_val (p, tt) (lent_word p ∷ []))
    (λ vss. (tt, (tt, tt))) ((ptr_val p ∷ [], tt), (same, (refl, tt)))

pub loan_opens : (T : RattleType) {M : Type 1} {𝓤 : Ura M} (𝓛 : Logic 𝓤) → Opens 𝓛 (Struct (shape
    (Loan.the_type T)))
loan_opens T {M} {𝓤 = 𝓤} 𝓛 = (Struct-Copied 𝓛 (shape (Loan.the_type T)) (refl, tt)
    (RawPtr-copy.copied M 𝓤 𝓛, tt)).opens

pub lent_told : (T : RattleType) (p : Ptr) (vs : List Val) → InBlock p → Is (Struct (shape
    (Loan.the_type T))) (p, tt) vs → vs ≡ lent_word p ∷ []
lent_told T p vs inside is = loan_told T p vs is ∙ ap (λ (r : Ptr). loan_word r ∷ []) (at_block p
    inside)

somewhere : (p : Ptr) → Keyless (in_block p ftrue)
somewhere null_ptr = tt
somewhere (block_ptr b o) = tt

pub seen_anywhere : (T : RattleType) → IsSync T → (p : Ptr) (x : T.Denot) → Common (lent_at T p x)
seen_anywhere T shared p x κ = (somewhere p, shared.shared x (block_of p) (count_of p) κ)

module _ (E : box.Bx) where
  abbrev R : RattleType
  R = box.R E

  abbrev pub owning : Owning
  owning = Lender.the_type R (box.P E) E.al.g

  abbrev pub Row : RattleType
  Row = Lender.the_row R (box.P E) E.al.g

  abbrev pub word : Val → Ptr → Val
  word hv p = box.word E hv (block_of p) (count_of p)

  abbrev pub kept : Row.Denot → Fml
  kept l = tokens l.term (2 ^ 63 - l.out)

  abbrev pub seen : Row.Denot → Fml
  seen l = lent_at R l.at l.value (l.term ∷ [])

  abbrev pub back : Row.Denot → Fml
  back l = comes_back (token E.al l.alloc) R l.at l.value l.term

module _ (E : box.Bx) {M : Type 1} {𝓤 : Ura M} {𝓛 : Logic 𝓤} {K : Type 0} {Γ : List (Item 𝓤)} {G :
    Goal 𝓤 𝓛.H} where
  pub lender_out : K → (l : (Row E).Denot) (vs : List Val)
      → (InBlock l.at → (hv : Val) → vs ≡ word E hv l.at ∷ [] → Fits E.al hv
      → Seq K 𝓛 (‵ (kept E l) ∷ ‵ (seen E l) ∷ ‵ (back E l) ∷ ‵ (box.handle E l.alloc hv) ∷ Γ) G)
      → Seq K 𝓛 (‵ ((Row E).own_val l vs) ∷ Γ) G
  lender_out t l vs k =
      let k₀ = 2 ^ 63 - l.out in let part : Fml = part_owns (box.R E) l.at l.value l.term k₀ in
      fsplit t $ fpick t (λ vss. fsplit t $ feq_l t (λ whole. fsplit t $ feq_l t (λ first. fsplit t
      $
      handle_tells E.al t l.alloc vss.1.0 (λ hv second fits. move t (1 ∷ []) $ drop t $ move t (1 ∷
      []) $ fsplit t $
      use1 𝓛 (given (InBlock l.at) (‵ part)) (fact_use 𝓤 _ (part_lies 𝓛 (box.R E) l.at l.value
      l.term k₀) (guard_i 𝓤 (InBlock l.at) (sem 𝓛 part))) $
      learn t (λ inside. fsplit t $ k inside hv
      (whole ∙ (λ i. vstruct (of_list ((first ∙ ap (λ (p : Ptr). ptr_val p ∷ []) (at_block l.at
      inside)) i ++ (second i ++ []))) ∷ []))
      fits)))))

  pub lender_in : K → {hv : Val} (l : (Row E).Denot) → InBlock l.at
      → Step K 𝓛 (‵ ((Row E).own_val l (word E hv l.at ∷ [])) ∷ Γ) G
      (‵ (kept E l) ∷ ‵ (seen E l) ∷ ‵ (back E l) ∷ ‵ (box.handle E l.alloc hv) ∷ Γ) G
  lender_in t {hv} l inside = step (λ s.
      let w = word E hv l.at in let there : Val = vptr (block_of l.at) (count_of l.at) in
      fjoin t $ fjoin t $ nothing t $ move t (2 ∷ 0 ∷ []) $ fjoin t $
      feq_i t (List Val) (there ∷ []) (ptr_val l.at ∷ []) (ap (λ (p : Ptr). ptr_val p ∷ []) (sym
      (at_block l.at inside))) $ fjoin t $
      feq_i t (List Val) (w ∷ []) (w ∷ []) refl $ fjoin t $
      fpack t (Valss (RawPtr ∷ box.P E ∷ [])) (within (shape (owning E)) (l.at, (l.alloc, tt)) (w ∷
      [])) (there ∷ [], (hv ∷ [], tt)) $ fjoin t $ s)
