-- The place that the loan points to is lent on, for as long as the loan is.
use Rattle.std.proofs.Common.{◌≡◌, ℕ, List, [], ◌∷◌, refl, sym}
use mir.Syntax.{a_type, named}
use mir.Val.{Val, vptr}
use mir.MapTy.{inst_fn}
use base.Logic.{SProp, emp}
use base.Fml.{Lft, Fml, ftrue, fsep, flft, fhide}
use types.Kit.{‵, raw, ◌⊛◌, at_ret, ◌$◌, ◌∵◌, !, qed, by, move, keep, split, fsplit, fjoin, feq_i}
use types.Kit.{join, use0, use1, rewrite}
use types.Run.{stop, fld, hop, addr, first, blocks, exec, enter, of_opd, returns}
use types.ByLocal.{alloc_all, pass_all, free_all, look_at, get, through, sets, sets_last, env}
use types.Part.{sub, whole, look_in}
use contract.Monad.{fact, fact_i}
use contract.Running.{tables}
use denote.Builtin.{RefOf}
use denote.Exit.{yes}
use denote.Laws.{Is, shows}
use denote.Memory.{cell_at, hidden_shr}
use denote.Opens.{hide, unhide}
use denote.Param.{param, layouts}
use denote.Param.Laws.{param_laws}
use denote.RattleType.{RattleType, owns}
use denote.RawPtr.{Ptr, InBlock, block_of, count_of}
use denote.Ref.{shr_vals, shr_Tells}
use denote.Signature.{plain, types_at}
use denote.Steps.{nothing, heard, looks, peeks, shuts}
use denote.Struct.Lending.{lent_at, lent_at_shr_laws, lent_out, in_block_says}
use denote.Struct.Owning.{shape}
use denote.Struct.Struct.{Struct}
use denote.Triple.Walked.{Stays, stay_dropped, walk_of, Goes-dropped}
use Rattle.std.proofs.VecSteps.Shapes.{after}
use Rattle.atomic_table.proofs.Walks.{proved, leaves}
use Rattle.left_right.proofs.PartSteps.{part_sees}
use Rattle.counted_loans.specs.Lent.{loan_shares}
use Rattle.counted_loans.proofs.Owned.{lent_word, lent_told, loan_opens}
use Rattle.counted_loans.specs.contracts.Loan as Loan
use Rattle.counted_loans.specs.contracts.Loan.get as F
use Rattle.counted_loans.specs.contracts.Loan.get.Key.{name as #self}
use Rattle.counted_loans.proofs.Loan.get.Statement.{statement}
use Rattle.counted_loans.proofs.Loan.get.Code as code

pub get_spec : {M : Type 1} → statement M
get_spec 𝓤 𝓛 𝓜 𝓡 wired X LX =
    let 𝓣 = tables 𝓤 𝓛.H 𝓜 𝓡 𝓡.env in let R : RattleType = param 0 X in let One : RattleType =
    Loan.the_row R in let Fields : RattleType = Struct (shape (Loan.the_type R)) in
    let En = F.ended X in let c = F.clauses X 𝓛 𝓜.mem 𝓡.returns in let fn = inst_fn (layouts (a_type
    ∷ []) (X, tt)) code.function in
    let self = RefOf (0 ∷ []) tt (plain (λ _. One)) (λ _. tt) in let stayed : Stays
    En.signature.params En.kept = (stay_dropped self yes, tt) in
    proved 𝓛 En stayed c 𝓜 𝓡 (Goes-dropped 𝓛 2 self yes (λ κs x f. refl), tt) (#self (layouts
    (a_type ∷ []) (X, tt))) fn (code.unfolded 𝓤 𝓛.H 𝓜 𝓡 wired (X, tt))
    (λ κs. (shr_vals, tt)) (λ κs. (shr_Tells (named 0) κs.0 One, tt)) (λ κs qs bounds a gh are.
    let b : ℕ = a.0.ref_ptr.0 in let o : ℕ = a.0.ref_ptr.1 in let κ : Lft = κs.0 in let loan :
    One.Denot = a.0.now in let p : Ptr = loan.at in
    let sight : Lft → Fml = lent_at R p loan.value in let target : Val = vptr (block_of p) (count_of
    p) in let Same : Type 0 = loan.value ≡ loan.value in
    let y : (walk_of 𝓛 En stayed c).Ghost = ((κs, qs, bounds, a, (vptr b o ∷ [], tt)), gh) in let
    Post : Val → SProp 𝓤 = (walk_of 𝓛 En stayed c).post y in
    qed 𝓛 (((‵ (flft κ qs.0) ⊛ ‵ (fsep (flft κs.1.0 qs.1.0) ftrue)) ⊛ ‵ (owns (types_at
    En.signature.params κs) a y.0.4)) ∷ raw ((c κs a).requires gh) ∷ []) ∵
    split ! $ split ! $ move ! (2 ∷ []) $ fsplit ! $ fsplit ! $ keep ! (1 ∷ 3 ∷ 4 ∷ []) $
    -- [the reference; the token of κ; the other tokens]
    enter ! 𝓣.C 𝓣.Λ fn (vptr b o ∷ []) Post $ alloc_all ! (λ at. pass_all ! refl ((tt, tt), tt) $
    use1 𝓛 (‵ (hidden_shr Fields κ (p, tt) b o) ⊛ ‵ (fhide (loan_shares R p loan.value loan.term
    κ)))
    (lent_out 𝓛 (Loan.struct R) (Loan.the_codes X.Denot R.coded) (Loan.the_heap R) (Loan.the_lent R)
    κ loan b o) $ split ! $ move ! (1 ∷ []) $
    unhide ! $ use1 𝓛 (‵ (sight κ)) (part_sees sight (lent_at_shr_laws R (param_laws 0 X
    LX).shr_laws p loan.value) 𝓛 loan.term κ) $ fsplit ! $
    use1 𝓛 (raw (fact 𝓤 (InBlock p))) (in_block_says 𝓛 p) $ heard ! (InBlock p) (λ inside. hide ! $
    move ! (1 ∷ 2 ∷ []) $
    -- [the reference's field; the token of κ; the value; the other tokens]
    looks ! tt Fields (loan_opens R 𝓛) (p, tt) b o (λ q vs. move ! (1 ∷ []) $ peeks ! Fields (Is
    Fields) (shows 𝓛 Fields) (p, tt) vs (λ is.
    let told : vs ≡ lent_word p ∷ [] = lent_told R p vs inside is in let Cell = λ (ws : List Val). ‵
    (cell_at q Fields.mir ws b o) in
    rewrite ! 1 Cell told refl $ first ! $ blocks ! $
    sets_last ! (addr ! (through ! refl (fld ! refl (hop ! (look_in ! 1 (sub ! 0 refl (whole !)))
    (stop !))))) refl (tt, tt) $
    exec ! 𝓣.C 𝓣.Λ (env fn.locals at) (after 1 fn.body) (at_ret (env fn.locals at) Post) $ sets !
    (of_opd ! (get ! refl)) refl (tt, tt) $
    rewrite ! 1 Cell (sym told) refl $ move ! (1 ∷ 0 ∷ 2 ∷ []) $ shuts ! tt Fields q (p, tt) vs b o
    $ move ! (0 ∷ 3 ∷ []) $ join ! $
    -- [the tokens; the field; the value]
    move ! (2 ∷ []) $ feq_i ! (List Val) (target ∷ []) (target ∷ []) refl $ fjoin ! $ use0 𝓛 (raw
    (fact 𝓤 Same)) (fact_i 𝓤 Same (emp 𝓤) refl) $
    nothing ! $ nothing ! $ fjoin ! $ returns ! (look_at ! 0 refl) $ free_all ! refl $ keep ! (3 ∷ 0
    ∷ 2 ∷ 1 ∷ []) $
    by ! (leaves 𝓛 En stayed c y target (record {
      ref_ptr = (block_of p, count_of p);
      now =
          loan.value;
    }) (tt, tt) (tt, tt)))))))
