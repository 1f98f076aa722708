-- One part of the term is cut off the lender's, and the value is seen twice.
use Rattle.std.proofs.Common.{◌≡◌, ℕ, ◌+◌, ◌-◌, ◌^◌, ◌<◌, List, [], ◌∷◌, ◌++◌, ◌&&◌, true, refl}
use Rattle.std.proofs.Common.{sym, subst, arith}
use mir.Syntax.{a_type, dcons, dnil}
use mir.Val.{Val, vstruct, vcons, vnil, of_list, has_ty}
use mir.MapTy.{inst_fn}
use base.Logic.{SProp, emp, ent, id⊢}
use base.Fml.{Lft, Fml, ftrue, fsep, feq, flft}
use types.Kit.{‵, raw, ◌⊛◌, ◌$◌, ◌∵◌, !, qed, by, move, keep, split, fsplit, fjoin, fjoin3, fpack}
use types.Kit.{feq_i, use0, use1, suffices}
use types.Run.{stop, fld, no_more, and_then, enter, of_opd, returns}
use types.Part.{agg, sub, whole}
use types.ByLocal.{alloc_all, pass_all, free_all, look_at, get, get_in, sets}
use contract.Monad.{fact, fact_i}
use contract.Running.{tables}
use contract.BorrowLft.{◌⊑◌}
use denote.Exit.{no}
use denote.Param.{bounded}
use denote.Param.Laws.{param_laws}
use denote.RattleType.{RattleType, Valss, owns}
use denote.RawPtr.{block_of, count_of}
use denote.SharingLaws.{contraction}
use denote.Struct.Lending.{lent_at, lent_at_shr_laws}
use denote.Struct.Owning.{shape}
use denote.Struct.Struct.{Struct}
use denote.Signature.{plain}
use denote.Steps.{nothing, heard}
use denote.Triple.Walked.{Stays, stay_dropped, walk_of}
use Rattle.std.proofs.alloc.Calls.{α, Goes-blank}
use Rattle.std.proofs.ResultValues.{and_tt}
use Rattle.std.proofs.BoxSteps.Form as box
use Rattle.atomic_table.proofs.Walks.{proved_at, leaves}
use Rattle.left_right.specs.Parted.{tokens}
use Rattle.left_right.proofs.PartSteps.{tokens_cut}
use Rattle.counted_loans.proofs.Owned.{Row, word, lent_word, loan_made, lender_out, lender_in}
use Rattle.counted_loans.specs.contracts.Loan as Loan
use Rattle.counted_loans.specs.contracts.Lender.lend as F
use Rattle.counted_loans.specs.contracts.Lender.lend.Key.{name as #self}
use Rattle.counted_loans.proofs.Lender.lend.Statement.{statement}
use Rattle.counted_loans.proofs.Lender.lend.Code as code

pub lend_spec : {M : Type 1} → statement M
lend_spec 𝓤 𝓛 𝓜 𝓡 wired X Z LX LZ g d dd met md =
    let E : box.Bx = record {
      row = X;
      laws = LX;
      al = record {
        row = Z;
        laws = LZ;
        g = g;
        d = d;
        drops = dd;
      };
    } in
    let 𝓣 = tables 𝓤 𝓛.H 𝓜 𝓡 𝓡.env in let L : RattleType = Row E in let One : RattleType =
    Loan.the_row (box.R E) in
    let En = F.ended X Z g d dd in let c = F.clauses X Z g d dd 𝓛 𝓜.mem 𝓡.returns in
    let inst = bounded (a_type ∷ a_type ∷ []) (X, (Z, tt)) (dcons d (dcons dd dnil)) in let fn =
    inst_fn inst code.function in
    let stayed : Stays En.signature.params En.kept = (stay_dropped (plain (λ _. L)) no, tt) in
    proved_at 𝓛 En stayed c 𝓜 𝓡 (Goes-blank 𝓛 2 (plain (λ _. L)) no (λ κs x f. tt), tt)
    (#self inst) fn (code.unfolded 𝓤 𝓛.H 𝓜 𝓡 wired (X, (Z, tt)) d dd) (λ y are.
    let κs = y.0.0 in let qs = y.0.1 in let l : L.Denot = y.0.3.0 in let n : ℕ = l.out in let m : ℕ
    = 2 ^ 63 - (n + 1) in
    let l' : L.Denot = record l { out = n + 1 } in let loan : One.Denot = record {
      at = l.at;
      value
          = l.value;
      term = l.term;
    } in
    let alive = (‵ (flft κs.0 qs.0) ⊛ ‵ (flft κs.1.0 qs.1.0) ⊛ ‵ ftrue) in let Post : Val → SProp 𝓤
    = (walk_of 𝓛 En stayed c).post y in
    let Run : List Val → SProp 𝓤 = λ ws. prog.Wp.WpFn 𝓤 𝓛.H 𝓣.C 𝓣.Λ fn ws Post in let laws =
    (param_laws 0 X LX).shr_laws in
    let sight : Lft → Fml = lent_at (box.R E) l.at l.value in let Asked : Type 0 = n + 1 < 2 ^ 63 in
    let Told : Type 0 = (l' ≡ l') × (l.value ≡ l.value) × (l.term ≡ l.term) in
    qed 𝓛 ((alive ⊛ ‵ (fsep (L.own_val l y.0.4.0) ftrue)) ∷ raw (fact 𝓤 (κs.0 ⊑ X.lives)) ∷ raw
    (fact 𝓤 (κs.1.0 ⊑ Z.lives)) ∷ raw (fact 𝓤 Asked) ∷ []) ∵
    move ! (3 ∷ 0 ∷ []) $ heard ! Asked (λ room. split ! $ move ! (1 ∷ []) $ fsplit ! $ lender_out E
    ! l y.0.4.0 (λ inside hv is fits.
    -- [the lender's parts; the value; what comes back; the allocator; nothing; the tokens; ..]
    use1 𝓛 (‵ (tokens l.term 1) ⊛ ‵ (tokens l.term m)) (tokens_cut 𝓛 l.term (2 ^ 63 - n) 1 m (omega
    arith) (omega (arith, room)) (omega (arith, room)) (omega arith)) $ split ! $ move ! (2 ∷
    []) $
    use1 𝓛 (‵ (sight (l.term ∷ [])) ⊛ ‵ (sight (l.term ∷ []))) (contraction 𝓛 sight
    (lent_at_shr_laws (box.R E) laws l.at l.value) (l.term ∷ [])) $ split ! $
    move ! (2 ∷ 0 ∷ []) $ fjoin ! $ move ! (2 ∷ 1 ∷ 3 ∷ 4 ∷ []) $ lender_in E ! l' inside $ keep !
    (1 ∷ 0 ∷ 3 ∷ []) $
    -- [the loan; the lender; the tokens]
    let w : Val = word E hv l.at in let typed = box.box_typed E hv (block_of l.at) (count_of l.at)
    fits in let one : Val = lent_word l.at in let two : Val = vstruct (vcons w (vcons one vnil))
    in
    suffices ! (Run (w ∷ [])) (subst (λ (ws : List Val). ent 𝓤 (Run (w ∷ [])) (Run ws)) (sym (λ i.
    is i ++ [])) (id⊢ 𝓤 (Run (w ∷ [])))) $
    enter ! 𝓣.C 𝓣.Λ fn (w ∷ []) Post $ alloc_all ! (λ at. pass_all ! refl (typed, tt) $
    sets ! (of_opd ! (get_in ! (fld ! refl (stop !)) (sub ! 0 refl (whole !)))) refl (tt, tt) $ sets
    ! (of_opd ! (get ! refl)) refl typed $
    sets ! (agg ! (and_then ! (get ! refl) (no_more !))) refl (tt, (tt, tt)) $
    sets ! (agg ! (and_then ! (get ! refl) (and_then ! (get ! refl) (no_more !)))) refl (
      and_tt
          (has_ty (α E.al) hv && true) typed.0,
      (typed.1, ((tt, tt), tt)),
    ) $
    returns ! (look_at ! 0 refl) $ free_all ! refl $
    use0 𝓛 (‵ ((Struct (shape (Loan.the_type (box.R E)))).own_val (l.at, tt) (one ∷ []))) (loan_made
    𝓛 (box.R E) l.at inside) $ fjoin ! $
    nothing ! $ move ! (2 ∷ 1 ∷ 0 ∷ []) $ fjoin3 ! $ feq_i ! (List Val) (two ∷ []) (two ∷ []) refl $
    fjoin ! $
    fpack ! (Valss (L ∷ One ∷ [])) (λ uss. fsep (feq (List Val) (two ∷ []) (vstruct (of_list (uss.0
    ++ (uss.1.0 ++ []))) ∷ [])) (owns (L ∷ One ∷ []) (l', (loan, tt)) uss)) (
      w ∷ [],
      (
        one ∷ [],
        tt,
      ),
    ) $
    use0 𝓛 (raw (fact 𝓤 Told)) (fact_i 𝓤 Told (emp 𝓤) (refl, refl, refl)) $ nothing ! $ nothing ! $
    fjoin ! $ keep ! (3 ∷ 0 ∷ 2 ∷ 1 ∷ []) $
    by ! (leaves 𝓛 En stayed c y two (l', loan) ((tt, (tt, tt)), tt) (tt, tt))))))
