-- A loan's part of the term joins the lender's.
use Rattle.std.proofs.Common.{◌≡◌, ℕ, ◌+◌, ◌-◌, ◌^◌, ◌<◌, List, [], ◌∷◌, ◌++◌, refl, sym, subst}
use Rattle.std.proofs.Common.{arith}
use mir.Syntax.{a_type, dcons, dnil}
use mir.Val.{Val}
use mir.MapTy.{inst_fn}
use base.Logic.{SProp, emp, ent, id⊢, guard_i}
use base.Fml.{Fml, ftrue, fsep, flft}
use types.Logic.{sem}
use types.Kit.{‵, raw, ◌⊛◌, given, ◌$◌, ◌∵◌, !, qed, by, move, keep, drop, learn, split, fsplit}
use types.Kit.{fjoin, use0, use1, use2, rewrite, suffices}
use types.Run.{enter, of_opd, returns}
use types.ByLocal.{alloc_all, pass_all, free_all, look_at, get, sets}
use contract.Monad.{fact, fact_i, fact_use}
use contract.Running.{tables}
use contract.BorrowLft.{◌⊑◌}
use denote.Exit.{no}
use denote.Param.{bounded}
use denote.RattleType.{RattleType}
use denote.RawPtr.{InBlock}
use denote.Signature.{plain}
use denote.Steps.{nothing, heard}
use denote.Triple.Walked.{Stays, stay_dropped, walk_of, Goes-dropped}
use Rattle.std.proofs.alloc.Calls.{Goes-blank}
use Rattle.std.proofs.BoxSteps.Form as box
use Rattle.atomic_table.proofs.Walks.{proved_at, leaves}
use Rattle.atomic_table.proofs.Fields.{strip_good}
use Rattle.left_right.specs.Parted.{tokens, part_owns}
use Rattle.left_right.proofs.PartSteps.{tokens_glue, part_lies}
use Rattle.counted_loans.proofs.Owned.{Row, word, loan_word, loan_told, lender_out, lender_in}
use Rattle.counted_loans.specs.contracts.Loan as Loan
use Rattle.counted_loans.specs.contracts.Lender.take_back as F
use Rattle.counted_loans.specs.contracts.Lender.take_back.Key.{name as #self}
use Rattle.counted_loans.proofs.Lender.take_back.Statement.{statement}
use Rattle.counted_loans.proofs.Lender.take_back.Code as code

pub take_back_spec : {M : Type 1} → statement M
take_back_spec 𝓤 𝓛 𝓜 𝓡 wired X Z LX LZ g d dd met md =
    let E : box.Bx = record {
      row = X;
      laws = LX;
      al = record {
        row = Z;
        laws = LZ;
        g = g;
        d = d;
        drops = dd;
      };
    } in
    let 𝓣 = tables 𝓤 𝓛.H 𝓜 𝓡 𝓡.env in let L : RattleType = Row E in let One : RattleType =
    Loan.the_row (box.R E) in
    let En = F.ended X Z g d dd in let c = F.clauses X Z g d dd 𝓛 𝓜.mem 𝓡.returns in
    let inst = bounded (a_type ∷ a_type ∷ []) (X, (Z, tt)) (dcons d (dcons dd dnil)) in let fn =
    inst_fn inst code.function in
    let stayed : Stays En.signature.params En.kept = (
      stay_dropped (plain (λ _. L)) no,
      (stay_dropped (plain (λ _. One)) no, tt),
    ) in
    proved_at 𝓛 En stayed c 𝓜 𝓡 (
      Goes-blank 𝓛 2 (plain (λ _. L)) no (λ κs x f. tt),
      (
        Goes-dropped 𝓛
            2 (plain (λ _. One)) no (λ κs x f. refl),
        tt,
      ),
    )
    (#self inst) fn (code.unfolded 𝓤 𝓛.H 𝓜 𝓡 wired (X, (Z, tt)) d dd) (λ y are.
    let κs = y.0.0 in let qs = y.0.1 in let l : L.Denot = y.0.3.0 in let loan : One.Denot =
    y.0.3.1.0 in let n : ℕ = l.out in
    let l' : L.Denot = record l { out = n - 1 } in let Asked : Type 0 = (loan.term ≡ l.term) × (0 <
    n) × (n < 2 ^ 63) in
    let alive = (‵ (flft κs.0 qs.0) ⊛ ‵ (flft κs.1.0 qs.1.0) ⊛ ‵ ftrue) in let Post : Val → SProp 𝓤
    = (walk_of 𝓛 En stayed c).post y in
    let Run : List Val → SProp 𝓤 = λ ws. prog.Wp.WpFn 𝓤 𝓛.H 𝓣.C 𝓣.Λ fn ws Post in
    let part : Fml = part_owns (box.R E) loan.at loan.value loan.term 1 in
    qed 𝓛 ((alive ⊛ ‵ (fsep (L.own_val l y.0.4.0) (fsep (One.own_val loan y.0.4.1.0) ftrue))) ∷ raw
    (fact 𝓤 (κs.0 ⊑ X.lives)) ∷ raw (fact 𝓤 (κs.1.0 ⊑ Z.lives)) ∷ raw (fact 𝓤 Asked) ∷ []) ∵
    move ! (3 ∷ 0 ∷ []) $ heard ! Asked (λ asked. split ! $ move ! (1 ∷ []) $ fsplit ! $ move ! (1 ∷
    []) $ fsplit ! $ fsplit ! $ drop ! $
    -- [the loan's part; nothing; the lender; the tokens; ..]
    use1 𝓛 (given (InBlock loan.at) (‵ part)) (fact_use 𝓤 _ (part_lies 𝓛 (box.R E) loan.at
    loan.value loan.term 1) (guard_i 𝓤 (InBlock loan.at) (sem 𝓛 part))) $
    learn ! (λ at_home. fsplit ! $ rewrite ! 0 (λ (m : ℕ). ‵ (tokens m 1)) asked.0 refl $ move ! (3
    ∷ []) $ lender_out E ! l y.0.4.0 (λ inside hv is fits.
    -- [the lender's parts; the value; what comes back; the allocator; the loan's part; ..]
    move ! (4 ∷ 0 ∷ []) $ use2 𝓛 (‵ (tokens l.term (1 + (2 ^ 63 - n)))) (tokens_glue 𝓛 l.term 1 (2 ^
    63 - n) (omega arith) (omega (arith, asked))) $
    rewrite ! 0 (λ (m : ℕ). ‵ (tokens l.term m)) (omega (arith, asked)) refl $ lender_in E ! l'
    inside $ keep ! (0 ∷ 3 ∷ []) $
    let w : Val = word E hv l.at in let typed = box.box_typed E hv (denote.RawPtr.block_of l.at)
    (denote.RawPtr.count_of l.at) fits in let us : List Val = w ∷ loan_word loan.at ∷ [] in
    let told : y.0.4.1.0 ≡ loan_word loan.at ∷ [] = loan_told (box.R E) loan.at y.0.4.1.0 are.1.0.0
    in
    suffices ! (Run us) (subst (λ (ws : List Val). ent 𝓤 (Run us) (Run ws)) (sym (λ i. is i ++ (told
    i ++ []))) (id⊢ 𝓤 (Run us))) $
    enter ! 𝓣.C 𝓣.Λ fn us Post $ alloc_all ! (λ at. pass_all ! refl (
      typed,
      (
        strip_good loan.at
            at_home,
        tt,
      ),
    ) $
    sets ! (of_opd ! (get ! refl)) refl typed $ returns ! (look_at ! 0 refl) $ free_all ! refl $
    use0 𝓛 (raw (fact 𝓤 (l' ≡ l'))) (fact_i 𝓤 (l' ≡ l') (emp 𝓤) refl) $ nothing ! $ nothing ! $
    fjoin ! $ nothing ! $ fjoin ! $ keep ! (3 ∷ 0 ∷ 2 ∷ 1 ∷ []) $
    by ! (leaves 𝓛 En stayed c y w l' ((tt, (tt, tt)), (tt, tt)) (tt, (tt, tt))))))))
