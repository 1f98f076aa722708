-- All parts of the term end it, and the value is the box's again.
use Rattle.std.proofs.Common.{◌≡◌, ℕ, T, List, [], ◌∷◌, ◌++◌, refl, sym, ap, subst, arith}
use mir.Syntax.{a_type, dcons, dnil}
use mir.Val.{Val, vptr, has_ty, WT}
use mir.MapTy.{inst_fn}
use base.Fraction.{full_share}
use base.Logic.{SProp, emp, ent, id⊢}
use base.Fml.{Lft, Fml, ftrue, fsep, flft}
use types.Kit.{‵, raw, ◌⊛◌, some, later, at_ret, await, pick, split3, join, ◌$◌, ◌∵◌, !, qed, by}
use types.Kit.{move, keep, drop, split, fsplit, fjoin, fjoin3, feq_i, use0, use1, use2, rewrite}
use types.Kit.{suffices}
use types.Run.{stop, fld, no_more, and_then, first, blocks, exec, enter, of_opd, returns}
use types.Part.{sub, whole}
use types.ByLocal.{alloc_all, pass_all, free_all, look_at, get, get_in, sets, lands_last, is, env}
use contract.Monad.{fact, fact_i}
use contract.Running.{tables}
use contract.BorrowLft.{◌⊑◌}
use denote.Exit.{no}
use denote.Param.{bounded}
use denote.Param.Laws.{param_laws}
use denote.RattleType.{RattleType}
use denote.RawPtr.{Ptr, ptr_val, lies_at, block_of, count_of, at_block}
use denote.Struct.Lending.{lent_at, lent_at_shr_laws}
use denote.Signature.{plain}
use denote.Steps.{nothing, only, heard}
use denote.Triple.Call.{calls_at_last}
use denote.Triple.Clauses.{Lasts, lasts}
use denote.Triple.Spec.{triple_of}
use denote.Triple.Walked.{Stays, stay_dropped, walk_of}
use Rattle.std.proofs.alloc.Calls.{Goes-blank}
use Rattle.std.proofs.BoxSteps.Form as box
use Rattle.std.proofs.BoxSteps.Steps.{box_out, box_in}
use Rattle.std.specs.contracts.boxed.Box.from_raw as callee
use Rattle.std.proofs.boxed.Box.from_raw.Met as callee_met
use Rattle.std.proofs.VecSteps.Shapes.{after}
use Rattle.atomic_table.proofs.Walks.{proved_at, leaves}
use Rattle.atomic_table.proofs.Calls.{fm}
use Rattle.left_right.specs.Parted.{tokens}
use Rattle.left_right.proofs.PartSteps.{thaws}
use Rattle.counted_loans.proofs.Owned.{Row, word, lender_out}
use Rattle.counted_loans.specs.contracts.Lender.into_box as F
use Rattle.counted_loans.specs.contracts.Lender.into_box.Key.{name as #self}
use Rattle.counted_loans.proofs.Lender.into_box.Statement.{statement}
use Rattle.counted_loans.proofs.Lender.into_box.Code as code

pub into_box_spec : {M : Type 1} → statement M
into_box_spec 𝓤 𝓛 𝓜 𝓡 wired X Z LX LZ g d dd met md =
    let E : box.Bx = record {
      row = X;
      laws = LX;
      al = record {
        row = Z;
        laws = LZ;
        g = g;
        d = d;
        drops = dd;
      };
    } in
    let 𝓣 = tables 𝓤 𝓛.H 𝓜 𝓡 𝓡.env in let L : RattleType = Row E in let B : RattleType = box.B E in
    let En = F.ended X Z g d dd in let c = F.clauses X Z g d dd 𝓛 𝓜.mem 𝓡.returns in
    let inst = bounded (a_type ∷ a_type ∷ []) (X, (Z, tt)) (dcons d (dcons dd dnil)) in let fn =
    inst_fn inst code.function in
    let Made = triple_of 𝓛 (callee.signature X Z g d dd) (callee.spec X Z g d dd 𝓛 𝓜.mem 𝓡.returns)
    in let Ce = callee.ended X Z g d dd in
    let made = callee_met.met 𝓤 𝓛 𝓜 𝓡 (code.calls-std_alloc::boxed::Box::from_raw 𝓡.env wired) X Z
    LX LZ g d dd met md in
    let stayed : Stays En.signature.params En.kept = (stay_dropped (plain (λ _. L)) no, tt) in
    proved_at 𝓛 En stayed c 𝓜 𝓡 (Goes-blank 𝓛 2 (plain (λ _. L)) no (λ κs x f. tt), tt)
    (#self inst) fn (code.unfolded 𝓤 𝓛.H 𝓜 𝓡 wired (X, (Z, tt)) d dd) (λ y are.
    let κs = y.0.0 in let qs = y.0.1 in let l : L.Denot = y.0.3.0 in let p : Ptr = l.at in let b : ℕ
    = block_of p in let o : ℕ = count_of p in
    let alive = (‵ (flft κs.0 qs.0) ⊛ ‵ (flft κs.1.0 qs.1.0) ⊛ ‵ ftrue) in let Post : Val → SProp 𝓤
    = (walk_of 𝓛 En stayed c).post y in
    let Run : List Val → SProp 𝓤 = λ ws. prog.Wp.WpFn 𝓤 𝓛.H 𝓣.C 𝓣.Λ fn ws Post in let laws =
    (param_laws 0 X LX).shr_laws in
    let sight : Lft → Fml = lent_at (box.R E) p l.value in let there : Fml = lies_at (box.R E)
    full_share p l.value in
    let inX : Type 0 = κs.0 ⊑ X.lives in let inZ : Type 0 = κs.1.0 ⊑ Z.lives in let Asked : Type 0 =
    l.out ≡ 0 in
    qed 𝓛 ((alive ⊛ ‵ (fsep (L.own_val l y.0.4.0) ftrue)) ∷ raw (fact 𝓤 inX) ∷ raw (fact 𝓤 inZ) ∷
    raw (fact 𝓤 Asked) ∷ []) ∵
    move ! (1 ∷ 2 ∷ 3 ∷ []) $ heard ! inX (λ liveX. heard ! inZ (λ liveZ. heard ! Asked (λ none.
    split ! $ move ! (1 ∷ []) $ fsplit ! $ lender_out E ! l y.0.4.0 (λ inside hv words fits.
    -- [the lender's parts; the value; what comes back; the allocator; nothing; the tokens]
    rewrite ! 0 (λ (m : ℕ). ‵ (tokens l.term m)) (omega (arith, none)) refl $ move ! (2 ∷ []) $
    fsplit ! $ move ! (0 ∷ 2 ∷ []) $
    use2 𝓛 (later (‵ there)) (thaws sight (lent_at_shr_laws (box.R E) laws p l.value) 𝓛 there
    l.term) $ keep ! (0 ∷ 1 ∷ 3 ∷ 5 ∷ []) $
    -- [the value's memory; the right to free it; the allocator; the tokens]
    let w : Val = word E hv p in let typed = box.box_typed E hv b o fits in
    let back : Made.Ghost = (
      (κs, qs, tt, (l.alloc, (p, tt)), (hv ∷ [], (vptr b o ∷ [], tt))),
      l.value,
    ) in
    suffices ! (Run (w ∷ [])) (subst (λ (ws : List Val). ent 𝓤 (Run (w ∷ [])) (Run ws)) (sym (λ i.
    words i ++ [])) (id⊢ 𝓤 (Run (w ∷ [])))) $
    enter ! 𝓣.C 𝓣.Λ fn (w ∷ []) Post $ alloc_all ! (λ at. pass_all ! refl (typed, tt) $ await ! tt $
    fjoin ! $
    sets ! (of_opd ! (get_in ! (fld ! refl (stop !)) (sub ! 0 refl (whole !)))) refl (tt, tt) $ sets
    ! (of_opd ! (get_in ! (fld ! refl (stop !)) (sub ! 1 refl (whole !)))) refl fits $
    first ! $ blocks ! $ sets ! (of_opd ! (get ! refl)) refl fits $
    use0 𝓛 (raw (fact 𝓤 inZ)) (fact_i 𝓤 inZ (emp 𝓤) liveZ) $ join ! $ use0 𝓛 (raw (fact 𝓤 inX))
    (fact_i 𝓤 inX (emp 𝓤) liveX) $ join ! $
    nothing ! $ feq_i ! (List Val) (vptr b o ∷ []) (ptr_val p ∷ []) (ap (λ (r : Ptr). ptr_val r ∷
    []) (sym (at_block p inside))) $
    move ! (3 ∷ 0 ∷ 1 ∷ []) $ fjoin3 ! $ move ! (2 ∷ 0 ∷ []) $ join ! $ join ! $ use1 𝓛 (raw
    (Made.pre back)) (id⊢ 𝓤 _) $
    calls_at_last ! (fm 𝓛 𝓜 𝓡) Made made back (and_then ! (get ! refl) (and_then ! (get ! refl)
    (no_more !))) (λ u.
    use1 𝓛 (later (some (λ (r : B.Denot). (alive ⊛ ‵ (B.own_val r (u ∷ []))) ⊛ some (λ (ws : Lasts
    Ce κs (l.alloc, (p, tt))).
    ‵ (lasts Ce κs (l.alloc, (p, tt)) ws) ⊛ (raw (fact 𝓤 (r.value ≡ l.value)) ⊛ raw (fact 𝓤 (r.alloc
    ≡ l.alloc))))))) (id⊢ 𝓤 _) $
    await ! tt $ pick ! (λ r. split ! $ move ! (1 ∷ []) $ pick ! (λ _. split3 ! $ drop ! $ move ! (1
    ∷ []) $ drop ! $ heard ! (r.value ≡ l.value) (λ same. split ! $ move ! (1 ∷ []) $
    -- [the box; the tokens]
    box_out E ! r (u ∷ []) (λ b₁ o₁ hv₁ at₁ is₁ fits₁. box_in E ! r b₁ o₁ r.value at₁ refl $
    let v : Val = box.word E hv₁ b₁ o₁ in let good = box.box_typed E hv₁ b₁ o₁ fits₁ in let word_is
    : u ≡ v = ap only is₁ in
    lands_last ! refl (subst (λ (s : Val). T (has_ty (box.box_ty E) s) × WT s) (sym word_is) good) $
    exec ! 𝓣.C 𝓣.Λ (env fn.locals at) (after 3 fn.body) (at_ret (env fn.locals at) Post) $ sets !
    (is ! (of_opd ! (get ! refl)) word_is) refl good $
    returns ! (look_at ! 0 refl) $ free_all ! refl $
    use0 𝓛 (raw (fact 𝓤 (r.value ≡ l.value))) (fact_i 𝓤 (r.value ≡ l.value) (emp 𝓤) same) $ nothing
    ! $ nothing ! $ fjoin ! $ keep ! (3 ∷ 0 ∷ 2 ∷ 1 ∷ []) $
    by ! (leaves 𝓛 En stayed c y v r ((tt, (tt, tt)), tt) (tt, tt)))))))))))))
