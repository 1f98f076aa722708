-- The value is lent for a new term, of which the lender has every part.
use Rattle.std.proofs.Common.{◌≡◌, ℕ, List, [], ◌∷◌, ◌++◌, refl, sym, ap, ◌∙◌, subst}
use mir.Syntax.{a_type, dcons, dnil}
use mir.Val.{Val, vstruct, of_list}
use mir.Raw.{raw as bare}
use mir.MapTy.{inst_fn}
use base.Fraction.{full_share}
use base.Logic.{SProp, fst∗, never, emp, ent, id⊢}
use base.Fml.{Lft, Fml, ftrue, fsep, fex, flft}
use types.Logic.{sem}
use types.Kit.{‵, raw, ◌⊛◌, some, later, join, await, pick, split3, fpick, feq_l, ◌$◌, ◌∵◌, !, qed}
use types.Kit.{by, move, keep, drop, split, fsplit, fjoin, use0, use1, use2, rewrite, suffices}
use types.Run.{stop, fld, no_more, and_then, enter, of_opd, returns}
use types.Part.{agg, sub, whole}
use types.ByLocal.{alloc_all, pass_all, free_all, look_at, get, get_in, sets, lands_as}
use contract.Monad.{fact, fact_i}
use contract.Running.{tables}
use contract.BorrowLft.{◌⊑◌}
use denote.Exit.{no}
use denote.Param.{bounded, layout}
use denote.Param.Laws.{param_laws}
use denote.RattleType.{RattleType}
use denote.RawPtr.{Ptr, RawPtr, block_ptr, null_ptr, ptr_val, lies_at, in_a_block}
use denote.Struct.Lending.{lent_at, lent_at_shr_laws, Lends-lies}
use denote.Struct.Tuple.{Tuple}
use denote.Signature.{plain}
use denote.Steps.{nothing, only, heard}
use denote.Triple.Call.{calls_at}
use denote.Triple.Spec.{triple_of}
use denote.Triple.Walked.{Stays, stay_dropped, walk_of}
use Rattle.std.proofs.alloc.Calls.{token, handle_tells, Goes-blank}
use Rattle.std.specs.Box.Ownership.{box_owns}
use Rattle.std.proofs.BoxSteps.Form as box
use Rattle.std.proofs.BoxSteps.Steps.{box_out, box_in}
use Rattle.std.specs.contracts.boxed.Box.into_raw_with_allocator as callee
use Rattle.std.proofs.boxed.Box.into_raw_with_allocator.Met as callee_met
use Rattle.atomic_table.proofs.Walks.{proved_at, leaves}
use Rattle.atomic_table.proofs.Calls.{fm}
use Rattle.left_right.proofs.PartSteps.{freezes, Frozen}
use Rattle.counted_loans.proofs.Owned.{Row, lender_in}
use Rattle.counted_loans.specs.contracts.Lender.new as F
use Rattle.counted_loans.specs.contracts.Lender.new.Key.{name as #self}
use Rattle.counted_loans.proofs.Lender.new.Statement.{statement}
use Rattle.counted_loans.proofs.Lender.new.Code as code

pub new_spec : {M : Type 1} → statement M
new_spec 𝓤 𝓛 𝓜 𝓡 wired X Z LX LZ g d dd dx met md glue =
    let E : box.Bx = record {
      row = X;
      laws = LX;
      al = record {
        row = Z;
        laws = LZ;
        g = g;
        d = d;
        drops = dd;
      };
    } in
    let 𝓣 = tables 𝓤 𝓛.H 𝓜 𝓡 𝓡.env in let L : RattleType = Row E in let B : RattleType = box.B E in
    let En = F.ended X Z g d dd dx in let c = F.clauses X Z g d dd dx 𝓛 𝓜.mem 𝓡.returns in
    let inst = bounded (a_type ∷ a_type ∷ []) (X, (Z, tt)) (dcons d (dcons dd (dcons dx dnil))) in
    let fn = inst_fn inst code.function in
    let Parts = triple_of 𝓛 (callee.signature X Z g d dd dx) (callee.spec X Z g d dd dx 𝓛 𝓜.mem
    𝓡.returns) in
    let parts = callee_met.met 𝓤 𝓛 𝓜 𝓡 (code.calls-std_alloc::boxed::Box::into_raw_with_allocator
    𝓡.env wired) X Z LX LZ g d dd dx met md glue in
    let stayed : Stays En.signature.params En.kept = (stay_dropped (plain (λ _. B)) no, tt) in
    proved_at 𝓛 En stayed c 𝓜 𝓡 (Goes-blank 𝓛 2 (plain (λ _. B)) no (λ κs x f. tt), tt)
    (#self inst) fn (code.unfolded 𝓤 𝓛.H 𝓜 𝓡 wired (X, (Z, tt)) d dd dx) (λ y are.
    let κs = y.0.0 in let qs = y.0.1 in let whole_box : B.Denot = y.0.3.0 in let a : Z.Denot =
    whole_box.alloc in let x : X.Denot = whole_box.value in
    let t₁ = (‵ (flft κs.0 qs.0)) in let t₂ = (‵ (flft κs.1.0 qs.1.0)) in let Post : Val → SProp 𝓤 =
    (walk_of 𝓛 En stayed c).post y in
    let Run : List Val → SProp 𝓤 = λ ws. prog.Wp.WpFn 𝓤 𝓛.H 𝓣.C 𝓣.Λ fn ws Post in
    let Told : Type 0 = (x ≡ x) × (0 ≡ 0) in let inX : Type 0 = κs.0 ⊑ X.lives in let inZ : Type 0 =
    κs.1.0 ⊑ Z.lives in
    qed 𝓛 (((t₁ ⊛ t₂ ⊛ ‵ ftrue) ⊛ ‵ (fsep (B.own_val whole_box y.0.4.0) ftrue)) ∷ raw (fact 𝓤 inX) ∷
    raw (fact 𝓤 inZ) ∷ ‵ ftrue ∷ []) ∵
    move ! (1 ∷ 2 ∷ []) $ heard ! inX (λ liveX. heard ! inZ (λ liveZ. split ! $ move ! (1 ∷ []) $
    fsplit ! $
    box_out E ! whole_box y.0.4.0 (λ b o hv at_b words fits. box_in E ! whole_box b o x at_b refl $
    keep ! (0 ∷ 2 ∷ []) $
    -- [the box; the tokens]
    let w : Val = box.word E hv b o in let typed = box.box_typed E hv b o fits in let z :
    Parts.Ghost = ((κs, qs, tt, (whole_box, tt), (w ∷ [], tt)), tt) in
    suffices ! (Run (w ∷ [])) (subst (λ (ws : List Val). ent 𝓤 (Run (w ∷ [])) (Run ws)) (sym (λ i.
    words i ++ [])) (id⊢ 𝓤 (Run (w ∷ [])))) $
    enter ! 𝓣.C 𝓣.Λ fn (w ∷ []) Post $ alloc_all ! (λ at. pass_all ! refl (typed, tt) $ sets !
    (of_opd ! (get ! refl)) refl typed $
    nothing ! $ move ! (1 ∷ 0 ∷ []) $ fjoin ! $ move ! (1 ∷ 0 ∷ []) $ join ! $
    nothing ! $ use0 𝓛 (raw (fact 𝓤 inZ)) (fact_i 𝓤 inZ (emp 𝓤) liveZ) $ join ! $ use0 𝓛 (raw (fact
    𝓤 inX)) (fact_i 𝓤 inX (emp 𝓤) liveX) $ join ! $
    move ! (1 ∷ 0 ∷ []) $ join ! $ use1 𝓛 (raw (Parts.pre z)) (id⊢ 𝓤 _) $
    calls_at ! (fm 𝓛 𝓜 𝓡) Parts parts z (and_then ! (get ! refl) (no_more !)) (λ u. let Pair = Tuple
    (RawPtr ∷ box.P E ∷ []) in
    use1 𝓛 (later (some (λ (r : Ptr × Z.Denot). ((t₁ ⊛ t₂ ⊛ ‵ ftrue) ⊛ ‵ (Pair.own_val r (u ∷ [])))
    ⊛ some (λ (_ : (Unit {0} × (Unit {0} × Unit {0})) × Unit {0}).
    ‵ (fsep (fsep ftrue (fsep ftrue ftrue)) ftrue) ⊛ (raw (fact 𝓤 (r.1 ≡ a)) ⊛ ‵ (box_owns (token
    E.al a) (box.R E) r.0 x)))))) (id⊢ 𝓤 _) $
    await ! tt $ pick ! (λ r. split ! $ move ! (1 ∷ []) $ pick ! (λ _. split3 ! $ drop ! $ heard !
    (r.1 ≡ a) (λ same.
    in_a_block ! r.0 (λ p. box_owns (token E.al a) (box.R E) p x) (fst∗ 𝓤 (never 𝓤) (sem 𝓛 (token
    E.al a (bare (layout X)) null_ptr))) (λ b₁ o₁ at₁.
    let p : Ptr = block_ptr b₁ o₁ in let there : Fml = lies_at (box.R E) full_share p x in let sight
    : Lft → Fml = lent_at (box.R E) p x in
    let laws = lent_at_shr_laws (box.R E) (param_laws 0 X LX).shr_laws p x in fsplit ! $ move ! (2 ∷
    []) $ split ! $ split ! $
    -- [t₁; the other tokens; the pair; the value's memory; the right to free it]
    move ! (3 ∷ 0 ∷ []) $ use2 𝓛 (later (‵ (fex ℕ (Frozen sight laws 𝓛 there)) ⊛ t₁))
    (freezes sight laws 𝓛 there (box.R E).lives κs.0 qs.0 (Lends-lies 𝓛 (box.R E) (box.R E).lives p
    x ((param_laws 0 X LX).shares 𝓛 x)) liveX) $
    await ! tt $ split ! $ fpick ! (λ term. fsplit ! $ move ! (2 ∷ 3 ∷ []) $ join ! $ move ! (3 ∷
    []) $
    -- [the pair; the tokens; the value when the term is over; all its parts; the right to free it]
    fpick ! (λ vss. fsplit ! $ feq_l ! (λ pair_is. fsplit ! $ feq_l ! (λ first_is. fsplit ! $
    rewrite ! 0 (λ (s : Z.Denot). ‵ (Z.own_val s vss.1.0)) same refl $
    handle_tells E.al ! a vss.1.0 (λ hw second_is fits₁.
    let v : Val = box.word E hw b₁ o₁ in let good = box.box_typed E hw b₁ o₁ fits₁ in
    let l : L.Denot = record { at = p; alloc = a; value = x; term = term; out = 0 } in
    lands_as ! (ap only (pair_is ∙ (λ j. vstruct (of_list ((first_is ∙ ap (λ (π : Ptr). ptr_val π ∷
    []) at₁) j ++ (second_is j ++ []))) ∷ []))) refl good $
    sets ! (of_opd ! (get_in ! (fld ! refl (stop !)) (sub ! 0 refl (whole !)))) refl (tt, tt) $ sets
    ! (of_opd ! (get_in ! (fld ! refl (stop !)) (sub ! 1 refl (whole !)))) refl fits₁ $
    sets ! (of_opd ! (get ! refl)) refl fits₁ $ sets ! (agg ! (and_then ! (get ! refl) (and_then !
    (get ! refl) (no_more !)))) refl good $
    returns ! (look_at ! 0 refl) $ free_all ! refl $
    -- [the allocator; nothing; the tokens; the value when the term is over; all its parts; the
    -- right to free it]
    move ! (4 ∷ []) $ fsplit ! $ move ! (5 ∷ 6 ∷ []) $ fjoin ! $ move ! (1 ∷ 2 ∷ 0 ∷ 3 ∷ []) $
    lender_in E ! l tt $
    use0 𝓛 (raw (fact 𝓤 Told)) (fact_i 𝓤 Told (emp 𝓤) (refl, refl)) $ nothing ! $ nothing ! $ fjoin
    ! $ keep ! (4 ∷ 0 ∷ 2 ∷ 1 ∷ []) $
    by ! (leaves 𝓛 En stayed c y v l ((tt, (tt, tt)), tt) (tt, tt)))))))))))))))))
