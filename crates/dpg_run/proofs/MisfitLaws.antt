-- Where a run asks another question than some exchanges have.
use Rattle.std.proofs.Common.{◌≡◌, ◌≢◌, ◌∙◌, ℕ, suc, ◌+◌, Bool, true, false, ◌&&◌, eqb, List, []}
use Rattle.std.proofs.Common.{◌∷◌, ◌++◌, map, length, Some, None, refl, sym, ap, subst}
use Rattle.std.proofs.Common.{arith}
use Rattle.std.proofs.lemmas.Bool.{and_parts, eqb-true, eq-eqb}
use Rattle.dos_world.specs.Play.{Answer, Play, done, ask, questions}
use Rattle.dos_world.specs.declared.Ending.{Ending}
use Rattle.dos_world.specs.declared.Ending.TheVariants.{Done, Limit, Stalled}
use Rattle.dos_world.specs.declared.Question.{Question}
use Rattle.dos_world.specs.declared.Question.TheVariants.{Signals, Input, Clock, End}
use Rattle.dos_io.specs.declared.exchange.Exchange.{Exchange}
use Rattle.dos_io.specs.Exchanges.{question_of, answer_of}
use Rattle.group_rounds.specs.Plays.{GoesOn}
use Rattle.dpg_run.proofs.Asked.{heads}
use Rattle.dpg_run.specs.Fits.{misfit_from}
use Rattle.flat_machine.specs.Fits.{same_ending, same_question, first_misfit}

ending_with_itself : (e : Ending) → same_ending e e ≡ true
ending_with_itself Done = refl
ending_with_itself Limit = refl
ending_with_itself Stalled = refl

with_itself : (q : Question) → same_question q q ≡ true
with_itself (Signals r) = eq-eqb r r refl
with_itself (Input r t m) = rw (eq-eqb r r refl, eq-eqb t t refl, eq-eqb m m refl) refl
with_itself (Clock r t) = rw (eq-eqb r r refl, eq-eqb t t refl) refl
with_itself (End e r) = rw (ending_with_itself e, eq-eqb r r refl) refl

one_ending : (e f : Ending) → same_ending e f ≡ true → e ≡ f
one_ending Done Done is = refl
one_ending Limit Limit is = refl
one_ending Stalled Stalled is = refl
one_ending e f is = absurd cc

one_question : (q r : Question) → same_question q r ≡ true → q ≡ r
one_question (Signals r) (Signals s) is = ap Signals (eqb-true r s is)
one_question (Input r t m) (Input s u n) is =
    let a = and_parts (eqb r s && eqb t u) (eqb m n) is in
    let b = and_parts (eqb r s) (eqb t u) a.0 in
    rw (eqb-true r s b.0, eqb-true t u b.1, eqb-true m n a.1) refl
one_question (Clock r t) (Clock s u) is =
    let a = and_parts (eqb r s) (eqb t u) is in
    rw (eqb-true r s a.0, eqb-true t u a.1) refl
one_question (End e r) (End f s) is =
    let a = and_parts (same_ending e f) (eqb r s) is in
    rw (one_ending e f a.0, eqb-true r s a.1) refl
one_question q r is = absurd cc

differ : (q r : Question) → q ≢ r → same_question q r ≡ false
differ q r not = differ_by (same_question q r) (λ is. not (one_question q r is))
  where
    differ_by : (b : Bool) → (b ≡ true → ⊥) → b ≡ false
    differ_by true never = absurd (never refl)
    differ_by false _ = refl

-- ---- questions of a play

-- The run has asked what these exchanges answer, and then another question than the next one's.
pub misfit_at : {A : Type 0} (n m : ℕ) (es : List Exchange) (e : Exchange) (rest : List Exchange)
    (asked : Question) (p : Play A) → m ≡ n + length es
    → questions (map answer_of es) p ≡ map question_of es ++ asked ∷ [] → question_of e ≢ asked
    → misfit_from n (es ++ e ∷ rest) p
    ≡ Some (record { entry = m; kept = question_of e; asked = asked })
misfit_at n m [] e rest asked (done a) count is other = absurd cc
misfit_at n m (x ∷ es) e rest asked (done a) count is other = absurd cc
misfit_at n m [] e rest asked (ask question output error next) count is other =
    let h = heads question asked [] [] is in
    let f : same_question (question_of e) question ≡ false =
    differ (question_of e) question (λ same. other (same ∙ h.0)) in
    let place : n ≡ m = omega (arith, count) in
    rw (f, first_misfit)
    (ap (λ (q : Question). Some (record { entry = n; kept = question_of e; asked = q })) h.0
    ∙ ap (λ (i : ℕ). Some (record { entry = i; kept = question_of e; asked = asked })) place)
misfit_at n m (x ∷ es) e rest asked (ask question output error next) count is other =
    let h = heads question (question_of x) (questions (map answer_of es) (next (answer_of x)))
    (map question_of es ++ asked ∷ []) is in
    let t : same_question (question_of x) question ≡ true =
    subst (λ (q : Question). same_question (question_of x) q ≡ true) (sym h.0)
    (with_itself (question_of x)) in
    rw (t, first_misfit)
    (misfit_at (suc n) m es e rest asked (next (answer_of x)) (omega (arith, count)) h.1 other)

-- Exchanges that a whole run asks for have no misfit.
pub fits_have_none : {A : Type 0} (n : ℕ) (es : List Exchange) (p : Play A)
    → questions (map answer_of es) p ≡ map question_of es → misfit_from n es p ≡ None
fits_have_none n [] (done a) is = refl
fits_have_none n (x ∷ es) (done a) is = refl
fits_have_none n [] (ask question output error next) is = absurd cc
fits_have_none n (x ∷ es) (ask question output error next) is =
    let h = heads question (question_of x) (questions (map answer_of es) (next (answer_of x)))
    (map question_of es) is in
    let t : same_question (question_of x) question ≡ true =
    subst (λ (q : Question). same_question (question_of x) q ≡ true) (sym h.0)
    (with_itself (question_of x)) in
    rw (t, first_misfit) (fits_have_none (suc n) es (next (answer_of x)) h.1)

-- What is behind exchanges over which a play goes on is numbered on.
pub misfit_behind : {A : Type 0} (n m : ℕ) (es rest : List Exchange) (p q : Play A)
    → m ≡ n + length es → GoesOn es p q → misfit_from n (es ++ rest) p ≡ misfit_from m rest q
misfit_behind n m [] rest p q count goes =
    let place : n ≡ m = omega (arith, count) in
    ap (misfit_from n rest) goes ∙ ap (λ i. misfit_from i rest q) place
misfit_behind n m (e ∷ es) rest (done a) q count goes = absurd goes
misfit_behind n m (e ∷ es) rest (ask question output error next) q count goes =
    let t : same_question (question_of e) question ≡ true =
    subst (λ (x : Question). same_question (question_of e) x ≡ true) (sym goes.0)
    (with_itself (question_of e)) in
    rw (t, first_misfit)
    (misfit_behind (suc n) m es rest (next (answer_of e)) q (omega (arith, count)) goes.1)

-- Plays that ask the same, whatever is answered, have one misfit.
pub misfit_by_questions : {A B : Type 0} (n : ℕ) (es : List Exchange) (p : Play A) (q : Play B)
    → ((answers : List Answer) → questions answers p ≡ questions answers q)
    → misfit_from n es p ≡ misfit_from n es q
misfit_by_questions n es (done a) (done b) same = refl
misfit_by_questions n es (done a) (ask question output error next) same =
    let none : [] ≡ question ∷ [] = same [] in absurd cc
misfit_by_questions n es (ask question output error next) (done b) same =
    let none : question ∷ [] ≡ [] = same [] in absurd cc
misfit_by_questions n [] (ask question output error next) (ask question' output' error' next') same
    = refl
misfit_by_questions n (e ∷ es) (ask question output error next)
    (ask question' output' error' next') same =
    go (same_question (question_of e) question) refl
    (misfit_by_questions (suc n) es (next (answer_of e)) (next' (answer_of e)) later)
  where
    later : (answers : List Answer)
        → questions answers (next (answer_of e)) ≡ questions answers (next' (answer_of e))
    later answers = (heads question question' (questions answers (next (answer_of e)))
        (questions answers (next' (answer_of e))) (same (answer_of e ∷ answers))).1

    one : question ≡ question'
    one = (heads question question' [] [] (same [])).0

    go : (b : Bool) → same_question (question_of e) question ≡ b
        → misfit_from (suc n) es (next (answer_of e)) ≡ misfit_from (suc n) es (next' (answer_of e))
        → misfit_from n (e ∷ es) (ask question output error next)
        ≡ misfit_from n (e ∷ es) (ask question' output' error' next')
    go true is rest =
        rw (is, ap (same_question (question_of e)) (sym one) ∙ is, first_misfit) rest
    go false is rest =
        rw (is, ap (same_question (question_of e)) (sym one) ∙ is, first_misfit)
        (ap (λ (x : Question). Some (record { entry = n; kept = question_of e; asked = x })) one)
